-- Open channels by places.
use Rattle.std.proofs.Common.{◌≡◌, ℕ, ◌+◌, ◌≤◌, Bool, true, false, cond, ◌||◌, ◌&&◌, not, List, [], ◌∷◌, ◌++◌, length, map, reverse, refl, ap, sym, ◌∙◌, arith, append_assoc}
use Rattle.std.proofs.Math.Dec.{eqb}
use Rattle.std.proofs.lemmas.Bool.{le-leb}
use Rattle.std.proofs.lemmas.List.{append-nil, length-reverse, map-append, reverse-append, reverse-reverse}
use Rattle.std.proofs.lemmas.List.Elements.{filter-append}
use Rattle.std.proofs.lemmas.List.Folds.{list_any-append}
use Rattle.std.specs.Prelude.{filter, nat_le}
use Rattle.std.specs.List.{list_any}
use Rattle.pool_history.specs.declared.events.Event.{Event}
use Rattle.pool_history.specs.declared.events.Event.TheVariants as event
use Rattle.pool_history.specs.declared.events.Kind.{Kind}
use Rattle.pool_history.specs.ByPlaces.{opens_in, sets_from}
use Rattle.pool_history.specs.Channels.{ClassSet, OpenChannel, account_or, channels_of, with_name, with_class}
use Rattle.pool_history.specs.Sessions.{opens, past_of}
use Rattle.pool_history.proofs.PlacesOfClasses.{sets_from-snoc, opens_in-snoc}
use Rattle.history_laws.specs.OneMore.{channels_after}
use Rattle.history_laws.specs.Places.{ChannelsByPlaces, channel_from, channels_from, ends_channel, account_named, opens_by}
use Rattle.history_laws.proofs.Legalities.{past-cons}
use Rattle.history_laws.proofs.Stepping.{channels-cons}

-- a list of one channel, or of none
abbrev pub unless : Bool → OpenChannel → List OpenChannel
unless b c = cond b [] (c ∷ [])

-- the channel of an opening, by the events after it
abbrev pub opened_as : ℕ → ℕ → ℕ → Kind → List ℕ → ℕ → List ℕ → List Event → OpenChannel
opened_as at opened session kind account class lead more = record {
  id = opened + 1;
  session = session;
  kind = kind;
  account = account_or account (account_named (opened + 1) more);
  lead = lead;
  opening_class = class;
  sets = reverse (sets_from (at + 1) (opened + 1) (opened + 1) more);
}

-- what one more event does to open channels, but for opening one
abbrev pub changed : ℕ → Event → List OpenChannel → List OpenChannel
changed at (event.Name session channel account) cs = map (with_name channel account) cs
changed at (event.Class session channel class) cs = map (with_class at channel class) cs
changed at (event.Close session channel) cs = filter (λ c. not (eqb c.id channel)) cs
changed at (event.Leave session) cs = filter (λ c. not (eqb c.session session)) cs
changed at e cs = cs

-- and what it opens
abbrev pub opened_by : ℕ → Event → List OpenChannel
opened_by opened (event.Open session kind account class lead) =
    record { id = opened + 1; session = session; kind = kind; account = account; lead = lead; opening_class = class; sets = [] } ∷ []
opened_by opened e = []

pub after-parts : (at opened : ℕ) (e : Event) (cs : List OpenChannel) → channels_after at opened e cs ≡ changed at e cs ++ opened_by opened e
after-parts at opened (event.Open session kind account class lead) cs = refl
after-parts at opened (event.Name session channel account) cs = sym (append-nil (map (with_name channel account) cs))
after-parts at opened (event.Class session channel class) cs = sym (append-nil (map (with_class at channel class) cs))
after-parts at opened (event.Close session channel) cs = sym (append-nil (filter (λ c. not (eqb c.id channel)) cs))
after-parts at opened (event.Leave session) cs = sym (append-nil (filter (λ c. not (eqb c.session session)) cs))
after-parts at opened e cs = sym (append-nil cs)

pub changed-nil : (at : ℕ) (e : Event) → changed at e [] ≡ []
changed-nil at (event.Name session channel account) = refl
changed-nil at e = refl

pub changed-append : (at : ℕ) (e : Event) (cs ds : List OpenChannel) → changed at e (cs ++ ds) ≡ changed at e cs ++ changed at e ds
changed-append at (event.Name session channel account) cs ds = map-append (with_name channel account) cs ds
changed-append at (event.Class session channel class) cs ds = map-append (with_class at channel class) cs ds
changed-append at (event.Close session channel) cs ds = filter-append (λ c. not (eqb c.id channel)) cs ds
changed-append at (event.Leave session) cs ds = filter-append (λ c. not (eqb c.session session)) cs ds
changed-append at e cs ds = refl

-- the first account, of one more name
pub account-nil : (account : List ℕ) → account_or account [] ≡ account
account-nil [] = refl
account-nil (x ∷ account) = refl

pub account-twice : (a b c : List ℕ) → account_or (account_or a b) c ≡ account_or a (account_or b c)
account-twice [] b c = refl
account-twice (x ∷ a) b c = refl

pub name-twice : (b : Bool) (account n n' m : List ℕ) → n' ≡ account_or n m → cond b (account_or account n') n' ≡ account_or (cond b (account_or account n) n) m
name-twice true account n n' m is = ap (account_or account) is ∙ sym (account-twice account n m)
name-twice false account n n' m is = is

pub name_in-snoc : (id : ℕ) (h : List Event) (e : Event) → account_named id (h ++ e ∷ []) ≡ account_or (account_named id h) (account_named id (e ∷ []))
name_in-snoc id [] e = refl
name_in-snoc id (event.Name session channel account ∷ more) e =
    name-twice (eqb id channel) account (account_named id more) (account_named id (more ++ e ∷ [])) (account_named id (e ∷ [])) (name_in-snoc id more e)
name_in-snoc id (x ∷ more) e = name_in-snoc id more e

-- a channel of an opening, with an account and classes
abbrev pub shaped : ℕ → ℕ → Kind → ℕ → List ℕ → List ℕ → List ClassSet → OpenChannel
shaped id session kind class lead account sets =
    record { id = id; session = session; kind = kind; account = account; lead = lead; opening_class = class; sets = sets }

-- the channel of an opening, when one more event has come
pub grown : (at opened session : ℕ) (k : Kind) (account : List ℕ) (class : ℕ) (lead : List ℕ) (more : List Event) (e : Event) (place count : ℕ)
    → place ≡ at + 1 + length more → count ≡ opened + 1 + opens_in more
    → channel_from at opened (event.Open session k account class lead) (more ++ e ∷ [])
    ≡ unless (list_any (ends_channel (opened + 1) session) more || (ends_channel (opened + 1) session e || false))
    (shaped (opened + 1) session k class lead (account_or account (account_or (account_named (opened + 1) more) (account_named (opened + 1) (e ∷ []))))
    (reverse (sets_from (at + 1) (opened + 1) (opened + 1) more ++ sets_from place count (opened + 1) (e ∷ []))))
grown at opened session k account class lead more e place count p q =
    let id : ℕ = opened + 1 in
    ap (λ b. unless b (opened_as at opened session k account class lead (more ++ e ∷ []))) (list_any-append (ends_channel id session) more (e ∷ []))
    ∙ ap (λ n. unless (list_any (ends_channel id session) more || (ends_channel id session e || false))
    (shaped id session k class lead (account_or account n) (reverse (sets_from (at + 1) id id (more ++ e ∷ []))))) (name_in-snoc id more e)
    ∙ ap (λ s. unless (list_any (ends_channel id session) more || (ends_channel id session e || false))
    (shaped id session k class lead (account_or account (account_or (account_named id more) (account_named id (e ∷ [])))) (reverse s)))
    (sets_from-snoc (at + 1) id id more e place count p q)

-- a name, a class and an end
pub named-one : (b : Bool) (id session : ℕ) (k : Kind) (class : ℕ) (lead account n name : List ℕ) (sets : List ClassSet)
    → shaped id session k class lead (account_or account (account_or n (cond b (account_or name []) []))) sets
    ≡ cond b (shaped id session k class lead (account_or (account_or account n) name) sets) (shaped id session k class lead (account_or account n) sets)
named-one true id session k class lead account n name sets =
    ap (λ a. shaped id session k class lead (account_or account (account_or n a)) sets) (account-nil name)
    ∙ ap (λ a. shaped id session k class lead a sets) (sym (account-twice account n name))
named-one false id session k class lead account n name sets =
    ap (λ a. shaped id session k class lead (account_or account a) sets) (account-nil n)

pub set-one : (b : Bool) (id session : ℕ) (k : Kind) (class : ℕ) (lead account : List ℕ) (sets : List ClassSet) (set : ClassSet)
    → shaped id session k class lead account (reverse (sets ++ (cond b (set ∷ []) [] ++ [])))
    ≡ cond b (shaped id session k class lead account (set ∷ reverse sets)) (shaped id session k class lead account (reverse sets))
set-one true id session k class lead account sets set =
    ap (λ s. shaped id session k class lead account s) (reverse-append sets (set ∷ []))
set-one false id session k class lead account sets set =
    ap (λ s. shaped id session k class lead account (reverse s)) (append-nil sets)

pub ended-one : (b : Bool) (c : OpenChannel) → unless (b || false) c ≡ cond (not b) (c ∷ []) []
ended-one true c = refl
ended-one false c = refl

pub or-false : (b : Bool) → b || false ≡ b
or-false true = refl
or-false false = refl

pub and-true : (b : Bool) → b && true ≡ b
and-true true = refl
and-true false = refl

-- an event that changes no channel
pub untouched : (id session : ℕ) (k : Kind) (class : ℕ) (lead account n : List ℕ) (sets : List ClassSet)
    → shaped id session k class lead (account_or account (account_or n [])) (reverse (sets ++ [])) ≡ shaped id session k class lead (account_or account n) (reverse sets)
untouched id session k class lead account n sets =
    ap (λ a. shaped id session k class lead (account_or account a) (reverse (sets ++ []))) (account-nil n)
    ∙ ap (λ s. shaped id session k class lead (account_or account n) (reverse s)) (append-nil sets)

pub changed-one : (g : Bool) (id session : ℕ) (k : Kind) (class : ℕ) (lead account n : List ℕ) (sets : List ClassSet) (e : Event) (place count : ℕ) → id ≤ count
    → unless (g || (ends_channel id session e || false))
    (shaped id session k class lead (account_or account (account_or n (account_named id (e ∷ [])))) (reverse (sets ++ sets_from place count id (e ∷ []))))
    ≡ changed place e (unless g (shaped id session k class lead (account_or account n) (reverse sets)))
changed-one true id session k class lead account n sets e place count few = sym (changed-nil place e)
changed-one false id session k class lead account n sets (event.Name s channel name) place count few =
    ap (λ c. c ∷ [])
    (ap (λ l. shaped id session k class lead (account_or account (account_or n (cond (eqb id channel) (account_or name []) []))) (reverse l)) (append-nil sets)
    ∙ named-one (eqb id channel) id session k class lead account n name (reverse sets))
changed-one false id session k class lead account n sets (event.Class s channel set) place count few =
    ap (λ c. c ∷ [])
    (ap (λ a. shaped id session k class lead (account_or account a)
    (reverse (sets ++ (cond (eqb id channel && nat_le id count) (record { at = place; class = set } ∷ []) [] ++ [])))) (account-nil n)
    ∙ ap (λ b. shaped id session k class lead (account_or account n)
    (reverse (sets ++ (cond (eqb id channel && b) (record { at = place; class = set } ∷ []) [] ++ [])))) (le-leb id count few)
    ∙ ap (λ b. shaped id session k class lead (account_or account n)
    (reverse (sets ++ (cond b (record { at = place; class = set } ∷ []) [] ++ [])))) (and-true (eqb id channel))
    ∙ set-one (eqb id channel) id session k class lead (account_or account n) sets (record { at = place; class = set }))
changed-one false id session k class lead account n sets (event.Close s channel) place count few =
    ap (unless (eqb id channel || false)) (untouched id session k class lead account n sets)
    ∙ ended-one (eqb id channel) (shaped id session k class lead (account_or account n) (reverse sets))
changed-one false id session k class lead account n sets (event.Leave leaving) place count few =
    ap (unless (eqb session leaving || false)) (untouched id session k class lead account n sets)
    ∙ ended-one (eqb session leaving) (shaped id session k class lead (account_or account n) (reverse sets))
changed-one false id session k class lead account n sets e place count few = ap (λ c. c ∷ []) (untouched id session k class lead account n sets)

-- what an event's own channel becomes
pub head-later : (at opened : ℕ) (x : Event) (more : List Event) (e : Event) (place count : ℕ) → place ≡ at + 1 + length more
    → count ≡ opened + opens_by x + opens_in more → channel_from at opened x (more ++ e ∷ []) ≡ changed place e (channel_from at opened x more)
head-later at opened (event.Open session k account class lead) more e place count p q =
    grown at opened session k account class lead more e place count p q
    ∙ changed-one (list_any (ends_channel (opened + 1) session) more) (opened + 1) session k class lead account (account_named (opened + 1) more)
    (sets_from (at + 1) (opened + 1) (opened + 1) more) e place count (omega (arith, q))
head-later at opened (event.Start rules) more e place count p q = sym (changed-nil place e)
head-later at opened x more e place count p q = sym (changed-nil place e)

pub opens_in-cons : (x : Event) (more : List Event) → opens_in (x ∷ more) ≡ opens_by x + opens_in more
opens_in-cons (event.Open session k account class lead) more = omega arith
opens_in-cons x more = omega arith

-- the last event by itself
pub alone : (at opened : ℕ) (e : Event) → channel_from at opened e [] ≡ opened_by opened e
alone at opened (event.Open session k account class lead) =
    ap (λ a. shaped (opened + 1) session k class lead a [] ∷ []) (account-nil account)
alone at opened e = refl

pub channels_from-snoc : (at opened : ℕ) (h : List Event) (e : Event) (place count : ℕ) → place ≡ at + length h → count ≡ opened + opens_in h
    → channels_from at opened (h ++ e ∷ []) ≡ changed place e (channels_from at opened h) ++ opened_by count e
channels_from-snoc at opened [] e place count p q =
    let same : count ≡ opened = omega (arith, q) in
    append-nil (channel_from at opened e []) ∙ alone at opened e ∙ ap (λ n. opened_by n e) (sym same)
    ∙ ap (λ l. l ++ opened_by count e) (sym (changed-nil place e))
channels_from-snoc at opened (x ∷ more) e place count p q =
    let place' : place ≡ at + 1 + length more = omega (arith, p) in
    let many : opens_in (x ∷ more) ≡ opens_by x + opens_in more = opens_in-cons x more in
    let count' : count ≡ opened + opens_by x + opens_in more = omega (arith, q, many) in
    let rest : List OpenChannel = channels_from (at + 1) (opened + opens_by x) more in
    ap (λ l. l ++ channels_from (at + 1) (opened + opens_by x) (more ++ e ∷ [])) (head-later at opened x more e place count place' count')
    ∙ ap (λ l. changed place e (channel_from at opened x more) ++ l) (channels_from-snoc (at + 1) (opened + opens_by x) more e place count place' count')
    ∙ sym (append_assoc (changed place e (channel_from at opened x more)) (changed place e rest) (opened_by count e))
    ∙ ap (λ l. l ++ opened_by count e) (sym (changed-append place e (channel_from at opened x more) rest))

-- as many openings
pub opens-past : (past : List Event) → opens past ≡ opens_in (reverse past)
opens-past [] = refl
opens-past (e ∷ older) =
    let more : opens_in (reverse older ++ e ∷ []) ≡ opens_in (reverse older) + opens_in (e ∷ []) = opens_in-snoc (reverse older) e in
    let before : opens older ≡ opens_in (reverse older) = opens-past older in
    let mine : opens (e ∷ older) ≡ opens older + opens_in (e ∷ []) = one e in
    mine ∙ ap (λ n. n + opens_in (e ∷ [])) before ∙ sym more ∙ ap opens_in (sym (past-cons e older)) where
      one : (e : Event) → opens (e ∷ older) ≡ opens older + opens_in (e ∷ [])
      one (event.Open session k account class lead) = omega arith
      one e = omega arith

pub channels-past : (past : List Event) → channels_of past ≡ channels_from 0 0 (reverse past)
channels-past [] = refl
channels-past (e ∷ older) =
    let long : length older ≡ 0 + length (reverse older) = let l : length (reverse older) ≡ length older = length-reverse older in omega (arith, l) in
    let many : opens older ≡ 0 + opens_in (reverse older) = let m : opens older ≡ opens_in (reverse older) = opens-past older in omega (arith, m) in
    channels-cons e older ∙ after-parts (length older) (opens older) e (channels_of older)
    ∙ ap (λ l. changed (length older) e l ++ opened_by (opens older) e) (channels-past older)
    ∙ sym (channels_from-snoc 0 0 (reverse older) e (length older) (opens older) long many)
    ∙ ap (channels_from 0 0) (sym (past-cons e older))

pub channels-placed : ChannelsByPlaces
channels-placed h = channels-past (past_of h) ∙ ap (channels_from 0 0) (reverse-reverse h)
