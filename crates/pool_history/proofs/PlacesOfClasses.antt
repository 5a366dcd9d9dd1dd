-- The class of a channel by places is that of the recursion over the past.
use Rattle.std.proofs.Common.{◌≡◌, ℕ, ◌+◌, ◌<◌, ◌≤◌, Bool, true, false, ◌&&◌, cond, Option, None, Some, List, [], ◌∷◌, ◌++◌, length, map, reverse, refl, ap, subst, sym, ◌∙◌, not, add-zero, arith, append_assoc}
use Rattle.std.proofs.Math.Dec.{eqb}
use Rattle.std.proofs.lemmas.Bool.{le-leb, lt-leb, ne_eqb, eq-eqb}
use Rattle.std.proofs.lemmas.List.{append-nil, length-reverse, reverse-append, reverse-reverse}
use Rattle.std.specs.Prelude.{filter, nat_le, nat_lt}
use Rattle.std.specs.List.{AllByRecursion}
use Rattle.pool_history.specs.declared.events.Event.{Event}
use Rattle.pool_history.specs.declared.events.Event.TheVariants as event
use Rattle.pool_history.specs.declared.events.Kind.{Kind}
use Rattle.pool_history.specs.ByPlaces.{ClassesByPlaces, HasClasses, class_of_last, opening_class_from, opens_in, sets_from}
use Rattle.pool_history.specs.Channels.{ClassSet, OpenChannel, account_or, channel_moves, channels_of, class_before, with_name, opened, with_class}
use Rattle.pool_history.specs.Sessions.{past_of}
use Rattle.pool_history.proofs.PlacesOfJobs.{filter-dropped, filter-kept, past-last}

-- facts of each element
pub all-map : {X : Type 0} (P Q : X → Type 0) (f : X → X) → ((x : X) → P x → Q (f x)) → (xs : List X) → AllByRecursion P xs → AllByRecursion Q (map f xs)
all-map P Q f step [] a = tt
all-map P Q f step (x ∷ xs) a = (step x a.0, all-map P Q f step xs a.1)

pub all-weaken : {X : Type 0} (P Q : X → Type 0) → ((x : X) → P x → Q x) → (xs : List X) → AllByRecursion P xs → AllByRecursion Q xs
all-weaken P Q step [] a = tt
all-weaken P Q step (x ∷ xs) a = (step x a.0, all-weaken P Q step xs a.1)

pub all-filter : {X : Type 0} (P : X → Type 0) (p : X → Bool) (xs : List X) → AllByRecursion P xs → AllByRecursion P (filter p xs)
all-filter P p [] a = tt
all-filter P p (x ∷ xs) a =
    elim (p x) as (λ b. AllByRecursion P (cond b (x ∷ filter p xs) (filter p xs))) [
      | true ↦ (a.0, all-filter P p xs a.1)
      | false ↦ all-filter P p xs a.1
    ]

pub all-end : {X : Type 0} (P : X → Type 0) (xs : List X) (x : X) → AllByRecursion P xs → P x → AllByRecursion P (xs ++ x ∷ [])
all-end P [] x a h = (h, tt)
all-end P (y ∷ xs) x a h = (a.0, all-end P xs x a.1 h)

-- one event more
pub opens_in-snoc : (h : List Event) (e : Event) → opens_in (h ++ e ∷ []) ≡ opens_in h + opens_in (e ∷ [])
opens_in-snoc [] e = omega arith
opens_in-snoc (event.Open session kind account class lead ∷ more) e = omega (arith, opens_in-snoc more e)
opens_in-snoc (event ∷ more) e = opens_in-snoc more e

pub sets_from-snoc : (at n id : ℕ) (h : List Event) (e : Event) (place count : ℕ) → place ≡ at + length h → count ≡ n + opens_in h
    → sets_from at n id (h ++ e ∷ []) ≡ sets_from at n id h ++ sets_from place count id (e ∷ [])
sets_from-snoc at n id [] e place count p q =
    let p' : place ≡ at = omega (arith, p) in
    let q' : count ≡ n = omega (arith, q) in
    rw (p', q') refl
sets_from-snoc at n id (event.Open session kind account class lead ∷ more) e place count p q =
    sets_from-snoc (at + 1) (n + 1) id more e place count (omega (arith, p)) (omega (arith, q))
sets_from-snoc at n id (event.Class session channel class ∷ more) e place count p q =
    let first : List ClassSet = cond (eqb id channel && nat_le id n) (record { at = at; class = class } ∷ []) [] in
    ap (λ sets. first ++ sets) (sets_from-snoc (at + 1) n id more e place count (omega (arith, p)) q)
    ∙ sym (append_assoc first (sets_from (at + 1) n id more) (sets_from place count id (e ∷ [])))
sets_from-snoc at n id (event ∷ more) e place count p q = sets_from-snoc (at + 1) n id more e place count (omega (arith, p)) q

-- before its opening a channel has no class set
pub no_sets : (at n id : ℕ) (h : List Event) → n + opens_in h < id → sets_from at n id h ≡ []
no_sets at n id [] l = refl
no_sets at n id (event.Open session kind account class lead ∷ more) l = no_sets (at + 1) (n + 1) id more (omega (arith, l))
no_sets at n id (event.Class session channel class ∷ more) l =
    let less : n + opens_in more < id = l in
    ap (λ b. cond b (record { at = at; class = class } ∷ []) [] ++ sets_from (at + 1) n id more) (beyond (eqb id channel) (lt-leb id n (omega (arith, less))))
    ∙ no_sets (at + 1) n id more l where
      beyond : (a : Bool) {b : Bool} → b ≡ false → a && b ≡ false
      beyond true h = h
      beyond false h = refl
no_sets at n id (event ∷ more) l = no_sets (at + 1) n id more l

-- the class of an opening stays
pub cond-later : {A : Type 0} (b : Bool) (x y z r : A) → (y ≡ r → z ≡ r) → cond b x y ≡ r → cond b x z ≡ r
cond-later true x y z r g f = f
cond-later false x y z r g f = g f

pub opening-later : (n id : ℕ) (h : List Event) (e : Event) (class : ℕ) → opening_class_from n id h ≡ Some class → opening_class_from n id (h ++ e ∷ []) ≡ Some class
opening-later n id [] e class f = absurd (none-some f) where
  none-some : {x : ℕ} → ◌≡◌ {A = Option ℕ} None (Some x) → ⊥
  none-some f = cc
opening-later n id (event.Open session kind account z lead ∷ more) e class f =
    cond-later (eqb (n + 1) id) (Some z) (opening_class_from (n + 1) id more) (opening_class_from (n + 1) id (more ++ e ∷ [])) (Some class)
    (λ g. opening-later (n + 1) id more e class g) f
opening-later n id (event ∷ more) e class f = opening-later n id more e class f

-- the class of a new one
pub opening-new : (n id : ℕ) (h : List Event) (session : ℕ) (kind : Kind) (account : List ℕ) (class : ℕ) (lead : List ℕ) → id ≡ n + opens_in h + 1
    → opening_class_from n id (h ++ event.Open session kind account class lead ∷ []) ≡ Some class
opening-new n id [] session kind account class lead p =
    let here : n + 1 ≡ id = omega (arith, p) in
    ap (λ b. cond b (Some class) None) (eq-eqb (n + 1) id here)
opening-new n id (event.Open s k a z l ∷ more) session kind account class lead p =
    let later : id ≡ n + 1 + opens_in more + 1 = omega (arith, p) in
    ap (λ b. cond b (Some z) (opening_class_from (n + 1) id (more ++ event.Open session kind account class lead ∷ [])))
    (ne_eqb (n + 1) id (λ same. omega (arith, same, later)))
    ∙ opening-new (n + 1) id more session kind account class lead later
opening-new n id (event ∷ more) session kind account class lead p = opening-new n id more session kind account class lead p

-- what is known of an open channel
pub record IsTracked (history : List Event) (channel : OpenChannel) : Type 0 where
  pub known : channel.id ≤ opens_in history
  pub opening : opening_class_from 0 channel.id history ≡ Some channel.opening_class
  pub sets : channel.sets ≡ reverse (sets_from 0 0 channel.id history)

-- an event that sets no class to it
pub tracked-later : (h : List Event) (e : Event) (c : OpenChannel) → sets_from (length h) (opens_in h) c.id (e ∷ []) ≡ [] → IsTracked h c
    → IsTracked (h ++ e ∷ []) c
tracked-later h e c none t = record {
  known = let more : opens_in (h ++ e ∷ []) ≡ opens_in h + opens_in (e ∷ []) = opens_in-snoc h e in omega (arith, more, t.known);
  opening = opening-later 0 c.id h e c.opening_class t.opening;
  sets = t.sets ∙ ap reverse (sym (
      sets_from-snoc 0 0 c.id h e (length h) (opens_in h) (omega arith) (omega arith)
      ∙ ap (λ sets. sets_from 0 0 c.id h ++ sets) none ∙ append-nil (sets_from 0 0 c.id h)
      ));
}

-- a name changes none of it
pub tracked-named : (h : List Event) (id : ℕ) (account : List ℕ) (c : OpenChannel) → IsTracked h c → IsTracked h (with_name id account c)
tracked-named h id account c t =
    elim (eqb c.id id) as (λ b. IsTracked h (cond b (record c { account = account_or c.account account }) c)) [
      | true ↦ record { known = t.known; opening = t.opening; sets = t.sets }
      | false ↦ t
    ]

-- the sets of a channel, one Class event later
pub sets-later : (h : List Event) (session id class at : ℕ) (c : OpenChannel) → at ≡ length h → IsTracked h c
    → sets_from 0 0 c.id (h ++ event.Class session id class ∷ []) ≡ sets_from 0 0 c.id h ++ cond (eqb c.id id) (record { at = at; class = class } ∷ []) []
sets-later h session id class at c p t =
    sets_from-snoc 0 0 c.id h (event.Class session id class) at (opens_in h) (omega (arith, p)) (omega arith)
    ∙ ap (λ b. sets_from 0 0 c.id h ++ (cond (eqb c.id id && b) (record { at = at; class = class } ∷ []) [] ++ [])) (le-leb c.id (opens_in h) t.known)
    ∙ ap (λ b. sets_from 0 0 c.id h ++ (cond b (record { at = at; class = class } ∷ []) [] ++ [])) (and-true (eqb c.id id))
    ∙ ap (λ sets. sets_from 0 0 c.id h ++ sets) (append-nil (cond (eqb c.id id) (record { at = at; class = class } ∷ []) [])) where
      and-true : (b : Bool) → b && true ≡ b
      and-true true = refl
      and-true false = refl

-- a class is set to its own channel
pub tracked-by_id : (h : List Event) (session id class at : ℕ) (c : OpenChannel) (b : Bool) → IsTracked h c
    → sets_from 0 0 c.id (h ++ event.Class session id class ∷ []) ≡ sets_from 0 0 c.id h ++ cond b (record { at = at; class = class } ∷ []) []
    → IsTracked (h ++ event.Class session id class ∷ []) (cond b (record c { sets = record { at = at; class = class } ∷ c.sets }) c)
tracked-by_id h session id class at c true t s = record {
  known = let more : opens_in (h ++ event.Class session id class ∷ []) ≡ opens_in h + 0 = opens_in-snoc h (event.Class session id class) in omega (arith, more, t.known);
  opening = opening-later 0 c.id h (event.Class session id class) c.opening_class t.opening;
  sets = ap (λ sets. record { at = at; class = class } ∷ sets) t.sets
      ∙ sym (ap reverse s ∙ reverse-append (sets_from 0 0 c.id h) (record { at = at; class = class } ∷ []));
}
tracked-by_id h session id class at c false t s = record {
  known = let more : opens_in (h ++ event.Class session id class ∷ []) ≡ opens_in h + 0 = opens_in-snoc h (event.Class session id class) in omega (arith, more, t.known);
  opening = opening-later 0 c.id h (event.Class session id class) c.opening_class t.opening;
  sets = t.sets ∙ ap reverse (sym (s ∙ append-nil (sets_from 0 0 c.id h)));
}

pub tracked-set : (h : List Event) (session id class at : ℕ) (c : OpenChannel) → at ≡ length h → IsTracked h c
    → IsTracked (h ++ event.Class session id class ∷ []) (with_class at id class c)
tracked-set h session id class at c p t = tracked-by_id h session id class at c (eqb c.id id) t (sets-later h session id class at c p t)

-- the openings of the past
pub opened-past : (past : List Event) → opened (channel_moves past) ≡ opens_in (reverse past)
opened-past [] = refl
opened-past (event.Open session kind account class lead ∷ past) =
    let e : Event = event.Open session kind account class lead in
    let more : opens_in (reverse past ++ e ∷ []) ≡ opens_in (reverse past) + 1 = opens_in-snoc (reverse past) e in
    ap (λ n. n + 1) (opened-past past) ∙ sym more ∙ ap opens_in (past-last e past)
opened-past (event ∷ past) =
    opened-past past ∙ sym (add-zero (opens_in (reverse past))) ∙ sym (opens_in-snoc (reverse past) event) ∙ ap opens_in (past-last event past)

-- what is known of the open channels of the past
abbrev pub AreTracked : List Event → List OpenChannel → Type 0
AreTracked h channels = AllByRecursion (IsTracked h) channels

pub all-later : (h : List Event) (e : Event) → ((id : ℕ) → sets_from (length h) (opens_in h) id (e ∷ []) ≡ []) → (channels : List OpenChannel)
    → AreTracked h channels → AreTracked (h ++ e ∷ []) channels
all-later h e none channels a = all-weaken (IsTracked h) (IsTracked (h ++ e ∷ [])) (λ c t. tracked-later h e c (none c.id) t) channels a

-- a new channel
pub tracked-new : (h : List Event) (session : ℕ) (kind : Kind) (account : List ℕ) (class : ℕ) (lead : List ℕ) (c : OpenChannel) → c.id ≡ opens_in h + 1
    → c.opening_class ≡ class → c.sets ≡ [] → IsTracked (h ++ event.Open session kind account class lead ∷ []) c
tracked-new h session kind account class lead c p q r =
    let e : Event = event.Open session kind account class lead in
    record {
      known = let more : opens_in (h ++ e ∷ []) ≡ opens_in h + 1 = opens_in-snoc h e in omega (arith, more, p);
      opening = opening-new 0 c.id h session kind account class lead (omega (arith, p)) ∙ ap (λ z. Some z) (sym q);
      sets = r ∙ ap reverse (sym (
          sets_from-snoc 0 0 c.id h e (length h) (opens_in h) (omega arith) (omega arith)
          ∙ append-nil (sets_from 0 0 c.id h) ∙ no_sets 0 0 c.id h (omega (arith, p))
          ));
    }

pub tracked_past : (past : List Event) → AreTracked (reverse past) (channels_of past)
tracked_past [] = tt
tracked_past (event.Open session kind account class lead ∷ past) =
    let h : List Event = reverse past in
    let e : Event = event.Open session kind account class lead in
    let c : OpenChannel = record { id = opened (channel_moves past) + 1; session = session; kind = kind; account = account; lead = lead; opening_class = class; sets = [] } in
    subst (λ g. AreTracked g (channels_of (e ∷ past))) (past-last e past)
    (all-end (IsTracked (h ++ e ∷ [])) (channels_of past) c (all-later h e (λ id. refl) (channels_of past) (tracked_past past))
    (tracked-new h session kind account class lead c (ap (λ n. n + 1) (opened-past past)) refl refl))
tracked_past (event.Name session channel account ∷ past) =
    let h : List Event = reverse past in
    let e : Event = event.Name session channel account in
    subst (λ g. AreTracked g (channels_of (e ∷ past))) (past-last e past)
    (all-map (IsTracked (h ++ e ∷ [])) (IsTracked (h ++ e ∷ [])) (with_name channel account) (λ c t. tracked-named (h ++ e ∷ []) channel account c t) (channels_of past)
    (all-later h e (λ id. refl) (channels_of past) (tracked_past past)))
tracked_past (event.Class session channel class ∷ past) =
    let h : List Event = reverse past in
    let e : Event = event.Class session channel class in
    subst (λ g. AreTracked g (channels_of (e ∷ past))) (past-last e past)
    (all-map (IsTracked h) (IsTracked (h ++ e ∷ [])) (with_class (length past) channel class)
    (λ c t. tracked-set h session channel class (length past) c (sym (length-reverse past)) t) (channels_of past) (tracked_past past))
tracked_past (event.Close session channel ∷ past) =
    let h : List Event = reverse past in
    let e : Event = event.Close session channel in
    subst (λ g. AreTracked g (channels_of (e ∷ past))) (past-last e past)
    (all-filter (IsTracked (h ++ e ∷ [])) (λ c. not (eqb c.id channel)) (channels_of past) (all-later h e (λ id. refl) (channels_of past) (tracked_past past)))
tracked_past (event.Leave session ∷ past) =
    let h : List Event = reverse past in
    let e : Event = event.Leave session in
    subst (λ g. AreTracked g (channels_of (e ∷ past))) (past-last e past)
    (all-filter (IsTracked (h ++ e ∷ [])) (λ c. not (eqb c.session session)) (channels_of past) (all-later h e (λ id. refl) (channels_of past) (tracked_past past)))
tracked_past (event ∷ past) =
    subst (λ g. AreTracked g (channels_of past)) (past-last event past) (all-later (reverse past) event (λ id. refl) (channels_of past) (tracked_past past))

-- the class before a place, from the last set to the first
pub class_of_last-end : (xs : List ClassSet) (x : ClassSet) (opening : ℕ) → class_of_last (xs ++ x ∷ []) opening ≡ x.class
class_of_last-end [] x opening = refl
class_of_last-end (y ∷ xs) x opening = class_of_last-end xs x y.class

pub class_before-reversed : (place opening : ℕ) (xs : List ClassSet)
    → class_before place xs opening ≡ class_of_last (filter (λ set. nat_lt set.at place) (reverse xs)) opening
class_before-reversed place opening [] = refl
class_before-reversed place opening (x ∷ xs) = by_place (nat_lt x.at place) refl (class_before-reversed place opening xs) where
  by_place : (b : Bool) → nat_lt x.at place ≡ b → class_before place xs opening ≡ class_of_last (filter (λ set. nat_lt set.at place) (reverse xs)) opening
      → class_before place (x ∷ xs) opening ≡ class_of_last (filter (λ set. nat_lt set.at place) (reverse (x ∷ xs))) opening
  by_place true e rest =
      ap (λ b. cond b x.class (class_before place xs opening)) e
      ∙ sym (class_of_last-end (filter (λ set. nat_lt set.at place) (reverse xs)) x opening)
      ∙ ap (λ sets. class_of_last sets opening) (sym (filter-kept (λ set. nat_lt set.at place) (reverse xs) x e))
      ∙ ap (λ sets. class_of_last (filter (λ set. nat_lt set.at place) sets) opening) (sym (reverse-append (x ∷ []) xs))
  by_place false e rest =
      ap (λ b. cond b x.class (class_before place xs opening)) e ∙ rest
      ∙ ap (λ sets. class_of_last sets opening) (sym (filter-dropped (λ set. nat_lt set.at place) (reverse xs) x e))
      ∙ ap (λ sets. class_of_last (filter (λ set. nat_lt set.at place) sets) opening) (sym (reverse-append (x ∷ []) xs))

pub classes-tracked : (h : List Event) (c : OpenChannel) → IsTracked h c → HasClasses h c
classes-tracked h c t = record {
  opening = t.opening;
  class = λ since. class_before-reversed since c.opening_class c.sets
      ∙ ap (λ sets. class_of_last (filter (λ set. nat_lt set.at since) sets) c.opening_class)
      (ap reverse t.sets ∙ reverse-reverse (sets_from 0 0 c.id h));
}

pub classes_are_by_places : ClassesByPlaces
classes_are_by_places history =
    subst (λ h. AllByRecursion (HasClasses h) (channels_of (past_of history))) (reverse-reverse history)
    (all-weaken (IsTracked (reverse (reverse history))) (HasClasses (reverse (reverse history)))
    (λ c t. classes-tracked (reverse (reverse history)) c t) (channels_of (reverse history)) (tracked_past (reverse history)))
