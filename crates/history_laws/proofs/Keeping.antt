-- Channels stay as they are.
use Rattle.std.proofs.Common.{◌⊎◌, inl, inr, ◌≡◌, ℕ, ◌+◌, ◌<◌, ◌≤◌, Bool, true, false, cond, not, None, Some, List, [], ◌∷◌, ◌++◌, length, map, refl, ap, subst, sym, ◌∙◌, arith, length-append}
use Rattle.std.proofs.Math.Dec.{eqb}
use Rattle.std.proofs.lemmas.Bool.{cond_both, eqb-true, false≢true, le-ltb, ne_eqb}
use Rattle.std.proofs.lemmas.List.{length-reverse}
use Rattle.std.specs.Prelude.{filter, find}
use Rattle.std.specs.List.{AllByRecursion}
use Rattle.pool_history.specs.declared.events.Event.{Event}
use Rattle.pool_history.specs.declared.events.Event.TheVariants as event
use Rattle.pool_history.specs.Accounts.{is_empty}
use Rattle.pool_history.specs.Channels.{OpenChannel, account_or, channel_in, channel_moves, channels_of, class_before, with_name, opened, with_class}
use Rattle.pool_history.specs.Sessions.{opens, past_of}
use Rattle.pool_history.proofs.PlacesOfClasses.{all-end, all-filter, all-map, all-weaken}
use Rattle.history_laws.specs.Staying.{AreInOrder, ChannelsAreNumbered, ChannelsStay, IsLater}
use Rattle.history_laws.proofs.Entrances.{none-some, some-same}
use Rattle.history_laws.proofs.Holding.{Pairwise, all-find, pairwise-end, pairwise-filter, pairwise-map}
use Rattle.history_laws.proofs.Legalities.{past-append}
use Rattle.history_laws.proofs.Stepping.{opened-opens}

-- an id is below another
abbrev pub IsBelow : OpenChannel → OpenChannel → Type 0
IsBelow c d = c.id < d.id

pub in-order : (cs : List OpenChannel) → Pairwise IsBelow cs → AreInOrder cs
in-order [] p = tt
in-order (c ∷ cs) p = (p.0, in-order cs p.1)

-- a name and a class leave the id
pub named-id : (id : ℕ) (account : List ℕ) (c : OpenChannel) → (with_name id account c).id ≡ c.id
named-id id account c =
    cond_both (eqb c.id id) (record c { account = account_or c.account account }) c (λ d. d.id ≡ c.id) (λ t. refl) (λ f. refl)

pub reclassed-id : (at id class : ℕ) (c : OpenChannel) → (with_class at id class c).id ≡ c.id
reclassed-id at id class c =
    cond_both (eqb c.id id) (record c { sets = record { at = at; class = class } ∷ c.sets }) c (λ d. d.id ≡ c.id) (λ t. refl) (λ f. refl)

pub below-kept : (f : OpenChannel → OpenChannel) → ((c : OpenChannel) → (f c).id ≡ c.id) → (c d : OpenChannel) → IsBelow c d → IsBelow (f c) (f d)
below-kept f kept c d h =
    let a : (f c).id ≡ c.id = kept c in
    let b : (f d).id ≡ d.id = kept d in
    omega (arith, a, b, h)

-- the ids of a past's channels
pub record Numbered (past : List Event) : Type 0 where
  pub below : Pairwise IsBelow (channels_of past)
  pub most : AllByRecursion (λ c. c.id ≤ opens past) (channels_of past)

pub numbered-mapped : (older : List Event) (f : OpenChannel → OpenChannel) → ((c : OpenChannel) → (f c).id ≡ c.id) → Numbered older
    → Pairwise IsBelow (map f (channels_of older)) × AllByRecursion (λ c. c.id ≤ opens older) (map f (channels_of older))
numbered-mapped older f kept n = (
  pairwise-map IsBelow f (below-kept f kept) (channels_of older) n.below,
  all-map (λ c. c.id ≤ opens older) (λ c. c.id ≤ opens older) f
      (λ c h. let a : (f c).id ≡ c.id = kept c in omega (arith, a, h)) (channels_of older) n.most,
)

pub channels-numbered : (past : List Event) → Numbered past
channels-numbered [] = record { below = tt; most = tt }
channels-numbered (event.Open session k account class lead ∷ older) =
    let n : Numbered older = channels-numbered older in
    let many : opened (channel_moves older) ≡ opens older = opened-opens older in
    let new : OpenChannel =
    record { id = opened (channel_moves older) + 1; session = session; kind = k; account = account; lead = lead; opening_class = class; sets = [] } in
    record {
      below = pairwise-end IsBelow (channels_of older) new
          (all-weaken (λ c. c.id ≤ opens older) (λ c. IsBelow c new) (λ c h. omega (arith, many, h)) (channels_of older) n.most) n.below;
      most = all-end (λ c. c.id ≤ opens older + 1) (channels_of older) new
          (all-weaken (λ c. c.id ≤ opens older) (λ c. c.id ≤ opens older + 1) (λ c h. omega (arith, h)) (channels_of older) n.most) (omega (arith, many));
    }
channels-numbered (event.Name session id account ∷ older) =
    let m = numbered-mapped older (with_name id account) (named-id id account) (channels-numbered older) in
    record { below = m.0; most = m.1 }
channels-numbered (event.Class session id class ∷ older) =
    let m = numbered-mapped older (with_class (length older) id class) (reclassed-id (length older) id class) (channels-numbered older) in
    record { below = m.0; most = m.1 }
channels-numbered (event.Close session id ∷ older) =
    let n : Numbered older = channels-numbered older in
    record {
      below = pairwise-filter IsBelow (λ c. not (eqb c.id id)) (channels_of older) n.below;
      most = all-filter (λ c. c.id ≤ opens older) (λ c. not (eqb c.id id)) (channels_of older) n.most;
    }
channels-numbered (event.Leave session ∷ older) =
    let n : Numbered older = channels-numbered older in
    record {
      below = pairwise-filter IsBelow (λ c. not (eqb c.session session)) (channels_of older) n.below;
      most = all-filter (λ c. c.id ≤ opens older) (λ c. not (eqb c.session session)) (channels_of older) n.most;
    }
channels-numbered (e ∷ older) = let n : Numbered older = channels-numbered older in record { below = n.below; most = n.most }

pub are-numbered : ChannelsAreNumbered
are-numbered h =
    let n : Numbered (past_of h) = channels-numbered (past_of h) in
    record { in_order = in-order (channels_of (past_of h)) n.below; opened = n.most }

-- what was found passes the test
pub find-passes : {X : Type 0} (p : X → Bool) (xs : List X) (x : X) → find p xs ≡ Some x → p x ≡ true
find-passes p [] x is = absurd (none-some is)
find-passes p (y ∷ xs) x is =
    cond_both (p y) (Some y) (find p xs) (λ o. o ≡ Some x → p x ≡ true)
    (λ t found. subst (λ z. p z ≡ true) (some-same found) t) (λ f found. find-passes p xs x found) is

-- in a list of two parts, in a mapped list, and in a filtered one
pub find-append : {X : Type 0} (p : X → Bool) (xs ys : List X) (x : X) → find p (xs ++ ys) ≡ Some x → (find p xs ≡ Some x) ⊎ (find p ys ≡ Some x)
find-append p [] ys x is = inr is
find-append p (y ∷ xs) ys x is =
    cond_both (p y) (Some y) (find p (xs ++ ys)) (λ o. o ≡ Some x → (cond (p y) (Some y) (find p xs) ≡ Some x) ⊎ (find p ys ≡ Some x))
    (λ t found. inl (ap (λ b. cond b (Some y) (find p xs)) t ∙ found))
    (λ f found. later f (find-append p xs ys x found)) is where
      later : p y ≡ false → (find p xs ≡ Some x) ⊎ (find p ys ≡ Some x) → (cond (p y) (Some y) (find p xs) ≡ Some x) ⊎ (find p ys ≡ Some x)
      later f (inl a) = inl (ap (λ b. cond b (Some y) (find p xs)) f ∙ a)
      later f (inr b) = inr b

pub record FoundMapped {X : Type 0} (p : X → Bool) (f : X → X) (xs : List X) (y : X) : Type 0 where
  pub from : X
  pub found : find p xs ≡ Some from
  pub is : y ≡ f from

pub find-map : {X : Type 0} (p : X → Bool) (f : X → X) → ((x : X) → p (f x) ≡ p x) → (xs : List X) (y : X) → find p (map f xs) ≡ Some y → FoundMapped p f xs y
find-map p f kept [] y is = absurd (none-some is)
find-map p f kept (x ∷ xs) y is =
    cond_both (p (f x)) (Some (f x)) (find p (map f xs)) (λ o. o ≡ Some y → FoundMapped p f (x ∷ xs) y)
    (λ t found. record {
      from = x;
      found = ap (λ b. cond b (Some x) (find p xs)) (sym (kept x) ∙ t);
      is = sym (some-same found);
    })
    (λ g found. let m : FoundMapped p f xs y = find-map p f kept xs y found in
    record { from = m.from; found = ap (λ b. cond b (Some x) (find p xs)) (sym (kept x) ∙ g) ∙ m.found; is = m.is }) is

pub find-filter : (id : ℕ) (q : OpenChannel → Bool) (cs : List OpenChannel) (x : OpenChannel) → Pairwise IsBelow cs
    → channel_in (filter q cs) id ≡ Some x → channel_in cs id ≡ Some x
find-filter id q [] x b is = is
find-filter id q (c ∷ cs) x b is =
    cond_both (q c) (c ∷ filter q cs) (filter q cs) (λ l. channel_in l id ≡ Some x → channel_in (c ∷ cs) id ≡ Some x)
    (λ kept found.
    cond_both (eqb c.id id) (Some c) (channel_in (filter q cs) id) (λ o. o ≡ Some x → cond (eqb c.id id) (Some c) (channel_in cs id) ≡ Some x)
    (λ t same. ap (λ b. cond b (Some c) (channel_in cs id)) t ∙ same)
    (λ f later. ap (λ b. cond b (Some c) (channel_in cs id)) f ∙ find-filter id q cs x b.1 later) found)
    (λ dropped found.
    let later : channel_in cs id ≡ Some x = find-filter id q cs x b.1 found in
    let above : c.id < x.id = all-find (λ d. c.id < d.id) (λ d. eqb d.id id) cs x b.0 later in
    let same : x.id ≡ id = eqb-true x.id id (find-passes (λ d. eqb d.id id) cs x later) in
    let other : eqb c.id id ≡ false = ne_eqb c.id id (λ e. omega (arith, e, above, same)) in
    ap (λ t. cond t (Some c) (channel_in cs id)) other ∙ later) is

-- a channel is its own later self, and the later self of an earlier one
pub later-self : (place : ℕ) (c : OpenChannel) → IsLater place c c
later-self place c =
    record { session = refl; kind = refl; lead = refl; opening_class = refl; account = λ h. refl; class = λ at h. refl }

pub later-later : (m n : ℕ) (a b c : OpenChannel) → m ≤ n → IsLater m a b → IsLater n b c → IsLater m a c
later-later m n a b c more p q = record {
  session = q.session ∙ p.session;
  kind = q.kind ∙ p.kind;
  lead = q.lead ∙ p.lead;
  opening_class = q.opening_class ∙ p.opening_class;
  account = λ h. q.account (ap is_empty (p.account h) ∙ h) ∙ p.account h;
  class = λ at h. q.class at (omega (arith, h, more)) ∙ p.class at h;
}

-- a named channel, and one whose class was set
pub account-stays : (account name : List ℕ) → is_empty account ≡ false → account_or account name ≡ account
account-stays [] name h = absurd (false≢true (sym h))
account-stays (x ∷ account) name h = refl

pub later-named : (place id : ℕ) (account : List ℕ) (c : OpenChannel) → IsLater place c (with_name id account c)
later-named place id account c =
    cond_both (eqb c.id id) (record c { account = account_or c.account account }) c (IsLater place c)
    (λ t. record {
      session = refl;
      kind = refl;
      lead = refl;
      opening_class = refl;
      account = λ h. account-stays c.account account h;
      class = λ at h. refl;
    }) (λ f. later-self place c)

pub later-reclassed : (place id class : ℕ) (c : OpenChannel) → IsLater place c (with_class place id class c)
later-reclassed place id class c =
    cond_both (eqb c.id id) (record c { sets = record { at = place; class = class } ∷ c.sets }) c (IsLater place c)
    (λ t. record {
      session = refl;
      kind = refl;
      lead = refl;
      opening_class = refl;
      account = λ h. refl;
      class = λ at h. ap (λ b. cond b class (class_before at c.sets c.opening_class)) (le-ltb place at h);
    }) (λ f. later-self place c)

-- a channel that is open after one more event, and was opened before it
pub record Before (older : List Event) (id : ℕ) (after : OpenChannel) : Type 0 where
  pub channel : OpenChannel
  pub found : channel_in (channels_of older) id ≡ Some channel
  pub later : IsLater (length older) channel after

pub before-same : (older : List Event) (id : ℕ) (after : OpenChannel) → channel_in (channels_of older) id ≡ Some after → Before older id after
before-same older id after found = record { channel = after; found = found; later = later-self (length older) after }

pub one-before : (e : Event) (older : List Event) (id : ℕ) (after : OpenChannel) → id ≤ opens older → channel_in (channels_of (e ∷ older)) id ≡ Some after
    → Before older id after
one-before (event.Open session k account class lead) older id after few found =
    let new : OpenChannel =
    record { id = opened (channel_moves older) + 1; session = session; kind = k; account = account; lead = lead; opening_class = class; sets = [] } in
    by_part new refl (find-append (λ c. eqb c.id id) (channels_of older) (new ∷ []) after found) where
      by_part : (new : OpenChannel) → new.id ≡ opened (channel_moves older) + 1
          → (channel_in (channels_of older) id ≡ Some after) ⊎ (channel_in (new ∷ []) id ≡ Some after) → Before older id after
      by_part new is (inl there) = before-same older id after there
      by_part new is (inr here) =
          let many : opened (channel_moves older) ≡ opens older = opened-opens older in
          let other : eqb new.id id ≡ false = ne_eqb new.id id (λ same. omega (arith, same, is, many, few)) in
          absurd (none-some (sym (ap (λ b. cond b (Some new) None) other) ∙ here))
one-before (event.Name session channel account) older id after few found =
    let m : FoundMapped (λ c. eqb c.id id) (with_name channel account) (channels_of older) after =
    find-map (λ c. eqb c.id id) (with_name channel account) (λ c. ap (λ n. eqb n id) (named-id channel account c)) (channels_of older) after found in
    record { channel = m.from; found = m.found; later = subst (IsLater (length older) m.from) (sym m.is) (later-named (length older) channel account m.from) }
one-before (event.Class session channel class) older id after few found =
    let m : FoundMapped (λ c. eqb c.id id) (with_class (length older) channel class) (channels_of older) after =
    find-map (λ c. eqb c.id id) (with_class (length older) channel class) (λ c. ap (λ n. eqb n id) (reclassed-id (length older) channel class c)) (channels_of older) after found in
    record { channel = m.from; found = m.found; later = subst (IsLater (length older) m.from) (sym m.is) (later-reclassed (length older) channel class m.from) }
one-before (event.Close session channel) older id after few found =
    before-same older id after (find-filter id (λ c. not (eqb c.id channel)) (channels_of older) after (channels-numbered older).below found)
one-before (event.Leave session) older id after few found =
    before-same older id after (find-filter id (λ c. not (eqb c.session session)) (channels_of older) after (channels-numbered older).below found)
one-before e older id after few found = before-same older id after found

-- openings are never fewer
pub opens-grow : (e : Event) (older : List Event) → opens older ≤ opens (e ∷ older)
opens-grow (event.Open session k account class lead) older = omega arith
opens-grow e older = omega arith

pub opens-later : (later past : List Event) → opens past ≤ opens (later ++ past)
opens-later [] past = omega arith
opens-later (e ∷ later) past =
    let a : opens past ≤ opens (later ++ past) = opens-later later past in
    let b : opens (later ++ past) ≤ opens (e ∷ (later ++ past)) = opens-grow e (later ++ past) in
    omega (arith, a, b)

pub channels-stay-past : (later past : List Event) (id : ℕ) (before after : OpenChannel) → channel_in (channels_of past) id ≡ Some before
    → channel_in (channels_of (later ++ past)) id ≡ Some after → IsLater (length past) before after
channels-stay-past [] past id before after was is = subst (IsLater (length past) before) (some-same (sym was ∙ is)) (later-self (length past) before)
channels-stay-past (e ∷ later) past id before after was is =
    let most : before.id ≤ opens past = all-find (λ c. c.id ≤ opens past) (λ c. eqb c.id id) (channels_of past) before (channels-numbered past).most was in
    let same : before.id ≡ id = eqb-true before.id id (find-passes (λ c. eqb c.id id) (channels_of past) before was) in
    let more : opens past ≤ opens (later ++ past) = opens-later later past in
    let b : Before (later ++ past) id after = one-before e (later ++ past) id after (omega (arith, most, same, more)) is in
    let long : length (later ++ past) ≡ length later + length past = length-append later past in
    later-later (length past) (length (later ++ past)) before b.channel after (omega (arith, long))
    (channels-stay-past later past id before b.channel was b.found) b.later

pub channels-stay : ChannelsStay
channels-stay h more id before after was is =
    subst (λ n. IsLater n before after) (length-reverse h)
    (channels-stay-past (past_of more) (past_of h) id before after was (sym (ap (λ p. channel_in (channels_of p) id) (past-append h more)) ∙ is))
