-- A walk along the marks of a session finds its open channels, and the places of its openings.
use Rattle.std.proofs.Common.{◌≡◌, ℕ, zero, suc, ◌+◌, ◌<◌, ◌≤◌, Bool, true, false, cond, ◌&&◌, not, Option, None, Some, List, [], ◌∷◌, ◌++◌, length, map, reverse, take, refl, ap, subst, sym, ◌∙◌, arith, append_assoc}
use Rattle.std.proofs.Math.Dec.{eqb}
use Rattle.std.proofs.lemmas.Bool.{eq-eqb, le-leb, leb-false, leb-true, lt-leb, ne_eqb}
use Rattle.std.proofs.lemmas.List.{append-nil, reverse-append, reverse-reverse, take_all}
use Rattle.std.specs.Prelude.{filter, nat_le, nat_lt, slice_get, slice_index_or}
use Rattle.std.specs.Int.{bit_at}
use Rattle.pool_history.specs.News.{audience_of}
use Rattle.history_laws.proofs.Entrances.{none-some, some-same}
use Rattle.event_store.specs.declared.marks.OpeningMark.{OpeningMark}
use Rattle.event_store.specs.declared.marks.SessionMark.{SessionMark}
use Rattle.event_store.specs.Chains.{AreLinked, IsLastBefore, IsLastOf, Link, MarksAreChained, link_of, reach}
use Rattle.event_store.specs.Index.{IndexParts, last_opening}
use Rattle.event_store.specs.Listening.{Listening}
use Rattle.event_store.specs.Places.{AreRisingFrom, OpeningsRise, if_since, is_own_since, openings_since, stands_since}
use Rattle.event_store.specs.Told.{audience_at, channel_by, flags_at, has_left_at, is_before, listeners_in, listens_at}
use Rattle.event_store.proofs.Changed.{map-length}
use Rattle.event_store.proofs.Owed.{get-map}
use Rattle.event_store.proofs.Polled.{get-some}

-- of marks, those that a test passes, by what is read of each
abbrev pub chosen : {Y : Type 0} → (OpeningMark → Bool) → (OpeningMark → Y) → List OpeningMark → List Y
chosen p g marks = map g (filter p marks)

-- a test passes no other session's
abbrev pub PassesOwn : ℕ → (OpeningMark → Bool) → Type 0
PassesOwn session p = (mark : OpeningMark) → (mark.session ≡ session → ⊥) → p mark ≡ false

pub listens-own : (session place : ℕ) → PassesOwn session (listens_at session place)
listens-own session place mark other =
    ap (λ b. b && nat_lt mark.at place && not (is_before mark.closed place)) (ne_eqb mark.session session other)

pub since-own : (session from : ℕ) → PassesOwn session (is_own_since session from)
since-own session from mark other = ap (λ b. b && nat_le from mark.at) (ne_eqb mark.session session other)

-- one more mark
chosen-more : {Y : Type 0} (p : OpeningMark → Bool) (g : OpeningMark → Y) (at : ℕ) (xs : List OpeningMark) (mark : OpeningMark) → slice_get xs at ≡ Some mark
    → chosen p g (take (suc at) xs) ≡ chosen p g (take at xs) ++ cond (p mark) (g mark ∷ []) []
chosen-more p g at [] mark is = absurd (none-some is)
chosen-more p g zero (x ∷ xs) mark is = by (p x) ∙ ap (λ m. cond (p m) (g m ∷ []) []) (some-same is) where
  by : (b : Bool) → map g (cond b (x ∷ []) []) ≡ cond b (g x ∷ []) []
  by true = refl
  by false = refl
chosen-more p g (suc at) (x ∷ xs) mark is = by (chosen-more p g at xs mark is) (p x) where
  by : chosen p g (take (suc at) xs) ≡ chosen p g (take at xs) ++ cond (p mark) (g mark ∷ []) []
      → (b : Bool) → map g (cond b (x ∷ filter p (take (suc at) xs)) (filter p (take (suc at) xs)))
      ≡ map g (cond b (x ∷ filter p (take at xs)) (filter p (take at xs))) ++ cond (p mark) (g mark ∷ []) []
  by rest true = ap (λ l. g x ∷ l) rest
  by rest false = rest

-- no mark of a session
chosen-none : {Y : Type 0} (session : ℕ) (p : OpeningMark → Bool) (g : OpeningMark → Y) → PassesOwn session p
    → (xs : List OpeningMark) → ((at : ℕ) (mark : OpeningMark) → slice_get xs at ≡ Some mark → mark.session ≡ session → ⊥) → chosen p g xs ≡ []
chosen-none session p g own [] h = refl
chosen-none session p g own (x ∷ xs) h =
    ap (λ b. map g (cond b (x ∷ filter p xs) (filter p xs))) (own x (h 0 x refl)) ∙ chosen-none session p g own xs (λ at mark is. h (suc at) mark is)

taken : (n : ℕ) (ys : List OpeningMark) (at : ℕ) (mark : OpeningMark) → slice_get (take n ys) at ≡ Some mark → (at < n) × (slice_get ys at ≡ Some mark)
taken zero ys at mark is = absurd (none-some is)
taken (suc n) [] at mark is = absurd (none-some is)
taken (suc n) (y ∷ ys) zero mark is = (omega arith, is)
taken (suc n) (y ∷ ys) (suc at) mark is =
    let t : (at < n) × (slice_get ys at ≡ Some mark) = taken n ys at mark is in
    (let less : at < n = t.0 in omega (arith, less), t.1)

-- behind the last of a session there is none
chosen-behind : {Y : Type 0} (session : ℕ) (p : OpeningMark → Bool) (g : OpeningMark → Y) → PassesOwn session p
    → (xs : List OpeningMark) (count end : ℕ) → count ≤ end → end ≤ length xs
    → ((at : ℕ) (mark : OpeningMark) → count ≤ at → at < end → slice_get xs at ≡ Some mark → mark.session ≡ session → ⊥)
    → chosen p g (take end xs) ≡ chosen p g (take count xs)
chosen-behind session p g own xs zero zero less most h = refl
chosen-behind session p g own xs (suc count) zero less most h = absurd (omega (arith, less))
chosen-behind session p g own [] count (suc end) less most h = absurd (omega (arith, most))
chosen-behind session p g own (x ∷ xs) zero (suc end) less most h =
    chosen-none session p g own (take (suc end) (x ∷ xs)) (λ at mark is same. by at mark (taken (suc end) (x ∷ xs) at mark is) same) where
      by : (at : ℕ) (mark : OpeningMark) → (at < suc end) × (slice_get (x ∷ xs) at ≡ Some mark) → mark.session ≡ session → ⊥
      by at mark t same = h at mark (omega arith) t.0 t.1 same
chosen-behind session p g own (x ∷ xs) (suc count) (suc end) less most h =
    by (chosen-behind session p g own xs count end (omega (arith, less)) (omega (arith, most))
    (λ at mark behind before is same. h (suc at) mark (omega (arith, behind)) (omega (arith, before)) is same)) (p x) where
      by : chosen p g (take end xs) ≡ chosen p g (take count xs) → (b : Bool)
          → map g (cond b (x ∷ filter p (take end xs)) (filter p (take end xs))) ≡ map g (cond b (x ∷ filter p (take count xs)) (filter p (take count xs)))
      by rest true = ap (λ l. g x ∷ l) rest
      by rest false = rest

-- up to the last of a session
chosen-last : {Y : Type 0} (session : ℕ) (p : OpeningMark → Bool) (g : OpeningMark → Y) → PassesOwn session p
    → (end : ℕ) (xs : List OpeningMark) (last : Option ℕ) → end ≤ length xs → IsLastBefore session (map link_of xs) end last
    → chosen p g (take end xs) ≡ chosen p g (take (reach last) xs)
chosen-last session p g own end xs last most b =
    chosen-behind session p g own xs (reach last) end b.within most
    (λ at mark behind before is same. b.others at (link_of mark) behind before (get-map link_of xs at mark is) same)

own-session : (session end at : ℕ) (xs : List OpeningMark) (mark : OpeningMark) → IsLastBefore session (map link_of xs) end (Some at) → slice_get xs at ≡ Some mark
    → mark.session ≡ session
own-session session end at xs mark b is = b.own at (link_of mark) refl (get-map link_of xs at mark is)

-- one step of the walk: what the mark gives, and then those before it
walked : {Y : Type 0} (session : ℕ) (p : OpeningMark → Bool) (g : OpeningMark → Y) → PassesOwn session p
    → (at : ℕ) (xs : List OpeningMark) (mark : OpeningMark) → slice_get xs at ≡ Some mark → at < length xs → IsLastBefore session (map link_of xs) at mark.before
    → reverse (chosen p g (take (suc at) xs)) ≡ cond (p mark) (g mark ∷ []) [] ++ reverse (chosen p g (take (reach mark.before) xs))
walked session p g own at xs mark is less before =
    ap reverse (chosen-more p g at xs mark is)
    ∙ reverse-append (chosen p g (take at xs)) (cond (p mark) (g mark ∷ []) [])
    ∙ ap (λ l. l ++ reverse (chosen p g (take at xs))) (single (p mark))
    ∙ ap (λ l. cond (p mark) (g mark ∷ []) [] ++ reverse l) (chosen-last session p g own at xs mark.before (omega (arith, less)) before) where
      single : (b : Bool) → reverse (cond b (g mark ∷ []) []) ≡ cond b (g mark ∷ []) []
      single true = refl
      single false = refl

-- from the last one on
last-at-reach : (session end : ℕ) (links : List Link) (last : Option ℕ) → IsLastBefore session links end last → IsLastBefore session links (reach last) last
last-at-reach session end links last b = record {
  within = omega arith;
  others = λ at link behind less is same. absurd (omega (arith, behind, less));
  own = b.own;
}

-- what is read of a list within it
pub get-read : {X : Type 0} (xs : List X) (k : ℕ) (x : X) → k < length xs → x ≡ slice_index_or xs k x → slice_get xs k ≡ Some x
get-read [] k x less is = absurd (omega (arith, less))
get-read (y ∷ xs) zero x less is = ap Some (sym is)
get-read (y ∷ xs) (suc k) x less is = get-read xs k x (omega (arith, less)) is

-- the walk begins
walk-begun : {Y : Type 0} (session : ℕ) (p : OpeningMark → Bool) (g : OpeningMark → Y) → PassesOwn session p
    → (xs : List OpeningMark) (last : Option ℕ) → IsLastOf session xs last
    → reverse (chosen p g (take (reach last) xs)) ≡ reverse (chosen p g xs)
walk-begun session p g own xs last b =
    let same : length (map link_of xs) ≡ length xs = map-length link_of xs in
    ap reverse (sym (chosen-last session p g own (length xs) xs last (omega arith) (subst (λ n. IsLastBefore session (map link_of xs) n last) same b))
    ∙ ap (chosen p g) (take_all (length xs) xs (omega arith)))

-- a session without a last one has none
walk-empty : {Y : Type 0} (session : ℕ) (p : OpeningMark → Bool) (g : OpeningMark → Y) → PassesOwn session p
    → (xs : List OpeningMark) → IsLastOf session xs None → chosen p g xs ≡ []
walk-empty session p g own xs last =
    sym (reverse-reverse (chosen p g xs)) ∙ ap reverse (sym (walk-begun session p g own xs None last))

walk-within : (session : ℕ) (xs : List OpeningMark) (last : Option ℕ) → IsLastOf session xs last → reach last ≤ length xs
walk-within session xs last b =
    let same : length (map link_of xs) ≡ length xs = map-length link_of xs in
    let within : reach last ≤ length (map link_of xs) = b.within in
    omega (arith, same, within)

-- what the walk keeps
pub record IsWalked {Y : Type 0} (session : ℕ) (p : OpeningMark → Bool) (g : OpeningMark → Y) (openings : List OpeningMark) (found : List Y) (next : Option ℕ) : Type 0 where
  pub found_is : found ++ reverse (chosen p g (take (reach next) openings)) ≡ reverse (chosen p g openings)
  pub last : IsLastBefore session (map link_of openings) (reach next) next
  pub within : reach next ≤ length openings

-- it begins with nothing found
pub walk-starts : {Y : Type 0} (session : ℕ) (p : OpeningMark → Bool) (g : OpeningMark → Y) → PassesOwn session p
    → (openings : List OpeningMark) (found : List Y) (last : Option ℕ) → IsLastOf session openings last → found ≡ [] → IsWalked session p g openings found last
walk-starts session p g own openings found last is none = record {
  found_is = ap (λ l. l ++ reverse (chosen p g (take (reach last) openings))) none ∙ walk-begun session p g own openings last is;
  last = last-at-reach session (length (map link_of openings)) (map link_of openings) last is;
  within = walk-within session openings last is;
}

-- and goes on
walk-on : {Y : Type 0} (session : ℕ) (p : OpeningMark → Bool) (g : OpeningMark → Y) → PassesOwn session p
    → (at : ℕ) (openings : List OpeningMark) (mark : OpeningMark) (found more : List Y) → AreLinked openings
    → IsWalked session p g openings found (Some at) → slice_get openings at ≡ Some mark
    → (mark.session ≡ session → more ≡ found ++ cond (p mark) (g mark ∷ []) [])
    → IsWalked session p g openings more mark.before
walk-on {Y = Y} session p g passes at openings mark found more linked w is more_is =
    let own : mark.session ≡ session = own-session session (reach (Some at)) at openings mark w.last is in
    let linked_before : IsLastBefore mark.session (map link_of openings) at mark.before = linked at (link_of mark) (get-map link_of openings at mark is) in
    let before : IsLastBefore session (map link_of openings) at mark.before = subst (λ s. IsLastBefore s (map link_of openings) at mark.before) own linked_before in
    let up : at + 1 ≡ suc at = omega arith in
    let less : at + 1 ≤ length openings = w.within in
    let few : reach mark.before ≤ at = before.within in
    let rest : List Y = reverse (chosen p g (take (reach mark.before) openings)) in
    record {
      found_is =
          ap (λ l. l ++ rest) (more_is own)
          ∙ append_assoc found (cond (p mark) (g mark ∷ []) []) rest
          ∙ ap (λ l. found ++ l) (sym (walked session p g passes at openings mark is (omega (arith, less)) before))
          ∙ ap (λ n. found ++ reverse (chosen p g (take n openings))) (sym up)
          ∙ w.found_is;
      last = last-at-reach session at (map link_of openings) mark.before before;
      within = omega (arith, few, less);
    }

pub walk-shorter : (at : ℕ) (openings : List OpeningMark) (mark : OpeningMark) → AreLinked openings → slice_get openings at ≡ Some mark → reach mark.before ≤ at
walk-shorter at openings mark linked is = (linked at (link_of mark) (get-map link_of openings at mark is)).within

-- and ends
pub walk-ended : {Y : Type 0} (session : ℕ) (p : OpeningMark → Bool) (g : OpeningMark → Y) (openings : List OpeningMark) (found : List Y)
    → IsWalked session p g openings found None → reverse found ≡ chosen p g openings
walk-ended session p g openings found w = ap reverse (sym (append-nil found) ∙ w.found_is) ∙ reverse-reverse (chosen p g openings)

-- the walk for the channels that are open at a place
abbrev pub HasHeard : ℕ → ℕ → List OpeningMark → List Listening → Option ℕ → Type 0
HasHeard session place openings listeners next = IsWalked session (listens_at session place) (λ mark. mark.listener) openings listeners next

pub heard-on : (session place at : ℕ) (openings : List OpeningMark) (mark : OpeningMark) (listeners more : List Listening) → AreLinked openings
    → HasHeard session place openings listeners (Some at) → slice_get openings at ≡ Some mark
    → more ≡ listeners ++ cond (nat_lt mark.at place && not (is_before mark.closed place)) (mark.listener ∷ []) []
    → HasHeard session place openings more mark.before
heard-on session place at openings mark listeners more linked w is more_is =
    walk-on session (listens_at session place) (λ mark. mark.listener) (listens-own session place) at openings mark listeners more linked w is
    (λ own. more_is ∙ ap (λ b. listeners ++ cond (b && nat_lt mark.at place && not (is_before mark.closed place)) (mark.listener ∷ []) [])
    (sym (eq-eqb mark.session session own)))

-- the walk for the places of its openings from one on: behind it ends what stands before that place
abbrev pub HasListed : ℕ → ℕ → List OpeningMark → List ℕ → Option ℕ → Type 0
HasListed session from openings places next = IsWalked session (is_own_since session from) (λ mark. mark.at) openings places next

marks-below : (least : ℕ) (xs : List OpeningMark) (at : ℕ) (mark : OpeningMark) → AreRisingFrom least (map (λ mark. mark.at) xs) → slice_get xs at ≡ Some mark → least ≤ mark.at
marks-below least [] at mark rise is = absurd (none-some is)
marks-below least (x ∷ xs) zero mark rise is = subst (λ (m : OpeningMark). least ≤ m.at) (some-same is) rise.0
marks-below least (x ∷ xs) (suc at) mark rise is =
    let low : least ≤ x.at = rise.0 in
    let more : suc x.at ≤ mark.at = marks-below (suc x.at) xs at mark rise.1 is in
    omega (arith, low, more)

none-since : (session from least : ℕ) (xs : List OpeningMark) (at : ℕ) (mark : OpeningMark) → AreRisingFrom least (map (λ mark. mark.at) xs)
    → slice_get xs at ≡ Some mark → mark.at < from → chosen (is_own_since session from) (λ mark. mark.at) (take (suc at) xs) ≡ []
none-since session from least [] at mark rise is before = absurd (none-some is)
none-since session from least (x ∷ xs) at mark rise is before = by (λ k there. none-since session from (suc x.at) xs k mark rise.1 there before) at is where
  first : (b : Bool) → x.at < from → (b && nat_le from x.at) ≡ false
  first true low = lt-leb from x.at low
  first false low = refl

  by : ((k : ℕ) → slice_get xs k ≡ Some mark → chosen (is_own_since session from) (λ mark. mark.at) (take (suc k) xs) ≡ [])
      → (at : ℕ) → slice_get (x ∷ xs) at ≡ Some mark → chosen (is_own_since session from) (λ mark. mark.at) (take (suc at) (x ∷ xs)) ≡ []
  by rest zero is =
      ap (λ b. map (λ mark. mark.at) (cond b (x ∷ []) []))
      (first (eqb x.session session) (subst (λ (m : OpeningMark). m.at < from) (sym (some-same is)) before))
  by rest (suc at) is =
      let more : suc x.at ≤ mark.at = marks-below (suc x.at) xs at mark rise.1 is in
      ap (λ b. map (λ mark. mark.at) (cond b (x ∷ filter (is_own_since session from) (take (suc at) xs)) (filter (is_own_since session from) (take (suc at) xs))))
      (first (eqb x.session session) (omega (arith, more, before)))
      ∙ rest at is

-- where it ends early
pub listed-early : (session from : ℕ) (openings : List OpeningMark) (places : List ℕ) (next : Option ℕ) → OpeningsRise openings
    → HasListed session from openings places next → HasListed session from openings places (if_since from openings next)
listed-early session from openings places None rise w = w
listed-early session from openings places (Some at) rise w = by (slice_get openings at) refl where
  by : (o : Option OpeningMark) → slice_get openings at ≡ o → HasListed session from openings places (cond (stands_since from o) (Some at) None)
  by None is =
      let less : at + 1 ≤ length openings = w.within in
      let there : (mark : OpeningMark) × (slice_get openings at ≡ Some mark) = get-some openings at (omega (arith, less)) in
      absurd (none-some (sym is ∙ there.1))
  by (Some mark) is = further (nat_le from mark.at) refl where
    further : (b : Bool) → nat_le from mark.at ≡ b → HasListed session from openings places (cond b (Some at) None)
    further true high = w
    further false low =
        let up : at + 1 ≡ suc at = omega arith in
        record {
          found_is =
              ap (λ l. places ++ reverse l)
              (sym (ap (λ n. chosen (is_own_since session from) (λ mark. mark.at) (take n openings)) up
              ∙ none-since session from 0 openings at mark rise is (leb-false from mark.at low)))
              ∙ w.found_is;
          last = record {
            within = omega arith;
            others = λ at link behind less is same. absurd (omega (arith, less));
            own = λ at link last_is is. absurd (none-some last_is);
          };
          within = omega arith;
        }

pub since-twice : (from : ℕ) (openings : List OpeningMark) (next : Option ℕ) → if_since from openings (if_since from openings next) ≡ if_since from openings next
since-twice from openings None = refl
since-twice from openings (Some at) = by (stands_since from (slice_get openings at)) refl where
  by : (b : Bool) → stands_since from (slice_get openings at) ≡ b → if_since from openings (cond b (Some at) None) ≡ cond b (Some at) None
  by true is = ap (λ b. cond b (Some at) None) is
  by false is = refl

pub since-reach : (from : ℕ) (openings : List OpeningMark) (next : Option ℕ) → reach (if_since from openings next) ≤ reach next
since-reach from openings None = omega arith
since-reach from openings (Some at) = by (stands_since from (slice_get openings at)) where
  by : (b : Bool) → reach (cond b (Some at) None) ≤ reach (Some at)
  by true = omega arith
  by false = omega arith

pub since-high : (from : ℕ) (openings : List OpeningMark) (at : ℕ) (mark : OpeningMark) → if_since from openings (Some at) ≡ Some at → slice_get openings at ≡ Some mark → from ≤ mark.at
since-high from openings at mark stays is =
    leb-true from mark.at (by (nat_le from mark.at) (sym (ap (λ o. cond (stands_since from o) (Some at) None) is) ∙ stays)) where
      by : (b : Bool) → cond b (Some at) None ≡ Some at → b ≡ true
      by true h = refl
      by false h = absurd (none-some h)

-- and goes on
pub listed-on : (session from at : ℕ) (openings : List OpeningMark) (mark : OpeningMark) (places more : List ℕ) → AreLinked openings
    → HasListed session from openings places (Some at) → slice_get openings at ≡ Some mark → from ≤ mark.at → more ≡ places ++ mark.at ∷ []
    → HasListed session from openings more mark.before
listed-on session from at openings mark places more linked w is high more_is =
    walk-on session (is_own_since session from) (λ mark. mark.at) (since-own session from) at openings mark places more linked w is
    (λ own. more_is ∙ ap (λ b. places ++ cond (b && true) (mark.at ∷ []) []) (sym (eq-eqb mark.session session own))
    ∙ ap (λ b. places ++ cond (eqb mark.session session && b) (mark.at ∷ []) []) (sym (le-leb from mark.at high)))

-- a session that wasn't entered, and one that left, hear nothing
audience-none : (session : ℕ) (b : Bool) → audience_of session b [] ≡ []
audience-none session true = refl
audience-none session false = refl

last-none : (index : IndexParts) (session : ℕ) → MarksAreChained index → slice_get index.sessions session ≡ None
    → IsLastOf session index.openings None
last-none index session chained is =
    subst (λ o. IsLastOf session index.openings (last_opening o)) is (chained.sessions session)

pub unlisted : (index : IndexParts) (session from : ℕ) → MarksAreChained index → slice_get index.sessions session ≡ None → openings_since index.openings session from ≡ []
unlisted index session from chained is =
    walk-empty session (is_own_since session from) (λ mark. mark.at) (since-own session from) index.openings (last-none index session chained is)

pub unheard : (index : IndexParts) (session place : ℕ) → MarksAreChained index → slice_get index.sessions session ≡ None → audience_at index session place ≡ []
unheard index session place chained is =
    let none : listeners_in index.openings session place ≡ [] =
    walk-empty session (listens_at session place) (λ mark. mark.listener) (listens-own session place) index.openings (last-none index session chained is) in
    ap (λ o. audience_of session (eqb (bit_at (flags_at place o) 0) 1) (map channel_by (cond (has_left_at place o) [] (listeners_in index.openings session place)))) is
    ∙ ap (λ l. audience_of session (eqb (bit_at 0 0) 1) (map channel_by l)) none
    ∙ audience-none session (eqb (bit_at 0 0) 1)

pub unheard-left : (index : IndexParts) (session place : ℕ) (mark : SessionMark) → slice_get index.sessions session ≡ Some mark → is_before mark.left place ≡ true
    → audience_at index session place ≡ []
unheard-left index session place mark is left =
    ap (λ o. audience_of session (eqb (bit_at (flags_at place o) 0) 1) (map channel_by (cond (has_left_at place o) [] (listeners_in index.openings session place)))) is
    ∙ ap (λ b. audience_of session (eqb (bit_at (flags_at place (Some mark)) 0) 1) (map channel_by (cond b [] (listeners_in index.openings session place)))) left
    ∙ audience-none session (eqb (bit_at (flags_at place (Some mark)) 0) 1)

pub heard-there : (index : IndexParts) (session place : ℕ) (mark : SessionMark) → slice_get index.sessions session ≡ Some mark → is_before mark.left place ≡ false
    → audience_of session (eqb (bit_at (flags_at place (Some mark)) 0) 1) (map channel_by (listeners_in index.openings session place)) ≡ audience_at index session place
heard-there index session place mark is stays =
    ap (λ b. audience_of session (eqb (bit_at (flags_at place (Some mark)) 0) 1) (map channel_by (cond b [] (listeners_in index.openings session place)))) (sym stays)
    ∙ ap (λ o. audience_of session (eqb (bit_at (flags_at place o) 0) 1) (map channel_by (cond (has_left_at place o) [] (listeners_in index.openings session place)))) (sym is)
