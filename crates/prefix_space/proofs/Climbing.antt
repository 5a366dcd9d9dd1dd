-- The tree is brought up to date along the way to a lead.
use Rattle.std.proofs.Common.{◌⊎◌, inl, inr, ◌≡◌, ℕ, zero, suc, ◌+◌, ◌<◌, ◌≤◌, Bool, true, false, cond, ◌||◌, Option, None, Some, List, [], ◌∷◌, ◌++◌, length, take, get_or, refl, ap, subst, sym, ◌∙◌, arith}
use Rattle.std.proofs.Math.Dec.{eqb}
use Rattle.std.proofs.lemmas.Bool.{cases_lt, eq-eqb, eqb-true, false_from_ne_true, false≢true, ne_eqb, or_from, or_left, or_parts, or_right}
use Rattle.std.proofs.lemmas.List.{length-take-le}
use Rattle.std.proofs.lemmas.Slice.Eq.{bytes_eq-Decides}
use Rattle.std.specs.Prelude.{MatchOption, is_some, nat_eq, slice_index}
use Rattle.std.specs.List.{AllByRecursion, list_any}
use Rattle.std.specs.Str.{bytes_eq}
use Rattle.pool_history.specs.Spaces.{overlap}
use Rattle.history_laws.proofs.Entrances.{none-some, some-same}
use Rattle.history_laws.specs.Openings.{AreLeadsApart}
use Rattle.prefix_space.specs.declared.nodes.Node.{Node}
use Rattle.prefix_space.specs.Paths.{IsPrefix, IsShort, node_key}
use Rattle.prefix_space.specs.Rows.{all_bytes, any_byte}
use Rattle.prefix_space.specs.Trees.{FitsTree, Nodes, bit, is_full, is_longer, is_root}
use Rattle.prefix_space.specs.Climbs.{AddsWay, AreMarks, FitsUpTo, IsEmptyNode, IsEnd, IsMarked, IsOnWay, IsRenewed, IsStepOnWay, TellsMarks, is_front, or_node}
use Rattle.prefix_space.proofs.Bits.{all-bytes-same, no-byte, no-byte-at}
use Rattle.prefix_space.proofs.Fullness.{full-here, full-inside, full-more, full-none, full-off, full-same}
use Rattle.prefix_space.proofs.Keys.{same-prefix}
use Rattle.prefix_space.proofs.Overlaps.{any-next, any-weaken, clear-front, front-itself, longer-long, longer-overlap, longer-take, node-off, none-overlaps, none-steps, not-front, off-way, take-longer}

-- what an optional node is
pub is-node : {X : Type 0} (o : Option X) → is_some o ≡ true → (x : X) × (o ≡ Some x)
is-node None is = absurd (false≢true is)
is-node (Some x) is = (x, refl)

pub some-node : {X : Type 0} (o : Option X) (x : X) → o ≡ Some x → is_some o ≡ true
some-node o x is = ap is_some is

-- the string is on the way, or not
pub way-off : (l p : List ℕ) → (IsOnWay l (length l) p → ⊥) → is_longer p l ≡ false
way-off l p off =
    false_from_ne_true (is_longer p l) (λ is. off (record { above = longer-long p l is; front = longer-take p l is }))

pub way-longer : (l p : List ℕ) → IsOnWay l (length l) p → is_longer p l ≡ true
way-longer l p on = subst (λ s. is_longer s l ≡ true) (sym on.front) (take-longer (length p) l on.above)

-- a byte off the way behind a prefix that has a node
pub step-off : (l p : List ℕ) (byte : ℕ) → is_front l p ≡ false → (IsStepOnWay l (length l) p byte → ⊥) → overlap (p ++ byte ∷ []) l ≡ false
step-off l p byte front off = off-way p l byte front (λ below is. off (record { above = below; front = is }))

-- whether a prefix is that of a level of the way
pub same-or-not : (p q : List ℕ) → (p ≡ q) ⊎ (p ≡ q → ⊥)
same-or-not p q = by_test (bytes_eq p q) refl where
  by_test : (b : Bool) → bytes_eq p q ≡ b → (p ≡ q) ⊎ (p ≡ q → ⊥)
  by_test true is = inl ((bytes_eq-Decides p q).0 is)
  by_test false is = inr (λ same. false≢true (sym is ∙ (bytes_eq-Decides p q).1 same))

-- nodes for all prefixes of a lead that is free: the tree fits once the lead is held, but for its way
pub take-start : (held : List (List ℕ)) (nodes made : Nodes) (l : List ℕ) → FitsTree held nodes → IsShort l → list_any (overlap l) held ≡ false
    → AddsWay l (length l) nodes made → FitsUpTo l (length l) (l ∷ held) made
take-start held nodes made l fits short free adds = record { way = way; there = there; bits = bits } where
  root_is : (p : List ℕ) → IsPrefix p → nodes p ≡ None → 0 < length p
  root_is [] prefix none = absurd (false≢true (sym (ap is_some none) ∙ fits.there [] prefix))
  root_is (x ∷ p) prefix none = omega arith

  longer_none : (p : List ℕ) → IsPrefix p → nodes p ≡ None → list_any (is_longer p) held ≡ false
  longer_none p prefix none =
      (or_parts (is_root p) (list_any (is_longer p) held) (sym (fits.there p prefix) ∙ ap is_some none)).1

  front_off : (p : List ℕ) (node : Node) → IsPrefix p → nodes p ≡ Some node → is_front l p ≡ false
  front_off [] node prefix is = not-front l [] short.some
  front_off (x ∷ p) node prefix is =
      node-off l (x ∷ p) held short.some free
      (or_right (is_longer (x ∷ p) l) (list_any (is_longer (x ∷ p)) held) (sym (fits.there (x ∷ p) prefix) ∙ some-node (nodes (x ∷ p)) node is))

  way_by : (p : List ℕ) → IsPrefix p → IsOnWay l (length l) p → (o : Option Node) → nodes p ≡ o → is_some (made p) ≡ true
  way_by p prefix on (Some node) is = some-node (made p) node (adds.kept p node prefix is)
  way_by p prefix on None is =
      let new : (node : Node) × (made p ≡ Some node) × IsEmptyNode node = adds.made p prefix is (root_is p prefix is) on in
      some-node (made p) new.0 new.1

  way : (p : List ℕ) → IsPrefix p → IsOnWay l (length l) p → is_some (made p) ≡ true
  way p prefix on = way_by p prefix on (nodes p) refl

  same_by : (p : List ℕ) → IsPrefix p → (IsOnWay l (length l) p → ⊥) → (o : Option Node) → nodes p ≡ o → made p ≡ nodes p
  same_by p prefix off (Some node) is = adds.kept p node prefix is ∙ sym is
  same_by p prefix off None is = adds.absent p prefix is (λ some on. off on) ∙ sym is

  there : (p : List ℕ) → IsPrefix p → (IsOnWay l (length l) p → ⊥) → is_some (made p) ≡ is_root p || (is_longer p l || list_any (is_longer p) held)
  there p prefix off =
      ap is_some (same_by p prefix off (nodes p) refl) ∙ fits.there p prefix
      ∙ sym (ap (λ e. is_root p || (e || list_any (is_longer p) held)) (way-off l p off))

  new_bits : (p : List ℕ) (node : Node) (more byte : ℕ) → IsPrefix p → nodes p ≡ None → made p ≡ Some node → length p + more < 4 → byte < 256
      → (IsStepOnWay l (length l) p byte → ⊥) → (b : Bool) → is_longer p l ≡ b → bit node (length p + more) byte ≡ is_full more (p ++ byte ∷ []) (l ∷ held)
  new_bits p node more byte prefix none is within below off true on =
      let is_on : IsOnWay l (length l) p = record { above = longer-long p l on; front = longer-take p l on } in
      let new : (node : Node) × (made p ≡ Some node) × IsEmptyNode node = adds.made p prefix none (root_is p prefix none) is_on in
      let same : node ≡ new.0 = some-same (sym is ∙ new.1) in
      let apart : overlap (p ++ byte ∷ []) l ≡ false = step-off l p byte (not-front l p (longer-long p l on)) off in
      let clear : list_any (λ m. is_front m p) held ≡ false =
      subst (λ s. list_any (λ m. is_front m s) held ≡ false) (sym (longer-take p l on)) (clear-front l (length p) held free) in
      let others : list_any (overlap (p ++ byte ∷ [])) held ≡ false = none-steps p byte held (longer_none p prefix none) clear in
      ap (λ n. bit n (length p + more) byte) same ∙ new.2 (length p + more) byte within below
      ∙ sym (full-none more (p ++ byte ∷ []) (l ∷ held) (or_from (overlap (p ++ byte ∷ []) l) (list_any (overlap (p ++ byte ∷ [])) held) apart others))
  new_bits p node more byte prefix none is within below off false on =
      absurd (none-some (sym (adds.absent p prefix none (λ some on'. false≢true (sym on ∙ way-longer l p on'))) ∙ is))

  bits_by : (p : List ℕ) (node : Node) (more byte : ℕ) → IsPrefix p → made p ≡ Some node → length p + more < 4 → byte < 256
      → (IsStepOnWay l (length l) p byte → ⊥) → (o : Option Node) → nodes p ≡ o → bit node (length p + more) byte ≡ is_full more (p ++ byte ∷ []) (l ∷ held)
  bits_by p node more byte prefix is within below off None was = new_bits p node more byte prefix was is within below off (is_longer p l) refl
  bits_by p node more byte prefix is within below off (Some old) was =
      let same : node ≡ old = some-same (sym is ∙ adds.kept p old prefix was) in
      ap (λ n. bit n (length p + more) byte) same ∙ fits.bits p old more byte prefix was within below
      ∙ sym (full-off more (p ++ byte ∷ []) l held (step-off l p byte (front_off p old prefix was) off))

  bits : (p : List ℕ) (node : Node) (more byte : ℕ) → IsPrefix p → made p ≡ Some node → length p + more < 4 → byte < 256
      → (IsStepOnWay l (length l) p byte → ⊥) → bit node (length p + more) byte ≡ is_full more (p ++ byte ∷ []) (l ∷ held)
  bits p node more byte prefix is within below off = bits_by p node more byte prefix is within below off (nodes p) refl

-- a lead is held no more: the tree fits what is left, but for the lead's way
pub give-start : (held rest : List (List ℕ)) (nodes : Nodes) (l : List ℕ) → FitsTree held nodes → IsShort l
    → ((f : List ℕ → Bool) → list_any f held ≡ list_any f (l ∷ rest)) → list_any (overlap l) rest ≡ false → FitsUpTo l (length l) rest nodes
give-start held rest nodes l fits short same free = record { way = way; there = there; bits = bits } where
  there_is : (p : List ℕ) → IsPrefix p → is_some (nodes p) ≡ is_root p || (is_longer p l || list_any (is_longer p) rest)
  there_is p prefix = fits.there p prefix ∙ ap (λ e. is_root p || e) (same (is_longer p))

  way : (p : List ℕ) → IsPrefix p → IsOnWay l (length l) p → is_some (nodes p) ≡ true
  way p prefix on =
      there_is p prefix
      ∙ or_right (is_root p) (is_longer p l || list_any (is_longer p) rest) (or_left (is_longer p l) (list_any (is_longer p) rest) (way-longer l p on))

  there : (p : List ℕ) → IsPrefix p → (IsOnWay l (length l) p → ⊥) → is_some (nodes p) ≡ is_root p || list_any (is_longer p) rest
  there p prefix off = there_is p prefix ∙ ap (λ e. is_root p || (e || list_any (is_longer p) rest)) (way-off l p off)

  front_off : (p : List ℕ) (node : Node) → IsPrefix p → nodes p ≡ Some node → is_front l p ≡ false
  front_off [] node prefix is = not-front l [] short.some
  front_off (x ∷ p) node prefix is =
      node-off l (x ∷ p) rest short.some free (sym (there_is (x ∷ p) prefix) ∙ some-node (nodes (x ∷ p)) node is)

  bits : (p : List ℕ) (node : Node) (more byte : ℕ) → IsPrefix p → nodes p ≡ Some node → length p + more < 4 → byte < 256
      → (IsStepOnWay l (length l) p byte → ⊥) → bit node (length p + more) byte ≡ is_full more (p ++ byte ∷ []) rest
  bits p node more byte prefix is within below off =
      fits.bits p node more byte prefix is within below
      ∙ full-same more (p ++ byte ∷ []) held (l ∷ rest) (λ t. same (overlap ((p ++ byte ∷ []) ++ t)))
      ∙ full-off more (p ++ byte ∷ []) l rest (step-off l p byte (front_off p node prefix is) off)

-- the end of the way
pub held-end : (held : List (List ℕ)) (l : List ℕ) → AllByRecursion IsShort held → IsShort l → list_any (overlap l) held ≡ false → IsEnd l true (l ∷ held)
held-end held l short short-l free = record {
  short = (short-l, short);
  each = short-l.each;
  full = λ more. full-inside more l (l ∷ held) (or_left (is_front l l) (list_any (λ m. is_front m l) held) (front-itself l));
  clear = λ level below.
      or_from (is_front l (take level l)) (list_any (λ m. is_front m (take level l)) held)
      (not-front l (take level l) (let long : length (take level l) ≡ level = length-take-le level l (omega (arith, below)) in omega (arith, long, below)))
      (clear-front l level held free);
}

pub given-end : (held : List (List ℕ)) (l : List ℕ) → AllByRecursion IsShort held → IsShort l → list_any (overlap l) held ≡ false → IsEnd l false held
given-end held l short short-l free = record {
  short = short;
  each = short-l.each;
  full = λ more. full-none more l held free;
  clear = λ level below. clear-front l level held free;
}

-- a level of the way
pub record IsLevel (l : List ℕ) (j : ℕ) (p : List ℕ) : Type 0 where
  pub is : p ≡ take j l
  pub long : length p ≡ j
  pub prefix : IsPrefix p
  pub next : p ++ slice_index l j ∷ [] ≡ take (suc j) l

all-take : (k : ℕ) (l : List ℕ) → AllByRecursion (λ byte. byte < 256) l → AllByRecursion (λ byte. byte < 256) (take k l)
all-take zero l each = tt
all-take (suc k) [] each = tt
all-take (suc k) (x ∷ l) each = (each.0, all-take k l each.1)

take-next : (k : ℕ) (l : List ℕ) → k < length l → take k l ++ slice_index l k ∷ [] ≡ take (suc k) l
take-next k [] below = absurd (omega (arith, below))
take-next zero (x ∷ l) below = refl
take-next (suc k) (x ∷ l) below = ap (λ s. x ∷ s) (take-next k l (omega (arith, below)))

pub is-level : (l : List ℕ) (j : ℕ) → j < length l → length l ≤ 4 → AllByRecursion (λ byte. byte < 256) l → IsLevel l j (take j l)
is-level l j below most each =
    let long : length (take j l) ≡ j = length-take-le j l (omega (arith, below)) in
    record {
      is = refl;
      long = long;
      prefix = record { most = omega (arith, long, below, most); each = all-take j l each };
      next = take-next j l below;
    }

-- the last of two bytes behind a string
last-same : (p q : List ℕ) (a b : ℕ) → length p ≡ length q → p ++ a ∷ [] ≡ q ++ b ∷ [] → (p ≡ q) × (a ≡ b)
last-same [] [] a b long same = (refl, cc)
last-same [] (y ∷ q) a b long same = absurd (omega (arith, long))
last-same (x ∷ p) [] a b long same = absurd (omega (arith, long))
last-same (x ∷ p) (y ∷ q) a b long same =
    let heads : x ≡ y = cc in
    let tails : p ++ a ∷ [] ≡ q ++ b ∷ [] = cc in
    let rest : (p ≡ q) × (a ≡ b) = last-same p q a b (omega (arith, long)) tails in
    (ap (λ n. n ∷ p) heads ∙ ap (λ s. y ∷ s) rest.0, rest.1)

-- where nothing goes on from a prefix, its row of the next byte is empty, and the other way round
pub record CountsLonger (held : List (List ℕ)) (p : List ℕ) (node : Node) : Type 0 where
  pub some : any_byte (bit node (length p)) ≡ true → list_any (is_longer p) held ≡ true
  pub none : any_byte (bit node (length p)) ≡ false → list_any (is_longer p) held ≡ false

counts-longer : (held : List (List ℕ)) (p : List ℕ) (node : Node) → AllByRecursion IsShort held → list_any (λ m. is_front m p) held ≡ false
    → ((byte : ℕ) → byte < 256 → bit node (length p) byte ≡ is_full zero (p ++ byte ∷ []) held) → CountsLonger held p node
counts-longer held p node short clear bits = record { some = some (list_any (is_longer p) held) refl; none = none (list_any (is_longer p) held) refl } where
  some : (b : Bool) → list_any (is_longer p) held ≡ b → any_byte (bit node (length p)) ≡ true → list_any (is_longer p) held ≡ true
  some true is any = is
  some false is any =
      absurd (false≢true (sym (no-byte (bit node (length p))
      (λ byte below. bits byte below ∙ full-here (p ++ byte ∷ []) held false (none-steps p byte held is clear))) ∙ any))

  none : (b : Bool) → list_any (is_longer p) held ≡ b → any_byte (bit node (length p)) ≡ false → list_any (is_longer p) held ≡ false
  none false is empty = is
  none true is empty =
      let next : (c : ℕ) × (c < 256) × (list_any (overlap (p ++ c ∷ [])) held ≡ true) = any-next p held short is in
      absurd (false≢true (sym (no-byte-at (bit node (length p)) next.0 empty next.1) ∙ bits next.0 next.1 ∙ full-here (p ++ next.0 ∷ []) held true next.2))

-- a level up
pub record IsUp (l : List ℕ) (j : ℕ) (held : List (List ℕ)) (new : Nodes) (told : List Bool) : Type 0 where
  pub fits : FitsUpTo l j held new
  pub marks : (i : ℕ) → suc i ≡ j → AreMarks told i (take j l) held

pub climb-step : (l : List ℕ) (j : ℕ) (is_held : Bool) (held : List (List ℕ)) (nodes new : Nodes) (marks told : List Bool) → j < length l → length l ≤ 4
    → IsEnd l is_held held → FitsUpTo l (suc j) held nodes → AreMarks marks j (take (suc j) l) held
    → IsRenewed (take j l) (slice_index l j) marks nodes new told → IsUp l j held new told
climb-step l j is_held held nodes new marks told below most end fits are r = by_node (nodes (take j l)) refl where
  at : IsLevel l j (take j l)
  at = is-level l j below most end.each

  clear : list_any (λ m. is_front m (take j l)) held ≡ false
  clear = end.clear j below

  -- what is off the way up to this level was off the way up to the next
  way_up : (q : List ℕ) → IsOnWay l j q → IsOnWay l (suc j) q
  way_up q on = let above : length q < j = on.above in record { above = omega (arith, above); front = on.front }

  not_level : (q : List ℕ) → IsOnWay l j q → q ≡ take j l → ⊥
  not_level q on same =
      let above : length q < j = on.above in
      let long : length (take j l) ≡ j = at.long in
      let as_long : length q ≡ length (take j l) = ap length same in
      omega (arith, above, long, as_long)

  off_up : (q : List ℕ) → (IsOnWay l j q → ⊥) → (q ≡ take j l → ⊥) → IsOnWay l (suc j) q → ⊥
  off_up q off other on = by_length (cases_lt (length q) j) where
    by_length : (length q < j) ⊎ (j ≤ length q) → ⊥
    by_length (inl above) = off (record { above = above; front = on.front })
    by_length (inr from) =
        let above : length q < suc j = on.above in
        let here : length q ≡ j = omega (arith, above, from) in
        other (on.front ∙ ap (λ n. take n l) here)

  step_up : (q : List ℕ) (byte : ℕ) → (IsStepOnWay l j q byte → ⊥) → (q ≡ take j l → byte ≡ slice_index l j → ⊥) → IsStepOnWay l (suc j) q byte → ⊥
  step_up q byte off other on = by_length (cases_lt (length q) j) where
    by_length : (length q < j) ⊎ (j ≤ length q) → ⊥
    by_length (inl above) = off (record { above = above; front = on.front })
    by_length (inr from) =
        let above : length q < suc j = on.above in
        let here : length q ≡ j = omega (arith, above, from) in
        let same : (q ≡ take j l) × (byte ≡ slice_index l j) =
        last-same q (take j l) byte (slice_index l j) (here ∙ sym at.long) (on.front ∙ ap (λ n. take (suc n) l) here ∙ sym at.next) in
        other same.0 same.1

  -- the bits of the renewed node are right
  renewed_bits : (node renewed : Node) → nodes (take j l) ≡ Some node → IsMarked node (slice_index l j) marks renewed
      → (more byte : ℕ) → j + more < 4 → byte < 256 → bit renewed (j + more) byte ≡ is_full more (take j l ++ byte ∷ []) held
  renewed_bits node renewed is marked more byte within small = marked (j + more) byte within small ∙ by_test (eqb (slice_index l j) byte) refl where
    by_test : (b : Bool) → eqb (slice_index l j) byte ≡ b
        → cond (eqb (slice_index l j) byte) (get_or marks (j + more) false) (bit node (j + more) byte) ≡ is_full more (take j l ++ byte ∷ []) held
    by_test true same =
        ap (λ b. cond b (get_or marks (j + more) false) (bit node (j + more) byte)) same ∙ are more within
        ∙ ap (λ s. is_full more s held) (sym at.next ∙ ap (λ b. take j l ++ b ∷ []) (eqb-true (slice_index l j) byte same))
    by_test false other =
        ap (λ b. cond b (get_or marks (j + more) false) (bit node (j + more) byte)) other
        ∙ ap (λ n. bit node (n + more) byte) (sym at.long)
        ∙ fits.bits (take j l) node more byte at.prefix is (subst (λ n. n + more < 4) (sym at.long) within) small
        (step_up (take j l) byte
        (λ on. let above : length (take j l) < j = on.above in let long : length (take j l) ≡ j = at.long in omega (arith, above, long))
        (λ same is-last. false≢true (sym other ∙ eq-eqb (slice_index l j) byte (sym is-last))))

  others_way : (q : List ℕ) → IsPrefix q → IsOnWay l j q → is_some (new q) ≡ true
  others_way q prefix on = ap is_some (r.others q prefix (not_level q on)) ∙ fits.way q prefix (way_up q on)

  others_there : (q : List ℕ) → IsPrefix q → (IsOnWay l j q → ⊥) → (q ≡ take j l → ⊥) → is_some (new q) ≡ is_root q || list_any (is_longer q) held
  others_there q prefix off other = ap is_some (r.others q prefix other) ∙ fits.there q prefix (off_up q off other)

  others_bits : (q : List ℕ) (node : Node) (more byte : ℕ) → IsPrefix q → new q ≡ Some node → length q + more < 4 → byte < 256
      → (IsStepOnWay l j q byte → ⊥) → (q ≡ take j l → ⊥) → bit node (length q + more) byte ≡ is_full more (q ++ byte ∷ []) held
  others_bits q node more byte prefix is within small off other =
      fits.bits q node more byte prefix (sym (r.others q prefix other) ∙ is) within small (step_up q byte off (λ same last. other same))

  gone : (node renewed : Node) → nodes (take j l) ≡ Some node → IsMarked node (slice_index l j) marks renewed → new (take j l) ≡ None
      → is_root (take j l) ≡ false → any_byte (bit renewed (length (take j l))) ≡ false → ((i : ℕ) → get_or told i false ≡ false) → IsUp l j held new told
  gone node renewed is marked none root empty tells =
      let counts : CountsLonger held (take j l) renewed =
      counts-longer held (take j l) renewed end.short clear
      (λ byte small. ap (λ n. bit renewed n byte) (at.long ∙ (omega arith)) ∙ renewed_bits node renewed is marked 0 byte (omega (arith, below, most)) small) in
      let longer : list_any (is_longer (take j l)) held ≡ false = counts.none empty in
      record {
        fits = record {
          way = others_way;
          there = λ q prefix off. there_by q prefix off longer (same-or-not q (take j l));
          bits = λ q n more byte prefix there within small off.
              others_bits q n more byte prefix there within small off (λ same. none-some (sym none ∙ ap new (sym same) ∙ there));
        };
        marks = λ i up more within.
            tells (i + more) ∙ sym (full-none more (take j l) held (none-overlaps (take j l) held longer clear));
      } where
        there_by : (q : List ℕ) → IsPrefix q → (IsOnWay l j q → ⊥) → list_any (is_longer (take j l)) held ≡ false → (q ≡ take j l) ⊎ (q ≡ take j l → ⊥)
            → is_some (new q) ≡ is_root q || list_any (is_longer q) held
        there_by q prefix off longer (inl same) =
            ap (λ s. is_some (new s)) same ∙ ap is_some none
            ∙ sym (ap (λ s. is_root s || list_any (is_longer s) held) same ∙ or_from (is_root (take j l)) (list_any (is_longer (take j l)) held) root longer)
        there_by q prefix off longer (inr other) = others_there q prefix off other

  stays : (node renewed left : Node) → nodes (take j l) ≡ Some node → IsMarked node (slice_index l j) marks renewed → new (take j l) ≡ Some left → left ≡ renewed
      → is_root (take j l) || any_byte (bit renewed (length (take j l))) ≡ true → TellsMarks renewed (length (take j l)) told → IsUp l j held new told
  stays node renewed left is marked some same_node rest tells =
      let counts : CountsLonger held (take j l) renewed =
      counts-longer held (take j l) renewed end.short clear
      (λ byte small. ap (λ n. bit renewed n byte) (at.long ∙ (omega arith)) ∙ renewed_bits node renewed is marked 0 byte (omega (arith, below, most)) small) in
      record {
        fits = record {
          way = others_way;
          there = λ q prefix off. there_by counts q prefix off (same-or-not q (take j l));
          bits = λ q n more byte prefix there within small off. bits_by q n more byte prefix there within small off (same-or-not q (take j l));
        };
        marks = λ i up more within. marks_by counts i more up within;
      } where
        longer_by : CountsLonger held (take j l) renewed → (b : Bool) → is_root (take j l) ≡ b → b || list_any (is_longer (take j l)) held ≡ true
        longer_by counts true root = refl
        longer_by counts false root = counts.some (sym (ap (λ e. e || any_byte (bit renewed (length (take j l)))) root) ∙ rest)

        there_by : CountsLonger held (take j l) renewed → (q : List ℕ) → IsPrefix q → (IsOnWay l j q → ⊥) → (q ≡ take j l) ⊎ (q ≡ take j l → ⊥)
            → is_some (new q) ≡ is_root q || list_any (is_longer q) held
        there_by counts q prefix off (inl same) =
            ap (λ s. is_some (new s)) same ∙ ap is_some some
            ∙ sym (ap (λ s. is_root s || list_any (is_longer s) held) same ∙ longer_by counts (is_root (take j l)) refl)
        there_by counts q prefix off (inr other) = others_there q prefix off other

        bits_by : (q : List ℕ) (n : Node) (more byte : ℕ) → IsPrefix q → new q ≡ Some n → length q + more < 4 → byte < 256
            → (IsStepOnWay l j q byte → ⊥) → (q ≡ take j l) ⊎ (q ≡ take j l → ⊥) → bit n (length q + more) byte ≡ is_full more (q ++ byte ∷ []) held
        bits_by q n more byte prefix there within small off (inl same) =
            let is_left : n ≡ renewed = some-same (sym there ∙ ap new same ∙ some) ∙ same_node in
            let level : length q ≡ j = ap length same ∙ at.long in
            ap (λ m. bit m (length q + more) byte) is_left ∙ ap (λ k. bit renewed (k + more) byte) level
            ∙ renewed_bits node renewed is marked more byte (subst (λ k. k + more < 4) level within) small
            ∙ ap (λ s. is_full more (s ++ byte ∷ []) held) (sym same)
        bits_by q n more byte prefix there within small off (inr other) = others_bits q n more byte prefix there within small off other

        any_overlap : list_any (is_longer (take j l)) held ≡ true → list_any (overlap (take j l)) held ≡ true
        any_overlap any = any-weaken (is_longer (take j l)) (overlap (take j l)) (λ m h. longer-overlap (take j l) m h) held any

        root_not : (i : ℕ) (s : List ℕ) → suc i ≡ length s → is_root s ≡ false
        root_not i [] up = absurd (omega (arith, up))
        root_not i (x ∷ s) up = refl

        marks_by : CountsLonger held (take j l) renewed → (i more : ℕ) → suc i ≡ j → i + more < 4 → get_or told (i + more) false ≡ is_full more (take j l) held
        marks_by counts i zero up within =
            let level : suc (i + 0) ≡ length (take j l) = omega (arith, up) ∙ sym at.long in
            let longer : list_any (is_longer (take j l)) held ≡ true =
            counts.some (sym (ap (λ e. e || any_byte (bit renewed (length (take j l)))) (root_not i (take j l) (up ∙ sym at.long))) ∙ rest) in
            tells (i + 0) within ∙ or_left (eqb (suc (i + 0)) (length (take j l))) (all_bytes (bit renewed (i + 0))) (eq-eqb (suc (i + 0)) (length (take j l)) level)
            ∙ sym (full-here (take j l) held true (any_overlap longer))
        marks_by counts i (suc more) up within =
            let level : length (take j l) ≡ suc i = at.long ∙ sym up in
            let place : i + suc more ≡ j + more = omega (arith, up) in
            tells (i + suc more) within
            ∙ ap (λ e. e || all_bytes (bit renewed (i + suc more))) (ne_eqb (suc (i + suc more)) (length (take j l)) (λ same. omega (arith, same, level)))
            ∙ ap (λ k. all_bytes (bit renewed k)) place
            ∙ all-bytes-same (bit renewed (j + more)) (λ byte. is_full more (take j l ++ byte ∷ []) held)
            (λ byte small. renewed_bits node renewed is marked more byte (subst (λ k. k < 4) place within) small)
            ∙ sym (full-more more (take j l) held)

  by_left : (node renewed : Node) → nodes (take j l) ≡ Some node → IsMarked node (slice_index l j) marks renewed → (o : Option Node) → new (take j l) ≡ o
      → MatchOption o ((is_root (take j l) ≡ false) × (any_byte (bit renewed (length (take j l))) ≡ false) × ((i : ℕ) → get_or told i false ≡ false))
      (λ left. (left ≡ renewed) × (is_root (take j l) || any_byte (bit renewed (length (take j l))) ≡ true) × TellsMarks renewed (length (take j l)) told)
      → IsUp l j held new told
  by_left node renewed is marked None now h = gone node renewed is marked now h.0 h.1 h.2
  by_left node renewed is marked (Some left) now h = stays node renewed left is marked now h.0 h.1 h.2

  by_node : (o : Option Node) → nodes (take j l) ≡ o → IsUp l j held new told
  by_node None is =
      absurd (false≢true (sym (ap is_some is) ∙ fits.way (take j l) at.prefix
      (let long : length (take j l) ≡ j = at.long in record { above = omega (arith, long); front = ap (λ n. take n l) (sym long) })))
  by_node (Some node) is =
      let h = r.here node is in
      by_left node h.0 is h.1 (new (take j l)) refl h.2

-- at the root the tree fits
pub fits-up : (l : List ℕ) (held : List (List ℕ)) (nodes : Nodes) → AllByRecursion IsShort held → AreLeadsApart held → FitsUpTo l 0 held nodes → FitsTree held nodes
fits-up l held nodes short apart up = record {
  short = short;
  apart = apart;
  there = λ p prefix. up.there p prefix (λ on. let above : length p < 0 = on.above in omega (arith, above));
  bits = λ p node more byte prefix is within below.
      up.bits p node more byte prefix is within below (λ on. let above : length p < 0 = on.above in omega (arith, above));
}

-- one more node of the way
pub way-start : (l : List ℕ) (nodes : Nodes) → AddsWay l 1 nodes nodes
way-start l nodes = record {
  kept = λ p node prefix is. is;
  made = λ p prefix none some on. absurd (let above : length p < 1 = on.above in omega (arith, some, above));
  absent = λ p prefix none off. none;
}

pub way-step : (l : List ℕ) (j : ℕ) (old now new : Nodes) (empty : Node) → 1 ≤ j → j < length l → length l ≤ 4 → AllByRecursion (λ byte. byte < 256) l
    → IsEmptyNode empty → ((p : List ℕ) → new p ≡ cond (nat_eq (node_key (take j l)) (node_key p)) (or_node empty (now p)) (now p))
    → AddsWay l j old now → AddsWay l (j + 1) old new
way-step l j old now new empty some below most each is_empty puts adds = record { kept = kept; made = made; absent = absent } where
  at : IsLevel l j (take j l)
  at = is-level l j below most each

  kept_by : (p : List ℕ) (node : Node) (b : Bool) → now p ≡ Some node → cond b (or_node empty (now p)) (now p) ≡ Some node
  kept_by p node true is = ap (or_node empty) is
  kept_by p node false is = is

  stays : (p : List ℕ) (node : Node) → now p ≡ Some node → new p ≡ Some node
  stays p node is = puts p ∙ kept_by p node (nat_eq (node_key (take j l)) (node_key p)) is

  kept : (p : List ℕ) (node : Node) → IsPrefix p → old p ≡ Some node → new p ≡ Some node
  kept p node prefix is = stays p node (adds.kept p node prefix is)

  on_before : (p : List ℕ) → IsOnWay l (j + 1) p → (p ≡ take j l → ⊥) → IsOnWay l j p
  on_before p on other = by_length (cases_lt (length p) j) where
    by_length : (length p < j) ⊎ (j ≤ length p) → IsOnWay l j p
    by_length (inl above) = record { above = above; front = on.front }
    by_length (inr from) =
        let above : length p < j + 1 = on.above in
        let here : length p ≡ j = omega (arith, above, from) in
        absurd (other (on.front ∙ ap (λ n. take n l) here))

  not_before : (p : List ℕ) → p ≡ take j l → IsOnWay l j p → ⊥
  not_before p same on =
      let above : length p < j = on.above in
      let long : length p ≡ j = ap length same ∙ at.long in
      omega (arith, above, long)

  made_by : (p : List ℕ) → IsPrefix p → old p ≡ None → 0 < length p → IsOnWay l (j + 1) p → (p ≡ take j l) ⊎ (p ≡ take j l → ⊥)
      → (node : Node) × (new p ≡ Some node) × IsEmptyNode node
  made_by p prefix none there on (inl same) =
      let missing : now p ≡ None = adds.absent p prefix none (λ h on'. not_before p same on') in (
        empty,
        puts p ∙ ap (λ b. cond b (or_node empty (now p)) (now p)) (eq-eqb (node_key (take j l)) (node_key p) (ap node_key (sym same))) ∙ ap (or_node empty) missing,
        is_empty,
      )
  made_by p prefix none there on (inr other) =
      let before : (node : Node) × (now p ≡ Some node) × IsEmptyNode node = adds.made p prefix none there (on_before p on other) in
      (before.0, stays p before.0 before.1, before.2)

  made : (p : List ℕ) → IsPrefix p → old p ≡ None → 0 < length p → IsOnWay l (j + 1) p → (node : Node) × (new p ≡ Some node) × IsEmptyNode node
  made p prefix none there on = made_by p prefix none there on (same-or-not p (take j l))

  absent : (p : List ℕ) → IsPrefix p → old p ≡ None → (0 < length p → IsOnWay l (j + 1) p → ⊥) → new p ≡ None
  absent p prefix none off =
      let other : p ≡ take j l → ⊥ = λ same.
      let long : length p ≡ j = ap length same ∙ at.long in
      off (omega (arith, long, some)) (record { above = omega (arith, long); front = same ∙ ap (λ n. take n l) (sym long) }) in
      puts p
      ∙ ap (λ b. cond b (or_node empty (now p)) (now p)) (ne_eqb (node_key (take j l)) (node_key p) (λ same. other (sym (same-prefix (take j l) p at.prefix prefix same))))
      ∙ adds.absent p prefix none (λ h on. let above : length p < j = on.above in off h (record { above = omega (arith, above); front = on.front }))

-- a node is put in its place, or goes
abbrev LeavesNode : List ℕ → List Bool → Node → Option Node → Type 0
LeavesNode p told renewed left = MatchOption left
    ((is_root p ≡ false) × (any_byte (bit renewed (length p)) ≡ false) × ((at : ℕ) → get_or told at false ≡ false))
    (λ node. (node ≡ renewed) × (is_root p || any_byte (bit renewed (length p)) ≡ true) × TellsMarks renewed (length p) told)

renewed-with : (p : List ℕ) (byte : ℕ) (marks told : List Bool) (old new : Nodes) (node renewed : Node) (left : Option Node) → IsPrefix p → old p ≡ Some node
    → IsMarked node byte marks renewed → ((q : List ℕ) → new q ≡ cond (nat_eq (node_key p) (node_key q)) left (old q)) → LeavesNode p told renewed left
    → IsRenewed p byte marks old new told
renewed-with p byte marks told old new node renewed left prefix is marked puts leaves = record { others = others; here = here } where
  others : (q : List ℕ) → IsPrefix q → (q ≡ p → ⊥) → new q ≡ old q
  others q prefix' other =
      puts q ∙ ap (λ b. cond b left (old q)) (ne_eqb (node_key p) (node_key q) (λ same. other (sym (same-prefix p q prefix prefix' same))))

  now : new p ≡ left
  now = puts p ∙ ap (λ b. cond b left (old p)) (eq-eqb (node_key p) (node_key p) refl)

  here : (n : Node) → old p ≡ Some n → (renewed : Node) × IsMarked n byte marks renewed × LeavesNode p told renewed (new p)
  here n was = (
    renewed,
    subst (λ m. IsMarked m byte marks renewed) (some-same (sym is ∙ was)) marked,
    subst (LeavesNode p told renewed) (sym now) leaves,
  )

root-is : (s : List ℕ) → nat_eq (length s) 0 ≡ is_root s
root-is [] = refl
root-is (x ∷ s) = ne_eqb (length (x ∷ s)) 0 (λ same. omega (arith, same))

pub renewed-kept : (p : List ℕ) (byte : ℕ) (marks told : List Bool) (old new : Nodes) (node renewed : Node) → IsPrefix p → old p ≡ Some node
    → IsMarked node byte marks renewed → ((q : List ℕ) → new q ≡ cond (nat_eq (node_key p) (node_key q)) (Some renewed) (old q))
    → nat_eq (length p) 0 || any_byte (bit renewed (length p)) ≡ true → TellsMarks renewed (length p) told → IsRenewed p byte marks old new told
renewed-kept p byte marks told old new node renewed prefix is marked puts stays tells =
    renewed-with p byte marks told old new node renewed (Some renewed) prefix is marked puts
    (refl, ap (λ e. e || any_byte (bit renewed (length p))) (sym (root-is p)) ∙ stays, tells)

pub renewed-gone : (p : List ℕ) (byte : ℕ) (marks told : List Bool) (old new : Nodes) (node renewed : Node) → IsPrefix p → old p ≡ Some node
    → IsMarked node byte marks renewed → ((q : List ℕ) → new q ≡ cond (nat_eq (node_key p) (node_key q)) None (old q))
    → nat_eq (length p) 0 || any_byte (bit renewed (length p)) ≡ false → ((at : ℕ) → get_or told at false ≡ false) → IsRenewed p byte marks old new told
renewed-gone p byte marks told old new node renewed prefix is marked puts goes tells =
    let parts : (nat_eq (length p) 0 ≡ false) × (any_byte (bit renewed (length p)) ≡ false) = or_parts (nat_eq (length p) 0) (any_byte (bit renewed (length p))) goes in
    renewed-with p byte marks told old new node renewed None prefix is marked puts (sym (root-is p) ∙ parts.0, parts.1, tells)

pub none-told : (at : ℕ) → get_or (false ∷ false ∷ false ∷ false ∷ []) at false ≡ false
none-told zero = refl
none-told (suc zero) = refl
none-told (suc (suc zero)) = refl
none-told (suc (suc (suc zero))) = refl
none-told (suc (suc (suc (suc at)))) = refl

-- a whole lead
pub take-whole : {X : Type 0} (l : List X) → take (length l) l ≡ l
take-whole [] = refl
take-whole (x ∷ l) = ap (λ s. x ∷ s) (take-whole l)

pub end-up : (l : List ℕ) (is_held : Bool) (held : List (List ℕ)) (nodes : Nodes) (marks : List Bool) → IsEnd l is_held held → FitsUpTo l (length l) held nodes
    → ((at : ℕ) → length l ≤ at + 1 → at < 4 → get_or marks at false ≡ is_held) → IsUp l (length l) held nodes marks
end-up l is_held held nodes marks end fits are = record {
  fits = fits;
  marks = λ i up more within.
      are (i + more) (omega (arith, up)) within ∙ sym (end.full more) ∙ ap (λ s. is_full more s held) (sym (take-whole l));
}

-- the step of the loop over the levels
pub climb-more : (l : List ℕ) (level j byte : ℕ) (is_held : Bool) (held : List (List ℕ)) (path : List ℕ) (nodes new : Nodes) (marks told : List Bool) → level ≡ suc j
    → level ≤ length l → length l ≤ 4 → path ≡ take j l → byte ≡ slice_index l j → IsEnd l is_held held → IsUp l level held nodes marks
    → (IsPrefix path → IsRenewed path byte marks nodes new told) → IsUp l j held new told
climb-more l level j byte is_held held path nodes new marks told next within most is-path is-byte end up renews =
    let below : j < length l = omega (arith, next, within) in
    let at : IsLevel l j (take j l) = is-level l j below most end.each in
    let fits : FitsUpTo l (suc j) held nodes = subst (λ n. FitsUpTo l n held nodes) next up.fits in
    let are : AreMarks marks j (take (suc j) l) held = subst (λ n. AreMarks marks j (take n l) held) next (up.marks j (sym next)) in
    climb-step l j is_held held nodes new marks told below most end fits are
    (subst (λ p. IsRenewed p (slice_index l j) marks nodes new told) is-path
    (subst (λ b. IsRenewed path b marks nodes new told) is-byte (renews (subst IsPrefix (sym is-path) at.prefix))))
