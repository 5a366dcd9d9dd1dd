-- Going down by first zeros finds the lowest free lead.
use Rattle.std.proofs.Common.{◌⊎◌, inl, inr, ◌≡◌, ℕ, zero, suc, ◌+◌, ◌-◌, ◌<◌, ◌≤◌, Bool, true, false, not, None, Some, List, [], ◌∷◌, ◌++◌, length, take, drop, refl, ap, subst, sym, ◌∙◌, arith, length-append}
use Rattle.std.proofs.lemmas.Bool.{false_from_ne_true, false≢true, or_parts}
use Rattle.std.proofs.lemmas.List.{length-drop, length-replicate}
use Rattle.std.specs.Prelude.{is_some, replicate, slice_index}
use Rattle.std.specs.List.{AllByRecursion, list_any}
use Rattle.pool_history.specs.Spaces.{is_free, lowest, overlap}
use Rattle.history_laws.specs.Lowest.{ComesBefore, IsString}
use Rattle.history_laws.proofs.Lowest.{lowest-least}
use Rattle.history_laws.proofs.NotesFit.{all-append}
use Rattle.prefix_space.specs.declared.nodes.Node.{Node}
use Rattle.prefix_space.specs.Paths.{IsPrefix}
use Rattle.prefix_space.specs.Rows.{all_bytes}
use Rattle.prefix_space.specs.Trees.{FitsTree, Nodes, bit, is_full, is_longer, is_root}
use Rattle.prefix_space.specs.Climbs.{is_front}
use Rattle.prefix_space.proofs.Bits.{all-bytes-same}
use Rattle.prefix_space.proofs.Fullness.{full-here, full-inside, full-more, full-strings}
use Rattle.prefix_space.proofs.Overlaps.{none-more, none-overlaps}

-- a search is at a string: what comes before it isn't free, and a lead behind it is
pub record IsOpen (len : ℕ) (held : List (List ℕ)) (path : List ℕ) : Type 0 where
  pub before : (other : List ℕ) → IsString len other → ComesBefore (take (length path) other) path → is_free held other ≡ false
  pub room : (more : ℕ) → length path + more ≡ len → is_root path ≡ false → is_full more path held ≡ false

pub find-start : (len : ℕ) (held : List (List ℕ)) → IsOpen len held []
find-start len held = record {
  before = λ other s before. absurd before;
  room = λ more long root. absurd (false≢true (sym root));
}

-- of two strings one comes before a string and a byte: before the string, or with a lower byte
step-before : (path other : List ℕ) (b : ℕ) → length path < length other → ComesBefore (take (suc (length path)) other) (path ++ b ∷ [])
    → ComesBefore (take (length path) other) path ⊎ ((take (length path) other ≡ path) × (slice_index other (length path) < b))
step-before [] [] b long before = absurd (omega (arith, long))
step-before [] (y ∷ other) b long (inl lower) = inr (refl, lower)
step-before [] (y ∷ other) b long (inr (same, before)) = absurd before
step-before (x ∷ path) [] b long before = absurd (omega (arith, long))
step-before (x ∷ path) (y ∷ other) b long (inl lower) = inl (inl lower)
step-before (x ∷ path) (y ∷ other) b long (inr (same, before)) = by_rest (step-before path other b (omega (arith, long)) before) where
  by_rest : ComesBefore (take (length path) other) path ⊎ ((take (length path) other ≡ path) × (slice_index other (length path) < b))
      → ((y < x) ⊎ ((y ≡ x) × ComesBefore (take (length path) other) path)) ⊎ ((y ∷ take (length path) other ≡ x ∷ path) × (slice_index other (length path) < b))
  by_rest (inl rest) = inl (inr (same, rest))
  by_rest (inr (rest, lower)) = inr (ap (λ n. n ∷ take (length path) other) same ∙ ap (λ s. x ∷ s) rest, lower)

other-split : (k : ℕ) (other : List ℕ) → k < length other → (take k other ++ slice_index other k ∷ []) ++ drop (suc k) other ≡ other
other-split k [] below = absurd (omega (arith, below))
other-split zero (x ∷ other) below = refl
other-split (suc k) (x ∷ other) below = ap (λ s. x ∷ s) (other-split k other (omega (arith, below)))

all-drop : (k : ℕ) (l : List ℕ) → AllByRecursion (λ byte. byte < 256) l → AllByRecursion (λ byte. byte < 256) (drop k l)
all-drop zero l each = each
all-drop (suc k) [] each = tt
all-drop (suc k) (x ∷ l) each = all-drop k l each.1

byte-at : (k : ℕ) (l : List ℕ) → k < length l → AllByRecursion (λ byte. byte < 256) l → slice_index l k < 256
byte-at k [] below each = absurd (omega (arith, below))
byte-at zero (x ∷ l) below each = each.0
byte-at (suc k) (x ∷ l) below each = byte-at k l (omega (arith, below)) each.1

-- one byte further down
pub find-step : (len : ℕ) (held : List (List ℕ)) (nodes : Nodes) (path : List ℕ) (node : Node) (byte : ℕ) → FitsTree held nodes → IsPrefix path
    → nodes path ≡ Some node → length path < len → len ≤ 4 → byte < 256 → bit node (len - 1) byte ≡ false
    → ((lower : ℕ) → lower < byte → bit node (len - 1) lower ≡ true) → IsOpen len held path → IsOpen len held (path ++ byte ∷ [])
find-step len held nodes path node byte fits prefix is above most small zero_bit lower_bits opens = record { before = before; room = room } where
  long : length (path ++ byte ∷ []) ≡ length path + 1
  long = length-append path (byte ∷ [])

  room : (more : ℕ) → length (path ++ byte ∷ []) + more ≡ len → is_root (path ++ byte ∷ []) ≡ false → is_full more (path ++ byte ∷ []) held ≡ false
  room more whole root =
      let place : len - 1 ≡ length path + more = omega (arith, whole, long) in
      sym (fits.bits path node more byte prefix is (omega (arith, whole, long, most)) small) ∙ ap (λ n. bit node n byte) (sym place) ∙ zero_bit

  under : (other : List ℕ) → IsString len other → (take (length path) other ≡ path) × (slice_index other (length path) < byte) → is_free held other ≡ false
  under other s (same, lower) =
      let whole : length other ≡ len = s.long in
      let inside : length path < length other = omega (arith, whole, above) in
      let more : ℕ = len - 1 - length path in
      let place : len - 1 ≡ length path + (len - 1 - length path) = omega (arith, above) in
      let c : ℕ = slice_index other (length path) in
      let full : is_full (len - 1 - length path) (path ++ slice_index other (length path) ∷ []) held ≡ true =
      sym (fits.bits path node (len - 1 - length path) (slice_index other (length path)) prefix is (omega (arith, above, most)) (byte-at (length path) other inside s.each))
      ∙ ap (λ n. bit node n (slice_index other (length path))) (sym place) ∙ lower_bits (slice_index other (length path)) lower in
      let left : length (drop (suc (length path)) other) ≡ length other - suc (length path) = length-drop (suc (length path)) other in
      subst (λ o. is_free held o ≡ false)
      (ap (λ p. (p ++ slice_index other (length path) ∷ []) ++ drop (suc (length path)) other) (sym same) ∙ other-split (length path) other inside)
      (full-strings (len - 1 - length path) (path ++ slice_index other (length path) ∷ []) (drop (suc (length path)) other) held full (omega (arith, left, whole, above))
      (all-drop (suc (length path)) other s.each))

  before : (other : List ℕ) → IsString len other → ComesBefore (take (length (path ++ byte ∷ [])) other) (path ++ byte ∷ []) → is_free held other ≡ false
  before other s comes =
      let whole : length other ≡ len = s.long in
      let next : length (path ++ byte ∷ []) ≡ suc (length path) = omega (arith, long) in
      by_place (step-before path other byte (omega (arith, whole, above)) (subst (λ n. ComesBefore (take n other) (path ++ byte ∷ [])) next comes)) where
        by_place : ComesBefore (take (length path) other) path ⊎ ((take (length path) other ≡ path) × (slice_index other (length path) < byte)) → is_free held other ≡ false
        by_place (inl earlier) = opens.before other s earlier
        by_place (inr lower) = under other s lower

-- a row that is full: only at the root
pub find-none : (len : ℕ) (held : List (List ℕ)) (nodes : Nodes) (path : List ℕ) (node : Node) → FitsTree held nodes → IsPrefix path → nodes path ≡ Some node
    → length path < len → len ≤ 4 → all_bytes (bit node (len - 1)) ≡ true → IsOpen len held path → None ≡ lowest len held
find-none len held nodes path node fits prefix is above most all opens = by_root path refl where
  more : ℕ
  more = len - 1 - length path

  full : is_full (suc (len - 1 - length path)) path held ≡ true
  full =
      let place : length path + (len - 1 - length path) ≡ len - 1 = omega (arith, above) in
      full-more (len - 1 - length path) path held
      ∙ sym (all-bytes-same (bit node (length path + (len - 1 - length path))) (λ byte. is_full (len - 1 - length path) (path ++ byte ∷ []) held)
      (λ byte small. fits.bits path node (len - 1 - length path) byte prefix is (omega (arith, above, most)) small))
      ∙ ap (λ n. all_bytes (bit node n)) place ∙ all

  by_root : (p : List ℕ) → path ≡ p → None ≡ lowest len held
  by_root [] root =
      let whole : suc (len - 1 - length path) ≡ len = let none : length path ≡ 0 = ap length root in omega (arith, above, none) in
      let at_root : is_full len [] held ≡ true = subst (λ n. is_full n [] held ≡ true) whole (subst (λ p. is_full (suc (len - 1 - length path)) p held ≡ true) root full) in
      sym ((lowest-least len held).none.1 (λ lead s. full-strings len [] lead held at_root s.long s.each))
  by_root (x ∷ p) down =
      absurd (false≢true (sym (opens.room (suc (len - 1 - length path)) (omega (arith, above)) (ap is_root down)) ∙ full))

-- zeros come first
zeros-first : (n : ℕ) (other : List ℕ) → ComesBefore other (replicate n 0) → ⊥
zeros-first zero [] before = before
zeros-first zero (x ∷ other) before = before
zeros-first (suc n) [] before = before
zeros-first (suc n) (x ∷ other) (inl lower) = omega (arith, lower)
zeros-first (suc n) (x ∷ other) (inr (same, before)) = zeros-first n other before

before-zeros : (path : List ℕ) (n : ℕ) (other : List ℕ) → ComesBefore other (path ++ replicate n 0) → ComesBefore (take (length path) other) path
before-zeros [] n other before = absurd (zeros-first n other before)
before-zeros (x ∷ path) n [] before = before
before-zeros (x ∷ path) n (y ∷ other) (inl lower) = inl lower
before-zeros (x ∷ path) n (y ∷ other) (inr (same, before)) = inr (same, before-zeros path n other before)

all-zeros : (n : ℕ) → AllByRecursion (λ byte. byte < 256) (replicate n 0)
all-zeros zero = tt
all-zeros (suc n) = (omega arith, all-zeros n)

-- where nothing overlaps the string, it goes on with zeros
pub find-done : (len : ℕ) (held : List (List ℕ)) (path : List ℕ) → AllByRecursion (λ byte. byte < 256) path → length path ≤ len → IsOpen len held path
    → list_any (overlap path) held ≡ false → Some (path ++ replicate (len - length path) 0) ≡ lowest len held
find-done len held path each short opens none =
    let zeros : List ℕ = replicate (len - length path) 0 in
    let long : length (path ++ replicate (len - length path) 0) ≡ length path + length (replicate (len - length path) 0) = length-append path (replicate (len - length path) 0) in
    let rest : length (replicate (len - length path) 0) ≡ len - length path = length-replicate {A = ℕ} (len - length path) 0 in
    sym (((lowest-least len held).found (path ++ replicate (len - length path) 0)).1 (record {
      is_string = record { long = omega (arith, long, rest, short); each = all-append (λ byte. byte < 256) path (replicate (len - length path) 0) each (all-zeros (len - length path)) };
      free = ap not (none-more path (replicate (len - length path) 0) held none);
      least = λ other s before. opens.before other s (before-zeros path (len - length path) other before);
    }))

-- at a whole lead, and where there is no node
pub find-leaf : (len : ℕ) (held : List (List ℕ)) (path : List ℕ) → AllByRecursion (λ byte. byte < 256) path → length path ≡ len → 1 ≤ len → IsOpen len held path
    → Some (path ++ replicate (len - length path) 0) ≡ lowest len held
find-leaf len held path each long some opens =
    find-done len held path each (omega (arith, long)) opens
    (false_from_ne_true (list_any (overlap path) held)
    (λ any. false≢true (sym (opens.room 0 (omega (arith, long)) (not_root path (omega (arith, long, some)))) ∙ full-here path held true any))) where
      not_root : (p : List ℕ) → 1 ≤ length p → is_root p ≡ false
      not_root [] h = absurd (omega (arith, h))
      not_root (x ∷ p) h = refl

pub find-missing : (len : ℕ) (held : List (List ℕ)) (nodes : Nodes) (path : List ℕ) → FitsTree held nodes → IsPrefix path → nodes path ≡ None → length path ≤ len
    → IsOpen len held path → Some (path ++ replicate (len - length path) 0) ≡ lowest len held
find-missing len held nodes path fits prefix none short opens =
    find-done len held path prefix.each short opens
    (none-overlaps path held absent.1
    (false_from_ne_true (list_any (λ m. is_front m path) held)
    (λ front. false≢true (sym (opens.room (len - length path) (omega (arith, short)) absent.0) ∙ full-inside (len - length path) path held front)))) where
      absent : (is_root path ≡ false) × (list_any (is_longer path) held ≡ false)
      absent = or_parts (is_root path) (list_any (is_longer path) held) (sym (fits.there path prefix) ∙ ap is_some none)
