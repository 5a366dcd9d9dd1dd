-- Rows, roots and paths.
use Rattle.std.proofs.Common.{◌≡◌, ℕ, zero, suc, ◌+◌, ◌-◌, ◌*◌, ◌/◌, ◌^◌, ◌<◌, ◌≤◌, inl, inr, List, [], ◌∷◌, ◌++◌, length, get_or, set, drop, take, min, reverse, slice_get, Some, None, refl, ap, sym, ◌∙◌, append_assoc, append-nil, arith}
use Rattle.std.proofs.Math.Nat.{pow-suc}
use Rattle.std.proofs.lemmas.Bool.{cases_lt}
use Rattle.std.proofs.lemmas.Grind.{reverse_onto}
use Rattle.std.proofs.lemmas.List.{drop_all, drop-drop, drop_more, drop-set-lt, length-drop, length-take-le, take-append-drop, take_all, take_more_set}
use Rattle.std.proofs.lemmas.Slice.{drop-put_mid, take-put_mid}
use borrow.Rule.Slice.PartMut.{put_mid}
use Rattle.block_header.specs.Hash.{dsha}
use Rattle.block_header.specs.Root.{root, root_upward}
use Rattle.job_declaration.specs.Laws.{PathsAreShort, PathsLeadToTheRoot}
use Rattle.job_declaration.specs.Tree.{path, path_within, root_within, row_above}

-- a path's first hash is met first
root_upward-push : (id hash : List ℕ) (upward : List (List ℕ))
    → root_upward id (upward ++ hash ∷ []) ≡ root_upward (dsha (id ++ hash)) upward
root_upward-push id hash [] = refl
root_upward-push id hash (last ∷ before) =
    ap (λ below. dsha (below ++ last)) (root_upward-push id hash before)

pub root-cons : (id hash : List ℕ) (later : List (List ℕ))
    → root id (hash ∷ later) ≡ root (dsha (id ++ hash)) later
root-cons id hash later =
    ap (root_upward id) (reverse_onto later hash []) ∙ root_upward-push id hash (reverse later)

-- a row above has half as many, rounded up
length-row_above : (row : List (List ℕ)) → length (row_above row) ≡ (length row + 1) / 2
length-row_above [] = omega arith
length-row_above (last ∷ []) = omega arith
length-row_above (left ∷ right ∷ others) = omega (arith, length-row_above others)

-- as many rows as ids are enough for the path, and for the root
path_within-cons : (rows : ℕ) (first : List ℕ) (others : List (List ℕ))
    → path_within (suc rows) (first ∷ others) ≡ first ∷ path_within rows (row_above others)
unfolding path_within
path_within-cons rows first others = refl

path_within-enough : (rows more : ℕ) (ids : List (List ℕ)) → length ids ≤ rows → length ids ≤ more
    → path_within rows ids ≡ path_within more ids
unfolding path_within
path_within-enough rows more [] few few' = refl
path_within-enough zero more (first ∷ others) few few' = absurd (omega arith)
path_within-enough (suc rows) zero (first ∷ others) few few' = absurd (omega arith)
path_within-enough (suc rows) (suc more) (first ∷ others) few few' =
    let short = length-row_above others in
    ap (λ above. first ∷ above)
    (path_within-enough rows more (row_above others) (omega arith) (omega arith))

pub path-cons : (first : List ℕ) (others : List (List ℕ))
    → path (first ∷ others) ≡ first ∷ path (row_above others)
path-cons first others =
    path_within-cons (length others) first others
    ∙ ap (λ above. first ∷ above)
    (path_within-enough (length others) (length (row_above others)) (row_above others)
    (omega (arith, length-row_above others)) (omega arith))

-- an id with a path of so many rows leads to the root of as many
leads : (rows more : ℕ) (id : List ℕ) (ids : List (List ℕ)) → length ids ≤ rows → length ids ≤ more
    → root id (path_within rows ids) ≡ root_within more (id ∷ ids)
unfolding path_within root_within
leads rows more id [] few few' = refl
leads zero more id (first ∷ others) few few' = absurd (omega arith)
leads (suc rows) zero id (first ∷ others) few few' = absurd (omega arith)
leads (suc rows) (suc more) id (first ∷ others) few few' =
    let short = length-row_above others in
    root-cons id first (path_within rows (row_above others))
    ∙ leads rows more (dsha (id ++ first)) (row_above others) (omega arith) (omega arith)

-- each row above has half as many
short : (rows n : ℕ) (ids : List (List ℕ)) → length ids < 2 ^ n → length (path_within rows ids) ≤ n
unfolding path_within
short rows n [] few = omega arith
short zero n (first ∷ others) few = omega arith
short (suc rows) zero (first ∷ others) few = absurd (omega arith)
short (suc rows) (suc n) (first ∷ others) few =
    let half = length-row_above others in
    let double : 2 ^ suc n ≡ 2 ^ n * 2 = pow-suc 2 n in
    let above = short rows n (row_above others) (omega arith) in
    omega arith

pub paths-short : PathsAreShort
paths-short n ids few = short (length ids) n ids few

pub paths-lead : PathsLeadToTheRoot
paths-lead id ids = leads (length ids) (length (id ∷ ids)) id ids (omega arith) (omega arith)

-- a row that begins with two, or with its last
row_above-two : (row others : List (List ℕ)) (left right : List ℕ) → row ≡ left ∷ right ∷ others
    → row_above row ≡ dsha (left ++ right) ∷ row_above others
row_above-two row others left right e = ap row_above e

row_above-last : (row : List (List ℕ)) (last : List ℕ) → row ≡ last ∷ []
    → row_above row ≡ dsha (last ++ last) ∷ []
row_above-last row last e = ap row_above e

-- the pair that lies behind so many pairs, the first hash apart
pub row_above-drop : (row : List (List ℕ)) (i right : ℕ) → 2 * i + 2 ≤ length row
    → right ≡ min (length row - 1) (2 + 2 * i)
    → row_above (drop (1 + 2 * i) row)
    ≡ dsha (get_or row (1 + 2 * i) [] ++ get_or row right []) ∷ row_above (drop (1 + 2 * (i + 1)) row)
row_above-drop row i right there right_is =
    elim (cases_lt (2 * i + 2) (length row)) [
      | inl more ↦
          let at : right ≡ 1 + 2 * i + 1 = omega arith in
          let next : 1 + 2 * (i + 1) ≡ 1 + 2 * i + 1 + 1 = omega arith in
          let first : drop (1 + 2 * i) row
          ≡ get_or row (1 + 2 * i) [] ∷ drop (1 + 2 * i + 1) row =
          drop_more row (1 + 2 * i) [] (omega arith) in
          let second : drop (1 + 2 * i + 1) row
          ≡ get_or row (1 + 2 * i + 1) [] ∷ drop (1 + 2 * i + 1 + 1) row =
          drop_more row (1 + 2 * i + 1) [] (omega arith) in
          rw (at, next)
          (row_above-two (drop (1 + 2 * i) row) (drop (1 + 2 * i + 1 + 1) row)
          (get_or row (1 + 2 * i) []) (get_or row (1 + 2 * i + 1) [])
          (first ∙ ap (λ rest. get_or row (1 + 2 * i) [] ∷ rest) second))
      | inr less ↦
          let at : right ≡ 1 + 2 * i = omega arith in
          let first : drop (1 + 2 * i) row
          ≡ get_or row (1 + 2 * i) [] ∷ drop (1 + 2 * i + 1) row =
          drop_more row (1 + 2 * i) [] (omega arith) in
          let none : drop (1 + 2 * i + 1) row ≡ [] = drop_all (1 + 2 * i + 1) row (omega arith) in
          let none' : drop (1 + 2 * (i + 1)) row ≡ [] = drop_all (1 + 2 * (i + 1)) row (omega arith) in
          rw (at, none')
          (row_above-last (drop (1 + 2 * i) row) (get_or row (1 + 2 * i) [])
          (first ∙ ap (λ rest. get_or row (1 + 2 * i) [] ∷ rest) none))
    ]

-- one more pair is put in front
pub row_above-step : (all row : List (List ℕ)) (i right : ℕ) → 2 * i + 2 ≤ length row
    → right ≡ min (length row - 1) (2 + 2 * i)
    → all ≡ take i row ++ row_above (drop (1 + 2 * i) row)
    → (hash : List ℕ) → hash ≡ dsha (get_or row (1 + 2 * i) [] ++ get_or row right [])
    → all
    ≡ take (i + 1) (set row i hash) ++ row_above (drop (1 + 2 * (i + 1)) (set row i hash))
row_above-step all row i right there right_is so_far hash hash_is =
    let front : take (i + 1) (set row i hash) ≡ take i row ++ hash ∷ [] =
    take_more_set row i hash (omega arith) in
    let behind : drop (1 + 2 * (i + 1)) (set row i hash) ≡ drop (1 + 2 * (i + 1)) row =
    drop-set-lt (1 + 2 * (i + 1)) row i hash (omega arith) in
    let pair = row_above-drop row i right there right_is in
    rw (front, behind)
    (so_far ∙ ap (λ rest. take i row ++ rest) (pair ∙ ap (λ h. h ∷ row_above (drop (1 + 2 * (i + 1)) row)) (sym hash_is))
    ∙ sym (append_assoc (take i row) (hash ∷ []) (row_above (drop (1 + 2 * (i + 1)) row))))

-- what a path begins with, and how it goes on
pub path-first : (row : List (List ℕ)) (first : List ℕ) → Some first ≡ slice_get row 0
    → path row ≡ first ∷ path (row_above (drop 1 row))
path-first [] first found = cc
path-first (x ∷ others) first found =
    let same : x ≡ first = cc in
    path-cons x others ∙ ap (λ h. h ∷ path (row_above others)) same

pub path-none : (row : List (List ℕ)) → None ≡ slice_get row 0 → path row ≡ []
unfolding path_within
path-none [] none = refl
path-none (x ∷ others) none = cc

-- a front of a list that was written over whole
pub take-written : (r len : ℕ) (old new : List (List ℕ)) → length new ≡ length old
    → len ≡ length old → take r (take len (new ++ drop (length new) old)) ≡ take r new
take-written r len old new same whole =
    let none : drop (length new) old ≡ [] = drop_all (length new) old (omega arith) in
    let all : take len new ≡ new = take_all len new (omega arith) in
    rw (none, append-nil new, all) refl

-- once all pairs stand in front, none lies behind
pub row_above-done : (all row : List (List ℕ)) (i len : ℕ) → length row ≡ len → i ≡ len / 2
    → all ≡ take i row ++ row_above (drop (1 + 2 * i) row)
    → take (len / 2) row ≡ all
row_above-done all row i len long done so_far =
    let none : drop (1 + 2 * i) row ≡ [] = drop_all (1 + 2 * i) row (omega arith) in
    sym (so_far ∙ rw (none, append-nil (take i row)) (ap (λ n. take n row) done))

-- eight hashes are their eight items
eight_hashes : (e : List (List ℕ)) → length e ≡ 8
    → (get_or e 0 [] ∷ get_or e 1 [] ∷ get_or e 2 [] ∷ get_or e 3 [] ∷ get_or e 4 []
    ∷ get_or e 5 [] ∷ get_or e 6 [] ∷ get_or e 7 [] ∷ []) ≡ e
eight_hashes [] long = absurd (omega arith)
eight_hashes (a ∷ []) long = absurd (omega arith)
eight_hashes (a ∷ b ∷ []) long = absurd (omega arith)
eight_hashes (a ∷ b ∷ c ∷ []) long = absurd (omega arith)
eight_hashes (a ∷ b ∷ c ∷ d ∷ []) long = absurd (omega arith)
eight_hashes (a ∷ b ∷ c ∷ d ∷ e ∷ []) long = absurd (omega arith)
eight_hashes (a ∷ b ∷ c ∷ d ∷ e ∷ f ∷ []) long = absurd (omega arith)
eight_hashes (a ∷ b ∷ c ∷ d ∷ e ∷ f ∷ g ∷ []) long = absurd (omega arith)
eight_hashes (a ∷ b ∷ c ∷ d ∷ e ∷ f ∷ g ∷ h ∷ []) long = refl
eight_hashes (a ∷ b ∷ c ∷ d ∷ e ∷ f ∷ g ∷ h ∷ i ∷ s) long = absurd (omega arith)

-- their row above
pub eight_above : (e : List (List ℕ)) → length e ≡ 8
    → (dsha (get_or e 0 [] ++ get_or e 1 []) ∷ dsha (get_or e 2 [] ++ get_or e 3 [])
    ∷ dsha (get_or e 4 [] ++ get_or e 5 []) ∷ dsha (get_or e 6 [] ++ get_or e 7 []) ∷ [])
    ≡ row_above e
eight_above e long = ap row_above (eight_hashes e long)

-- the row above eight hashes, and then that above the others
row_above-eight : (eight others : List (List ℕ)) → length eight ≡ 8
    → row_above (eight ++ others) ≡ row_above eight ++ row_above others
row_above-eight eight others long =
    (λ t. row_above (sym (eight_hashes eight long) t ++ others))
    ∙ (λ t. row_above (eight_hashes eight long t) ++ row_above others)

-- four pairs more stand in front
pub row_above-fours : (all row next hashes : List (List ℕ)) (k : ℕ) → 8 * k + 9 ≤ length row
    → all ≡ take (4 * k) row ++ row_above (drop (1 + 2 * (4 * k)) row)
    → hashes ≡ row_above (take 8 (drop (8 * k + 1) row))
    → next ≡ put_mid (4 * k) 4 row hashes
    → all ≡ take (4 * (k + 1)) next ++ row_above (drop (1 + 2 * (4 * (k + 1))) next)
row_above-fours all row next hashes k there so_far hashes_are next_is =
    let to : ℕ = 1 + 2 * (4 * (k + 1)) in
    let from : 1 + 2 * (4 * k) ≡ 8 * k + 1 = omega arith in
    let ends : 8 * k + 1 + 8 ≡ to = omega arith in
    let front = take (4 * k) row in
    let behind = drop (8 * k + 1) row in
    let eight = take 8 behind in
    let others = drop to row in
    let long : length eight ≡ 8 =
    length-take-le 8 behind (omega (arith, length-drop (8 * k + 1) row)) in
    let apart : behind ≡ eight ++ others =
    sym (take-append-drop 8 behind)
    ∙ ap (λ (r : List (List ℕ)). eight ++ r) (drop-drop 8 (8 * k + 1) row ∙ ap (λ (n : ℕ). drop n row) ends) in
    let four : length hashes ≡ 4 =
    omega (arith, ap length hashes_are, length-row_above eight, long) in
    let stand : take (4 * (k + 1)) next ≡ front ++ hashes =
    ap (take (4 * (k + 1))) next_is
    ∙ take-put_mid (4 * k) 4 row hashes (4 * (k + 1)) (omega (arith, four)) (omega arith) in
    let stay : drop to next ≡ others =
    ap (drop to) next_is ∙ drop-put_mid (4 * k) 4 row hashes to (omega arith) (omega arith) four in
    so_far ∙ ap (λ (n : ℕ). front ++ row_above (drop n row)) from
    ∙ ap (λ (b : List (List ℕ)). front ++ row_above b) apart
    ∙ ap (λ (r : List (List ℕ)). front ++ r) (row_above-eight eight others long)
    ∙ ap (λ (h : List (List ℕ)). front ++ (h ++ row_above others)) (sym hashes_are)
    ∙ sym (append_assoc front hashes (row_above others))
    ∙ (λ t. sym stand t ++ row_above (sym stay t))
