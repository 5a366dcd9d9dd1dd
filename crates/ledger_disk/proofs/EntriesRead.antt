-- What is read of an entry, from its gate on.
use Rattle.std.proofs.Common.{◌≡◌, ℕ, ◌+◌, ◌<◌, ◌≤◌, Bool, false, List, [], ◌∷◌, ◌++◌, None, Some, length, take, drop, refl, sym, ◌∙◌, ap, arith, length-append, if◌then◌else◌}
use Rattle.std.specs.Int.{w32, to_le_bytes}
use Rattle.std.proofs.lemmas.Bool.Decides.{nat_tests}
use Rattle.std.proofs.lemmas.List.{append-nil, drop-drop}
use Rattle.std.proofs.Math.Seq.{take-add}
use Rattle.ledger_disk.specs.Entries.{HasNone, body, front, is_entry, said_length}
use Rattle.ledger_disk.specs.Steps.{HoldsFront}
use Rattle.ledger_disk.proofs.Adding.{short_more}
use Rattle.ledger_disk.proofs.Finding.{front_more}

-- fewer than six bytes are no entry
pub few_none : (bytes : List ℕ) → length bytes < 6 → HasNone bytes
few_none [] few = refl
few_none (gate ∷ rest) few =
    let none_there : is_entry gate rest ≡ false = grind (arith, nat_tests, few) in
    ap (λ (b : Bool). if b then Some (take (said_length rest) (drop 4 rest)) else None) none_there

-- five bytes and so many more are an open entry
pub read_whole : (at count : ℕ) (content entry : List ℕ) → take 5 (drop at content) ≡ 1 ∷ to_le_bytes w32 count → entry ≡ take count (drop (at + 5) content) → length entry ≡ count
    → take (5 + length entry) (drop at content) ≡ 1 ∷ body entry
read_whole at count content entry head got size =
    ap (λ (n : ℕ). take (5 + n) (drop at content)) size
    ∙ take-add 5 count (drop at content)
    ∙ ap (λ (l : List ℕ). l ++ take count (drop 5 (drop at content))) head
    ∙ ap (λ (l : List ℕ). 1 ∷ to_le_bytes w32 count ++ take count l) (drop-drop 5 at content)
    ∙ ap (λ (l : List ℕ). 1 ∷ to_le_bytes w32 count ++ l) (sym got)
    ∙ ap (λ (n : ℕ). 1 ∷ to_le_bytes w32 n ++ entry) (sym size)

front_one : (entries : List (List ℕ)) (entry : List ℕ) → front entries ++ 1 ∷ body entry ≡ front (entries ++ entry ∷ [])
front_one entries entry =
    ap (λ (l : List ℕ). front entries ++ 1 ∷ l) (sym (append-nil (body entry))) ∙ front_more entries entry [] ∙ append-nil (front (entries ++ entry ∷ []))

-- one entry more stands before the next place
pub front_read : (at : ℕ) (entries : List (List ℕ)) (content entry : List ℕ) → HoldsFront at entries content → length entry ≤ 300100
    → take (5 + length entry) (drop at content) ≡ 1 ∷ body entry → HoldsFront (at + (5 + length entry)) (entries ++ entry ∷ []) content
front_read at entries content entry holds fits read = record {
  short = short_more entry fits entries holds.short;
  size = omega (arith, ap length (front_one entries entry), holds.size, length-append (front entries) (1 ∷ body entry), length-append (to_le_bytes w32 (length entry)) entry);
  begins = take-add at (5 + length entry) content
      ∙ ap (λ (l : List ℕ). l ++ take (5 + length entry) (drop at content)) holds.begins
      ∙ ap (λ (l : List ℕ). front entries ++ l) read
      ∙ front_one entries entry;
}
