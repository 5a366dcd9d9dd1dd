-- What is found in entries that stand behind each other.
use Rattle.std.proofs.Common.{◌≡◌, ◌≢◌, ◌⊎◌, inl, inr, ℕ, zero, suc, ◌+◌, ◌-◌, ◌≤◌, Bool, true, false, List, [], ◌∷◌, ◌++◌, length, take, drop, refl, sym, ◌∙◌, ap, arith, append_assoc, length-append, Option, None, Some, if◌then◌else◌}
use Rattle.std.specs.Int.{w32, to_le_bytes, from_le_bytes}
use Rattle.std.proofs.lemmas.List.{append-nil, take_at, drop_at}
use Rattle.std.proofs.lemmas.Nat.{from_le_bytes-to_le_bytes_4}
use Rattle.std.proofs.lemmas.Bool.{cases_eq}
use Rattle.std.proofs.lemmas.Bool.Decides.{nat_tests}
use Rattle.ledger_disk.specs.Entries.{AreShort, Begins, HasBehind, Opens, body, entries_on, found_in, front, is_entry, magic, said_length, spelled}

-- the length of what is spelled in four bytes
length_le : (n : ℕ) → length (to_le_bytes w32 n) ≡ 4
length_le n = refl

module _ (bytes rest : List ℕ) (short : length bytes ≤ 300100) where
  behind : List ℕ
  behind = body bytes ++ rest

  said : said_length (body bytes ++ rest) ≡ length bytes
  said =
      ap (λ (l : List ℕ). from_le_bytes w32 (take 4 l)) (append_assoc (to_le_bytes w32 (length bytes)) bytes rest)
      ∙ ap (λ (l : List ℕ). from_le_bytes w32 l) (take_at (to_le_bytes w32 (length bytes)) (bytes ++ rest) 4 refl)
      ∙ from_le_bytes-to_le_bytes_4 (length bytes) (omega (arith, short))

  taken : take (length bytes) (drop 4 (body bytes ++ rest)) ≡ bytes
  taken =
      ap (λ (l : List ℕ). take (length bytes) (drop 4 l)) (append_assoc (to_le_bytes w32 (length bytes)) bytes rest)
      ∙ ap (λ (l : List ℕ). take (length bytes) l) (drop_at (to_le_bytes w32 (length bytes)) (bytes ++ rest) 4 refl)
      ∙ take_at bytes rest (length bytes) refl

  size : length (body bytes) ≡ 4 + length bytes
  size = omega (arith, length-append (to_le_bytes w32 (length bytes)) bytes)

  dropped : drop (4 + length bytes) (body bytes ++ rest) ≡ rest
  dropped = drop_at (body bytes) rest (4 + length bytes) size

  stands : 1 ≤ length rest → is_entry 1 (body bytes ++ rest) ≡ true
  stands some = grind (arith, nat_tests, said, short, size, length-append (body bytes) rest)

  -- an open entry with a byte behind it is found, and what is found behind it
  pub found_first : (most : ℕ) → 1 ≤ length rest → found_in (suc most) (1 ∷ body bytes ++ rest) ≡ bytes ∷ found_in most rest
  found_first most some =
      let is_one = stands some in
      ap (λ (b : Bool). if b then take (said_length (body bytes ++ rest)) (drop 4 (body bytes ++ rest)) ∷ found_in most (drop (4 + said_length (body bytes ++ rest)) (body bytes ++ rest)) else []) is_one
      ∙ ap (λ (n : ℕ). take n (drop 4 (body bytes ++ rest)) ∷ found_in most (drop (4 + n) (body bytes ++ rest))) said
      ∙ ap (λ (l : List ℕ). l ∷ found_in most (drop (4 + length bytes) (body bytes ++ rest))) taken
      ∙ ap (λ (l : List ℕ). bytes ∷ found_in most l) dropped

-- nothing is found behind a gate that isn't open
pub found_shut : (most gate : ℕ) (rest : List ℕ) → gate ≢ 1 → found_in most (gate ∷ rest) ≡ []
found_shut zero gate rest shut = refl
found_shut (suc most) gate rest shut =
    let none : is_entry gate rest ≡ false = grind (arith, nat_tests, shut) in
    ap (λ (b : Bool). if b then take (said_length rest) (drop 4 rest) ∷ found_in most (drop (4 + said_length rest) rest) else []) none

pub length-spelled : (entries : List (List ℕ)) → length entries ≤ length (spelled entries)
length-spelled [] = omega arith
length-spelled (bytes ∷ entries) = omega (arith, length-spelled entries, length-append (body bytes) (spelled entries))

pub found_spelled : (entries : List (List ℕ)) → AreShort entries → (rest : List ℕ) → 1 ≤ length rest → (most more : ℕ) → most ≡ length entries + more
    → found_in most (spelled entries ++ rest) ≡ entries ++ found_in more rest
found_spelled [] short rest some most more is = let same : most ≡ more = omega (arith, is) in ap (λ (m : ℕ). found_in m rest) same
found_spelled (bytes ∷ entries) short rest some zero more is = absurd (omega (arith, is))
found_spelled (bytes ∷ entries) short rest some (suc most) more is =
    ap (λ (l : List ℕ). found_in (suc most) (1 ∷ l)) (append_assoc (body bytes) (spelled entries) rest)
    ∙ found_first bytes (spelled entries ++ rest) short.0 most (omega (arith, some, length-append (spelled entries) rest))
    ∙ ap (λ (l : List (List ℕ)). bytes ∷ l) (found_spelled entries short.1 rest some most more (omega (arith, is)))

module _ (entries : List (List ℕ)) (short : AreShort entries) where
  -- behind the entries there is what is found in the rest
  pub found_behind : (c rest : List ℕ) → c ≡ front entries ++ rest → 1 ≤ length rest → (more : ℕ) × (1 ≤ more) × (entries_on c ≡ entries ++ found_in more rest)
  found_behind c rest is some =
      let more : ℕ = length c - length entries in
      let long : length c ≡ length (front entries) + length rest = ap length is ∙ length-append (front entries) rest in
      let fronts : length (front entries) ≡ 8 + length (spelled entries) = length-append magic (spelled entries) in
      let behind_magic : drop 8 c ≡ spelled entries ++ rest = ap (λ (l : List ℕ). drop 8 l) is in (
        more,
        omega (arith, long, fronts, some, length-spelled entries),
        ap (λ (l : List ℕ). found_in (length c) l) behind_magic
            ∙ found_spelled entries short rest some (length c) more (omega (arith, long, fronts, length-spelled entries)),
      )

  -- they are what is found where the gate behind them is shut
  pub found_closed : (c : List ℕ) → Begins (front entries ++ 0 ∷ []) c → entries_on c ≡ entries
  found_closed c begins =
      let rest = 0 ∷ begins.0 in
      let at = found_behind c rest (begins.1 ∙ append_assoc (front entries) (0 ∷ []) begins.0) (omega arith) in
      at.2 ∙ ap (λ (l : List (List ℕ)). entries ++ l) (found_shut at.0 0 begins.0 (omega arith)) ∙ append-nil entries

  -- and with a whole entry behind them that may be open, or not, they are found, or they and it
  pub found_either : (bytes : List ℕ) → length bytes ≤ 300100 → (c : List ℕ) → HasBehind (front entries) (body bytes ++ 0 ∷ []) c
      → (entries_on c ≡ entries) ⊎ (entries_on c ≡ entries ++ bytes ∷ [])
  found_either bytes fits c behind =
      let next = body bytes ++ 0 ∷ [] in
      let rest = behind.0 ∷ (next ++ behind.1.0) in
      let at = found_behind c rest (behind.1.1 ∙ append_assoc (front entries) (behind.0 ∷ next) behind.1.0) (omega arith) in
      elim (cases_eq behind.0 1) [
        | inl open_gate ↦ inr (at.2 ∙ ap (λ (l : List (List ℕ)). entries ++ l) (opened bytes fits behind.0 behind.1.0 open_gate at.0 at.1))
        | inr shut ↦ inl (at.2 ∙ ap (λ (l : List (List ℕ)). entries ++ l) (found_shut at.0 behind.0 (next ++ behind.1.0) shut) ∙ append-nil entries)
      ]
    where
      opened : (bytes : List ℕ) → length bytes ≤ 300100 → (gate : ℕ) (rest : List ℕ) → gate ≡ 1 → (more : ℕ) → 1 ≤ more
          → found_in more (gate ∷ ((body bytes ++ 0 ∷ []) ++ rest)) ≡ bytes ∷ []
      opened bytes fits gate rest is zero some = absurd (omega (arith, some))
      opened bytes fits gate rest is (suc more) some =
          ap (λ (g : ℕ). found_in (suc more) (g ∷ ((body bytes ++ 0 ∷ []) ++ rest))) is
          ∙ ap (λ (l : List ℕ). found_in (suc more) (1 ∷ l)) (append_assoc (body bytes) (0 ∷ []) rest)
          ∙ found_first bytes (0 ∷ rest) fits more (omega arith)
          ∙ ap (λ (l : List (List ℕ)). bytes ∷ l) (found_shut more 0 rest (omega arith))

-- one entry more, and its gate
pub front_more : (entries : List (List ℕ)) (bytes rest : List ℕ) → front entries ++ 1 ∷ (body bytes ++ rest) ≡ front (entries ++ bytes ∷ []) ++ rest
front_more entries bytes rest = ap (λ (l : List ℕ). magic ++ l) (spelled_more entries)
  where
    spelled_more : (entries : List (List ℕ)) → spelled entries ++ 1 ∷ (body bytes ++ rest) ≡ spelled (entries ++ bytes ∷ []) ++ rest
    spelled_more [] = ap (λ (l : List ℕ). 1 ∷ l ++ rest) (sym (append-nil (body bytes)))
    spelled_more (first ∷ entries) = ap (λ (l : List ℕ). 1 ∷ l) (append_assoc (body first) (spelled entries) (1 ∷ (body bytes ++ rest))
        ∙ ap (λ (l : List ℕ). body first ++ l) (spelled_more entries) ∙ sym (append_assoc (body first) (spelled (entries ++ bytes ∷ [])) rest))

-- opening finds just these, where the disk begins with the magic
pub opens_just : (entries : List (List ℕ)) (c : List ℕ) → take 8 c ≡ magic → entries_on c ≡ entries → (found : Option (List (List ℕ))) → Opens c found → found ≡ Some entries
opens_just entries c begun are None foreign = absurd (foreign.1 begun)
opens_just entries c begun are (Some es) opens = ap (λ (l : List (List ℕ)). Some l) (sym opens.1 ∙ are)

-- as it does with a front
pub has_magic : (entries : List (List ℕ)) (rest c : List ℕ) → Begins (front entries ++ rest) c → take 8 c ≡ magic
has_magic entries rest c begins = ap (λ (l : List ℕ). take 8 l) begins.1
