-- The parts of a job's 68 bytes.
use Rattle.std.proofs.Common.{◌≡◌, ℕ, ◌+◌, ◌<◌, List, [], ◌∷◌, ◌++◌, length, get_or, take, drop, refl, sym, ap, ◌∙◌, arith, drop-cons}
use Rattle.std.specs.Int.{w32, to_le_bytes, from_le_bytes}
use Rattle.std.proofs.lemmas.List.{take-append-drop, drop_all, drop-drop, get_or-drop}
use Rattle.std.proofs.lemmas.Nat.{le_bytes_4}

module _ (bytes : List ℕ) (whole : length bytes ≡ 68) where
  last_four : drop 64 bytes ≡ get_or bytes 64 0 ∷ get_or bytes 65 0 ∷ get_or bytes 66 0 ∷ get_or bytes 67 0 ∷ []
  last_four =
      drop-cons bytes 64 0 (omega arith)
      ∙ ap (λ l. get_or bytes 64 0 ∷ l) (drop-cons bytes 65 0 (omega arith))
      ∙ ap (λ l. get_or bytes 64 0 ∷ get_or bytes 65 0 ∷ l) (drop-cons bytes 66 0 (omega arith))
      ∙ ap (λ l. get_or bytes 64 0 ∷ get_or bytes 65 0 ∷ get_or bytes 66 0 ∷ l) (drop-cons bytes 67 0 (omega arith))
      ∙ ap (λ l. get_or bytes 64 0 ∷ get_or bytes 65 0 ∷ get_or bytes 66 0 ∷ get_or bytes 67 0 ∷ l) (drop_all 68 bytes (omega arith))

  -- two hashes, and the four bytes of a number
  pub job_parts : (number : ℕ) → ((i : ℕ) → get_or bytes i 0 < 256)
      → number ≡ from_le_bytes w32 (get_or bytes 64 0 ∷ get_or bytes 65 0 ∷ get_or bytes 66 0 ∷ get_or bytes 67 0 ∷ [])
      → bytes ≡ take 32 bytes ++ (take 32 (drop 32 bytes) ++ to_le_bytes w32 number)
  job_parts number fits is =
      let four = get_or bytes 64 0 ∷ get_or bytes 65 0 ∷ get_or bytes 66 0 ∷ get_or bytes 67 0 ∷ [] in
      let each : (i : ℕ) → get_or four i 0 < 256 = λ i. rw (← last_four, get_or-drop) (fits (64 + i)) in
      let number_bytes : to_le_bytes w32 number ≡ drop 64 bytes = le_bytes_4 four number refl each is ∙ sym last_four in
      sym (
      ap (λ l. take 32 bytes ++ (take 32 (drop 32 bytes) ++ l)) (number_bytes ∙ sym (drop-drop 32 32 bytes))
      ∙ ap (λ l. take 32 bytes ++ l) (take-append-drop 32 (drop 32 bytes))
      ∙ take-append-drop 32 bytes)
