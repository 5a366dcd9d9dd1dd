-- A piece that is read part by part.
use Rattle.std.proofs.Common.{◌≡◌, ℕ, ◌-◌, ◌^◌, ◌<◌, ◌≤◌, List, ◌++◌, length, take, drop, sym, ap, ◌∙◌, append_assoc, arith, length-append}
use Rattle.std.proofs.lemmas.List.{take-append-drop, take_rest, length-take-le}
use Rattle.stream_commands.specs.Duties.{RefusesWithin}

-- A front of the piece was read, by which `First` became `Then`, and then some bytes more are taken, by which it
-- becomes `Fed`.
module _ (piece rest front : List ℕ) (count : ℕ) (split : front ++ rest ≡ piece)
    (First Then Fed : List ℕ → List ℕ → Type 0) (was old : List ℕ)
    (then : (bytes text : List ℕ) → length (bytes ++ piece) ≤ 2 ^ 40 → First bytes (text ++ was) → Then (bytes ++ front) (text ++ old))
    (fed : (bytes text : List ℕ) → Then bytes text → Fed (bytes ++ take count rest) text) where
  -- the front is longer, and the rest is shorter
  whole : (front ++ take count rest) ++ drop count rest ≡ piece
  whole = append_assoc front (take count rest) (drop count rest) ∙ ap (λ (l : List ℕ). front ++ l) (take-append-drop count rest) ∙ split

  feeds : (bytes text : List ℕ) → length (bytes ++ piece) ≤ 2 ^ 40 → First bytes (text ++ was) → Fed (bytes ++ (front ++ take count rest)) (text ++ old)
  feeds bytes text few first =
      rw (← append_assoc bytes front (take count rest)) (fed (bytes ++ front) (text ++ old) (then bytes text few first))

  shorter : (bytes : List ℕ) → length (bytes ++ piece) ≤ 2 ^ 40 → length (bytes ++ (front ++ take count rest)) ≤ 2 ^ 40
  shorter bytes few =
      omega (arith, few, ap length whole, length-append bytes piece, length-append bytes (front ++ take count rest), length-append (front ++ take count rest) (drop count rest))

  pub piece_more : (Next : List ℕ → List ℕ → Type 0) (new : List ℕ)
      → ((bytes text : List ℕ) → length bytes ≤ 2 ^ 40 → Fed bytes (text ++ old) → Next bytes (text ++ new))
      → (more : List ℕ) × (more ++ take (length rest - count) (drop count rest) ≡ piece)
      × ((bytes text : List ℕ) → length (bytes ++ piece) ≤ 2 ^ 40 → First bytes (text ++ was) → Next (bytes ++ more) (text ++ new))
  piece_more Next new next =
      let left : take (length rest - count) (drop count rest) ≡ drop count rest = take_rest rest count in (
        front ++ take count rest,
        rw left whole,
        λ bytes text few first. next (bytes ++ (front ++ take count rest)) text (shorter bytes few) (feeds bytes text few first),
      )

  pub piece_refused : (Refused : List ℕ → List ℕ → Type 0) (new : List ℕ) → 0 < count → count ≤ length rest
      → ((bytes text : List ℕ) → length bytes ≤ 2 ^ 40 → Fed bytes (text ++ old) → Refused bytes (text ++ new)) → RefusesWithin First Refused piece was new
  piece_refused Refused new some within refused = record {
    front = front ++ take count rest;
    rest = drop count rest;
    split = sym whole;
    some = omega (arith, some, within, length-append front (take count rest), length-take-le count rest within);
    owed = λ bytes text few first. refused (bytes ++ (front ++ take count rest)) text (shorter bytes few) (feeds bytes text few first);
  }
