-- Frames one by one (this project's own).
use Rattle.std.specs.Prelude.{◌≡◌, ℕ, ◌+◌, Bool, true, false, Result, Ok, Err, List, [], ◌∷◌, ◌++◌, drop}
use Rattle.std.specs.declared.alloc.AllocError.{AllocError}

-- the frame with this number, which is counted, or there is none
abbrev pub IsPart : Bool → List (List ℕ) → ℕ → ℕ → List ℕ → List ℕ → Type 0
IsPart true frames number next old new =
    (frame : List ℕ) × (later : List (List ℕ)) × (drop number frames ≡ frame ∷ later)
    × (next ≡ number + 1) × (new ≡ old ++ frame)
IsPart false frames number next old new =
    (drop number frames ≡ []) × (next ≡ number) × (new ≡ old)

-- the only frame is put, or there is none; nothing is where memory runs out
abbrev pub PutsOnly : Result Bool AllocError → List (List ℕ) → List ℕ → List ℕ → Type 0
PutsOnly (Ok true) frames old new =
    (frame : List ℕ) × (frames ≡ frame ∷ []) × (new ≡ old ++ frame)
PutsOnly (Ok false) frames old new = (frames ≡ []) × (new ≡ old)
PutsOnly (Err error) frames old new = new ≡ old
