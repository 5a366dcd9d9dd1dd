-- Conditions in their order, each with the code of its failure (this project's own). Computed in the
-- rows of `IllegalEvents`.
use Rattle.std.specs.Prelude.{Bool, true, false, Option, None, Some, Result, Ok, Err, List, [], ◌∷◌}

-- what comes next where a condition holds, and else its code
abbrev pub or_code : {C : Type 0} → Bool → C → Option C → Option C
or_code true code next = next
or_code false code next = Some code

-- the code of the first condition that is false, or else what comes after all of them
abbrev pub first_false : {C : Type 0} → List (Bool × C) → Option C → Option C
first_false [] after = after
first_false ((holds, code) ∷ more) after = or_code holds code (first_false more after)

-- a value where there is no refusal
abbrev pub unless_refusal : {X C : Type 0} → Option C → X → Result X C
unless_refusal None x = Ok x
unless_refusal (Some code) x = Err code

-- a value where a condition holds, and else the code of the condition
abbrev pub provided : {X C : Type 0} → Bool → C → X → Result X C
provided true code x = Ok x
provided false code x = Err code

-- a value that was found, and else the code
abbrev pub found : {X C : Type 0} → C → Option X → Result X C
found code None = Err code
found code (Some x) = Ok x
