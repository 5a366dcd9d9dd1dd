-- What is told, one message at a time (this project's own).
use Rattle.std.specs.Prelude.{◌≡◌, ℕ, ◌+◌, Bool, true, false, List, [], ◌∷◌, drop}
use Rattle.v1_translate.specs.Heard.{Told}
use Rattle.v1_translate.specs.Messages.{message_reaction}
use Rattle.v1_translate.specs.State.{Terms, V1State}
use Rattle.v1_translate.specs.Saying.{Says}

-- the message with this number is told, what is said to it is put behind, and it is counted; or
-- there is none
abbrev pub IsToldPart :
    Bool → Terms → List Told → ℕ → ℕ → V1State → V1State → List ℕ → List ℕ → Type 0
IsToldPart true terms told number next old new before after =
    (first : Told) × (later : List Told) × (drop number told ≡ first ∷ later)
    × (next ≡ number + 1) × Says (message_reaction terms old first) new before after
IsToldPart false terms told number next old new before after =
    (drop number told ≡ []) × (new ≡ old)

-- the only message is told, or there is none
abbrev pub TellsOnly :
    Bool → Terms → List Told → V1State → V1State → List ℕ → List ℕ → Type 0
TellsOnly true terms told old new before after =
    (only : Told) × (told ≡ only ∷ []) × Says (message_reaction terms old only) new before after
TellsOnly false terms told old new before after =
    (told ≡ []) × (new ≡ old)
