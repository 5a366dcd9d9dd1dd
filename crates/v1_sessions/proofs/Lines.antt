-- Lines that are said one after the other.
use Rattle.std.proofs.Common.{◌≡◌, ℕ, List, [], ◌∷◌, ◌++◌, sym, ◌∙◌, append_assoc, append-nil}
use Rattle.v1_translate.specs.State.{Saying}
use Rattle.v1_translate.specs.Saying.{line_of, with_lines}
use Rattle.v1_sessions.specs.States.{lines_said}

-- they stand behind what was there
pub with_lines_is : (before : List ℕ) (says : List Saying) → with_lines before says ≡ before ++ lines_said says
with_lines_is before [] = sym (append-nil before)
with_lines_is before (said ∷ more) = with_lines_is (before ++ line_of said) more ∙ append_assoc before (line_of said) (lines_said more)
