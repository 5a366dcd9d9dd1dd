-- Where a reading stands between two turns (this project's own).
use Rattle.std.specs.Prelude.{ℕ, ◌+◌, ◌-◌, ◌*◌, ◌^◌, ◌<◌, ◌≡◌, List, ◌++◌, length, Option, Some, None}
use Rattle.pool_io.specs.declared.turn.Turn.{Turn}
use Rattle.pool_io.specs.Outside.{AddsBytes}
use Rattle.pool_io.specs.Steps.{ReadStep, bytes_in, idles_after, IsFree, IsFreeBefore, BringsSteps}
use Rattle.stream_commands.specs.Duties.{Duty}
use Rattle.stream_commands.specs.Limits.{bounds}
use Rattle.stream_commands.specs.Owing.{EndsWith}
use Rattle.stream_commands.specs.Ending.{EndsCommand}
use Rattle.stream_commands.specs.declared.end.End.{End}
use Rattle.stream_commands.specs.declared.tally.Tally.{Tally}

-- no limit is reached
pub record IsBelowLimits (tally : Tally) : Type 0 where
  pub taken : tally.taken < 2 ^ 40
  pub idles : tally.idles < 36000

-- how much may still come: each turn takes some of it
abbrev pub turns_left : Tally → ℕ
turns_left tally = (2 ^ 40 - tally.taken) * 36001 + (36000 - tally.idles)

-- after these steps: what was put, that no limit was reached, and that the command has read the
-- bytes with that text
pub record HasAnswered (HasRead : List ℕ → List ℕ → Type 0) (tally : Tally)
    (before now : Option (List ℕ)) (steps : List ReadStep) : Type 0 where
  pub free : IsFree bounds steps
  pub idles : idles_after 0 steps ≡ tally.idles
  pub bytes : length (bytes_in steps) ≡ tally.taken
  pub given : List ℕ
  pub put : AddsBytes before now given
  pub read : HasRead (bytes_in steps) given

-- the end after these steps, whatever the source has to bring after them
pub record EndsAfter (duty : Duty) (before now : Option (List ℕ)) (steps : List ReadStep)
    (end : End) : Type 0 where
  pub within : IsFreeBefore bounds steps
  pub given : List ℕ
  pub put : AddsBytes before now given
  pub ends : (rest : List ReadStep) → EndsWith duty steps (steps ++ rest) given end

-- the end where these are all steps
pub record EndsAt (duty : Duty) (before now : Option (List ℕ)) (steps : List ReadStep)
    (end : End) : Type 0 where
  pub within : IsFreeBefore bounds steps
  pub given : List ℕ
  pub put : AddsBytes before now given
  pub ends : EndsWith duty steps steps given end

-- the command goes on after these steps, or has ended
abbrev pub GoesOnOrEnds : Duty → (List ℕ → List ℕ → Type 0) → Tally → Option (List ℕ)
    → Option (List ℕ) → List ReadStep → Option End → Type 0
GoesOnOrEnds duty HasRead tally before now steps None = HasAnswered HasRead tally before now steps
GoesOnOrEnds duty HasRead tally before now steps (Some end) = EndsAfter duty before now steps end

-- between two turns of a run from these turns to come and these held bytes
pub record IsInRun (HasRead : List ℕ → List ℕ → Type 0) (tally : Tally)
    (turns left : Option (List Turn)) (before now : Option (List ℕ)) : Type 0 where
  pub steps : List ReadStep
  pub brought : BringsSteps turns left steps
  pub answered : HasAnswered HasRead tally before now steps

-- a turn leads to the next one, or the run has ended
abbrev pub TurnsOnOrEnds : Duty → (List ℕ → List ℕ → Type 0) → Tally → Option (List Turn)
    → Option (List Turn) → Option (List ℕ) → Option (List ℕ) → Option End → Type 0
TurnsOnOrEnds duty HasRead tally turns left before now None =
    IsInRun HasRead tally turns left before now
TurnsOnOrEnds duty HasRead tally turns left before now (Some end) =
    EndsCommand duty turns left before now end
