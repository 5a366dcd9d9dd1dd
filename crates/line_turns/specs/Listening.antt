-- The parts of hearing lines (this project's own).
use Rattle.std.specs.Prelude.{◌≡◌, ℕ, ◌<◌, Result, List, ◌++◌}
use Rattle.pool_io.specs.declared.source.Took.TheVariants as took
use Rattle.pool_network.specs.Seen.{LinkSeen}
use Rattle.link_turns.specs.Waits.{IsBelowLimits, TakesOf}
use Rattle.v1_lines.specs.Lines.{IsLineText}
use Rattle.session_steps.specs.declared.ends.SessionEnd.{SessionEnd}
use Rattle.v2_sessions.specs.Standing.{Intake}
use Rattle.line_turns.specs.declared.hearing.Lines.{Lines}
use Rattle.line_turns.specs.Hearing.{CanTakeTurn, Hearing, HearsOn, intake_at, with_idle}

abbrev pub intake_of : Lines → Intake
intake_of lines = intake_at lines.waiting lines.reader

-- a turn may be taken
pub record IsListening (lines : Lines) : Type 0 where
  pub text : IsLineText lines.reader
  pub below : IsBelowLimits lines.waiting

-- the line that is held was heard, if it is whole
abbrev pub HearsHeld : {T : Type 0} → (Hearing T → Hearing T → Type 0)
    → (Hearing T → SessionEnd → Hearing T → Type 0)
    → List ℕ → List ℕ → T → LinkSeen → Result Unit SessionEnd → T → LinkSeen → Type 0
HearsHeld goes_on ends held held' old link result new link' =
    (before : Intake) (rest : List ℕ) → before.unmet ≡ held ++ rest → 0 < before.idles
    → HearsOn goes_on ends before (record before { unmet = held' ++ rest }) old link result new
    link'

-- an Idle turn that was counted was heard
abbrev pub HearsIdleOf : {T : Type 0} → (Hearing T → Hearing T → Type 0)
    → (Hearing T → SessionEnd → Hearing T → Type 0)
    → Lines → T → LinkSeen → Result Unit SessionEnd → T → LinkSeen → Type 0
HearsIdleOf goes_on ends lines old link result new link' =
    (before : Intake) (buffer : List ℕ) (first : LinkSeen) → CanTakeTurn before
    → TakesOf took.Idle buffer first link → with_idle before ≡ intake_of lines
    → HearsOn goes_on ends before (intake_of lines) old first result new link'
