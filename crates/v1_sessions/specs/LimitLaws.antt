-- What holds of each session of lines that is over (this project's own).
use Rattle.std.specs.Prelude.{ℕ, ◌<◌, Option, Some, List}
use Rattle.pool_io.specs.declared.turn.Turn.{Turn}
use Rattle.pool_io.specs.Steps.{BringsSteps, IsFreeBefore}
use Rattle.v2_sessions.specs.Running.{TakesAll}
use Rattle.session_steps.specs.declared.ends.SessionEnd.{SessionEnd}
use Rattle.session_steps.specs.declared.manner.Manner.{Manner}
use Rattle.v2_sessions.specs.Ends.{EntersFirst, IsWellEnded, session_bounds}
use Rattle.v1_translate.specs.State.{Terms}
use Rattle.v1_sessions.specs.States.{LineState, new_line_state}
use Rattle.v1_sessions.specs.Steps.{Follows, LineStep, calls_of, has_ended, turns_of}
use Rattle.v1_sessions.specs.Ends.{AreGoodLines, AreUnhinderedLines, ComesToEnd, LineEndShows}

abbrev pub LineEndsHaveCauses : Type 0
LineEndsHaveCauses =
    (worker : ℕ) (terms : Terms) (manner : Manner) (steps : List LineStep) (reason : SessionEnd)
    → 0 < manner.idle_turns → (comes : ComesToEnd worker terms manner steps reason)
    → LineEndShows manner.idle_turns steps comes.last.pool.unmet reason

-- no front of the turns but all of them reaches a limit, in a session that is over or not
abbrev pub LineSessionsKeepLimits : Type 0
LineSessionsKeepLimits =
    (worker : ℕ) (terms : Terms) (manner : Manner) (steps : List LineStep) (last : LineState)
    → 0 < manner.idle_turns → Follows worker terms (new_line_state manner) steps last
    → IsFreeBefore (session_bounds manner.idle_turns) (turns_of steps)

-- a session that is over or not
abbrev pub LineSessionsEnterFirst : Type 0
LineSessionsEnterFirst =
    (worker : ℕ) (terms : Terms) (manner : Manner) (steps : List LineStep) (last : LineState)
    → Follows worker terms (new_line_state manner) steps last → EntersFirst (calls_of steps)

-- the turns are those that a source told, all of them where the input ended
abbrev pub GoodLinesEndWell : Type 0
GoodLinesEndWell =
    (worker : ℕ) (terms : Terms) (manner : Manner) (steps : List LineStep) (reason : SessionEnd)
    (told : List Turn) (left : Option (List Turn))
    → 0 < manner.idle_turns → ComesToEnd worker terms manner steps reason
    → BringsSteps (Some told) left (turns_of steps)
    → TakesAll (has_ended steps) (Some told) (turns_of steps)
    → AreGoodLines told → AreUnhinderedLines manner.idle_turns steps → IsWellEnded reason
