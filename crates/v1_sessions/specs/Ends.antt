-- What the ends of a session of lines come from (this project's own).
use Rattle.std.specs.Prelude.{◌≡◌, ℕ, ◌<◌, Bool, true, false, List, [], length}
use Rattle.std.specs.List.{AllByRecursion, list_any}
use Rattle.pool_io.specs.declared.turn.Turn.{Turn}
use Rattle.pool_io.specs.Steps.{IsAtLimit, IsBytesOut, IsIdleOut, bytes_in, steps_of}
use Rattle.v1_lines.specs.Lines.{IsLineText, line_bytes}
use Rattle.line_turns.specs.Hearing.{BeginsLongLine}
use Rattle.session_steps.specs.declared.ends.SessionEnd.{SessionEnd}
use Rattle.session_steps.specs.declared.ends.SessionEnd.TheVariants as end
use Rattle.session_steps.specs.declared.manner.Manner.{Manner}
use Rattle.session_steps.specs.States.{Over}
use Rattle.v2_sessions.specs.Ends.{has_turned_away, has_unkept, is_unwritten, session_bounds}
use Rattle.v1_translate.specs.State.{Terms}
use Rattle.v1_sessions.specs.States.{LineState, new_line_state}
use Rattle.v1_sessions.specs.Steps.{Follows, LineStep, Missed, calls_of, has_ended, put_of, turns_of}

-- steps that begin a session of lines and come to this end
pub record ComesToEnd (worker : ℕ) (terms : Terms) (manner : Manner) (steps : List LineStep)
    (reason : SessionEnd) : Type 0 where
  pub last : LineState
  pub follows : Follows worker terms (new_line_state manner) steps last
  pub over : last.pool.stage ≡ Over reason

-- a take failed
abbrev pub is_missed_turn : LineStep → Bool
is_missed_turn Missed = true
is_missed_turn _ = false

abbrev pub has_missed_turn : List LineStep → Bool
has_missed_turn steps = list_any is_missed_turn steps

-- a put failed; want of memory is no failure
abbrev pub is_unwritten_line : LineStep → Bool
is_unwritten_line step = is_unwritten (put_of step).fault

abbrev pub has_unwritten_line : List LineStep → Bool
has_unwritten_line steps = list_any is_unwritten_line steps

-- the input ended in the middle of a line, of which so many bytes came
pub record IsCutLine (steps : List LineStep) (unheard : List ℕ) (count : ℕ) : Type 0 where
  pub counted : length unheard ≡ count
  pub some : 0 < count
  pub text : IsLineText unheard
  pub ended : has_ended steps ≡ true

-- the input ended, and all that came was heard
pub record IsAllHeard (steps : List LineStep) (unheard : List ℕ) : Type 0 where
  pub ended : has_ended steps ≡ true
  pub none : unheard ≡ []

-- what an end shows of the steps that led to it, and of the bytes that weren't heard
abbrev pub LineEndShows : ℕ → List LineStep → List ℕ → SessionEnd → Type 0
LineEndShows idle_turns steps unheard end.IdleOut =
    IsIdleOut (session_bounds idle_turns) (turns_of steps)
LineEndShows idle_turns steps unheard end.BytesOut =
    IsBytesOut (session_bounds idle_turns) (turns_of steps)
LineEndShows idle_turns steps unheard end.PoolFull = has_turned_away (calls_of steps) ≡ true
LineEndShows idle_turns steps unheard end.LedgerFault = has_unkept (calls_of steps) ≡ true
LineEndShows idle_turns steps unheard end.ReadFault = has_missed_turn steps ≡ true
LineEndShows idle_turns steps unheard end.WriteFault = has_unwritten_line steps ≡ true
LineEndShows idle_turns steps unheard (end.CutFrame count) = IsCutLine steps unheard count
LineEndShows idle_turns steps unheard end.LineTooLong = BeginsLongLine unheard
LineEndShows idle_turns steps unheard end.Done = IsAllHeard steps unheard
LineEndShows idle_turns steps unheard end.Memory = Unit {0}
LineEndShows idle_turns steps unheard (end.TooLong len) = ⊥
LineEndShows idle_turns steps unheard end.BadSetup = ⊥
LineEndShows idle_turns steps unheard (end.BadMessage kind) = ⊥

-- all that comes is whole lines, each within its limit
pub record AreGoodLines (told : List Turn) : Type 0 where
  pub lines : List (List ℕ)
  pub whole : bytes_in (steps_of told) ≡ line_bytes lines
  pub each : AllByRecursion IsLineText lines

-- no limit was reached, no call, take or put failed, and the pool wasn't full; memory may have been
-- wanted
pub record AreUnhinderedLines (idle_turns : ℕ) (steps : List LineStep) : Type 0 where
  pub within : IsAtLimit (session_bounds idle_turns) (turns_of steps) → ⊥
  pub kept : has_unkept (calls_of steps) ≡ false
  pub let_in : has_turned_away (calls_of steps) ≡ false
  pub read : has_missed_turn steps ≡ false
  pub written : has_unwritten_line steps ≡ false
