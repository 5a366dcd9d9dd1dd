-- What a session on a link did, to the link and to the pass that asked for it (this project's own).
use Rattle.std.specs.Prelude.{◌≡◌, ℕ, ◌<◌, false, List, Some}
use Rattle.pool_base.specs.Counts.{Rose}
use Rattle.pool_io.specs.declared.turn.Turn.{Turn}
use Rattle.pool_io.specs.Outside.{AddsBytes, CountsFailure}
use Rattle.pool_io.specs.Steps.{BringsSteps, IsFree, steps_of}
use Rattle.pool_network.specs.Seen.{LinkSeen}
use Rattle.pool_history.specs.Calls.{PoolCall}
use Rattle.pool_history.specs.Refusing.{most_enters}
use Rattle.pool_history.specs.Sessions.{enters, past_of}
use Rattle.session_steps.specs.declared.ends.SessionEnd.{SessionEnd}
use Rattle.session_steps.specs.declared.manner.Manner.{Manner}
use Rattle.v2_sessions.specs.Causes.{is_read_end, is_write_end}
use Rattle.v2_sessions.specs.Running.{TakesAll}
use Rattle.v2_sessions.specs.Ends.{Failures, HasNoHindrance, IsWellEnded, has_turned_away, has_unkept, session_bounds}
use Rattle.v1_translate.specs.State.{Terms}
use Rattle.pool_sessions.specs.Courses.{Course, IsCourse, IsGoodSpeech, bytes_on, calls_on, has_ended_on, turns_on}
use Rattle.pool_server.specs.Calling.{AddsCalls, PoolPass, faults_through}

-- a pass, and how many of its calls were answered by the keeper's fault
pub record Asking : Type 0 where
  pub pass : PoolPass
  pub faults : ℕ

-- a link as it came and as it went, the course of its session, and how that ended
pub record Visit : Type 0 where
  pub before : LinkSeen
  pub after : LinkSeen
  pub course : Course
  pub reason : SessionEnd

-- nothing stopped a session: its input was told and is good, no limit is reached by it, neither count
-- of the link rose, no call was answered by the keeper's fault, and none that the pool is full
pub record IsUnstopped (manner : Manner) (visit : Visit) : Type 0 where
  pub turns : List Turn
  pub told : visit.before.source.left ≡ Some turns
  pub good : IsGoodSpeech manner turns
  pub within : IsFree (session_bounds manner.idle_turns) (steps_of turns)
  pub read : ¬ Rose visit.before.source.faults visit.after.source.faults
  pub written : ¬ Rose visit.before.sink.faults visit.after.sink.faults
  pub kept : has_unkept (calls_on visit.course) ≡ false
  pub let_in : has_turned_away (calls_on visit.course) ≡ false

-- A course that begins a session of this worker and comes to this end, in the language that its first
-- byte tells. The turns that were taken of the link are those of the course, and so are the bytes that
-- it got; its counts rose just where the end says so. What nothing stopped was served to its end, or
-- memory ran out.
pub record IsVisit (terms : Terms) (manner : Manner) (worker : ℕ) (visit : Visit) : Type 0 where
  pub is_course : IsCourse worker terms manner visit.course visit.reason
  pub took : BringsSteps visit.before.source.left visit.after.source.left (turns_on visit.course)
  pub ended : TakesAll (has_ended_on visit.course) visit.before.source.left
      (turns_on visit.course)
  pub put : AddsBytes visit.before.sink.held visit.after.sink.held (bytes_on visit.course)
  pub reads : CountsFailure (is_read_end visit.reason) visit.before.source.faults
      visit.after.source.faults
  pub writes : CountsFailure (is_write_end visit.reason) visit.before.sink.faults
      visit.after.sink.faults
  pub complete : IsUnstopped manner visit → IsWellEnded visit.reason

-- these calls were made by the pass, behind those that it had, and those that the keeper's fault
-- answered were counted
pub record AsksByPass (old : Asking) (calls : List PoolCall) (new : Asking) : Type 0 where
  pub goes_on : AddsCalls old.pass calls new.pass
  pub faults : new.faults ≡ faults_through old.faults calls

-- how often the link has failed, and the keeper at calls of the pass
abbrev pub failures_at : LinkSeen → Asking → Failures
failures_at link asking = record {
  reads = link.source.faults;
  writes = link.sink.faults;
  keeper = asking.faults;
}

-- good input is served to its end, or memory ran out, where nothing else failed, no limit was
-- reached, and fewer than 2^22 sessions have entered in all that the pass has seen
abbrev pub ServesGoodLink :
    Manner → LinkSeen → LinkSeen → Asking → Asking → SessionEnd → Type 0
ServesGoodLink manner before after old new reason =
    (turns : List Turn) → before.source.left ≡ Some turns → IsGoodSpeech manner turns
    → HasNoHindrance manner.idle_turns turns (failures_at before old) (failures_at after new)
    → enters (past_of new.pass.seen) < most_enters → IsWellEnded reason

-- a session on the link, whose calls are those that the pass made; good input is served well
pub record ServesLink (terms : Terms) (manner : Manner) (before after : LinkSeen)
    (old new : Asking) (reason : SessionEnd) : Type 0 where
  pub course : Course
  pub visit : IsVisit terms manner old.pass.worker (record {
    before = before;
    after = after;
    course = course;
    reason = reason;
  })
  pub asks : AsksByPass old (calls_on course) new
  pub complete : ServesGoodLink manner before after old new reason
