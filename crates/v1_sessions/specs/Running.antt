-- What a session of lines did between two of its states (this project's own).
use Rattle.std.specs.Prelude.{◌≡◌, ℕ, List}
use Rattle.pool_io.specs.Outside.{AddsBytes}
use Rattle.pool_io.specs.Steps.{BringsSteps}
use Rattle.pool_network.specs.Seen.{LinkSeen}
use Rattle.pool_history.specs.Calls.{PoolCall}
use Rattle.v2_sessions.specs.Answerers.{Acts}
use Rattle.v2_sessions.specs.Running.{TakesAll}
use Rattle.session_steps.specs.declared.ends.SessionEnd.{SessionEnd}
use Rattle.session_steps.specs.States.{Over}
use Rattle.v1_translate.specs.State.{Terms}
use Rattle.v1_sessions.specs.States.{LineState}
use Rattle.v1_sessions.specs.Steps.{LineStep, Follows, bytes_of, calls_of, has_ended, reads_after, turns_of, writes_after}

-- Steps that follow from the one state to the other. The turns that were taken of the link are those
-- of the steps, so are the bytes that were put and the calls; a count of faults rose by just the
-- steps that failed.
pub record RunsLines {A : Type 0} (worker : A → ℕ) (does : A → PoolCall → A → Type 0)
    (terms : Terms) (from to : LineState) (link link' : LinkSeen) (acting acting' : A) :
    Type 0 where
  pub steps : List LineStep
  pub follows : Follows (worker acting) terms from steps to
  pub took : BringsSteps link.source.left link'.source.left (turns_of steps)
  pub ended : TakesAll (has_ended steps) link.source.left (turns_of steps)
  pub put : AddsBytes link.sink.held link'.sink.held (bytes_of steps)
  pub reads : link'.source.faults ≡ reads_after link.source.faults steps
  pub writes : link'.sink.faults ≡ writes_after link.sink.faults steps
  pub acts : Acts does acting (calls_of steps) acting'
  pub same : worker acting' ≡ worker acting

-- steps from there to this end
pub record IsRestOfLines {A : Type 0} (worker : A → ℕ) (does : A → PoolCall → A → Type 0)
    (terms : Terms) (from : LineState) (link link' : LinkSeen) (acting acting' : A)
    (reason : SessionEnd) : Type 0 where
  pub last : LineState
  pub over : last.pool.stage ≡ Over reason
  pub runs : RunsLines worker does terms from last link link' acting acting'
