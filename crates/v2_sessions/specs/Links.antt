-- What one put does to a link (this project's own).
use Rattle.std.specs.Prelude.{◌≡◌, ℕ, Option, None, Some, Result, Ok, Err, List}
use Rattle.pool_io.specs.declared.sink.SinkFailed.{SinkFailed}
use Rattle.pool_io.specs.Outside.{AddsBytes}
use Rattle.pool_network.specs.Seen.{LinkSeen}
use Rattle.session_steps.specs.States.{IsPutBy}
use Rattle.session_steps.specs.Steps.{writes_after_put}

-- why a put failed, where it did
abbrev pub fault_of : Result Unit SinkFailed → Option SinkFailed
fault_of (Ok _) = None
fault_of (Err cause) = Some cause

-- all of these bytes were put, or a front of them where that failed
pub record PutsOut (whole : List ℕ) (fault : Option SinkFailed) (old new : LinkSeen) : Type 0 where
  pub bytes : List ℕ
  pub front : IsPutBy fault whole bytes
  pub added : AddsBytes old.sink.held new.sink.held bytes
  pub source : new.source ≡ old.source
  pub writes : new.sink.faults ≡ writes_after_put old.sink.faults fault
