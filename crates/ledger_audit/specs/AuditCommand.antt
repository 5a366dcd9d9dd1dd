-- What `audit LEDGER` owes at each status (this project's own).
use Rattle.std.specs.Prelude.{ℕ, ◌≡◌, ◌⊎◌, List, Some}
use Rattle.pool_io.specs.declared.host.HostError.{HostError}
use Rattle.pool_io.specs.declared.opening.Opening.TheVariants as opening
use Rattle.pool_io.specs.declared.turn.Turn.{Turn}
use Rattle.pool_io.specs.Hosts.{CameBack, HostSeen, IsRefusedFile, IsRefusedOutput}
use Rattle.pool_io.specs.Lending.{nothing_left}
use Rattle.pool_io.specs.Openings.{openings_and}
use Rattle.pool_io.specs.Outside.{CountsFailure}
use Rattle.pool_io.specs.Seen.{SinkSeen, SourceSeen}
use Rattle.pool_io.specs.Steps.{steps_of}
use Rattle.stream_commands.specs.Ending.{DecideEnd, EndsCommand, is_read_fault, is_write_fault}
use Rattle.stream_commands.specs.Statuses.{status_of_end, status_of_refusal}
use Rattle.stream_commands.specs.declared.end.End.{End}
use Rattle.stream_commands.specs.declared.status.Status.{Status}
use Rattle.ledger_audit.specs.Duty.{audit_duty}

-- A source over the ledger's file and a sink were given, the audit ran from the one to the other,
-- and both came back.
pub record AuditedOnHost (ledger : List ℕ) (old new : HostSeen) (end : End) : Type 0 where
  pub source : SourceSeen
  pub sink : SinkSeen
  pub sources : CameBack old.streams.sources new.streams.sources source
  pub sinks : CameBack old.streams.sinks new.streams.sinks sink
  pub input : new.streams.input ≡ old.streams.input
  pub output : new.streams.output ≡ nothing_left old.streams.output
  pub host : new.streams.faults ≡ old.streams.faults
  pub openings : new.openings
      ≡ openings_and (openings_and old.openings (opening.Source ledger)) opening.Output
  -- what the end says of the file and of what was put
  pub ran : EndsCommand audit_duty (old.openings.brings ledger) source.left
      old.streams.output sink.held end
  -- the other way round: a told file decides the end, but for a fault or lack of memory
  pub decided : (turns : List Turn) → old.openings.brings ledger ≡ Some turns
      → DecideEnd audit_duty (steps_of turns) end
  -- a failure is the end exactly where it was counted, and is counted once
  pub reads : CountsFailure (is_read_fault (Some end)) 0 source.faults
  pub writes : CountsFailure (is_write_fault (Some end)) 0 sink.faults

-- the row of `audit LEDGER`
abbrev pub AuditRow : List ℕ → HostSeen → HostSeen → Status → Type 0
AuditRow ledger old new status =
    ((end : End) × (status ≡ status_of_end end) × AuditedOnHost ledger old new end)
    ⊎ ((error : HostError) × (status ≡ status_of_refusal error)
    × (IsRefusedFile ledger old new error ⊎ IsRefusedOutput ledger old new error))
