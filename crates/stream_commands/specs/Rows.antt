-- What a command over standard input and output owes at each status (this project's own).
use Rattle.std.specs.Prelude.{◌≡◌, ◌⊎◌, List, Some, Err}
use Rattle.pool_io.specs.declared.host.HostError.{HostError}
use Rattle.pool_io.specs.declared.turn.Turn.{Turn}
use Rattle.pool_io.specs.declared.opening.Opening.TheVariants.{Input, Output}
use Rattle.pool_io.specs.Hosts.{CameBack, StreamsSeen}
use Rattle.pool_io.specs.Lending.{nothing_left}
use Rattle.pool_io.specs.Openings.{Openings, openings_after, openings_and}
use Rattle.pool_io.specs.Outside.{CountsFailure, is_failed_gift}
use Rattle.pool_io.specs.Seen.{SinkSeen, SourceSeen}
use Rattle.pool_io.specs.Steps.{steps_of}
use Rattle.stream_commands.specs.Duties.{Duty}
use Rattle.stream_commands.specs.Ending.{EndsCommand, DecideEnd, is_read_fault, is_write_fault}
use Rattle.stream_commands.specs.Statuses.{status_of_end, status_of_refusal}
use Rattle.stream_commands.specs.declared.end.End.{End}
use Rattle.stream_commands.specs.declared.status.Status.{Status}

-- A source and a sink were given, the command ran from the one to the other, and both came back.
pub record RanOnHost (duty : Duty) (old new : StreamsSeen) (end : End) : Type 0 where
  pub source : SourceSeen
  pub sink : SinkSeen
  pub sources : CameBack old.sources new.sources source
  pub sinks : CameBack old.sinks new.sinks sink
  pub input : new.input ≡ nothing_left old.input
  pub output : new.output ≡ nothing_left old.output
  pub host : new.faults ≡ old.faults
  -- what the end says of the input and of what was put
  pub ran : EndsCommand duty old.input source.left old.output sink.held end
  -- the other way round: told input decides the end, but for a fault or lack of memory
  pub decided : (told : List Turn) → old.input ≡ Some told → DecideEnd duty (steps_of told) end
  -- a failure is the end exactly where it was counted, and is counted once
  pub reads : CountsFailure (is_read_fault (Some end)) 0 source.faults
  pub writes : CountsFailure (is_write_fault (Some end)) 0 sink.faults

-- The host gave no source, or a source and no sink; no sink came back.
pub record IsRefusedByHost (old new : StreamsSeen) (error : HostError) : Type 0 where
  -- a source came back as it was given: nothing was taken from it
  pub source : ((new.sources ≡ old.sources) × (new.input ≡ old.input))
      ⊎ CameBack old.sources new.sources (record { faults = 0; left = old.input })
  pub sinks : new.sinks ≡ old.sinks
  pub output : new.output ≡ old.output
  pub counts : CountsFailure (is_failed_gift {A = Unit {0}} (Err error)) old.faults new.faults

-- the row of a command over standard input and output: what it owes at each status
abbrev pub StreamRow : Duty → StreamsSeen → StreamsSeen → Status → Type 0
StreamRow duty old new status =
    ((end : End) × (status ≡ status_of_end end) × RanOnHost duty old new end)
    ⊎ ((error : HostError) × (status ≡ status_of_refusal error)
    × IsRefusedByHost old new error)

-- The host was asked for its input and then for its output, and for nothing else: for both, or up to
-- what it refused.
abbrev pub AsksForStreams : Openings → Openings → Status → Type 0
AsksForStreams old new status =
    (new ≡ openings_and (openings_and old Input) Output)
    ⊎ ((error : HostError) × (status ≡ status_of_refusal error)
    × ((new ≡ openings_after {A = Unit {0}} Input (Err error) old)
    ⊎ (new ≡ openings_after {A = Unit {0}} Output (Err error) (openings_and old Input))))
