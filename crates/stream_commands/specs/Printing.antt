-- What the printing of a text does to a host (this project's own).
use Rattle.std.specs.Prelude.{ℕ, ◌≡◌, ◌⊎◌, List, Err}
use Rattle.pool_io.specs.declared.host.HostError.{HostError}
use Rattle.pool_io.specs.declared.opening.Opening.TheVariants as opening
use Rattle.pool_io.specs.Hosts.{CameBack, HostSeen, IsRefused}
use Rattle.pool_io.specs.Lending.{nothing_left}
use Rattle.pool_io.specs.Openings.{openings_after, openings_and}
use Rattle.pool_io.specs.Seen.{SinkSeen}
use Rattle.stream_commands.specs.declared.status.Status.{Status}
use Rattle.stream_commands.specs.Statuses.{status_of_refusal}
use Rattle.stream_commands.specs.Texts.{PutsText}

-- The host gave its output, a text was put to it, or a front of it, and it came back.
pub record PrintedOnHost (text : List ℕ) (wanted : Status) (old new : HostSeen) (answer : Status) :
    Type 0 where
  pub put : SinkSeen
  pub puts : PutsText (record { faults = 0; held = old.streams.output }) put text wanted answer
  pub sinks : CameBack old.streams.sinks new.streams.sinks put
  pub streams : new.streams ≡ record old.streams {
    sinks = new.streams.sinks;
    output = nothing_left old.streams.output;
  }
  pub openings : new.openings ≡ openings_and old.openings opening.Output

-- it gave none
abbrev pub HasNoOutput : HostSeen → HostSeen → HostError → Type 0
HasNoOutput old new error =
    IsRefused old new (openings_after {A = Unit {0}} opening.Output (Err error) old.openings) error

-- a text was printed, and this is answered; or a front of it; or the host gave no output
abbrev pub PrintsText : List ℕ → Status → HostSeen → HostSeen → Status → Type 0
PrintsText text wanted old new answer =
    PrintedOnHost text wanted old new answer
    ⊎ ((error : HostError) × (answer ≡ status_of_refusal error) × HasNoOutput old new error)
