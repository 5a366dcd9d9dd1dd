-- What the putting of a text is answered with (this project's own).
use Rattle.std.specs.Prelude.{ℕ, ◌≡◌, ◌⊎◌, List}
use Rattle.pool_base.specs.Lists.{Begins}
use Rattle.pool_io.specs.Outside.{AddsBytes, next_count}
use Rattle.pool_io.specs.Seen.{SinkSeen}
use Rattle.stream_commands.specs.declared.status.Status.{Status}
use Rattle.stream_commands.specs.declared.status.Status.TheVariants as status

-- a front of a text was put, and why not all
pub record PutsFront (old new : SinkSeen) (text : List ℕ) (answer : Status) : Type 0 where
  pub front : List ℕ
  pub begins : Begins front text
  pub put : AddsBytes old.held new.held front
  pub cause : ((answer ≡ status.WriteFault) × (new.faults ≡ next_count old.faults))
      ⊎ ((answer ≡ status.Memory) × (new.faults ≡ old.faults))

-- a text was put, and this is answered; or a front of it
abbrev pub PutsText : SinkSeen → SinkSeen → List ℕ → Status → Status → Type 0
PutsText old new text wanted answer =
    ((answer ≡ wanted) × AddsBytes old.held new.held text × (new.faults ≡ old.faults))
    ⊎ PutsFront old new text answer
