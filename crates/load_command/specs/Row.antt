-- What `load NUMBER` owes at each status (this project's own).
use Rattle.std.specs.Prelude.{ℕ, ◌≡◌, ◌⊎◌, List}
use Rattle.pool_io.specs.Hosts.{HostSeen}
use Rattle.stream_commands.specs.Printing.{PrintsText}
use Rattle.stream_commands.specs.declared.status.Status.{Status}
use Rattle.stream_commands.specs.declared.status.Status.TheVariants as status
use Rattle.load_command.specs.Loads.{IsLoadText, load_steps}

-- the row of `load NUMBER`: the text was printed, or there was no memory for it
abbrev pub LoadRow : ℕ → HostSeen → HostSeen → Status → Type 0
LoadRow number old new answer =
    ((text : List ℕ) × IsLoadText number load_steps text × PrintsText text status.Done old new answer)
    ⊎ ((answer ≡ status.Memory) × (new ≡ old))
