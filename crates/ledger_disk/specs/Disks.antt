-- What contracts see of what gives disks, and what one call does to it (this project's own).
use Rattle.std.specs.Prelude.{ℕ, List, [], ◌∷◌, ◌++◌, Option, Result, Ok, Err}
use Rattle.std.specs.Option.{option_map}
use Rattle.pool_io.specs.declared.host.HostError.{HostError}
use Rattle.pool_io.specs.declared.host.HostError.TheVariants as host
use Rattle.pool_io.specs.Lending.{Lending}
use Rattle.ledger_disk.specs.declared.disk.Doing.TheVariants.{Synced}
use Rattle.ledger_disk.specs.Calls.{DiskSeen}
use Rattle.ledger_disk.specs.Moments.{with_call}

-- what gives disks
pub record DisksSeen : Type 0 where
  -- how often it has failed
  pub faults : ℕ
  -- the names that were asked for so far, in their order, where they are told
  pub calls : Option (List (List ℕ))
  -- what the disk of this name holds when it is opened, where it is told
  pub holds : List ℕ → Option (List ℕ)
  -- the disks that are out, and those that came back
  pub disks : Lending DiskSeen

-- a name more, where those so far are told
abbrev pub names_and : Option (List (List ℕ)) → List ℕ → Option (List (List ℕ))
names_and calls name = option_map (λ names. names ++ name ∷ []) calls

-- once a call has answered, its name is told; one that found no memory isn't told
abbrev pub names_after : {A : Type 0} → List ℕ → Result A HostError → Option (List (List ℕ))
    → Option (List (List ℕ))
names_after name (Ok given) calls = names_and calls name
names_after name (Err host.Failed) calls = names_and calls name
names_after name (Err host.Memory) calls = calls

-- a disk that was opened and not used: fresh, with what it held, where that is told
abbrev pub opened_disk : Option (List ℕ) → DiskSeen
opened_disk held = record {
  faults = 0;
  log = option_map (λ content. with_call Synced content []) held;
}
