-- What contracts see of disks in memory that have names.
use Rattle.std.specs.Prelude.{ℕ, List, [], ◌∷◌, Some, if◌then◌else◌}
use Rattle.std.specs.Str.{bytes_eq}
use Rattle.ledger_disk.specs.Disks.{DisksSeen}
use Rattle.ledger_disk.specs.declared.named.MemDisks.{MemDisks}
use Rattle.ledger_disk.specs.declared.named.NamedDisk.{NamedDisk}

-- what the first disk of this name holds; where there is none, nothing
abbrev pub content_named : List NamedDisk → List ℕ → List ℕ
content_named [] name = []
content_named (disk ∷ disks) name =
    if bytes_eq disk.name name then disk.content.items else content_named disks name

-- they tell all of it
abbrev pub disks_seen : MemDisks → DisksSeen
disks_seen d = record {
  faults = d.failing.faults;
  calls = Some d.calls.items;
  holds = λ name. Some (content_named d.named.items name);
  disks = d.disks;
}
