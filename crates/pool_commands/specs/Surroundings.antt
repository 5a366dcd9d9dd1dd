-- All that a command over a disk reaches, and that it came back (this project's own).
use Rattle.std.specs.Prelude.{◌≡◌}
use Rattle.pool_io.specs.Hosts.{HostSeen, IsHandedBack}
use Rattle.ledger_disk.specs.Disks.{DisksSeen}
use Rattle.pool_network.specs.Networks.{NetworkSeen}
use Rattle.pool_network.specs.Worlds.{WorldSeen}

-- a host, a network, and what gives disks
pub record Surroundings : Type 0 where
  pub host : HostSeen
  pub network : NetworkSeen
  pub disks : DisksSeen

abbrev pub around : HostSeen → NetworkSeen → DisksSeen → Surroundings
around host network disks = record { host = host; network = network; disks = disks }

abbrev pub world_in : Surroundings → WorldSeen
world_in all = record { host = all.host; network = all.network }

-- all that a host and a network gave has come back
pub record IsWorldBack (old new : WorldSeen) : Type 0 where
  pub host : IsHandedBack old.host new.host
  pub links : new.network.links.lent ≡ old.network.links.lent
  pub doors : new.network.doors.lent ≡ old.network.doors.lent

-- and so has each disk
pub record IsAllBack (old new : Surroundings) : Type 0 where
  pub world : IsWorldBack (world_in old) (world_in new)
  pub disks : new.disks.disks.lent ≡ old.disks.disks.lent
