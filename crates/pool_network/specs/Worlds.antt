-- What contracts see of all that a program reaches (this project's own).
use Rattle.pool_io.specs.Hosts.{HostSeen}
use Rattle.pool_network.specs.Networks.{NetworkSeen}

-- a host and a network
pub record WorldSeen : Type 0 where
  pub host : HostSeen
  pub network : NetworkSeen
