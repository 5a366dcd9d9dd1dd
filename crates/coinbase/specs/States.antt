-- What an assembly keeps true (this project's own).
use Rattle.std.specs.Prelude.{ℕ, ◌≤◌, List, length}
use Rattle.sha2.specs.declared.Sha256.{Sha256}
use Rattle.sha2.specs.Hashers.{Holds256}

-- the hash state has taken the prefix; version and lock time are there
pub record IsAssembled (prefix suffix : List ℕ) (state : Sha256) : Type 0 where
  pub version : 4 ≤ length prefix
  pub lock_time : 4 ≤ length suffix
  pub taken : Holds256 state prefix
