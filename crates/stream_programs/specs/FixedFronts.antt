-- The front of a header, hashed (this project's own).
use Rattle.std.specs.Prelude.{ℕ, ◌++◌}
use Rattle.std.specs.Int.{w32, to_le_bytes}
use Rattle.sha2.specs.declared.Sha256.{Sha256}
use Rattle.sha2.specs.Hashers.{Holds256}
use Rattle.stream_programs.specs.declared.judge.Job.{Job}

-- a version, and the job whose headers have it
pub record HeaderFront : Type 0 where
  pub version : ℕ
  pub job : Job

-- the hash has taken the version, the hash of the block before and the merkle root
abbrev pub HoldsFront : ℕ → Job → Sha256 → Type 0
HoldsFront version job state =
    Holds256 state (to_le_bytes w32 version ++ job.prev_hash ++ job.root)
