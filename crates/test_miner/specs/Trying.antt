-- The tries on a job (this project's own; the header is Bitcoin's).
use Rattle.std.specs.Prelude.{ℕ, zero, suc, ◌+◌, ◌^◌, Bool, if◌then◌else◌, nat_lt, Option, None, Some, List}
use Rattle.block_header.specs.Hash.{dsha, meets}
use Rattle.block_header.specs.Layout.{header_bytes}
use Rattle.test_miner.specs.declared.trying.CurrentJob.{CurrentJob}
use Rattle.test_miner.specs.declared.trying.Try.{Try}
use Rattle.test_miner.specs.declared.trying.Tries.{Tries}

-- the 80 bytes that a try hashes (Bitcoin's "Block Headers")
abbrev pub header_tried : CurrentJob → Try → List ℕ
header_tried current at =
    header_bytes current.job.version current.prev_hash current.job.merkle_root at.ntime
    current.nbits at.nonce

-- the next try: by nonce from 0, then by the next time, up to the time 2^32 - 1
abbrev pub following : Try → Option Try
following at =
    if nat_lt (at.nonce + 1) (2 ^ 32) then Some (record { ntime = at.ntime; nonce = at.nonce + 1 })
    else if nat_lt (at.ntime + 1) (2 ^ 32) then Some (record { ntime = at.ntime + 1; nonce = 0 })
    else None

-- whether a try meets the class
abbrev pub is_met : ℕ → CurrentJob → Try → Bool
is_met class current at = meets (dsha (header_tried current at)) class

-- at most so many tries from this one on, up to the first that meets the class
unfoldable pub first_meeting : ℕ → CurrentJob → ℕ → Option Try → Tries
first_meeting class current zero from = record { found = None; next = from }
first_meeting class current (suc tries) None = record { found = None; next = None }
first_meeting class current (suc tries) (Some at) =
    if is_met class current at then record { found = Some at; next = following at }
    else first_meeting class current tries (following at)
