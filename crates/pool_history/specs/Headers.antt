-- The header of a share (Stratum V2, "Mining Protocol": extranonce, coinbase, root, header).
-- Computed on the worked session, with hashes in `ledger_laws` (`WorkedSession`).
use Rattle.std.specs.Prelude.{◌≡◌, ℕ, ◌-◌, List, ◌++◌, length, replicate}
use Rattle.block_header.specs.Hash.{dsha}
use Rattle.block_header.specs.Layout.{header_bytes}
use Rattle.block_header.specs.Root.{root}
use Rattle.pool_history.specs.declared.events.Kind.{Kind}
use Rattle.pool_history.specs.declared.events.Kind.TheVariants.{Standard, Extended, V1}

-- what an open channel, a job and the last tip give to a header
pub record Briefing : Type 0 where
  pub prefix : List ℕ
  pub suffix : List ℕ
  pub path : List (List ℕ)
  pub prev_hash : List ℕ
  pub nbits : ℕ
  pub lead : List ℕ
  pub kind : Kind

-- a standard channel's lead has four bytes (this project's own)
pub record IsBriefing (kind : Kind) (lead : List ℕ) : Type 0 where
  pub standard : kind ≡ Standard → length lead ≡ 4

-- a channel's extranonce prefix: a standard channel's is its lead and eight zero bytes, any other's
-- is its lead (this project's own)
abbrev pub extranonce_prefix : Kind → List ℕ → List ℕ
extranonce_prefix Standard lead = lead ++ replicate 8 0
extranonce_prefix Extended lead = lead
extranonce_prefix V1 lead = lead

-- how many bytes of twelve a miner rolls (this project's own)
abbrev pub rolled_length : Kind → List ℕ → ℕ
rolled_length Standard lead = 0
rolled_length Extended lead = 12 - length lead
rolled_length V1 lead = 12 - length lead

-- the coinbase: the job's prefix, the channel's prefix and the share's extranonce, the job's suffix
abbrev pub coinbase_by : Briefing → List ℕ → List ℕ
coinbase_by brief extranonce =
    brief.prefix ++ (extranonce_prefix brief.kind brief.lead ++ extranonce) ++ brief.suffix

-- the 80 bytes of a share's header
abbrev pub header_by : Briefing → ℕ → ℕ → ℕ → List ℕ → List ℕ
header_by brief version ntime nonce extranonce =
    header_bytes version brief.prev_hash
    (root (dsha (coinbase_by brief extranonce)) brief.path) ntime brief.nbits nonce
