-- The frames that a miner says (Stratum V2, "SetupConnection", "OpenStandardMiningChannel" and
-- "SubmitSharesStandard").
use Rattle.std.specs.Prelude.{ℕ, Option, None, Some, List, [], ◌∷◌}
use Rattle.block_header.specs.Target.{target}
use Rattle.sv2_types.specs.Fields.{Number, Bytes}
use Rattle.sv2_messages.specs.declared.kinds.TheConstants as kinds
use Rattle.sv2_messages.specs.Messages.{message_frame}
use Rattle.sv2_messages.specs.Tables.{mining_table}
use Rattle.mining_msgs.specs.PlainSetup.{plain_setup}
use Rattle.test_miner.specs.declared.trying.MinedShare.{MinedShare}

-- with flag bit 0: standard jobs
abbrev pub setup_frame : List ℕ
setup_frame = message_frame mining_table (plain_setup 1)

-- request 1 of the user, hash rate zero, the target of the class
abbrev pub opening_frame : List ℕ → ℕ → List ℕ
opening_frame user class = message_frame mining_table (record {
  kind = kinds.OPEN_STANDARD_MINING_CHANNEL;
  fields = Number 1 ∷ Bytes user ∷ Bytes (0 ∷ 0 ∷ 0 ∷ 0 ∷ []) ∷ Bytes (target class) ∷ [];
})

-- a share's channel, sequence number and job, and what its header has
abbrev pub share_frame : MinedShare → List ℕ
share_frame share = message_frame mining_table (record {
  kind = kinds.SUBMIT_SHARES_STANDARD;
  fields =
      Number share.job.job.channel_id ∷ Number share.number ∷ Number share.job.job.job_id ∷
      Number share.at.nonce ∷ Number share.at.ntime ∷ Number share.job.job.version ∷ [];
})

-- the same where there is one
abbrev pub share_bytes : Option MinedShare → List ℕ
share_bytes None = []
share_bytes (Some share) = share_frame share
