-- What is asked of the pool, as messages of Stratum V2.
use Rattle.std.specs.Prelude.{ℕ, Option, None, Some, [], ◌∷◌}
use Rattle.block_header.specs.Target.{target}
use Rattle.sv2_messages.specs.Messages.{Message}
use Rattle.sv2_messages.specs.declared.kinds.TheConstants as kinds
use Rattle.sv2_types.specs.Fields.{FieldValue, Number, Bytes}
use Rattle.v1_translate.specs.State.{Asking, Silence, Open, Update, Share, Name, SentShare}

-- no hash rate is said
abbrev pub no_rate : FieldValue
no_rate = Bytes (0 ∷ 0 ∷ 0 ∷ 0 ∷ [])

-- a channel without a user, on which 8 bytes are rolled
abbrev pub open_message : ℕ → Message
open_message class =
    record {
      kind = kinds.OPEN_EXTENDED_MINING_CHANNEL;
      fields = Number 0 ∷ Bytes [] ∷ no_rate ∷ Bytes (target class) ∷ Number 8 ∷ [];
    }

abbrev pub update_message : ℕ → ℕ → Message
update_message channel class =
    record {
      kind = kinds.UPDATE_CHANNEL;
      fields = Number channel ∷ no_rate ∷ Bytes (target class) ∷ [];
    }

abbrev pub share_message : SentShare → Message
share_message share =
    record {
      kind = kinds.SUBMIT_SHARES_EXTENDED;
      fields =
          Number share.channel ∷ Number share.sequence ∷ Number share.job ∷ Number share.nonce ∷
          Number share.ntime ∷ Number share.version ∷ Bytes share.extranonce ∷ [];
    }

-- a name is no message
abbrev pub message_asked : Asking → Option Message
message_asked Silence = None
message_asked (Open class) = Some (open_message class)
message_asked (Update channel class) = Some (update_message channel class)
message_asked (Share share) = Some (share_message share)
message_asked (Name account) = None
