-- A setup for mining that tells nothing of its device (Stratum V2, "SetupConnection").
use Rattle.std.specs.Prelude.{ℕ, [], ◌∷◌}
use Rattle.sv2_types.specs.Fields.{Bytes, Number}
use Rattle.sv2_messages.specs.declared.kinds.TheConstants as kinds
use Rattle.sv2_messages.specs.Messages.{Message}

-- protocol 0, versions 2 and 2, these flags, no texts, port 0
abbrev pub plain_setup : ℕ → Message
plain_setup flags = record {
  kind = kinds.SETUP_CONNECTION;
  fields =
      Number 0 ∷ Number 2 ∷ Number 2 ∷ Number flags ∷ Bytes [] ∷ Number 0 ∷ Bytes [] ∷ Bytes [] ∷
      Bytes [] ∷ Bytes [] ∷ [];
}
