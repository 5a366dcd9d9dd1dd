-- A plain setup can be written.
use Rattle.std.proofs.Common.{ℕ, ◌<◌, ◌^◌, [], ◌∷◌, refl, arith}
use Rattle.std.proofs.lemmas.Str.{IsUtf8-nil}
use Rattle.sv2_types.specs.Fields.{U8, U16, U32, STR0_255}
use Rattle.sv2_messages.specs.Messages.{FitsFrame}
use Rattle.sv2_messages.specs.Tables.{mining_table}
use Rattle.mining_msgs.specs.PlainSetup.{plain_setup}

pub plain_setup_fits : (flags : ℕ) → flags < 2 ^ 32 → FitsFrame mining_table (plain_setup flags)
plain_setup_fits flags few =
    record {
      types = U8 ∷ U16 ∷ U16 ∷ U32 ∷ STR0_255 ∷ U16 ∷ STR0_255 ∷ STR0_255 ∷ STR0_255 ∷ STR0_255 ∷ [];
      row = refl;
      fields = record {
        admitted = (omega arith, (omega arith, (omega arith, (few, ((omega arith, IsUtf8-nil), (omega arith, ((omega arith, IsUtf8-nil), ((omega arith, IsUtf8-nil), ((omega arith, IsUtf8-nil), ((omega arith, IsUtf8-nil), tt))))))))));
        within = omega arith;
      };
    }
