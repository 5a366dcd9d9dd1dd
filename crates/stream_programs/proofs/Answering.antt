-- The answers to shares can be written.
use Rattle.std.proofs.Common.{ℕ, ◌<◌, ◌≤◌, ◌^◌, List, [], ◌∷◌, length, refl, arith}
use Rattle.std.proofs.lemmas.List.{length-append}
use Rattle.sv2_types.specs.Fields.{U32, U64, STR0_255, Number, Bytes}
use Rattle.std.specs.Str.{IsUtf8}
use Rattle.sv2_messages.specs.declared.kinds.TheConstants as kinds
use Rattle.sv2_messages.specs.Messages.{FitsFrame}
use Rattle.sv2_messages.specs.Tables.{mining_table}

pub success_fits : (channel sequence count sum : ℕ) → channel < 2 ^ 32 → sequence < 2 ^ 32 → count < 2 ^ 32 → sum < 2 ^ 64
    → FitsFrame mining_table (record { kind = kinds.SUBMIT_SHARES_SUCCESS; fields = Number channel ∷ Number sequence ∷ Number count ∷ Number sum ∷ [] })
success_fits channel sequence count sum channel_fits sequence_fits count_fits sum_fits = record {
  types = U32 ∷ U32 ∷ U32 ∷ U64 ∷ [];
  row = refl;
  fields = record { admitted = (channel_fits, (sequence_fits, (count_fits, (sum_fits, tt)))); within = omega arith };
}

pub error_fits : (channel sequence : ℕ) (code : List ℕ) → channel < 2 ^ 32 → sequence < 2 ^ 32 → length code ≤ 255 → IsUtf8 code
    → FitsFrame mining_table (record { kind = kinds.SUBMIT_SHARES_ERROR; fields = Number channel ∷ Number sequence ∷ Bytes code ∷ [] })
error_fits channel sequence code channel_fits sequence_fits short text = record {
  types = U32 ∷ U32 ∷ STR0_255 ∷ [];
  row = refl;
  fields = record { admitted = (channel_fits, (sequence_fits, ((omega arith, text), tt))); within = omega (arith, length-append code []) };
}
