-- The messages of a miner can be written.
use Rattle.std.proofs.Common.{◌≡◌, ℕ, ◌<◌, ◌≤◌, ◌^◌, List, [], ◌∷◌, length, refl, arith}
use Rattle.std.proofs.lemmas.List.{length-append}
use Rattle.std.specs.Str.{IsUtf8}
use Rattle.sv2_types.specs.Fields.{U16, U32, UINT256, F32, STR0_255, Number, Bytes}
use Rattle.sv2_messages.specs.declared.kinds.TheConstants as kinds
use Rattle.sv2_messages.specs.Messages.{FitsFrame}
use Rattle.sv2_messages.specs.Tables.{mining_table}

pub opening_fits : (user target : List ℕ) → length user ≤ 255 → IsUtf8 user → length target ≡ 32
    → FitsFrame mining_table (record {
      kind = kinds.OPEN_STANDARD_MINING_CHANNEL;
      fields = Number 1 ∷ Bytes user ∷ Bytes (0 ∷ 0 ∷ 0 ∷ 0 ∷ []) ∷ Bytes target ∷ [];
    })
opening_fits user target short text whole = record {
  types = U32 ∷ STR0_255 ∷ F32 ∷ UINT256 ∷ [];
  row = refl;
  fields = record { admitted = (omega arith, ((omega arith, text), (refl, (whole, tt)))); within = simp length-append (omega arith) };
}

pub share_fits : (channel number job nonce ntime version : ℕ) → channel < 2 ^ 32 → number < 2 ^ 32 → job < 2 ^ 32 → nonce < 2 ^ 32 → ntime < 2 ^ 32 → version < 2 ^ 32
    → FitsFrame mining_table (record {
      kind = kinds.SUBMIT_SHARES_STANDARD;
      fields = Number channel ∷ Number number ∷ Number job ∷ Number nonce ∷ Number ntime ∷ Number version ∷ [];
    })
share_fits channel number job nonce ntime version channel_fits number_fits job_fits nonce_fits ntime_fits version_fits = record {
  types = U32 ∷ U32 ∷ U32 ∷ U32 ∷ U32 ∷ U32 ∷ [];
  row = refl;
  fields = record { admitted = (channel_fits, (number_fits, (job_fits, (nonce_fits, (ntime_fits, (version_fits, tt)))))); within = omega arith };
}

pub success_fits : FitsFrame mining_table (record { kind = kinds.SETUP_CONNECTION_SUCCESS; fields = Number 2 ∷ Number 0 ∷ [] })
success_fits = record {
  types = U16 ∷ U32 ∷ [];
  row = refl;
  fields = record { admitted = (omega arith, (omega arith, tt)); within = omega arith };
}
