-- The messages of declarations can be written.
use Rattle.std.proofs.Common.{◌≡◌, ℕ, ◌<◌, ◌≤◌, ◌^◌, List, [], ◌∷◌, length, refl, arith}
use Rattle.std.proofs.lemmas.List.{length-append}
use Rattle.std.specs.List.{AllByRecursion}
use Rattle.std.specs.Str.{IsUtf8}
use Rattle.sv2_types.specs.Fields.{U32, STR0_255, B0_255, B0_64K, SEQ0_64K_U16, Number, Bytes, Numbers}
use Rattle.sv2_types.proofs.Items.{length-numbers}
use Rattle.sv2_messages.specs.declared.kinds.TheConstants as kinds
use Rattle.sv2_messages.specs.Messages.{FitsFrame}
use Rattle.sv2_messages.specs.Tables.{declare_table}

pub success_fits : (request : ℕ) (token : List ℕ) → request < 2 ^ 32 → length token ≡ 8
    → FitsFrame declare_table
    (record { kind = kinds.DECLARE_MINING_JOB_SUCCESS; fields = Number request ∷ Bytes token ∷ [] })
success_fits request token request_fits eight = record {
  types = U32 ∷ B0_255 ∷ [];
  row = refl;
  fields = record {
    admitted = (request_fits, (omega arith, tt));
    within = simp length-append (omega arith);
  };
}

pub error_fits : (request : ℕ) (code : List ℕ) → request < 2 ^ 32 → length code ≤ 255 → IsUtf8 code
    → FitsFrame declare_table
    (record {
      kind = kinds.DECLARE_MINING_JOB_ERROR;
      fields = Number request ∷ Bytes code ∷ Bytes [] ∷ [];
    })
error_fits request code request_fits short text = record {
  types = U32 ∷ STR0_255 ∷ B0_64K ∷ [];
  row = refl;
  fields = record {
    admitted = (request_fits, ((omega arith, text), (omega arith, tt)));
    within = simp length-append (omega arith);
  };
}

pub missing_fits : (request : ℕ) (places : List ℕ) → request < 2 ^ 32 → length places < 2 ^ 16
    → AllByRecursion (λ n. n < 2 ^ 16) places
    → FitsFrame declare_table
    (record {
      kind = kinds.PROVIDE_MISSING_TRANSACTIONS;
      fields = Number request ∷ Numbers places ∷ [];
    })
missing_fits request places request_fits few each = record {
  types = U32 ∷ SEQ0_64K_U16 ∷ [];
  row = refl;
  fields = record {
    admitted = (request_fits, ((few, each), tt));
    within = simp length-append (omega (arith, length-numbers places));
  };
}
