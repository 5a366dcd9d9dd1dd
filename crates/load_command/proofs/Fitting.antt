-- The messages of a generated session can be written.
use Rattle.std.proofs.Common.{◌≡◌, ℕ, ◌<◌, ◌^◌, true, List, [], ◌∷◌, length, refl, arith}
use Rattle.std.proofs.lemmas.List.{length-append}
use Rattle.std.proofs.lemmas.Str.{IsUtf8-nil}
use Rattle.std.specs.Str.{IsUtf8}
use Rattle.sv2_types.specs.Fields.{U8, U16, U32, U64, UINT256, BOOL, F32, STR0_255, B0_32, B0_64K, B0_255, SEQ0_255_U256, Bytes, Number, Parts, Truth}
use Rattle.sv2_messages.specs.declared.kinds.TheConstants as kinds
use Rattle.sv2_messages.specs.Messages.{FitsFrame}
use Rattle.sv2_messages.specs.Tables.{mining_table, template_table}
use Rattle.load_command.specs.Frames.{share_message, template_message}

pub opening_fits : (number : ℕ) (user target : List ℕ) → number < 2 ^ 32 → length user ≡ 2 → IsUtf8 user → length target ≡ 32
    → FitsFrame mining_table (record {
      kind = kinds.OPEN_EXTENDED_MINING_CHANNEL;
      fields = Number number ∷ Bytes user ∷ Bytes (0 ∷ 0 ∷ 0 ∷ 0 ∷ []) ∷ Bytes target ∷ Number 8 ∷ [];
    })
opening_fits number user target few short text whole = record {
  types = U32 ∷ STR0_255 ∷ F32 ∷ UINT256 ∷ U16 ∷ [];
  row = refl;
  fields = record { admitted = (few, ((omega (arith, short), text), (refl, (whole, (omega arith, tt))))); within = simp length-append (omega (arith, short, whole)) };
}

pub template_fits : (id : ℕ) (path : List (List ℕ)) → id < 2 ^ 64 → path ≡ [] → FitsFrame template_table (record {
  kind = kinds.NEW_TEMPLATE;
  fields =
      Number id ∷ Truth true ∷ Number 0x20000000 ∷ Number 2 ∷ Bytes (0x51 ∷ 0x51 ∷ []) ∷ Number 0xffffffff ∷ Number 5000000000 ∷ Number 0 ∷ Bytes [] ∷ Number 0 ∷
      Parts path ∷ [];
})
template_fits id path few none = rw none (without_path id few) where
  without_path : (id : ℕ) → id < 2 ^ 64 → FitsFrame template_table (template_message id)
  without_path id few = record {
    types = U64 ∷ BOOL ∷ U32 ∷ U32 ∷ B0_255 ∷ U32 ∷ U64 ∷ U32 ∷ B0_64K ∷ U32 ∷ SEQ0_255_U256 ∷ [];
    row = refl;
    fields = record {
      admitted = (few, (tt, (omega arith, (omega arith, (omega arith, (omega arith, (omega arith, (omega arith, (omega arith, (omega arith, ((omega arith, tt), tt)))))))))));
      within = omega arith;
    };
  }

pub tip_fits : (id : ℕ) (hash target : List ℕ) → id < 2 ^ 64 → length hash ≡ 32 → length target ≡ 32
    → FitsFrame template_table (record {
      kind = kinds.TEMPLATE_SET_NEW_PREV_HASH;
      fields = Number id ∷ Bytes hash ∷ Number 1000000 ∷ Number 0x207fffff ∷ Bytes target ∷ [];
    })
tip_fits id hash target few long whole = record {
  types = U64 ∷ UINT256 ∷ U32 ∷ U32 ∷ UINT256 ∷ [];
  row = refl;
  fields = record { admitted = (few, (long, (omega arith, (omega arith, (whole, tt))))); within = simp length-append (omega (arith, long, whole)) };
}

pub share_fits : (step templates random : ℕ) → step < 2 ^ 32 → templates < 1000 → FitsFrame mining_table (share_message step templates random)
share_fits step templates random few some = record {
  types = U32 ∷ U32 ∷ U32 ∷ U32 ∷ U32 ∷ U32 ∷ B0_32 ∷ [];
  row = refl;
  fields = record {
    admitted = (omega arith, (few, (omega (arith, some), (omega arith, (omega arith, (omega arith, (omega arith, tt)))))));
    within = omega arith;
  };
}
