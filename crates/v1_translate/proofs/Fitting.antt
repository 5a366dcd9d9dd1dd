-- What is asked of the pool can be written.
use Rattle.std.proofs.Common.{◌≡◌, ℕ, zero, suc, ◌/◌, ◌<◌, ◌^◌, [], ◌∷◌, length, refl, ap, arith}
use Rattle.std.proofs.lemmas.List.{length-append}
use Rattle.std.proofs.lemmas.Str.{IsUtf8-nil}
use Rattle.block_header.specs.Target.{number_bytes, target, target_number}
use Rattle.sv2_types.specs.Fields.{U16, U32, UINT256, F32, STR0_255, B0_32}
use Rattle.sv2_messages.specs.Messages.{FitsFrame}
use Rattle.sv2_messages.specs.Tables.{mining_table}
use Rattle.v1_translate.specs.Asked.{open_message, share_message, update_message}
use Rattle.v1_translate.specs.State.{SentShare}
use Rattle.v1_translate.specs.Small.{IsSmall}

number_bytes_length : (n number : ℕ) → length (number_bytes n number) ≡ n
unfolding number_bytes
number_bytes_length zero number = refl
number_bytes_length (suc n) number = ap (λ m. suc m) (number_bytes_length n (number / 256))

target_whole : (class : ℕ) → length (target class) ≡ 32
target_whole class = number_bytes_length 32 (target_number class)

pub opening_fits : (class : ℕ) → FitsFrame mining_table (open_message class)
opening_fits class =
    let whole = target_whole class in
    record {
      types = U32 ∷ STR0_255 ∷ F32 ∷ UINT256 ∷ U16 ∷ [];
      row = refl;
      fields = record {
        admitted = (omega arith, ((omega arith, IsUtf8-nil), (refl, (whole, (omega arith, tt)))));
        within = simp length-append (omega (arith, whole));
      };
    }

pub update_fits : (channel class : ℕ) → channel < 2 ^ 32 → FitsFrame mining_table (update_message channel class)
update_fits channel class channel_fits =
    let whole = target_whole class in
    record {
      types = U32 ∷ F32 ∷ UINT256 ∷ [];
      row = refl;
      fields = record {
        admitted = (channel_fits, (refl, (whole, tt)));
        within = simp length-append (omega (arith, whole));
      };
    }

pub share_fits : (share : SentShare) → IsSmall share → FitsFrame mining_table (share_message share)
share_fits share small =
    record {
      types = U32 ∷ U32 ∷ U32 ∷ U32 ∷ U32 ∷ U32 ∷ B0_32 ∷ [];
      row = refl;
      fields = record {
        admitted = (small.channel, (small.sequence, (small.job, (small.nonce, (small.ntime, (small.version, (small.extranonce, tt)))))));
        within = simp length-append (omega (arith, small.extranonce));
      };
    }
