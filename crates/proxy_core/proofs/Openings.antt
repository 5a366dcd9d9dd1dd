-- The request for the channel can be written.
use Rattle.std.proofs.Common.{◌≡◌, ℕ, zero, suc, ◌/◌, ◌≤◌, [], ◌∷◌, List, length, refl, ap, arith}
use Rattle.std.proofs.lemmas.List.{length-append}
use Rattle.std.specs.Str.{IsUtf8}
use Rattle.block_header.specs.Target.{number_bytes, target, target_number}
use Rattle.sv2_types.specs.Fields.{U16, U32, UINT256, F32, STR0_255}
use Rattle.sv2_messages.specs.Messages.{FitsFrame}
use Rattle.sv2_messages.specs.Tables.{mining_table}
use Rattle.proxy_rules.specs.Steps.{opening_message}

number_bytes_length : (n number : ℕ) → length (number_bytes n number) ≡ n
unfolding number_bytes
number_bytes_length zero number = refl
number_bytes_length (suc n) number = ap (λ m. suc m) (number_bytes_length n (number / 256))

target_whole : (class : ℕ) → length (target class) ≡ 32
target_whole class = number_bytes_length 32 (target_number class)

pub opening_fits : (user : List ℕ) (class : ℕ) → length user ≤ 255 → IsUtf8 user → FitsFrame mining_table (opening_message user class)
opening_fits user class few text =
    let whole = target_whole class in
    record {
      types = U32 ∷ STR0_255 ∷ F32 ∷ UINT256 ∷ U16 ∷ [];
      row = refl;
      fields = record {
        admitted = (omega arith, ((omega arith, text), (refl, (whole, (omega arith, tt)))));
        within = simp length-append (omega (arith, whole));
      };
    }
