-- An extranonce that is read has 32 bytes at most.
use Rattle.std.proofs.Common.{◌≡◌, ℕ, ◌*◌, ◌%◌, ◌==◌, ◌≤◌, None, Some, Result, Ok, Err, List, length, nat_le, inl, inr, arith}
use Rattle.std.proofs.lemmas.Bool.{cases_Bool, leb-true}
use Rattle.std.specs.Result.{result_ok}
use Rattle.hex.specs.Hex.{decode_of, decode_pairs}
use Rattle.hex.proofs.HexLemmas.{decode_pairs-ok}
use Rattle.v1_translate.specs.Submitting.{extranonce_in}

is_ok_by : {E : Type 0} (r : Result (List ℕ) E) (bytes : List ℕ) → Some bytes ≡ result_ok r → r ≡ Ok bytes
is_ok_by (Ok found) bytes same = cc
is_ok_by (Err error) bytes same = cc

half : (text bytes : List ℕ) → Some bytes ≡ result_ok (decode_of text) → length text ≡ 2 * length bytes
half text bytes found = elim (cases_Bool (length text % 2 == 1)) [
  | inl odd ↦ (let none : Some bytes ≡ None = rw odd at found in cc)
  | inr even ↦
      let read : Some bytes ≡ result_ok (decode_pairs 0 text) = rw even at found in
      (decode_pairs-ok 0 text bytes (is_ok_by (decode_pairs 0 text) bytes read)).1
]

pub short : (text bytes : List ℕ) → Some bytes ≡ extranonce_in text → length bytes ≤ 32
short text bytes found = elim (cases_Bool (nat_le (length text) 64)) [
  | inl fits ↦
      let read : Some bytes ≡ result_ok (decode_of text) = rw fits at found in
      let twice : length text ≡ 2 * length bytes = half text bytes read in
      let few : length text ≤ 64 = leb-true (length text) 64 fits in
      omega arith
  | inr long ↦ (let none : Some bytes ≡ None = rw long at found in absurd (cc))
]
