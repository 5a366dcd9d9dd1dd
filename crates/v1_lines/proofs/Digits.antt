-- Digits by pairs, as bytes are written.
use Rattle.std.proofs.Common.{◌≡◌, ◌≤◌, ◌&&◌, true, ℕ, ◌+◌, ◌*◌, ◌%◌, Option, None, Some, Result, Ok, Err, List, [], ◌∷◌, ◌++◌, length, refl, sym, ap, ◌∙◌, zero, suc, arith}
use Rattle.std.specs.Prelude.{nat_le, replicate}
use Rattle.std.specs.Option.{option_and_then}
use Rattle.std.specs.Int.{from_be_bytes, w32}
use Rattle.hex.specs.Hex.{decode_pairs, decode_sized, digit_or_error, hex_digit_value, ◌>>=◌}
use Rattle.hex.specs.declared.error.FromHexError.{FromHexError}
use Rattle.hex.proofs.HexLemmas.{decode_of-even, decode_pairs-ok, decode_sized-twice}
use Rattle.std.proofs.lemmas.Bool.Decides.{nat_tests}
use Rattle.v1_lines.specs.HexNumbers.{number_behind, hex_number}

-- bytes, the most significant first, behind others
bytes_behind : ℕ → List ℕ → ℕ
bytes_behind high [] = high
bytes_behind high (byte ∷ bytes) = bytes_behind (256 * high + byte) bytes

number_by : ℕ → Result (List ℕ) FromHexError → Option ℕ
number_by high (Ok bytes) = Some (bytes_behind high bytes)
number_by high (Err error) = None

byte_more : (high byte : ℕ) (read : Result (List ℕ) FromHexError)
    → number_by (256 * high + byte) read ≡ number_by high (read >>= (λ bytes. Ok (byte ∷ bytes)))
unfolding number_by bytes_behind
byte_more high byte (Ok bytes) = refl
byte_more high byte (Err error) = refl

-- two digits are a byte
pair_more : (high i x y : ℕ) (rest : List ℕ) (v w : Option ℕ)
    → ((byte : ℕ) → number_behind (256 * high + byte) rest ≡ number_by (256 * high + byte) (decode_pairs (i + 2) rest))
    → option_and_then (λ h. option_and_then (λ l. number_behind (16 * (16 * high + h) + l) rest) w) v
    ≡ number_by high ((digit_or_error x i v >>= (λ h. digit_or_error y (i + 1) w >>= (λ l. Ok (h * 16 + l))))
    >>= (λ byte. decode_pairs (i + 2) rest >>= (λ bytes. Ok (byte ∷ bytes))))
unfolding number_by
pair_more high i x y rest None None more = refl
pair_more high i x y rest None (Some l) more = refl
pair_more high i x y rest (Some h) None more = refl
pair_more high i x y rest (Some h) (Some l) more =
    let same : 16 * (16 * high + h) + l ≡ 256 * high + (h * 16 + l) = omega arith in
    ap (λ n. number_behind n rest) same ∙ more (h * 16 + l) ∙ byte_more high (h * 16 + l) (decode_pairs (i + 2) rest)

by_pairs : (high i : ℕ) (text : List ℕ) → length text % 2 ≡ 0 → number_behind high text ≡ number_by high (decode_pairs i text)
unfolding number_by bytes_behind decode_pairs
by_pairs high i [] even = refl
by_pairs high i (x ∷ []) even = absurd (omega arith)
by_pairs high i (x ∷ y ∷ rest) even =
    pair_more high i x y rest (hex_digit_value x) (hex_digit_value y) (λ byte. by_pairs (256 * high + byte) (i + 2) rest (omega arith))

-- eight digits are four bytes
sized : (digits : List ℕ) → length digits ≡ 8 → decode_sized digits 4 ≡ decode_pairs 0 digits
sized digits len = decode_sized-twice digits 4 (omega arith) ∙ decode_of-even digits (omega arith)

four_bytes : (bytes : List ℕ) → length bytes ≡ 4 → bytes_behind 0 bytes ≡ from_be_bytes w32 bytes
unfolding bytes_behind
four_bytes [] len = absurd (omega arith)
four_bytes (a ∷ []) len = absurd (omega arith)
four_bytes (a ∷ b ∷ []) len = absurd (omega arith)
four_bytes (a ∷ b ∷ c ∷ []) len = absurd (omega arith)
four_bytes (a ∷ b ∷ c ∷ d ∷ []) len = omega arith
four_bytes (a ∷ b ∷ c ∷ d ∷ e ∷ bytes) len = absurd (omega arith)

pub word_read : (digits bytes : List ℕ) → length digits ≡ 8 → Ok bytes ≡ decode_sized digits 4
    → Some (from_be_bytes w32 bytes) ≡ number_behind 0 digits
unfolding number_by
word_read digits bytes len read =
    let pairs : decode_pairs 0 digits ≡ Ok bytes = sym (read ∙ sized digits len) in
    let fit = decode_pairs-ok 0 digits bytes pairs in
    sym (by_pairs 0 0 digits (omega arith) ∙ ap (number_by 0) pairs ∙ ap Some (four_bytes bytes (omega (arith, fit.1))))

pub word_refused : (digits : List ℕ) (error : FromHexError) → length digits ≡ 8 → Err error ≡ decode_sized digits 4
    → None ≡ number_behind 0 digits
unfolding number_by
word_refused digits error len read =
    sym (by_pairs 0 0 digits (omega arith) ∙ ap (number_by 0) (sym (read ∙ sized digits len)))

-- zeros before digits say nothing
pub zeros_before : (count : ℕ) (text : List ℕ) → number_behind 0 (replicate count 48 ++ text) ≡ number_behind 0 text
zeros_before zero text = refl
zeros_before (suc count) text = zeros_before count text

pub hex_number-digits : (text : List ℕ) → 1 ≤ length text → length text ≤ 8 → number_behind 0 text ≡ hex_number text
hex_number-digits text some few =
    let within : (nat_le 1 (length text) && nat_le (length text) 8) ≡ true = grind (arith, nat_tests) in
    rw within refl
