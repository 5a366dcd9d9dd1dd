-- Parts that are written one after the other.
use Rattle.std.proofs.Common.{◌≡◌, List, ◌++◌, length, take, arith, ◌≤◌, ℕ}
use Rattle.std.proofs.lemmas.List.{take_all}

-- six parts fill 80 bytes; four of them are known under another name
pub filled : (at1 at2 at3 at4 at5 at6 a b c d e f a' d' e' f' : List ℕ) →
    take 4 at1 ≡ a → take 36 at2 ≡ take 4 at1 ++ b → take 68 at3 ≡ take 36 at2 ++ c →
    take 72 at4 ≡ take 68 at3 ++ d → take 76 at5 ≡ take 72 at4 ++ e → take 80 at6 ≡ take 76 at5 ++ f →
    length at6 ≡ 80 → a ≡ a' → d ≡ d' → e ≡ e' → f ≡ f' → at6 ≡ a' ++ b ++ c ++ d' ++ e' ++ f'
filled at1 at2 at3 at4 at5 at6 a b c d e f a' d' e' f' one two three four five six whole is_a is_d is_e is_f =
    let within : length at6 ≤ 80 = omega arith in
    let all : take 80 at6 ≡ at6 = take_all 80 at6 within in
    cc
