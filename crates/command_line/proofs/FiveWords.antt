-- Five words of the form `mine ADDRESS USER CLASS COUNT` or `proxy UPSTREAM USER ADDRESS COUNT`.
use Rattle.std.proofs.Common.{◌≡◌, ℕ, ◌<◌, ◌≤◌, List, [], ◌∷◌, length, get_or, refl, sym, ◌∙◌, arith, codes}
use Rattle.pool_history.specs.Accounts.{account_of}
use Rattle.command_line.specs.Forms.{IsMine, IsProxy}
use Rattle.command_line.specs.Numbers.{IsNumber}

five_words : (words : List (List ℕ)) (a b c d e : List ℕ) → 5 ≤ length words → length words < 6
    → words ≡ get_or words 0 a ∷ get_or words 1 b ∷ get_or words 2 c ∷ get_or words 3 d ∷ get_or words 4 e ∷ []
five_words (one ∷ two ∷ three ∷ four ∷ five ∷ []) a b c d e least most = refl
five_words [] a b c d e least most = absurd (omega (arith, least))
five_words (one ∷ []) a b c d e least most = absurd (omega (arith, least))
five_words (one ∷ two ∷ []) a b c d e least most = absurd (omega (arith, least))
five_words (one ∷ two ∷ three ∷ []) a b c d e least most = absurd (omega (arith, least))
five_words (one ∷ two ∷ three ∷ four ∷ []) a b c d e least most = absurd (omega (arith, least))
five_words (one ∷ two ∷ three ∷ four ∷ five ∷ six ∷ more) a b c d e least most = absurd (omega (arith, most))

pub is_mine : (words : List (List ℕ)) (mine user class_digits count_digits : List ℕ) (class count : ℕ) → 5 ≤ length words → length words < 6
    → mine ≡ get_or words 0 mine → user ≡ get_or words 2 user → class_digits ≡ get_or words 3 class_digits → count_digits ≡ get_or words 4 count_digits
    → mine ≡ codes "mine" → (0 < length user) × (length user ≤ 255) → IsNumber class_digits class × (0 ≤ class) × (class ≤ 24)
    → IsNumber count_digits count × (1 ≤ count) × (count ≤ 1000000) → IsMine words class count
is_mine words mine user class_digits count_digits class count least most first third fourth fifth says short number amount = record {
  address = get_or words 1 [];
  user = user;
  class_digits = class_digits;
  count_digits = count_digits;
  spelled =
      five_words words mine [] user class_digits count_digits least most
      ∙ (λ i. (sym first ∙ says) i ∷ get_or words 1 [] ∷ sym third i ∷ sym fourth i ∷ sym fifth i ∷ []);
  has_user = short.0;
  short_user = short.1;
  is_class = number.0;
  easy = number.2;
  is_count = amount.0;
  some = amount.1;
  most = amount.2;
}

pub is_proxy : (words : List (List ℕ)) (proxy user digits : List ℕ) (count : ℕ) → 5 ≤ length words → length words < 6
    → proxy ≡ get_or words 0 proxy → user ≡ get_or words 2 user → digits ≡ get_or words 4 digits
    → proxy ≡ codes "proxy" → (0 < length (account_of user)) × (length user ≤ 255) → IsNumber digits count × (1 ≤ count) × (count ≤ 64)
    → IsProxy words count
is_proxy words proxy user digits count least most first third fifth says short amount = record {
  upstream = get_or words 1 [];
  user = user;
  address = get_or words 3 [];
  digits = digits;
  spelled =
      five_words words proxy [] user [] digits least most
      ∙ (λ i. (sym first ∙ says) i ∷ get_or words 1 [] ∷ sym third i ∷ get_or words 3 [] ∷ sym fifth i ∷ []);
  has_account = short.0;
  short_user = short.1;
  is_count = amount.0;
  some = amount.1;
  few = amount.2;
}
