-- Accounts one after the other.
use Rattle.std.proofs.Common.{◌≡◌, ℕ, ◌<◌, ◌≤◌, List, [], ◌∷◌, ◌++◌, length, flat_map, refl, sym, ap, ap₂, ◌∙◌, append_assoc, length-append, arith}
use Rattle.std.specs.List.{AllByRecursion}
use Rattle.std.specs.Str.{IsUtf8}
use Rattle.sv2_types.specs.Fields.{B0_255, STR0_255, Bytes, FieldValue, Spells}
use Rattle.sv2_types.specs.Spelling.{spelled_str255}
use Rattle.sv2_types.proofs.Laws.{spellings_agree, written_spells}
use Rattle.ledger_records.specs.WellFormed.{IsText}

-- accounts that the bytes begin with are the first ones, and the rest is of those behind
record IsFront (users others : List (List ℕ)) (rest : List ℕ) : Type 0 where
  later : List (List ℕ)
  is : others ≡ users ++ later
  behind : rest ≡ flat_map spelled_str255 later

front : (users others : List (List ℕ)) (rest : List ℕ) → AllByRecursion IsText users → AllByRecursion IsText others → length users ≤ length others
    → flat_map spelled_str255 users ++ rest ≡ flat_map spelled_str255 others → IsFront users others rest
front [] others rest a b n e = record { later = others; is = refl; behind = e }
front (user ∷ users) [] rest a b n e = absurd (omega (arith, n))
front (user ∷ users) (other ∷ others) rest a b n e =
    let first : (Bytes user ≡ Bytes other) × (spelled_str255 user ≡ spelled_str255 other) × (flat_map spelled_str255 users ++ rest ≡ flat_map spelled_str255 others) =
    spellings_agree B0_255 (Bytes user) (Bytes other) (spelled_str255 user) (spelled_str255 other) (flat_map spelled_str255 users ++ rest) (flat_map spelled_str255 others)
    (written_spells B0_255 (Bytes user) a.0) (written_spells B0_255 (Bytes other) b.0)
    (sym (append_assoc (spelled_str255 user) (flat_map spelled_str255 users) rest) ∙ e) in
    let same : user ≡ other = cc in
    let more : IsFront users others rest = front users others rest a.1 b.1 (omega (arith, n)) first.2 in
    record { later = more.later; is = ap₂ (λ (x : List ℕ) (xs : List (List ℕ)). x ∷ xs) (sym same) more.is; behind = more.behind }

here : (P : List ℕ → Type 0) (users later : List (List ℕ)) (user : List ℕ) → AllByRecursion P (users ++ user ∷ later) → P user
here P [] later user all = all.0
here P (first ∷ users) later user all = here P users later user all.1

-- where there are more accounts than those that were read, the next one is read
next_found : (rest : List ℕ) (users others : List (List ℕ)) (later : List (List ℕ)) → AllByRecursion IsText others
    → AllByRecursion IsUtf8 others → length users < length others → others ≡ users ++ later → rest ≡ flat_map spelled_str255 later
    → ((value : FieldValue) (spelled more : List ℕ) → Spells STR0_255 value spelled → rest ≡ spelled ++ more → ⊥) → ⊥
next_found rest users others [] texts utf8 less is behind none =
    absurd (omega (arith, less, ap length is, length-append users []))
next_found rest users others (user ∷ later) texts utf8 less is behind none =
    none (Bytes user) (spelled_str255 user) (flat_map spelled_str255 later)
    (written_spells STR0_255 (Bytes user) (here IsText users later user (rw is at texts), here IsUtf8 users later user (rw is at utf8))) behind

pub no_next : (accounts rest : List ℕ) (users others : List (List ℕ)) → AllByRecursion IsText users → AllByRecursion IsText others
    → AllByRecursion IsUtf8 others → length users < length others → accounts ≡ flat_map spelled_str255 users ++ rest → accounts ≡ flat_map spelled_str255 others
    → ((value : FieldValue) (spelled more : List ℕ) → Spells STR0_255 value spelled → rest ≡ spelled ++ more → ⊥) → ⊥
no_next accounts rest users others a b utf8 less e f none =
    let found : IsFront users others rest = front users others rest a b (omega (arith, less)) (sym e ∙ f) in
    next_found rest users others found.later b utf8 less found.is found.behind none

-- where there are no more, nothing is left
nothing_left : (rest : List ℕ) (users others later : List (List ℕ)) → length users ≡ length others → others ≡ users ++ later → rest ≡ flat_map spelled_str255 later
    → rest ≡ []
nothing_left rest users others [] same is behind = behind
nothing_left rest users others (user ∷ later) same is behind = absurd (omega (arith, same, ap length is, length-append users (user ∷ later)))

pub no_more : (accounts rest : List ℕ) (users others : List (List ℕ)) → AllByRecursion IsText users → AllByRecursion IsText others
    → length users ≡ length others → accounts ≡ flat_map spelled_str255 users ++ rest → accounts ≡ flat_map spelled_str255 others → rest ≡ []
no_more accounts rest users others a b same e f =
    let found : IsFront users others rest = front users others rest a b (omega (arith, same)) (sym e ∙ f) in
    nothing_left rest users others found.later same found.is found.behind
