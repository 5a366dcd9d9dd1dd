-- Places of what is missing.
use Rattle.std.proofs.Common.{◌≡◌, ℕ, ◌+◌, ◌/◌, ◌<◌, ◌≤◌, ◌^◌, true, false, None, Some, List, [], ◌∷◌, ◌++◌, length, drop, refl, ap, sym, ◌∙◌, append_assoc, append-nil, arith}
use Rattle.std.specs.Prelude.{is_some, is_none, if◌then◌else◌}
use Rattle.std.specs.List.{AllByRecursion, flat_map}
use Rattle.sv2_types.specs.Reading.{numbers_at, numbers_of}
use Rattle.sv2_types.specs.Spelling.{spelled_u16}
use Rattle.sv2_types.proofs.Items.{length-numbers, numbers_at-numbers}
use Rattle.job_declaration.specs.declared.ids.Listed.{Listed}
use Rattle.job_declaration.specs.Filling.{missing_from}

-- there are no more of them than are listed, and each is small
pub few_missing : (place : ℕ) (listed : List Listed)
    → length (missing_from place listed) ≤ length listed
few_missing place [] = omega arith
few_missing place (entry ∷ later) =
    let rest = few_missing (place + 1) later in
    elim entry.txid as (λ txid. length (if is_some txid then missing_from (place + 1) later
    else place ∷ missing_from (place + 1) later) ≤ length (entry ∷ later)) [
      | None ↦ omega arith
      | Some id ↦ omega arith
    ]

pub small_missing : (most place : ℕ) (listed : List Listed) → place + length listed ≤ most
    → AllByRecursion (λ n. n < most) (missing_from place listed)
small_missing most place [] fits = tt
small_missing most place (entry ∷ later) fits =
    let rest = small_missing most (place + 1) later (omega arith) in
    elim entry.txid as (λ txid. AllByRecursion (λ n. n < most)
    (if is_some txid then missing_from (place + 1) later
    else place ∷ missing_from (place + 1) later)) [
      | None ↦ (omega arith, rest)
      | Some id ↦ rest
    ]

-- so far the places before one are spelled, and those from it on follow
abbrev pub SpellsSoFar : List Listed → ℕ → List ℕ → Type 0
SpellsSoFar listed place spelled =
    flat_map spelled_u16 (missing_from 0 listed)
    ≡ spelled ++ flat_map spelled_u16 (missing_from place (drop place listed))

pub spells_missing : (listed : List Listed) (place : ℕ) (entry : Listed) (spelled : List ℕ)
    → drop place listed ≡ entry ∷ drop (place + 1) listed → is_none entry.txid ≡ true
    → SpellsSoFar listed place spelled
    → SpellsSoFar listed (place + 1) (spelled ++ spelled_u16 place)
spells_missing listed place entry spelled at none so_far =
    let later = missing_from (place + 1) (drop (place + 1) listed) in
    let first : missing_from place (drop place listed) ≡ place ∷ later =
    ap (missing_from place) at ∙ missing_first place entry (drop (place + 1) listed) none in
    so_far ∙ ap (λ places. spelled ++ flat_map spelled_u16 places) first
    ∙ sym (append_assoc spelled (spelled_u16 place) (flat_map spelled_u16 later))
  where
    missing_first : (place : ℕ) (entry : Listed) (later : List Listed)
        → is_none entry.txid ≡ true
        → missing_from place (entry ∷ later) ≡ place ∷ missing_from (place + 1) later
    missing_first place entry later none =
        elim entry.txid as (λ txid. is_none txid ≡ true
        → (if is_some txid then missing_from (place + 1) later
        else place ∷ missing_from (place + 1) later) ≡ place ∷ missing_from (place + 1) later) [
          | None ↦ λ yes. refl
          | Some id ↦ λ no. cc
        ] none

pub spells_known : (listed : List Listed) (place : ℕ) (entry : Listed) (spelled : List ℕ)
    → drop place listed ≡ entry ∷ drop (place + 1) listed → is_none entry.txid ≡ false
    → SpellsSoFar listed place spelled → SpellsSoFar listed (place + 1) spelled
spells_known listed place entry spelled at some so_far =
    so_far ∙ ap (λ places. spelled ++ flat_map spelled_u16 places)
    (ap (missing_from place) at ∙ missing_later place entry (drop (place + 1) listed) some)
  where
    missing_later : (place : ℕ) (entry : Listed) (later : List Listed)
        → is_none entry.txid ≡ false
        → missing_from place (entry ∷ later) ≡ missing_from (place + 1) later
    missing_later place entry later some =
        elim entry.txid as (λ txid. is_none txid ≡ false
        → (if is_some txid then missing_from (place + 1) later
        else place ∷ missing_from (place + 1) later) ≡ missing_from (place + 1) later) [
          | None ↦ λ no. cc
          | Some id ↦ λ yes. refl
        ] some

-- the places as they are spelled are read again
pub numbers_of-missing : (listed : List Listed) (spelled : List ℕ) → length listed < 2 ^ 16
    → spelled ≡ flat_map spelled_u16 (missing_from 0 listed)
    → numbers_of spelled ≡ missing_from 0 listed
numbers_of-missing listed spelled few spelled_is =
    let places = missing_from 0 listed in
    let count : length spelled / 2 ≡ length places = omega (arith, ap length spelled_is, length-numbers places) in
    ap (λ n. numbers_at n spelled) count
    ∙ ap (λ bytes. numbers_at (length places) bytes) (spelled_is ∙ sym (append-nil (flat_map spelled_u16 places)))
    ∙ numbers_at-numbers places [] (small_missing (2 ^ 16) 0 listed (omega arith))
