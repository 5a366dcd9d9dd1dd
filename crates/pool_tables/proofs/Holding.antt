-- What is held for tokens, by their places.
use Rattle.std.proofs.Common.{◌≡◌, ◌≢◌, ℕ, ◌+◌, ◌<◌, ◌≤◌, ◌^◌, Bool, true, false, cond, Option, None, Some, List, [], ◌∷◌, ◌++◌, length, get_or, length-append, arith, suc, zero, refl, ap, sym, ◌∙◌, ◌⊎◌, inl, inr, ⊎_elim, add-zero, add_comm}
use Rattle.std.proofs.Math.ListN.{set, length-set, get_or-append}
use Rattle.std.proofs.Math.Seq.{get_or-append_seam}
use Rattle.std.proofs.lemmas.Bool.{cases_eq, false≢true}
use Rattle.std.proofs.lemmas.List.{get_or-set_same, get_or-set_other}
use Rattle.std.proofs.lemmas.Nat.{from_le_bytes-to_le_bytes_8}
use Rattle.std.proofs.lemmas.Option.{unwrap_or-slice_get}
use Rattle.std.proofs.lemmas.Slice.Eq.{bytes_eq-Decides}
use Rattle.std.specs.Int.{w64, from_le_bytes}
use Rattle.std.specs.Prelude.{is_some}
use Rattle.std.specs.Str.{bytes_eq}
use Rattle.history_laws.proofs.Holding.{bytes_eq-self}
use Rattle.pool_history.specs.Refusing.{Granted, most_grants, token_of}
use Rattle.pool_tables.specs.GrantTables.{HasNoPlace, HasPlace, held_at, held_for, held_from, unspent_count}

-- two numbers of a token are one
pub token_of-same : (a b : ℕ) → a < 2 ^ 64 → b < 2 ^ 64 → token_of a ≡ token_of b → a ≡ b
token_of-same a b a_fits b_fits same =
    sym (from_le_bytes-to_le_bytes_8 a a_fits) ∙ ap (from_le_bytes w64) same ∙ from_le_bytes-to_le_bytes_8 b b_fits

bytes_eq-other : (xs ys : List ℕ) → xs ≢ ys → bytes_eq xs ys ≡ false
bytes_eq-other xs ys other = by_test (bytes_eq xs ys) refl where
  by_test : (t : Bool) → bytes_eq xs ys ≡ t → bytes_eq xs ys ≡ false
  by_test true is = absurd (other ((bytes_eq-Decides xs ys).0 is))
  by_test false is = is

pub token-other : (a b : ℕ) → a < 2 ^ 64 → b < 2 ^ 64 → a ≢ b → bytes_eq (token_of a) (token_of b) ≡ false
token-other a b a_fits b_fits other = bytes_eq-other (token_of a) (token_of b) (λ same. other (token_of-same a b a_fits b_fits same))

-- a token has a place among so many, or none
pub placed : (token : List ℕ) (count : ℕ) → ((place : ℕ) × HasPlace token count place) ⊎ HasNoPlace token count
placed token zero = inr (λ place below. absurd (omega (arith, below)))
placed token (suc count) = by_test (bytes_eq token (token_of (count + 1))) refl (placed token count) where
  by_test : (t : Bool) → bytes_eq token (token_of (count + 1)) ≡ t → ((place : ℕ) × HasPlace token count place) ⊎ HasNoPlace token count
      → ((place : ℕ) × HasPlace token (suc count) place) ⊎ HasNoPlace token (suc count)
  by_test true is older = inl (count, (omega arith, (bytes_eq-Decides token (token_of (count + 1))).0 is))
  by_test false is older =
      ⊎_elim (λ found. inl (found.0, (omega (arith, found.1.0), found.1.1)))
      (λ none. inr (λ place below same.
      ⊎_elim (λ last. false≢true (sym is ∙ (bytes_eq-Decides token (token_of (count + 1))).1 (same ∙ ap (λ n. token_of (n + 1)) last)))
      (λ other. none place (omega (arith, below, other)) same) (cases_eq place count))) older

-- what is held for a token, by its place behind a number
held_from-here : (number : ℕ) (held : List (Option Granted)) (place : ℕ) → place < length held → number + length held < 2 ^ 64
    → held_from number held (token_of (number + place)) ≡ get_or held place None
held_from-here number [] place below few = absurd (omega (arith, below))
held_from-here number (granted ∷ later) zero below few =
    ap (λ b. cond b granted (held_from (number + 1) later (token_of (number + 0))))
    (ap (λ n. bytes_eq (token_of n) (token_of number)) (add-zero number) ∙ bytes_eq-self (token_of number))
held_from-here number (granted ∷ later) (suc place) below few =
    ap (λ b. cond b granted (held_from (number + 1) later (token_of (number + suc place))))
    (token-other (number + suc place) number (omega (arith, below, few)) (omega (arith, few)) (λ same. omega (arith, same)))
    ∙ ap (λ n. held_from (number + 1) later (token_of n)) one
    ∙ held_from-here (number + 1) later place (omega (arith, below)) (omega (arith, few)) where
      one : number + suc place ≡ number + 1 + place
      one = omega arith

held_from-none : (number : ℕ) (held : List (Option Granted)) (token : List ℕ) → ((place : ℕ) → place < length held → token ≢ token_of (number + place))
    → held_from number held token ≡ None
held_from-none number [] token none = refl
held_from-none number (granted ∷ later) token none =
    ap (λ b. cond b granted (held_from (number + 1) later token))
    (bytes_eq-other token (token_of number) (λ same. none 0 (omega arith) (same ∙ ap token_of (sym (add-zero number)))))
    ∙ held_from-none (number + 1) later token (λ place below same. none (suc place) (omega (arith, below)) (same ∙ ap token_of (one place))) where
      one : (place : ℕ) → number + 1 + place ≡ number + suc place
      one place = omega arith

-- at a place, and at none
pub held-here : (held : List (Option Granted)) (token : List ℕ) (place : ℕ) → length held ≤ most_grants → HasPlace token (length held) place
    → held_for held token ≡ get_or held place None
held-here held token place few here =
    ap (held_for held) (here.1 ∙ ap token_of (add_comm place 1))
    ∙ held_from-here 1 held place here.0 (omega (arith, few))

pub held-none : (held : List (Option Granted)) (token : List ℕ) → HasNoPlace token (length held) → held_for held token ≡ None
held-none held token none = held_from-none 1 held token (λ place below same. none place below (same ∙ ap token_of (add_comm 1 place)))

pub held_at-held : (held : List (Option Granted)) (token : List ℕ) (place : ℕ) → length held ≤ most_grants → HasPlace token (length held) place
    → held_at held place ≡ held_for held token
held_at-held held token place few here = unwrap_or-slice_get held place None ∙ sym (held-here held token place few here)

-- one more is held for the next token
pub held-push : (held : List (Option Granted)) (granted : Option Granted) (token : List ℕ) → length held < most_grants
    → held_for (held ++ granted ∷ []) token ≡ cond (bytes_eq token (token_of (length held + 1))) granted (held_for held token)
held-push held granted token few = ⊎_elim earlier (λ none. ⊎_elim last (other none) (by_test (bytes_eq token (token_of (length held + 1))) refl)) (placed token (length held)) where
  longer : length (held ++ granted ∷ []) ≡ length held + 1
  longer = omega (arith, length-append held (granted ∷ []))

  by_test : (t : Bool) → bytes_eq token (token_of (length held + 1)) ≡ t
      → (bytes_eq token (token_of (length held + 1)) ≡ true) ⊎ (bytes_eq token (token_of (length held + 1)) ≡ false)
  by_test true is = inl is
  by_test false is = inr is

  earlier : (place : ℕ) × HasPlace token (length held) place
      → held_for (held ++ granted ∷ []) token ≡ cond (bytes_eq token (token_of (length held + 1))) granted (held_for held token)
  earlier found =
      held-here (held ++ granted ∷ []) token found.0 (omega (arith, longer, few)) (omega (arith, longer, found.1.0), found.1.1)
      ∙ get_or-append held (granted ∷ []) None found.0 found.1.0
      ∙ sym (held-here held token found.0 (omega (arith, few)) found.1)
      ∙ ap (λ b. cond b granted (held_for held token)) (sym (ap (λ t. bytes_eq t (token_of (length held + 1))) found.1.1
      ∙ token-other (found.0 + 1) (length held + 1) (omega (arith, few, found.1.0)) (omega (arith, few)) (λ same. omega (arith, same, found.1.0))))

  last : bytes_eq token (token_of (length held + 1)) ≡ true
      → held_for (held ++ granted ∷ []) token ≡ cond (bytes_eq token (token_of (length held + 1))) granted (held_for held token)
  last is =
      held-here (held ++ granted ∷ []) token (length held) (omega (arith, longer, few)) (omega (arith, longer), (bytes_eq-Decides token (token_of (length held + 1))).0 is)
      ∙ get_or-append_seam held granted [] None
      ∙ ap (λ b. cond b granted (held_for held token)) (sym is)

  other : HasNoPlace token (length held) → bytes_eq token (token_of (length held + 1)) ≡ false
      → held_for (held ++ granted ∷ []) token ≡ cond (bytes_eq token (token_of (length held + 1))) granted (held_for held token)
  other none is =
      held-none (held ++ granted ∷ []) token (λ place below same.
      ⊎_elim (λ at_end. false≢true (sym is ∙ (bytes_eq-Decides token (token_of (length held + 1))).1 (same ∙ ap (λ n. token_of (n + 1)) at_end)))
      (λ before. none place (omega (arith, longer, below, before)) same) (cases_eq place (length held)))
      ∙ sym (held-none held token none)
      ∙ ap (λ b. cond b granted (held_for held token)) (sym is)

-- a token that is spent is held no more
pub held-set : (held : List (Option Granted)) (spent : List ℕ) (at : ℕ) (token : List ℕ) → length held ≤ most_grants → HasPlace spent (length held) at
    → held_for (set held at None) token ≡ cond (bytes_eq token spent) None (held_for held token)
held-set held spent at token few here = ⊎_elim found (λ none. missing none) (placed token (length held)) where
  as_long : length (set held at None) ≡ length held
  as_long = length-set held at None

  found : (place : ℕ) × HasPlace token (length held) place → held_for (set held at None) token ≡ cond (bytes_eq token spent) None (held_for held token)
  found there =
      held-here (set held at None) token there.0 (omega (arith, as_long, few)) (omega (arith, as_long, there.1.0), there.1.1)
      ∙ ⊎_elim same other (cases_eq there.0 at) where
        same : there.0 ≡ at → get_or (set held at None) there.0 None ≡ cond (bytes_eq token spent) None (held_for held token)
        same is =
            ap (λ n. get_or (set held at None) n None) is ∙ get_or-set_same held at None None here.0
            ∙ ap (λ b. cond b None (held_for held token))
            (sym ((bytes_eq-Decides token spent).1 (there.1.1 ∙ ap (λ n. token_of (n + 1)) is ∙ sym here.1)))

        other : there.0 ≢ at → get_or (set held at None) there.0 None ≡ cond (bytes_eq token spent) None (held_for held token)
        other apart =
            get_or-set_other held at there.0 None None apart ∙ sym (held-here held token there.0 few there.1)
            ∙ ap (λ b. cond b None (held_for held token))
            (sym (ap (λ t. bytes_eq t spent) there.1.1 ∙ ap (bytes_eq (token_of (there.0 + 1))) here.1
            ∙ token-other (there.0 + 1) (at + 1) (omega (arith, few, there.1.0)) (omega (arith, few, here.0)) (λ is. apart (omega (arith, is)))))

  missing : HasNoPlace token (length held) → held_for (set held at None) token ≡ cond (bytes_eq token spent) None (held_for held token)
  missing none =
      held-none (set held at None) token (λ place below. none place (omega (arith, as_long, below)))
      ∙ both (bytes_eq token spent) (held-none held token none) where
        both : (b : Bool) → held_for held token ≡ None → None ≡ cond b None (held_for held token)
        both true is = refl
        both false is = sym is

-- how many are held after a grant, and after one is spent
pub count-push : (held : List (Option Granted)) (granted : Granted) → unspent_count (held ++ Some granted ∷ []) ≡ unspent_count held + 1
count-push [] granted = refl
count-push (None ∷ held) granted = count-push held granted
count-push (Some g ∷ held) granted = omega (arith, count-push held granted)

pub count-set : (held : List (Option Granted)) (at : ℕ) → is_some (get_or held at None) ≡ true → unspent_count (set held at None) + 1 ≡ unspent_count held
count-set [] at some = absurd (false≢true some)
count-set (None ∷ held) zero some = absurd (false≢true some)
count-set (Some g ∷ held) zero some = refl
count-set (None ∷ held) (suc at) some = count-set held at some
count-set (Some g ∷ held) (suc at) some = omega (arith, count-set held at some)
