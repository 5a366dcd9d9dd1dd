-- What a Grant and a Custom do to what a table shows.
use Rattle.std.proofs.Common.{◌≡◌, ℕ, ◌+◌, ◌<◌, ◌≤◌, Bool, true, false, cond, ◌||◌, Bor, Option, None, Some, List, [], ◌∷◌, ◌++◌, length, length-append, arith, refl, ap, subst, sym, ◌∙◌}
use Rattle.std.proofs.Math.ListN.{set, length-set}
use Rattle.std.proofs.lemmas.Slice.Eq.{bytes_eq-Decides}
use Rattle.std.specs.Option.{option_copied}
use Rattle.std.specs.Prelude.{IsSome, OnSome}
use Rattle.std.specs.Str.{bytes_eq}
use Rattle.pool_history.specs.declared.events.Event.{Event}
use Rattle.pool_history.specs.declared.events.Event.TheVariants as event
use Rattle.pool_history.specs.declared.templates.CustomData.{CustomData}
use Rattle.pool_history.specs.Refusing.{Granted, grant_of, is_spent, most_grants, token_of}
use Rattle.pool_history.specs.Sessions.{grants}
use Rattle.pool_tables.specs.GrantTables.{GrantTable, HasOneToSpend, HasPlace, ShowsGrants, held_for, unspent_count}
use Rattle.pool_tables.proofs.Holding.{count-push, count-set, held-here, held-push, held-set, token-other}

-- what is shown after a Grant
pub granted-shown : (old new : GrantTable) (granted : Granted) (session : ℕ) (past : List Event) → length old.held < most_grants
    → new.held ≡ old.held ++ Some granted ∷ [] → ShowsGrants old past
    → ShowsGrants new (event.Grant session granted.account granted.fixed granted.path ∷ past)
granted-shown old new granted session past few is shows = record {
  count_is = omega (arith, ap length is, length-append old.held (Some granted ∷ []), shows.count_is);
  spent_are = omega (arith, ap unspent_count is, count-push old.held granted, shows.spent_are);
  later_are = λ number later most. shows.later_are number (omega (arith, later)) most;
  held_are = λ token.
      ap (λ held. held_for held token) is ∙ held-push old.held (Some granted) token few
      ∙ ap (λ n. cond (bytes_eq token (token_of (n + 1))) (Some granted) (held_for old.held token)) shows.count_is
      ∙ ap (λ o. cond (bytes_eq token (token_of (grants past + 1))) (Some granted) o) (shows.held_are token)
      ∙ by_test token (bytes_eq token (token_of (grants past + 1))) refl;
} where
  next : (token : List ℕ) → bytes_eq token (token_of (grants past + 1)) ≡ true → is_spent past token ≡ false
  next token is_next =
      ap (is_spent past) ((bytes_eq-Decides token (token_of (grants past + 1))).0 is_next)
      ∙ shows.later_are (grants past + 1) (omega arith) (omega (arith, few, shows.count_is))

  by_test : (token : List ℕ) (t : Bool) → bytes_eq token (token_of (grants past + 1)) ≡ t
      → cond t (Some granted) (cond (is_spent past token) None (grant_of past token)) ≡ cond (is_spent past token) None (cond t (Some granted) (grant_of past token))
  by_test token true is_next = ap (λ b. cond b None (Some granted)) (sym (next token is_next))
  by_test token false is_next = refl

-- what is shown after a Custom that spends a token
pub spent-shown : (old new : GrantTable) (place session : ℕ) (custom : CustomData) (past : List Event) → length old.held ≤ most_grants
    → HasPlace custom.token (length old.held) place → IsSome (held_for old.held custom.token)
    → new.held ≡ set old.held place None → ShowsGrants old past → ShowsGrants new (event.Custom session custom ∷ past)
spent-shown old new place session custom past few here some is shows = record {
  count_is = ap length is ∙ length-set old.held place None ∙ shows.count_is;
  spent_are = omega (arith, ap unspent_count is, fewer, shows.spent_are);
  later_are = λ number later most.
      ap (λ b. b || is_spent past (token_of number))
      (ap (bytes_eq (token_of number)) here.1
      ∙ token-other number (place + 1) (omega (arith, most)) (omega (arith, few, here.0)) (λ same. omega (arith, same, later, here.0, shows.count_is)))
      ∙ shows.later_are number later most;
  held_are = λ token.
      ap (λ held. held_for held token) is ∙ held-set old.held custom.token place token few here
      ∙ ap (λ o. cond (bytes_eq token custom.token) None o) (shows.held_are token)
      ∙ by_test token (bytes_eq token custom.token);
} where
  fewer : unspent_count (set old.held place None) + 1 ≡ unspent_count old.held
  fewer = count-set old.held place (subst IsSome (held-here old.held custom.token place few here) some)

  by_test : (token : List ℕ) (t : Bool) → cond t None (cond (is_spent past token) None (grant_of past token)) ≡ cond (t || is_spent past token) None (grant_of past token)
  by_test token true = refl
  by_test token false = refl

-- where a token is held, one more may be spent
pub one_to_spend : (table : GrantTable) (token : List ℕ) (place : ℕ) → length table.held ≤ most_grants → HasPlace token (length table.held) place
    → IsSome (held_for table.held token) → HasOneToSpend table
one_to_spend table token place few here some past shows =
    let fewer : unspent_count (set table.held place None) + 1 ≡ unspent_count table.held =
    count-set table.held place (subst IsSome (held-here table.held token place few here) some) in
    (omega (arith, fewer, shows.spent_are), omega (arith, few, shows.count_is))

-- what holds where something is found
pub on_copied : (found : Option (Bor Granted)) (P : Type 0) → (IsSome (option_copied found) → P) → OnSome found P
on_copied None P holds = tt
on_copied (Some granted) P holds = holds refl
