-- The summary of a history says what its blocks owe.
use Rattle.std.proofs.Common.{◌≡◌, ℕ, Bool, true, false, cond, ◌||◌, bytes_eq, map, sum_by, List, [], ◌∷◌, ◌++◌, length, refl, sym, ap, ◌∙◌, subst}
use Rattle.std.specs.List.{AllByRecursion, list_any}
use Rattle.std.proofs.lemmas.Bool.{false≢true, or_left, or_right}
use Rattle.std.proofs.lemmas.List.Folds.{list_any-append}
use Rattle.std.proofs.lemmas.Slice.Eq.{bytes_eq-Decides}
use Rattle.pool_history.specs.declared.events.Event.{Event}
use Rattle.pool_history.specs.declared.settings.Rules.{Rules}
use Rattle.pool_history.specs.Accounts.{are_distinct}
use Rattle.pool_history.specs.Crediting.{Booked, bookings_of}
use Rattle.pool_history.specs.Sessions.{enters, past_of}
use Rattle.pool_history.specs.Settling.{Settled, accounts_of, settlements}
use Rattle.pool_history.specs.Summary.{settlements_by, summed, sums_of}
use Rattle.history_laws.proofs.Crediting.{no_share-twice}
use Rattle.payout_laws.specs.Blocks.{blocks_of, settled_block}
use Rattle.payout_laws.specs.Summaries.{IsOfBlocks, IsSummedUp, SummariesAreOfBlocks, has_credit}
use Rattle.payout_laws.proofs.Sums.{bytes_eq-turned, sum_by-map}
use Rattle.payout_laws.proofs.Members.{AreAmong, IsAmong, among-accounts_of, distinct-accounts_of}
use Rattle.payout_laws.proofs.Counting.{balances_sums, length-blocks_of, settlements_are}

-- the accounts of the sums are those that were summed
accounts-sums : (credits : List Booked) (settled : List Settled) (accounts : List (List ℕ))
    → map (λ sum. sum.account) (map (sums_of credits settled) accounts) ≡ accounts
accounts-sums credits settled [] = refl
accounts-sums credits settled (account ∷ accounts) = ap (λ more. account ∷ more) (accounts-sums credits settled accounts)

-- each sum is of the blocks
sums-of_blocks : (rules : Rules) (credits : List Booked) (accounts : List (List ℕ))
    → AllByRecursion (IsOfBlocks rules credits) (map (sums_of credits (settlements rules.window rules.fee credits)) accounts)
sums-of_blocks rules credits [] = tt
sums-of_blocks rules credits (account ∷ accounts) =
    (record { balance = balances_sums rules.window rules.fee credits account; work = refl }, sums-of_blocks rules credits accounts)

-- an account among those of credits has a credit
among-credited : (account : List ℕ) (credits : List Booked) → IsAmong (accounts_of credits) account → has_credit credits account ≡ true
among-credited account [] there = there
among-credited account (credit ∷ older) there =
    by_test (list_any (bytes_eq credit.account) (accounts_of older)) there (λ before. among-credited account older before)
  where
    by_older : (t : Bool) → list_any (bytes_eq account) (accounts_of older) ≡ t → t || (bytes_eq account credit.account || false) ≡ true
        → (IsAmong (accounts_of older) account → has_credit older account ≡ true) → has_credit (credit ∷ older) account ≡ true
    by_older true e either rest = or_right (bytes_eq credit.account account) (has_credit older account) (rest e)
    by_older false e either rest = or_left (bytes_eq credit.account account) (has_credit older account) (bytes_eq-turned credit.account account ∙ own (bytes_eq account credit.account) either)
      where
        own : (t : Bool) → t || false ≡ true → t ≡ true
        own true is = refl
        own false is = is

    by_test : (t : Bool) → IsAmong (cond t (accounts_of older) (accounts_of older ++ credit.account ∷ [])) account
        → (IsAmong (accounts_of older) account → has_credit older account ≡ true) → has_credit (credit ∷ older) account ≡ true
    by_test true before rest = or_right (bytes_eq credit.account account) (has_credit older account) (rest before)
    by_test false before rest =
        by_older (list_any (bytes_eq account) (accounts_of older)) refl
        (sym (list_any-append (bytes_eq account) (accounts_of older) (credit.account ∷ [])) ∙ before) rest

-- and one with a credit is among any that have all of the credits'
credited-among : (account : List ℕ) (accounts : List (List ℕ)) (credits : List Booked) → AreAmong accounts credits
    → has_credit credits account ≡ true → IsAmong accounts account
credited-among account accounts [] all there = absurd (false≢true there)
credited-among account accounts (credit ∷ older) all there =
    by_test (bytes_eq credit.account account) refl (λ more. credited-among account accounts older all.1 more)
  where
    by_test : (t : Bool) → bytes_eq credit.account account ≡ t → (has_credit older account ≡ true → IsAmong accounts account) → IsAmong accounts account
    by_test true e rest = subst (IsAmong accounts) ((bytes_eq-Decides credit.account account).0 e) all.0
    by_test false e rest = rest (sym (ap (λ t. t || has_credit older account) e) ∙ there)

-- of the settlements under the rules
summed_up : (history : List Event) (rules : Rules)
    → IsSummedUp history rules (summed (enters (past_of history)) (length (past_of history)) (bookings_of (past_of history))
    (settlements rules.window rules.fee (bookings_of (past_of history))))
summed_up history rules =
    let credits : List Booked = bookings_of (past_of history) in
    let settled : List Settled = settlements rules.window rules.fee credits in
    let accounts : map (λ sum. sum.account) (map (sums_of credits settled) (accounts_of credits)) ≡ accounts_of credits =
    accounts-sums credits settled (accounts_of credits) in
    record {
      each = sums-of_blocks rules credits (accounts_of credits);
      once = subst (λ those. are_distinct those ≡ true) (sym accounts) (distinct-accounts_of credits);
      exactly = λ account. (
        λ there. among-credited account credits (subst (λ those. IsAmong those account) accounts there),
        λ there. subst (λ those. IsAmong those account) (sym accounts) (credited-among account (accounts_of credits) credits (among-accounts_of credits) there),
      );
      pool = ap (λ those. sum_by (λ settled. settled.pool) those) (settlements_are rules.window rules.fee credits)
          ∙ sum_by-map (λ settled. settled.pool) (settled_block rules.window rules.fee) (blocks_of credits);
      blocks = sym (length-blocks_of credits);
      credits = refl;
      counted = λ legal. (no_share-twice history legal).credits_counted;
    }

pub summaries_summed : SummariesAreOfBlocks
summaries_summed history rules are =
    subst (IsSummedUp history rules)
    (sym (ap (λ those. summed (enters (past_of history)) (length (past_of history)) (bookings_of (past_of history)) (settlements_by those (bookings_of (past_of history)))) are))
    (summed_up history rules)
