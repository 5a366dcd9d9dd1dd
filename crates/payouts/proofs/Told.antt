-- A tally that was told pushes remembers one push more, and settles by them.
use Rattle.std.proofs.Common.{◌≡◌, ℕ, ◌+◌, ◌-◌, ◌*◌, ◌/◌, ◌<◌, ◌≤◌, min, suc, Bool, true, false, cond, bytes_eq, is_some, map, nat_lt, Option, None, Some, List, [], ◌∷◌, ◌++◌, length, reverse, replicate, refl, sym, ap, ap₂, ◌∙◌, subst, arith}
use Rattle.std.specs.List.{AllByRecursion}
use Rattle.std.proofs.lemmas.Bool.{ltb-false, ltb-true}
use Rattle.std.proofs.lemmas.List.{length-map, reverse-append, reverse-reverse}
use Rattle.payout_laws.proofs.Conserved.{conserved}
use Rattle.payout_laws.proofs.Members.{AreAmong, PartsAmong, among-accounts_of, among-with_account, distinct-accounts_of, distinct-with_account, last_work-among, since_block-among, weight-none}
use Rattle.payout_laws.proofs.Sums.{sum_by-accounts, sum_by-map}
use Rattle.pool_history.specs.Accounts.{are_distinct}
use Rattle.pool_history.specs.Crediting.{Booked}
use Rattle.pool_history.specs.Settling.{Part, Settled, all_weights, fee_of, last_work, parts_in_block, payments_of, settled_with, settlement, since_block, weight, with_account}
use Rattle.payouts.specs.declared.window.Kept.{Kept}
use Rattle.payout_laws.specs.Conservation.{IsConserved}
use Rattle.payouts.specs.Plans.{IsSettledPush}
use Rattle.payouts.specs.Settlements.{EndsRound, IsSettlement, SettlesBlock, as_block, payments_by, settled_by, weights_behind}
use Rattle.payouts.specs.Tallies.{AddsCredit, DiffersInRoom, IsPushed, Remembers, RemembersPush, RemembersWeights, HasRoundsByRule, Weighing, account_place, placed, weights_by, weights_in, with_newcomer}
use Rattle.payouts.specs.Window.{IsKeptCredit, IsCreditWindow, added, weights_sum, weights_of, without_oldest}
use Rattle.payouts.proofs.Added.{length-weights_of, total-added, total-none}
use Rattle.payouts.proofs.Fitted.{all-reverse, cut-fits, fitted, fitted-left, last_work-left, left_of, parts_sum, parts_sum-append}
use Rattle.payouts.proofs.Placed.{added-map, map-same, map-with_account, place-with_account, none-weighs, placed-each, placed-stays, weight-more, weights-placed, weights_of-reverse}
use Rattle.payouts.proofs.Tallied.{each-push, total-with_newcomer}

-- the proportional rule: the work is added to the account's weight
pub told_share : (account : List ℕ) (work : ℕ) (accounts : List (List ℕ)) (weights weights' : List ℕ) (parts : List Part)
    → are_distinct (with_account account accounts) ≡ true → PartsAmong accounts parts
    → weights ≡ map (λ a. weight a parts) accounts
    → weights' ≡ added (with_newcomer account accounts weights) (account_place accounts account) work
    → weights' ≡ map (λ a. weight a (record { account = account; weight = work } ∷ parts)) (with_account account accounts)
told_share account work accounts weights weights' parts distinct among was is =
    is ∙ ap₂ (λ ns i. added ns i work) opened (sym (place-with_account account accounts))
    ∙ added-map (λ a. weight a parts) account work (with_account account accounts) distinct (among-with_account account accounts)
    ∙ map-same (λ a. weight a parts + cond (bytes_eq account a) work 0) (λ a. weight a (record { account = account; weight = work } ∷ parts)) (with_account account accounts)
    (λ a. sym (weight-more a (record { account = account; weight = work }) parts))
  where
    opened : with_newcomer account accounts weights ≡ map (λ a. weight a parts) (with_account account accounts)
    opened = ap (with_newcomer account accounts) was
        ∙ map-with_account (λ a. weight a parts) account accounts (λ new. weight-none account accounts parts among new)

-- the sum of the weights is that of the credits' parts
total-window : (n : ℕ) (kept : List Kept) → AllByRecursion (IsKeptCredit n) kept → weights_sum (weights_of n kept) ≡ parts_sum kept
total-window n [] each = total-none n
total-window n (k ∷ newer) each =
    total-added (weights_of n newer) k.place k.part (subst (λ m. k.place < m) (sym (length-weights_of n newer)) each.0.known)
    ∙ turned (total-window n newer each.1)
  where
    turned : weights_sum (weights_of n newer) ≡ parts_sum newer → weights_sum (weights_of n newer) + k.part ≡ k.part + parts_sum newer
    turned e = omega (arith, e)

pub total-parts : (kept : List Kept) (weights : List ℕ) → IsCreditWindow kept weights → weights_sum weights ≡ parts_sum kept
total-parts kept weights is = ap weights_sum is.weighed ∙ total-window (length weights) kept is.each

-- the last credits that fit, with one more
fitted-push : (window work : ℕ) (accounts : List (List ℕ)) (account : List ℕ) (credits : List Booked) → 1 ≤ work
    → fitted window (record { place = account_place accounts account; part = work } ∷ placed accounts (left_of window credits))
    ≡ placed accounts (record { account = account; weight = min work window } ∷ left_of (window - work) credits)
fitted-push window work accounts account credits some = by_tests (nat_lt 0 window) (nat_lt 0 (min work window)) refl refl where
  rest : fitted (window - work) (placed accounts (left_of window credits)) ≡ placed accounts (left_of (window - work) credits)
  rest = fitted-left accounts window (window - work) credits below where
    below : window - work ≤ window
    below = omega arith

  by_tests : (t u : Bool) → nat_lt 0 window ≡ t → nat_lt 0 (min work window) ≡ u
      → ◌≡◌ {A = List Kept} (cond t (record { place = account_place accounts account; part = min work window } ∷ fitted (window - work) (placed accounts (left_of window credits))) [])
      (cond u (record { place = account_place accounts account; part = min work window } ∷ placed accounts (left_of (window - work) credits)) (placed accounts (left_of (window - work) credits)))
  by_tests true true e f = ap (λ xs. record { place = account_place accounts account; part = min work window } ∷ xs) rest
  by_tests true false e f = absurd (filled (ltb-true 0 window e) (ltb-false 0 (min work window) f)) where
    filled : 0 < window → min work window ≤ 0 → ⊥
    filled a b = omega (arith, a, b, some)
  by_tests false true e f = absurd (empty (ltb-false 0 window e) (ltb-true 0 (min work window) f)) where
    empty : window ≤ 0 → 0 < min work window → ⊥
    empty a b = omega (arith, a, b)
  by_tests false false e f = sym (nothing) where
    zero : window ≡ 0
    zero = omega (arith, ltb-false 0 window e)

    nothing : placed accounts (left_of (window - work) credits) ≡ []
    nothing = sym rest ∙ ap (λ n. fitted (n - work) (placed accounts (left_of window credits))) zero ∙ gone (placed accounts (left_of window credits)) where
      less : 0 - work ≡ 0
      less = omega arith

      gone : (xs : List Kept) → fitted (0 - work) xs ≡ []
      gone [] = refl
      gone (x ∷ xs) = ap (λ n. fitted n (x ∷ xs)) less

-- PPLNS: the credit enters the window
pub told_window : (window work : ℕ) (account : List ℕ) (accounts : List (List ℕ)) (weights : List ℕ) (kept kept' : List Kept) (credits : List Booked) → 1 ≤ work
    → AreAmong accounts credits → IsCreditWindow kept weights → reverse kept ≡ placed accounts (last_work window 0 credits)
    → AllByRecursion (IsKeptCredit (length (with_newcomer account accounts weights))) (kept ++ record { place = account_place accounts account; part = work } ∷ [])
    → kept' ≡ without_oldest (weights_sum (with_newcomer account accounts weights) + work - window) (kept ++ record { place = account_place accounts account; part = work } ∷ [])
    → reverse kept' ≡ placed (with_account account accounts) (last_work window 0 (record { account = account; work = work; reward = None } ∷ credits))
told_window window work account accounts weights kept kept' credits some among is was each pushed =
    ap reverse (pushed ∙ ap (λ n. without_oldest (n - window) (kept ++ k ∷ [])) sums)
    ∙ cut-fits (length (with_newcomer account accounts weights)) window (kept ++ k ∷ []) each
    ∙ ap (fitted window) (reverse-append kept (k ∷ []) ∙ ap (λ xs. k ∷ xs) (was ∙ ap (placed accounts) lefts))
    ∙ ap (λ i. fitted window (record { place = i; part = work } ∷ placed accounts (left_of window credits))) (sym (place-with_account account accounts))
    ∙ ap (λ xs. fitted window (record { place = account_place (with_account account accounts) account; part = work } ∷ xs)) (sym (placed-stays account accounts (left_of window credits) parts_among))
    ∙ fitted-push window work (with_account account accounts) account credits some
    ∙ ap (placed (with_account account accounts)) (sym (last_work-left window 0 (record { account = account; work = work; reward = None } ∷ credits) ∙ whole))
  where
    k : Kept
    k = record { place = account_place accounts account; part = work }

    sums : weights_sum (with_newcomer account accounts weights) + work ≡ parts_sum (kept ++ record { place = account_place accounts account; part = work } ∷ [])
    sums = omega (arith, total-with_newcomer account accounts weights, total-parts kept weights is, parts_sum-append kept (record { place = account_place accounts account; part = work } ∷ []))

    none : window - 0 ≡ window
    none = omega arith

    lefts : last_work window 0 credits ≡ left_of window credits
    lefts = last_work-left window 0 credits ∙ ap (λ n. left_of n credits) none

    whole : left_of (window - 0) (record { account = account; work = work; reward = None } ∷ credits) ≡ record { account = account; weight = min work window } ∷ left_of (window - work) credits
    whole = ap (λ n. left_of n (record { account = account; work = work; reward = None } ∷ credits)) none

    parts_among : PartsAmong accounts (left_of window credits)
    parts_among = subst (PartsAmong accounts) lefts (last_work-among window 0 accounts credits among)

-- the credits in the window that a tally was told are of its accounts
window_told : (window : ℕ) (accounts : List (List ℕ)) (kept : List Kept) (credits : List Booked) → AreAmong accounts credits → reverse kept ≡ placed accounts (last_work window 0 credits)
    → IsCreditWindow kept (weights_of (length accounts) kept)
window_told window accounts kept credits among was = record {
  each = subst (λ n. AllByRecursion (IsKeptCredit n) kept) (sym (length-weights_of (length accounts) kept)) each;
  weighed = ap (λ n. weights_of n kept) (sym (length-weights_of (length accounts) kept));
} where
  each : AllByRecursion (IsKeptCredit (length accounts)) kept
  each = subst (AllByRecursion (IsKeptCredit (length accounts))) (reverse-reverse kept)
      (all-reverse (length accounts) (reverse kept)
      (subst (AllByRecursion (IsKeptCredit (length accounts))) (sym was) (placed-each accounts (last_work window 0 credits) (last_work-among window 0 accounts credits among))))

-- a push, by either rule
told_weights : (window : Option ℕ) (old new : Weighing) (account : List ℕ) (work : ℕ) (credits : List Booked) → 1 ≤ work → new.accounts ≡ with_account account old.accounts
    → are_distinct old.accounts ≡ true → AreAmong old.accounts credits
    → RemembersWeights old window credits
    → AddsCredit window old.kept (with_newcomer account old.accounts (weights_by window (length old.accounts) old.round_works old.kept)) (record { place = account_place old.accounts account; part = work })
    new.kept (weights_by window (length new.accounts) new.round_works new.kept)
    → HasRoundsByRule window new.round_works
    → RemembersWeights new window (record { account = account; work = work; reward = None } ∷ credits)
told_weights None old new account work credits some is distinct among was adds rounds = (
  told_share account work old.accounts old.round_works new.round_works (since_block credits) (distinct-with_account account old.accounts distinct) (since_block-among old.accounts credits among) was.0 adds.0
      ∙ ap (map (λ a. weight a (record { account = account; weight = work } ∷ since_block credits))) (sym is),
  adds.1 ∙ was.1,
)
told_weights (Some window) old new account work credits some is distinct among was adds rounds = (
  rounds,
  told_window window work account old.accounts (weights_of (length old.accounts) old.kept) old.kept new.kept credits some among windowed was.1
      (each-push account work old.accounts (weights_of (length old.accounts) old.kept) old.kept some (length-weights_of (length old.accounts) old.kept) windowed) adds.1
      ∙ ap (λ accounts. placed accounts (last_work window 0 (record { account = account; work = work; reward = None } ∷ credits))) (sym is),
) where
  windowed : IsCreditWindow old.kept (weights_of (length old.accounts) old.kept)
  windowed = window_told window old.accounts old.kept credits among was.1

pub among-told : (tally : Weighing) (credits : List Booked) → Remembers tally credits → AreAmong tally.accounts credits
among-told tally credits was = subst (λ accounts. AreAmong accounts credits) (sym was.accounts_are) (among-accounts_of credits)

pub distinct-told : (tally : Weighing) (credits : List Booked) → Remembers tally credits → are_distinct tally.accounts ≡ true
distinct-told tally credits was = subst (λ accounts. are_distinct accounts ≡ true) (sym was.accounts_are) (distinct-accounts_of credits)

pub told_push : (old new : Weighing) (account : List ℕ) (work : ℕ) → 1 ≤ work → IsPushed old new account work → RemembersPush old new account work
told_push old new account work some is credits was = record {
  accounts_are = is.accounts_are ∙ ap (with_account account) was.accounts_are;
  weights_are = subst (λ window. RemembersWeights new window (record { account = account; work = work; reward = None } ∷ credits)) (sym is.window_stays)
      (told_weights old.window old new account work credits some is.accounts_are (distinct-told old credits was) (among-told old credits was) was.weights_are adds is.rounds);
  pushes_are = is.pushes_are ∙ ap (λ n. n + 1) was.pushes_are ∙ more;
  unsettled_is = is.unsettled_is;
} where
  adds : AddsCredit old.window old.kept (with_newcomer account old.accounts (weights_in old)) (record { place = account_place old.accounts account; part = work })
      new.kept (weights_by old.window (length new.accounts) new.round_works new.kept)
  adds = subst (λ window. AddsCredit old.window old.kept (with_newcomer account old.accounts (weights_in old)) (record { place = account_place old.accounts account; part = work })
      new.kept (weights_by window (length new.accounts) new.round_works new.kept)) is.window_stays is.weighed

  more : length credits + 1 ≡ suc (length credits)
  more = omega arith

-- what differs in room alone was told the same
pub told_room : (old new : Weighing) (credits : List Booked) → DiffersInRoom old new → Remembers old credits → Remembers new credits
told_room old new credits same was = subst (λ tally. Remembers tally credits) (sym same) (record {
  accounts_are = was.accounts_are;
  weights_are = by_window old.window was.weights_are;
  pushes_are = was.pushes_are;
  unsettled_is = was.unsettled_is;
}) where
  by_window : (window : Option ℕ) → RemembersWeights old window credits → RemembersWeights (record { window = old.window; accounts = old.accounts; round_works = old.round_works; kept = old.kept; works = old.works; balances = old.balances; pool = old.pool; blocks = old.blocks; pushes = old.pushes; unsettled = old.unsettled; room = new.room }) window credits
  by_window None h = h
  by_window (Some window) h = h

pub told_push-room : (old roomy new : Weighing) (account : List ℕ) (work : ℕ) → 1 ≤ work → DiffersInRoom old roomy → IsPushed roomy new account work → RemembersPush old new account work
told_push-room old roomy new account work some same is credits was = told_push roomy new account work some is credits (told_room old roomy credits same was)

-- the parts of the credits up to the last push, which may be a block
abbrev pub parts_behind : Option ℕ → List Booked → List Part
parts_behind None credits = since_block credits
parts_behind (Some window) credits = last_work window 0 credits

parts_behind-among : (window : Option ℕ) (accounts : List (List ℕ)) (credits : List Booked) → AreAmong accounts credits → PartsAmong accounts (parts_behind window credits)
parts_behind-among None accounts credits among = since_block-among accounts credits among
parts_behind-among (Some window) accounts credits among = last_work-among window 0 accounts credits among

weights_told : (window : Option ℕ) (tally : Weighing) (credits : List Booked) → are_distinct tally.accounts ≡ true → AreAmong tally.accounts credits
    → RemembersWeights tally window credits → weights_by window (length tally.accounts) tally.round_works tally.kept ≡ map (λ a. weight a (parts_behind window credits)) tally.accounts
weights_told None tally credits distinct among was = was.0
weights_told (Some window) tally credits distinct among was =
    ap (weights_of (length tally.accounts)) (sym (reverse-reverse tally.kept))
    ∙ ap (λ kept. weights_of (length tally.accounts) (reverse kept)) was.1
    ∙ weights_of-reverse (length tally.accounts) (placed tally.accounts (last_work window 0 credits))
    ∙ weights-placed tally.accounts (last_work window 0 credits) distinct (last_work-among window 0 tally.accounts credits among)

pub told_by_parts : (tally : Weighing) (credits : List Booked) → Remembers tally credits → weights_in tally ≡ map (λ a. weight a (parts_behind tally.window credits)) tally.accounts
told_by_parts tally credits was = weights_told tally.window tally credits (distinct-told tally credits was) (among-told tally credits was) was.weights_are

-- the parts in the block are those
pub block_parts : (window : Option ℕ) (reward : ℕ) (credit : Booked) (older : List Booked) → credit.reward ≡ None
    → parts_behind window (credit ∷ older) ≡ parts_in_block window (as_block reward credit ∷ older)
block_parts None reward credit older none = ap (λ r. cond (is_some r) [] (record { account = credit.account; weight = credit.work } ∷ since_block older)) none
block_parts (Some window) reward credit older none = refl

-- payments by weights are those by parts
payments-same : (paid_out all : ℕ) (parts : List Part) (accounts : List (List ℕ)) → all ≡ all_weights parts
    → payments_by paid_out all accounts (map (λ a. weight a parts) accounts) ≡ payments_of paid_out parts accounts
payments-same paid_out all parts [] same = refl
payments-same paid_out all parts (account ∷ accounts) same =
    ap₂ (λ n rest. cond (nat_lt 0 (weight account parts)) (record { account = account; weight = weight account parts; amount = paid_out * weight account parts / n } ∷ rest) rest)
    same (payments-same paid_out all parts accounts same)

total-map : (parts : List Part) (accounts : List (List ℕ)) → are_distinct accounts ≡ true → PartsAmong accounts parts → weights_sum (map (λ a. weight a parts) accounts) ≡ all_weights parts
total-map parts accounts distinct among =
    sum_by-map (λ (n : ℕ). n) (λ a. weight a parts) accounts
    ∙ sum_by-accounts (λ (part : Part). part.account) (λ (part : Part). part.weight) accounts parts distinct among

pub settled-same : (tally : Weighing) (reward basis_points : ℕ) (credit : Booked) (older : List Booked) → Remembers tally (credit ∷ older) → credit.reward ≡ None
    → settled_by tally reward basis_points ≡ settlement tally.window basis_points reward (as_block reward credit ∷ older)
settled-same tally reward basis_points credit older was none =
    ap (λ payments. settled_with reward (fee_of reward basis_points) payments)
    (ap₂ (λ n weights. payments_by (reward - fee_of reward basis_points) n tally.accounts weights) (ap weights_sum weights ∙ total-map parts tally.accounts distinct among) weights
    ∙ payments-same (reward - fee_of reward basis_points) (all_weights parts) parts tally.accounts refl
    ∙ ap₂ (λ ps accounts. payments_of (reward - fee_of reward basis_points) ps accounts) (block_parts tally.window reward credit older none) was.accounts_are)
  where
    parts : List Part
    parts = parts_behind tally.window (credit ∷ older)

    weights : weights_in tally ≡ map (λ a. weight a (parts_behind tally.window (credit ∷ older))) tally.accounts
    weights = told_by_parts tally (credit ∷ older) was

    distinct : are_distinct tally.accounts ≡ true
    distinct = distinct-told tally (credit ∷ older) was

    among : PartsAmong tally.accounts (parts_behind tally.window (credit ∷ older))
    among = parts_behind-among tally.window tally.accounts (credit ∷ older) (among-told tally (credit ∷ older) was)

-- what a block leaves
zeros : (n : ℕ) (weights : List ℕ) (accounts : List (List ℕ)) → length weights ≡ length accounts → replicate (length weights) 0 ≡ map (λ a. weight a []) accounts
zeros n weights accounts long = ap (λ m. replicate {A = ℕ} m 0) long ∙ none-weighs accounts

told_round : (window : Option ℕ) (old new : Weighing) (reward : ℕ) (credit : Booked) (older : List Booked) → new.accounts ≡ old.accounts
    → new.round_works ≡ weights_behind window old.round_works → new.kept ≡ old.kept → RemembersWeights old window (credit ∷ older)
    → RemembersWeights new window (as_block reward credit ∷ older)
told_round None old new reward credit older accounts works kept was =
    (works ∙ zeros 0 old.round_works old.accounts long ∙ ap (map (λ a. weight a [])) (sym accounts), kept ∙ was.1)
  where
    long : length old.round_works ≡ length old.accounts
    long = ap (λ (ns : List ℕ). length ns) was.0 ∙ length-map old.accounts (λ a. weight a (since_block (credit ∷ older)))
told_round (Some window) old new reward credit older accounts works kept was =
    (works ∙ was.0, ap reverse kept ∙ was.1 ∙ ap (λ accounts. placed accounts (last_work window 0 (credit ∷ older))) (sym accounts))

-- the sum of the weights is that of the block's parts
pub total-block : (tally : Weighing) (reward : ℕ) (credit : Booked) (older : List Booked) → Remembers tally (credit ∷ older) → credit.reward ≡ None
    → weights_sum (weights_in tally) ≡ all_weights (parts_in_block tally.window (as_block reward credit ∷ older))
total-block tally reward credit older was none =
    ap weights_sum (told_by_parts tally (credit ∷ older) was)
    ∙ total-map (parts_behind tally.window (credit ∷ older)) tally.accounts (distinct-told tally (credit ∷ older) was)
    (parts_behind-among tally.window tally.accounts (credit ∷ older) (among-told tally (credit ∷ older) was))
    ∙ ap all_weights (block_parts tally.window reward credit older none)

block-conserved : (tally : Weighing) (reward basis_points : ℕ) (settled : Settled) (credit : Booked) (older : List Booked) → basis_points ≤ 10000 → 1 ≤ weights_sum (weights_in tally)
    → Remembers tally (credit ∷ older) → credit.reward ≡ None → settled ≡ settlement tally.window basis_points reward (as_block reward credit ∷ older)
    → IsConserved basis_points reward (parts_in_block tally.window (as_block reward credit ∷ older)) settled
block-conserved tally reward basis_points settled credit older part some was none is =
    subst (IsConserved basis_points reward (parts_in_block tally.window (as_block reward credit ∷ older))) (sym is)
    (conserved tally.window basis_points reward (as_block reward credit ∷ older) part (omega (arith, some, total-block tally reward credit older was none)))

pub told_settled : (old new : Weighing) (reward basis_points : ℕ) (settled : Settled) → basis_points ≤ 10000 → 1 ≤ weights_sum (weights_in old) → settled ≡ settled_by old reward basis_points → EndsRound old new
    → SettlesBlock old new reward basis_points settled
told_settled old new reward basis_points settled part some is ends credit older was none = record {
  conserved = block-conserved old reward basis_points settled credit older part some was none (is ∙ settled-same old reward basis_points credit older was none);
  by_weights = is ∙ settled-same old reward basis_points credit older was none;
  remembers = record {
    accounts_are = ends.accounts_stay ∙ was.accounts_are;
    weights_are = subst (λ window. RemembersWeights new window (as_block reward credit ∷ older)) (sym ends.window_stays)
        (told_round old.window old new reward credit older ends.accounts_stay ends.round_works_are ends.kept_stay was.weights_are);
    pushes_are = ends.pushes_stay ∙ was.pushes_are;
    unsettled_is = ends.settled;
  };
}

-- a push that is settled at once
pub told_settled_push : (old mid new : Weighing) (account : List ℕ) (work reward basis_points : ℕ) (settled : Settled) → 1 ≤ work → basis_points ≤ 10000 → 1 ≤ weights_sum (weights_in mid)
    → IsPushed old mid account work → settled ≡ settled_by mid reward basis_points → EndsRound mid new
    → (credits : List Booked) → Remembers old credits
    → IsSettledPush old.window new reward basis_points settled (record { account = account; work = work; reward = Some reward }) credits
told_settled_push old mid new account work reward basis_points settled some part weighed pushed is ends credits was =
    subst (λ window. IsSettledPush window new reward basis_points settled (record { account = account; work = work; reward = Some reward }) credits) pushed.window_stays (record {
      by_weights = is_settlement.by_weights;
      remembers = is_settlement.remembers;
      conserved = is_settlement.conserved;
    })
  where
    is_settlement : IsSettlement mid new reward basis_points settled (record { account = account; work = work; reward = None }) credits
    is_settlement = told_settled mid new reward basis_points settled part weighed is ends (record { account = account; work = work; reward = None }) credits (told_push old mid account work some pushed credits was) refl
