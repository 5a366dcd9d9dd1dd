-- The sums of a tally follow what it is told.
use Rattle.std.proofs.Common.{◌≡◌, ℕ, ◌+◌, ◌-◌, ◌*◌, ◌/◌, ◌≤◌, Bool, true, false, cond, bytes_eq, filter, is_some, map, count_by, sum_by, Option, None, Some, List, [], ◌∷◌, ◌++◌, refl, sym, ap, ap₂, ◌∙◌, subst, arith}
use Rattle.std.specs.List.{list_any}
use Rattle.std.proofs.lemmas.Bool.{both_ways}
use Rattle.std.proofs.lemmas.List.Sums.{sum_by-cons}
use Rattle.std.proofs.lemmas.Slice.Eq.{bytes_eq-Decides}
use Rattle.payout_laws.proofs.Conserved.{payouts-weighed}
use Rattle.payout_laws.proofs.Members.{AreAmong, among-with_account, distinct-with_account, parts_of-among, weight-none}
use Rattle.payout_laws.proofs.Shares.{nothing_paid}
use Rattle.payout_laws.proofs.Sums.{sum_by-kept}
use Rattle.pool_history.specs.Crediting.{Booked}
use Rattle.pool_history.specs.Settling.{Part, Settled, all_weights, balance, fee_of, paid_to, parts_in_block, settled_at, settlement, settlements, weight, with_account, work_for}
use Rattle.payouts.specs.Settlements.{as_block, settled_by}
use Rattle.payouts.specs.Sums.{with_amounts}
use Rattle.payouts.specs.Tallies.{DiffersInRoom, IsPushed, Remembers, Weighing, weights_in, with_newcomer}
use Rattle.payouts.specs.Totals.{HasSums, PaysBlock, SumsBlock, SumsPush}
use Rattle.payouts.specs.Window.{added, weights_sum}
use Rattle.payouts.proofs.Placed.{added-map, map-same, map-with_account, place-with_account}
use Rattle.payouts.proofs.Told.{among-told, block_parts, distinct-told, parts_behind, settled-same, told_by_parts, told_push, told_room, total-block}

-- an account more, and its work
work-more : (a : List ℕ) (credit : Booked) (older : List Booked) → work_for a (credit ∷ older) ≡ work_for a older + cond (bytes_eq credit.account a) credit.work 0
work-more a credit older =
    sum_by-kept (λ (c : Booked). c.work) (bytes_eq credit.account a) credit (filter (λ (c : Booked). bytes_eq c.account a) older)
    ∙ turned (cond (bytes_eq credit.account a) credit.work 0) (work_for a older)
  where
    turned : (n m : ℕ) → n + m ≡ m + n
    turned n m = omega arith

-- one that isn't among the accounts has worked nothing, and has no balance
work-none : (account : List ℕ) (accounts : List (List ℕ)) (credits : List Booked) → AreAmong accounts credits → list_any (bytes_eq account) accounts ≡ false → work_for account credits ≡ 0
work-none account accounts [] among none = refl
work-none account accounts (credit ∷ older) among none =
    work-more account credit older ∙ ap (λ n. n + cond (bytes_eq credit.account account) credit.work 0) (work-none account accounts older among.1 none) ∙ by_test (bytes_eq credit.account account) refl
  where
    by_test : (t : Bool) → bytes_eq credit.account account ≡ t → 0 + cond t credit.work 0 ≡ 0
    by_test false e = refl
    by_test true e =
        let same : credit.account ≡ account = (bytes_eq-Decides credit.account account).0 e in
        absurd (both_ways (list_any (bytes_eq account) accounts) none (sym (ap (λ a. list_any (bytes_eq a) accounts) same) ∙ among.0))

balance-none : (window : Option ℕ) (basis_points : ℕ) (account : List ℕ) (accounts : List (List ℕ)) (credits : List Booked) → AreAmong accounts credits
    → list_any (bytes_eq account) accounts ≡ false → balance account (settlements window basis_points credits) ≡ 0
balance-none window basis_points account accounts [] among none = refl
balance-none window basis_points account accounts (credit ∷ older) among none = by_reward credit.reward (balance-none window basis_points account accounts older among.1 none) where
  unpaid : (reward : ℕ) → paid_to account (settlement window basis_points reward (credit ∷ older)) ≡ 0
  unpaid reward =
      payouts-weighed window basis_points reward (credit ∷ older) account
      ∙ nothing_paid (reward - fee_of reward basis_points) (all_weights (parts_in_block window (credit ∷ older))) (weight account (parts_in_block window (credit ∷ older)))
      (weight-none account accounts (parts_in_block window (credit ∷ older)) (parts_of-among window accounts (credit ∷ older) among) none)

  by_reward : (reward : Option ℕ) → balance account (settlements window basis_points older) ≡ 0
      → balance account (settled_at window basis_points reward (credit ∷ older) ++ settlements window basis_points older) ≡ 0
  by_reward None rest = rest
  by_reward (Some reward) rest =
      sum_by-cons (paid_to account) (settlement window basis_points reward (credit ∷ older)) (settlements window basis_points older)
      ∙ ap₂ (λ n m. n + m) (unpaid reward) rest

-- a push
pub summed_push : (old new : Weighing) (account : List ℕ) (work : ℕ) → IsPushed old new account work → SumsPush old new account work
summed_push old new account work is basis_points credits was sums = record {
  works_are =
      is.works_are ∙ ap₂ (λ ns i. added ns i work) (ap (with_newcomer account old.accounts) sums.works_are ∙ opened) (sym (place-with_account account old.accounts))
      ∙ added-map (λ a. work_for a credits) account work (with_account account old.accounts) (distinct-with_account account old.accounts (distinct-told old credits was)) (among-with_account account old.accounts)
      ∙ map-same (λ a. work_for a credits + cond (bytes_eq account a) work 0) (λ a. work_for a (pushed ∷ credits)) (with_account account old.accounts) (λ a. sym (work-more a pushed credits))
      ∙ ap (map (λ a. work_for a (pushed ∷ credits))) (sym is.accounts_are);
  balances_are =
      is.balances_are ∙ ap (with_newcomer account old.accounts) sums.balances_are
      ∙ map-with_account (λ a. balance a (settlements old.window basis_points credits)) account old.accounts (λ none. balance-none old.window basis_points account old.accounts credits (among-told old credits was) none)
      ∙ ap₂ (λ window accounts. map (λ a. balance a (settlements window basis_points credits)) accounts) (sym is.window_stays) (sym is.accounts_are);
  pool_is = is.pool_stays ∙ sums.pool_is ∙ ap (λ window. sum_by (λ (settled : Settled). settled.pool) (settlements window basis_points credits)) (sym is.window_stays);
  blocks_are = is.blocks_stay ∙ sums.blocks_are;
} where
  pushed : Booked
  pushed = record { account = account; work = work; reward = None }

  opened : with_newcomer account old.accounts (map (λ a. work_for a credits) old.accounts) ≡ map (λ a. work_for a credits) (with_account account old.accounts)
  opened = map-with_account (λ a. work_for a credits) account old.accounts (λ none. work-none account old.accounts credits (among-told old credits was) none)

-- a block
amounts-map : (paid_out all : ℕ) (f g : List ℕ → ℕ) (accounts : List (List ℕ)) → with_amounts paid_out all (map f accounts) (map g accounts) ≡ map (λ a. g a + paid_out * f a / all) accounts
amounts-map paid_out all f g [] = refl
amounts-map paid_out all f g (a ∷ accounts) = ap (λ rest. (g a + paid_out * f a / all) ∷ rest) (amounts-map paid_out all f g accounts)

work-block : (a : List ℕ) (reward : ℕ) (credit : Booked) (older : List Booked) → work_for a (credit ∷ older) ≡ work_for a (as_block reward credit ∷ older)
work-block a reward credit older = work-more a credit older ∙ sym (work-more a (as_block reward credit) older)

-- the settlements before a block that isn't settled yet are those of the older credits
unsettled_yet : (window : Option ℕ) (basis_points : ℕ) (credit : Booked) (older : List Booked) → credit.reward ≡ None
    → settlements window basis_points (credit ∷ older) ≡ settlements window basis_points older
unsettled_yet window basis_points credit older none = ap (λ reward. settled_at window basis_points reward (credit ∷ older) ++ settlements window basis_points older) none

paid_block : (window : Option ℕ) (basis_points reward : ℕ) (credit : Booked) (older : List Booked) (parts : List Part) (a : List ℕ)
    → parts ≡ parts_in_block window (as_block reward credit ∷ older)
    → balance a (settlements window basis_points older) + (reward - fee_of reward basis_points) * weight a parts / all_weights parts
    ≡ balance a (settlements window basis_points (as_block reward credit ∷ older))
paid_block window basis_points reward credit older parts a same =
    turned (balance a (settlements window basis_points older)) ((reward - fee_of reward basis_points) * weight a parts / all_weights parts)
    ∙ ap (λ n. n + balance a (settlements window basis_points older))
    (ap (λ ps. (reward - fee_of reward basis_points) * weight a ps / all_weights ps) same ∙ sym (payouts-weighed window basis_points reward (as_block reward credit ∷ older) a))
    ∙ sym (sum_by-cons (paid_to a) (settlement window basis_points reward (as_block reward credit ∷ older)) (settlements window basis_points older))
  where
    turned : (n m : ℕ) → n + m ≡ m + n
    turned n m = omega arith

block-balances : (old new : Weighing) (reward basis_points : ℕ) (settled : Settled) (credit : Booked) (older : List Booked) → new.window ≡ old.window → new.accounts ≡ old.accounts
    → PaysBlock old new reward basis_points settled → Remembers old (credit ∷ older) → credit.reward ≡ None → HasSums old basis_points (credit ∷ older)
    → new.balances ≡ map (λ a. balance a (settlements new.window basis_points (as_block reward credit ∷ older))) new.accounts
block-balances old new reward basis_points settled credit older window accounts pays was none sums =
    pays.balances_are
    ∙ ap₂ (λ all ws. with_amounts (reward - fee_of reward basis_points) all ws old.balances) total (told_by_parts old (credit ∷ older) was)
    ∙ ap (with_amounts (reward - fee_of reward basis_points) (all_weights (parts_behind old.window (credit ∷ older))) (map (λ a. weight a (parts_behind old.window (credit ∷ older))) old.accounts)) before
    ∙ amounts-map (reward - fee_of reward basis_points) (all_weights (parts_behind old.window (credit ∷ older))) (λ a. weight a (parts_behind old.window (credit ∷ older))) (λ a. balance a (settlements old.window basis_points older)) old.accounts
    ∙ map-same (λ a. balance a (settlements old.window basis_points older) + (reward - fee_of reward basis_points) * weight a (parts_behind old.window (credit ∷ older)) / all_weights (parts_behind old.window (credit ∷ older)))
    (λ a. balance a (settlements old.window basis_points (as_block reward credit ∷ older))) old.accounts
    (λ a. paid_block old.window basis_points reward credit older (parts_behind old.window (credit ∷ older)) a (block_parts old.window reward credit older none))
    ∙ ap₂ (λ w them. map (λ a. balance a (settlements w basis_points (as_block reward credit ∷ older))) them) (sym window) (sym accounts)
  where
    total : weights_sum (weights_in old) ≡ all_weights (parts_behind old.window (credit ∷ older))
    total = total-block old reward credit older was none ∙ ap all_weights (sym (block_parts old.window reward credit older none))

    before : old.balances ≡ map (λ a. balance a (settlements old.window basis_points older)) old.accounts
    before = sums.balances_are ∙ ap (λ settled. map (λ a. balance a settled) old.accounts) (unsettled_yet old.window basis_points credit older none)

block-pool : (old new : Weighing) (reward basis_points : ℕ) (settled : Settled) (credit : Booked) (older : List Booked) → new.window ≡ old.window
    → settled ≡ settled_by old reward basis_points → PaysBlock old new reward basis_points settled → Remembers old (credit ∷ older) → credit.reward ≡ None → HasSums old basis_points (credit ∷ older)
    → new.pool ≡ sum_by (λ (s : Settled). s.pool) (settlements new.window basis_points (as_block reward credit ∷ older))
block-pool old new reward basis_points settled credit older window is pays was none sums =
    pays.pool_is
    ∙ ap₂ (λ n m. n + m) (sums.pool_is ∙ ap (sum_by (λ (s : Settled). s.pool)) (unsettled_yet old.window basis_points credit older none)) (ap (λ (s : Settled). s.pool) (is ∙ settled-same old reward basis_points credit older was none))
    ∙ turned (sum_by (λ (s : Settled). s.pool) (settlements old.window basis_points older)) (settlement old.window basis_points reward (as_block reward credit ∷ older)).pool
    ∙ sym (sum_by-cons (λ (s : Settled). s.pool) (settlement old.window basis_points reward (as_block reward credit ∷ older)) (settlements old.window basis_points older))
    ∙ ap (λ w. sum_by (λ (s : Settled). s.pool) (settlements w basis_points (as_block reward credit ∷ older))) (sym window)
  where
    turned : (n m : ℕ) → n + m ≡ m + n
    turned n m = omega arith

-- how many blocks there are
blocks_in-cons : (credit : Booked) (older : List Booked)
    → count_by (λ (c : Booked). is_some c.reward) (credit ∷ older) ≡ cond (is_some credit.reward) 1 0 + count_by (λ (c : Booked). is_some c.reward) older
blocks_in-cons credit older = sum_by-cons (λ (c : Booked). cond (is_some c.reward) 1 0) credit older

uncounted : (credit : Booked) (older : List Booked) → credit.reward ≡ None → count_by (λ (c : Booked). is_some c.reward) (credit ∷ older) ≡ count_by (λ (c : Booked). is_some c.reward) older
uncounted credit older none = blocks_in-cons credit older ∙ ap (λ r. cond (is_some r) 1 0 + count_by (λ (c : Booked). is_some c.reward) older) none ∙ zeroed where
  zeroed : 0 + count_by (λ (c : Booked). is_some c.reward) older ≡ count_by (λ (c : Booked). is_some c.reward) older
  zeroed = omega arith

pub summed_block : (old new : Weighing) (reward basis_points : ℕ) (settled : Settled) → new.window ≡ old.window → new.accounts ≡ old.accounts → new.works ≡ old.works
    → settled ≡ settled_by old reward basis_points → PaysBlock old new reward basis_points settled → SumsBlock old new reward basis_points
summed_block old new reward basis_points settled window accounts works is pays credit older was none sums = record {
  works_are =
      works ∙ sums.works_are ∙ map-same (λ a. work_for a (credit ∷ older)) (λ a. work_for a (as_block reward credit ∷ older)) old.accounts (λ a. work-block a reward credit older)
      ∙ ap (map (λ a. work_for a (as_block reward credit ∷ older))) (sym accounts);
  balances_are = block-balances old new reward basis_points settled credit older window accounts pays was none sums;
  pool_is = block-pool old new reward basis_points settled credit older window is pays was none sums;
  blocks_are = pays.blocks_are ∙ ap (λ n. n + 1) (sums.blocks_are ∙ uncounted credit older none) ∙ counted;
} where
  counted : count_by (λ (c : Booked). is_some c.reward) older + 1 ≡ count_by (λ (c : Booked). is_some c.reward) (as_block reward credit ∷ older)
  counted = omega (arith, blocks_in-cons (as_block reward credit) older)

-- a push that is settled at once
pub summed_settled_push : (old mid new : Weighing) (account : List ℕ) (work reward basis_points : ℕ) → 1 ≤ work → IsPushed old mid account work → SumsBlock mid new reward basis_points
    → (credits : List Booked) → Remembers old credits → HasSums old basis_points credits
    → HasSums new basis_points (record { account = account; work = work; reward = Some reward } ∷ credits)
summed_settled_push old mid new account work reward basis_points some pushed block credits was sums =
    block (record { account = account; work = work; reward = None }) credits (told_push old mid account work some pushed credits was) refl
    (summed_push old mid account work pushed basis_points credits was sums)

-- what differs in room alone has the same sums
pub summed_push-room : (old roomy new : Weighing) (account : List ℕ) (work : ℕ) → DiffersInRoom old roomy → IsPushed roomy new account work → SumsPush old new account work
summed_push-room old roomy new account work same is basis_points credits was sums =
    summed_push roomy new account work is basis_points credits (told_room old roomy credits same was)
    (subst (λ tally. HasSums tally basis_points credits) (sym same) (record {
      works_are = sums.works_are;
      balances_are = sums.balances_are;
      pool_is = sums.pool_is;
      blocks_are = sums.blocks_are;
    }))
