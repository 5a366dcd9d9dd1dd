use Rattle.std.proofs.Common.{◌≡◌, ◌+◌, ◌-◌, ◌≤◌, List, ℕ, refl, sym, ap, ap₂, ◌∙◌, length, subst, sum_by, arith}
use Rattle.pool_history.specs.Settling.{Payment, fee_of}
use Rattle.payouts.specs.Settlements.{payments_by, weights_behind}
use Rattle.payouts.specs.Sheets.{AreListed, balances_with, listed_weights, payments_to}
use Rattle.payouts.specs.Sums.{blocks_by, with_amounts}
use Rattle.payouts.specs.Tallies.{weights_in, window_of}
use Rattle.payouts.specs.Window.{weights_sum}
use Rattle.payouts.proofs.Listing.{lists-balances, lists-payments, lists-places, lists-weights}
use Rattle.payouts.proofs.Paid.{closed}
use Rattle.payouts.proofs.Tallied.{behind-keeps, behind-long, behind-shown, weights-shown}
use Rattle.payouts.proofs.tally.Tally.close.Goals as goal

pub pay-paid-requires-clause-summed : goal.pay-paid-requires-clause-summed
pay-paid-requires-clause-summed c =
    let shown : c.self.inside.weights.numbers ≡ weights_in c.args.self.now = weights-shown _ _ _ _ _ _ _ c.self.invariant.weighed ∙ ap weights_in c.self.view_is in
    subst (λ ws. listed_weights ws c.args.sheet ≤ c.self.inside.sum) (sym (c.numbers.ensures ∙ shown))
    (omega (arith, lists-weights c.args.self.now.accounts (weights_in c.args.self.now) c.args.sheet c.requires.accounts, c.self.invariant.weighed.summed, ap weights_sum shown))

pub pay-paid-requires-clause-listed : goal.pay-paid-requires-clause-listed
pay-paid-requires-clause-listed c =
    let shown : c.self.inside.weights.numbers ≡ weights_in c.args.self.now = weights-shown _ _ _ _ _ _ _ c.self.invariant.weighed ∙ ap weights_in c.self.view_is in
    subst (λ ws. AreListed (length ws) c.args.sheet) (sym (c.numbers.ensures ∙ shown))
    (lists-places c.args.self.now.accounts (weights_in c.args.self.now) c.args.sheet c.requires.accounts)

pub invariant_of-self : goal.invariant_of-self
invariant_of-self c =
    let long : length c.end_round-self-inside.new.weights.numbers ≡ length c.self.inside.weights.numbers =
    ap length c.end_round-self-inside.ensures.weights ∙ behind-long (window_of c.self.inside.rule) c.self.inside.weights.numbers in
    let unsettled : c.self.inside.unsettled ≡ c.args.self.now.unsettled = ap (λ tally. tally.unsettled) c.self.view_is in
    record {
      weighed = record {
        same_length = long ∙ c.self.invariant.weighed.same_length;
        summed = c.end_round-self-inside.ensures.summed;
        small = omega (arith, c.end_round-self-inside.ensures.within, c.self.invariant.weighed.small);
        few = c.self.invariant.weighed.few;
        some = λ settled. cc;
        short = c.self.invariant.weighed.short;
        keeps = behind-keeps (window_of c.self.inside.rule) c.self.inside.kept.items c.self.inside.weights.numbers c.end_round-self-inside.new.weights.numbers c.end_round-self-inside.ensures.weights c.self.invariant.weighed.keeps;
      };
      summed = record {
        works_length = c.self.invariant.summed.works_length ∙ sym long;
        works_small = c.self.invariant.summed.works_small;
        balances_length = omega (arith, c.pay-paid.ensures.balances_length, c.self.invariant.summed.balances_length, long);
        paid_small = omega (arith, c.pay-paid.ensures.balances_sum, c.self.invariant.summed.paid_small, c.requires.reward, c.pay-paid.ensures.within);
        few = omega (arith, c.self.invariant.summed.few, ap (blocks_by c.self.inside.sums.blocks) (unsettled ∙ c.requires.unsettled));
      };
    }

pub returns-clause-ends : goal.returns-clause-ends
returns-clause-ends c = record {
  window_stays = ap (λ tally. tally.window) c.self.view_is;
  accounts_stay = ap (λ tally. tally.accounts) c.self.view_is;
  round_works_are = behind-shown (window_of c.self.inside.rule) c.self.inside.weights.numbers c.end_round-self-inside.new.weights.numbers c.end_round-self-inside.ensures.weights
      ∙ ap (λ tally. weights_behind tally.window tally.round_works) c.self.view_is;
  kept_stay = ap (λ tally. tally.kept) c.self.view_is;
  works_stay = ap (λ tally. tally.works) c.self.view_is;
  pushes_stay = ap (λ tally. tally.pushes) c.self.view_is;
  settled = refl;
}

pub returns-clause-pays : goal.returns-clause-pays
returns-clause-pays c =
    let shown : c.self.inside.weights.numbers ≡ weights_in c.args.self.now = weights-shown _ _ _ _ _ _ _ c.self.invariant.weighed ∙ ap weights_in c.self.view_is in
    let weights : c.numbers.result.now ≡ weights_in c.args.self.now = c.numbers.ensures ∙ shown in
    let long : length (weights_in c.args.self.now) ≡ length c.args.self.now.accounts =
    omega (arith, c.self.invariant.weighed.same_length, ap (λ (ns : List ℕ). length ns) shown, ap (λ tally. length tally.accounts) c.self.view_is) in
    record {
      balances_are =
          c.pay-paid.ensures.balances
          ∙ ap (λ ws. balances_with (c.args.reward - c.fee_of-fee.result) c.self.inside.sum ws c.args.sheet c.self.inside.sums.balances.items) weights
          ∙ lists-balances (c.args.reward - c.fee_of-fee.result) c.self.inside.sum c.args.self.now.accounts (weights_in c.args.self.now) c.self.inside.sums.balances.items c.args.sheet c.requires.accounts long
          ∙ ap₂ (λ fee all. with_amounts (c.args.reward - fee) all (weights_in c.args.self.now) c.self.inside.sums.balances.items) c.fee_of-fee.ensures.value (c.self.invariant.weighed.summed ∙ ap weights_sum shown)
          ∙ ap (λ tally. with_amounts (c.args.reward - fee_of c.args.reward c.args.basis_points) (weights_sum (weights_in c.args.self.now)) (weights_in c.args.self.now) tally.balances) c.self.view_is;
      pool_is = ap (λ tally. tally.pool + (c.args.reward - c.pay-paid.result.sum)) c.self.view_is;
      blocks_are = ap (λ tally. tally.blocks + 1) c.self.view_is;
    }

pub returns-clause-settled : goal.returns-clause-settled
returns-clause-settled c =
    let shown : c.self.inside.weights.numbers ≡ weights_in c.args.self.now = weights-shown _ _ _ _ _ _ _ c.self.invariant.weighed ∙ ap weights_in c.self.view_is in
    let weights : c.numbers.result.now ≡ weights_in c.args.self.now = c.numbers.ensures ∙ shown in
    closed c.args.reward c.fee_of-fee.result (fee_of c.args.reward c.args.basis_points) c.pay-paid.result.sum c.from_vec.result _ c.fee_of-fee.ensures.value
    (c.from_vec.ensures ∙ c.pay-paid.ensures.paid
    ∙ ap (λ ws. payments_to (c.args.reward - c.fee_of-fee.result) c.self.inside.sum ws c.args.sheet) weights
    ∙ lists-payments (c.args.reward - c.fee_of-fee.result) c.self.inside.sum c.args.self.now.accounts (weights_in c.args.self.now) c.args.sheet c.requires.accounts
    ∙ ap₂ (λ fee all. payments_by (c.args.reward - fee) all c.args.self.now.accounts (weights_in c.args.self.now)) c.fee_of-fee.ensures.value (c.self.invariant.weighed.summed ∙ ap weights_sum shown))
    (c.pay-paid.ensures.sum ∙ ap (λ payments. sum_by (λ (payment : Payment). payment.amount) payments) (sym c.from_vec.ensures))
    c.fee_of-fee.ensures.within c.pay-paid.ensures.within
