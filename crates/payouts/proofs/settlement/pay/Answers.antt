use Rattle.std.proofs.Common.{◌+◌, ◌*◌, ◌≤◌, ◌∙◌, get_or, length, refl, ap, arith}
use Rattle.std.specs.Vec.Iter.{into_iter_items}
use Rattle.payouts.specs.Sheets.{listed_weights}
use Rattle.payouts.specs.Window.{weights_sum}
use Rattle.payouts.proofs.Added.{total-added}
use Rattle.payouts.proofs.Paid.{at_most, balances-more, bounded-more, next_listed, next_weights, paid-more, sum-more}
use Rattle.payouts.proofs.settlement.pay.Goals as goal

pub pay_account-amount-requires-clause-part : goal.pay_account-amount-requires-clause-part
pay_account-amount-requires-clause-part c =
    omega (arith, c.loop-place.invariant.few, next_weights c.args.weights.now c.in-Some.field-0 (into_iter_items c.loop-place.place-iterator) (into_iter_items c.next.new.self) c.in-Some.ensures.steps.0)

pub add_amount-requires-clause-small : goal.add_amount-requires-clause-small
add_amount-requires-clause-small c =
    omega (
      arith,
      at_most c.args.paid_out c.args.all (c.loop-place.sum + c.pay_account-amount.result) (c.args.paid_out * listed_weights c.args.weights.now (into_iter_items c.next.new.self)) c.requires.some
          (bounded-more c.args.paid_out c.args.all c.loop-place.sum c.pay_account-amount.result c.args.weights.now c.in-Some.field-0 (into_iter_items c.loop-place.place-iterator) (into_iter_items c.next.new.self) c.in-Some.ensures.steps.0 c.loop-place.invariant.bounded c.pay_account-amount.ensures.within),
      c.requires.balances_small,
      c.loop-place.invariant.balances_sum,
    )

bounded : (c : goal.After-add_amount) → (c.loop-place.sum + c.pay_account-amount.result) * c.args.all + c.args.paid_out * listed_weights c.args.weights.now (into_iter_items c.next.new.self) ≤ c.args.paid_out * c.args.all
bounded c = bounded-more c.args.paid_out c.args.all c.loop-place.sum c.pay_account-amount.result c.args.weights.now c.in-Some.field-0 (into_iter_items c.loop-place.place-iterator) (into_iter_items c.next.new.self) c.in-Some.ensures.steps.0 c.loop-place.invariant.bounded c.pay_account-amount.ensures.within

pub overflow_add-sum : goal.overflow_add-sum
overflow_add-sum c =
    omega (arith, at_most c.args.paid_out c.args.all (c.loop-place.sum + c.pay_account-amount.result) (c.args.paid_out * listed_weights c.args.weights.now (into_iter_items c.next.new.self)) c.requires.some (bounded c), c.requires.amount)

pub loop-place-preserved : goal.loop-place-preserved
loop-place-preserved c =
    let next = next_listed (length c.args.weights.now) c.in-Some.field-0 (into_iter_items c.loop-place.place-iterator) (into_iter_items c.next.new.self) c.in-Some.ensures.steps.0 c.loop-place.invariant.listed in
    record {
      paid = paid-more c.args.paid_out c.args.all c.args.weights.now c.in-Some.field-0 c.in-Some.field-0.account (get_or c.args.weights.now c.in-Some.field-0.place 0) (into_iter_items c.loop-place.place-iterator) (into_iter_items c.next.new.self) c.loop-place.payouts.items c.pay_account-amount.new.payouts.items
          c.in-Some.ensures.steps.0 refl refl c.pay_account-amount.ensures.paid ∙ c.loop-place.invariant.paid;
      balances = balances-more c.args.paid_out c.args.all c.args.weights.now c.in-Some.field-0 c.pay_account-amount.result (into_iter_items c.loop-place.place-iterator) (into_iter_items c.next.new.self) c.loop-place.balances.items c.add_amount.new.balances.items
          c.in-Some.ensures.steps.0 c.pay_account-amount.ensures.amount c.add_amount.ensures.added ∙ c.loop-place.invariant.balances;
      balances_length = c.add_amount.ensures.length ∙ c.loop-place.invariant.balances_length;
      balances_sum = omega (arith, ap weights_sum c.add_amount.ensures.added, total-added c.loop-place.balances.items c.in-Some.field-0.place c.pay_account-amount.result (omega (arith, next.0, c.requires.length, c.loop-place.invariant.balances_length)), c.loop-place.invariant.balances_sum);
      sum = sum-more c.args.paid_out c.args.all c.in-Some.field-0.account (get_or c.args.weights.now c.in-Some.field-0.place 0) c.loop-place.sum c.pay_account-amount.result c.loop-place.payouts.items c.pay_account-amount.new.payouts.items
          c.pay_account-amount.ensures.paid c.loop-place.invariant.sum c.pay_account-amount.ensures.amount;
      bounded = bounded c;
      few = omega (arith, c.loop-place.invariant.few, next_weights c.args.weights.now c.in-Some.field-0 (into_iter_items c.loop-place.place-iterator) (into_iter_items c.next.new.self) c.in-Some.ensures.steps.0);
      listed = next.1;
      room = omega (arith, c.loop-place.invariant.room, c.pay_account-amount.ensures.grown, c.pay_account-amount.ensures.capacity, ap length c.in-Some.ensures.steps.0);
    }
