use Rattle.std.proofs.Common.{◌≡◌, ◌+◌, ◌*◌, ◌≤◌, ◌++◌, length, sum_by}
use Rattle.std.specs.Vec.{vec_len, vec_capacity}
use Rattle.std.specs.Vec.Iter.{into_iter_items}
use Rattle.payouts.specs.Sheets.{AreListed, balances_with, listed_weights, payments_to}
use Rattle.payouts.specs.Window.{weights_sum}
use Rattle.payouts.proofs.settlement.pay.Given as goal

abbrev pub invariant-loop-place : goal.invariant-loop-place
invariant-loop-place l = record {
  paid : l.payouts.items ++ payments_to l.paid_out l.all l.weights (into_iter_items l.place-iterator)
      ≡ payments_to l.paid_out l.all l.weights l.fn.sheet;
  balances : balances_with l.paid_out l.all l.weights (into_iter_items l.place-iterator) l.balances.items
      ≡ balances_with l.paid_out l.all l.weights l.fn.sheet l.initial.balances.items;
  balances_length : vec_len l.balances ≡ vec_len l.initial.balances;
  balances_sum : weights_sum l.balances.items ≡ weights_sum l.initial.balances.items + l.sum;
  sum : l.sum ≡ sum_by (λ payout. payout.amount) l.payouts.items;
  bounded : l.sum * l.all + l.paid_out * listed_weights l.weights (into_iter_items l.place-iterator) ≤ l.paid_out * l.all;
  few : listed_weights l.weights (into_iter_items l.place-iterator) ≤ l.all;
  listed : AreListed (length l.weights) (into_iter_items l.place-iterator);
  room : length (into_iter_items l.place-iterator) + vec_len l.payouts ≤ vec_capacity l.payouts;
}
