use Rattle.std.proofs.Common.{◌≡◌, ◌+◌, ◌≤◌, length}
use Rattle.std.specs.VecDeque.{deque_len, deque_capacity}
use Rattle.payouts.specs.Window.{IsCreditWindow, without_oldest, weights_sum}
use Rattle.payouts.proofs.window.drop_oldest.Given as goal

abbrev pub invariant-loop-left : goal.invariant-loop-left
invariant-loop-left l = record {
  kept : without_oldest l.left l.kept.items ≡ without_oldest l.fn.excess l.fn.kept.items;
  weighed : IsCreditWindow l.kept.items l.weights.numbers;
  enough : l.left ≤ weights_sum l.weights.numbers;
  taken : weights_sum l.weights.numbers + l.fn.excess ≡ weights_sum l.fn.weights.numbers + l.left;
  shorter : deque_len l.kept ≤ deque_len l.fn.kept;
  room : deque_capacity l.kept ≡ deque_capacity l.fn.kept;
  long : length l.weights.numbers ≡ length l.fn.weights.numbers;
}

abbrev pub decreases-loop-left : goal.decreases-loop-left
decreases-loop-left l = l.left
