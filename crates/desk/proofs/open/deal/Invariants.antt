use Rattle.std.proofs.Common.{◌≡◌, ◌-◌, ◌≤◌, []}
use Rattle.std.specs.Vec.{vec_capacity, vec_len}
use Rattle.desk.specs.Passes.{fresh_passes}
use Rattle.desk.specs.Views.{fresh_view, workers_from}
use Rattle.desk.proofs.open.deal.Given as goal

abbrev pub invariant-loop-worker : goal.invariant-loop-worker
invariant-loop-worker g l = record {
  table : l.seat.table_id ≡ l.fn.board.table_id;
  me : l.seat.me ≡ (fresh_view l.fn.seat.me.0.seen (workers_from l.worker (l.fn.count - l.worker)), []);
  passes_are : l.passes.items ≡ fresh_passes l.fn.board.table_id l.fn.seat.me.0.seen (workers_from 0 l.worker);
  long : vec_len l.passes ≡ l.worker;
  room : l.fn.count ≤ vec_capacity l.passes;
}
