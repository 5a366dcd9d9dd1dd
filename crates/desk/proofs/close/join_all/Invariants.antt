use Rattle.std.proofs.Common.{◌≡◌, List, ◌++◌, vec_len}
use Rattle.std.specs.List.{AllByRecursion}
use Rattle.desk.specs.Closing.{IsJoined}
use Rattle.desk.specs.Passes.{Progress}
use Rattle.desk.proofs.close.join_all.Given as goal

abbrev pub invariant-loop-pass : goal.invariant-loop-pass
invariant-loop-pass g l = record {
  table : l.seat.table_id ≡ l.fn.board.table_id;
  joined :
      (done : List (Progress g.row.M-Event.Denot g.row.M-Request.Denot g.row.M-Reply.Denot g.row.M-Fault.Denot))
      × (l.fn.passes.items ≡ l.passes.items ++ done) × IsJoined done l.seat.me;
  tables : AllByRecursion (λ pass. pass.table ≡ l.fn.board.table_id) l.passes.items;
}

abbrev pub decreases-loop-pass : goal.decreases-loop-pass
decreases-loop-pass g l = vec_len l.passes
