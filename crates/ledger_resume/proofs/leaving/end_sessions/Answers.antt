use Rattle.std.proofs.Common.{refl, ◌∙◌, arith}
use Rattle.ledger_resume.proofs.Leaves.{keeps_itself, keeps_on, none_left, one_left}
use Rattle.ledger_resume.proofs.leaving.end_sessions.Goals as goal

pub loop-worker-init : goal.loop-worker-init
loop-worker-init g c = record {
  left = none_left c.args.book.now.events;
  kept = keeps_itself c.args.book.now.keeper.records c.args.book.now.events c.history_is_kept.ensures.ledger;
  begun = refl;
  unfailed = refl;
}

pub loop-worker-preserved : goal.loop-worker-preserved
loop-worker-preserved g c =
    let was = c.loop-worker.invariant in
    let old = c.loop-worker.book in
    let new = c.ask_to_leave.new.book in
    record {
      left = one_left c.loop-worker.worker c.args.book.now.events old.events new.events was.left c.in-Ok.ensures.left;
      kept = keeps_on c.args.book.now.keeper.records old.keeper.records new.keeper.records old.events new.events was.kept c.in-Ok.ensures.kept;
      begun = c.in-Ok.ensures.begun ∙ was.begun;
      unfailed = omega (arith, was.unfailed, c.in-Ok.ensures.counts);
    }
