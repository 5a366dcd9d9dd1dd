use Rattle.std.proofs.Common.{◌≢◌, ℕ, ◌<◌, get_or}
use Rattle.desk.specs.Passes.{Progress}
use Rattle.desk.proofs.close.has_worker.Given as goal

abbrev pub invariant-loop-pass : goal.invariant-loop-pass
invariant-loop-pass g l = (k : ℕ) (d : Progress g.row.M-Event.Denot g.row.M-Request.Denot g.row.M-Reply.Denot g.row.M-Fault.Denot) → k < l.pass-index → (get_or l.passes k d).worker ≢ l.worker
