use Rattle.std.proofs.lemmas.Result.{err_from_is_err_and}
use Rattle.v2_sessions.specs.declared.listening.Listener.{Listener}
use Rattle.v2_sessions.specs.Standing.{HasMetAll, intake_of, intake_with}
use Rattle.v2_sessions.proofs.Chains.{runs_on}
use Rattle.v2_sessions.proofs.Turns.{met_goes_on, reads_at}
use Rattle.v2_sessions.proofs.listening.Listener.piece.Goals as goal

pub returns-in_err-meet_all-clause-reads : goal.returns-in_err-meet_all-clause-reads
returns-in_err-meet_all-clause-reads g c =
    let ran = c.in_err-meet_all.ensures.runs (intake_with c.args.piece.now c.args.self.now) c.requires.waits in
    let failed = err_from_is_err_and c.from_residual.result c.from_residual.ensures.1 in
    rw (failed.1, failed.2)
    (record { intake = record (intake_with c.args.piece.now c.args.self.now) { unmet = ran.0 }; kept_is = tt; runs = ran.2 })

pub returns-clause-reads : goal.returns-clause-reads
returns-clause-reads g c =
    let ran = c.in_ok-meet_all.ensures.runs (intake_with c.args.piece.now c.args.self.now) c.requires.waits in
    let met : HasMetAll c.meet_all.new.self.session.declares c.meet_all.new.splitter = record {
      cut = c.in_ok-meet_all.ensures.cut;
      no_more = c.in_ok-meet_all.ensures.no_more;
      limit = c.meet_all.ensures.limit;
    } in
    let after : Listener = record c.args.self.now { splitter = c.meet_all.new.splitter } in
    reads_at (intake_of after)
    (runs_on (rw ran.1 at ran.2) (met_goes_on after c.meet_all.new.self c.keep_limits.result met c.requires.waits c.keep_limits.ensures))
