use Rattle.pool_sessions.specs.Courses.{calls_on}
use Rattle.pool_server.proofs.Asked.{pass_acts}
use Rattle.pool_server.proofs.Completing.{serves_link}
use Rattle.pool_server.proofs.serving.serve_link.Goals as goal

pub returns-clause-pass : goal.returns-clause-pass
returns-clause-pass g c =
    let served = c.serve_session-end.ensures.session in
    (pass_acts c.serve_session-end.new.acting (λ a. a.pass.ghost_name) (λ a. a.pass.now) (λ a. a.faults) c.args.asker.now (calls_on served.course) served.acts).1

pub returns-clause-served : goal.returns-clause-served
returns-clause-served g c =
    let served = c.serve_session-end.ensures.session in
    let acts = pass_acts c.serve_session-end.new.acting (λ a. a.pass.ghost_name) (λ a. a.pass.now) (λ a. a.faults) c.args.asker.now (calls_on served.course) served.acts in
    rw c.hang_up.ensures (serves_link served.course c.requires.waits (record {
      is_course = served.is_course;
      took = served.took;
      ended = served.ended;
      put = served.put;
      reads = c.serve_session-end.ensures.reads;
      writes = c.serve_session-end.ensures.writes;
    }) (record {
      goes_on = c.desk_calls_go_on.ensures c.args.asker.now.pass.now c.serve_session-end.new.acting.pass.now (calls_on served.course) acts.0;
      faults = acts.2;
    }) c.serve_session-end.ensures.good)
