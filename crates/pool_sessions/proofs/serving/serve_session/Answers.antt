use Rattle.std.proofs.Common.{sym, ◌∙◌}
use Rattle.v2_sessions.proofs.Counted.{session_reads, session_writes}
use Rattle.v2_sessions.proofs.Openings.{begun_session, over_runs}
use Rattle.pool_sessions.proofs.Whole.{frames_served, lines_served, served_good, unspoken}
use Rattle.pool_sessions.proofs.serving.serve_session.Goals as goal

pub returns-in-Err-clause-session : goal.returns-in-Err-clause-session
returns-in-Err-clause-session g c = unspoken (over_runs c.args.manner c.requires.waits c.begin.new.buffer c.in-Err.end c.in-Err.ensures.begins)

pub returns-then-speaks_lines-clause-session : goal.returns-then-speaks_lines-clause-session
returns-then-speaks_lines-clause-session g c =
    (lines_served c.args.manner c.begin.new.buffer c.in-Ok.first c.in-Ok.ensures.begins (sym c.speaks_lines.ensures ∙ c.if-speaks_lines.true) c.serve_lines.ensures.rest).served

pub returns-then-speaks_lines-clause-good : goal.returns-then-speaks_lines-clause-good
returns-then-speaks_lines-clause-good g c =
    served_good (lines_served c.args.manner c.begin.new.buffer c.in-Ok.first c.in-Ok.ensures.begins (sym c.speaks_lines.ensures ∙ c.if-speaks_lines.true) c.serve_lines.ensures.rest)

pub returns-else-speaks_lines-clause-session : goal.returns-else-speaks_lines-clause-session
returns-else-speaks_lines-clause-session g c =
    (frames_served c.args.manner c.requires.waits c.begin.new.buffer c.in-Ok.first c.in-Ok.ensures.begins (sym c.speaks_lines.ensures ∙ c.if-speaks_lines.false) c.go_on.ensures.rest).served

pub returns-else-speaks_lines-clause-reads : goal.returns-else-speaks_lines-clause-reads
returns-else-speaks_lines-clause-reads g c =
    session_reads (begun_session c.args.manner c.requires.waits c.begin.new.buffer c.in-Ok.first c.in-Ok.ensures.begins c.go_on.ensures.rest).0

pub returns-else-speaks_lines-clause-writes : goal.returns-else-speaks_lines-clause-writes
returns-else-speaks_lines-clause-writes g c =
    session_writes (begun_session c.args.manner c.requires.waits c.begin.new.buffer c.in-Ok.first c.in-Ok.ensures.begins c.go_on.ensures.rest).0

pub returns-else-speaks_lines-clause-good : goal.returns-else-speaks_lines-clause-good
returns-else-speaks_lines-clause-good g c =
    served_good {terms = c.args.terms.now}
    (frames_served c.args.manner c.requires.waits c.begin.new.buffer c.in-Ok.first c.in-Ok.ensures.begins (sym c.speaks_lines.ensures ∙ c.if-speaks_lines.false) c.go_on.ensures.rest)
