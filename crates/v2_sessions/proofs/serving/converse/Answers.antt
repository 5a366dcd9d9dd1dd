use Rattle.v2_sessions.proofs.Counted.{session_reads, session_writes}
use Rattle.v2_sessions.proofs.Good.{session_good}
use Rattle.v2_sessions.proofs.Openings.{begun_session, over_runs}
use Rattle.v2_sessions.proofs.serving.converse.Goals as goal

pub returns-in-Ok-clause-session : goal.returns-in-Ok-clause-session
returns-in-Ok-clause-session g c = (begun_session c.args.manner c.requires.waits c.begin.new.buffer c.in-Ok.first c.in-Ok.ensures.begins c.go_on.ensures.rest).0

pub returns-in-Ok-clause-reads : goal.returns-in-Ok-clause-reads
returns-in-Ok-clause-reads g c = session_reads (returns-in-Ok-clause-session g c)

pub returns-in-Ok-clause-writes : goal.returns-in-Ok-clause-writes
returns-in-Ok-clause-writes g c = session_writes (returns-in-Ok-clause-session g c)

pub returns-in-Ok-clause-good : goal.returns-in-Ok-clause-good
returns-in-Ok-clause-good g c = λ told is input. session_good (returns-in-Ok-clause-session g c) told is input

pub returns-in-Err-clause-session : goal.returns-in-Err-clause-session
returns-in-Err-clause-session g c = (over_runs c.args.manner c.requires.waits c.begin.new.buffer c.in-Err.end c.in-Err.ensures.begins).0

pub returns-in-Err-clause-reads : goal.returns-in-Err-clause-reads
returns-in-Err-clause-reads g c = session_reads (returns-in-Err-clause-session g c)

pub returns-in-Err-clause-writes : goal.returns-in-Err-clause-writes
returns-in-Err-clause-writes g c = session_writes (returns-in-Err-clause-session g c)

pub returns-in-Err-clause-good : goal.returns-in-Err-clause-good
returns-in-Err-clause-good g c = λ told is input. session_good (returns-in-Err-clause-session g c) told is input
