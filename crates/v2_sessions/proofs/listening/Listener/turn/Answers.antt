use Rattle.std.proofs.Common.{◌≤◌, arith}
use Rattle.std.proofs.lemmas.List.{length-take-le}
use Rattle.pool_io.specs.declared.source.Took.TheVariants as took
use Rattle.v2_sessions.specs.Standing.{counted, intake_of}
use Rattle.v2_sessions.proofs.Chains.{runs_on}
use Rattle.v2_sessions.proofs.Turns.{ended_runs, idled_runs, missed_runs, reads_at, reads_first, took_runs}
use Rattle.v2_sessions.proofs.listening.Listener.turn.Goals as goal

pub returns-in-Bytes-clause-reads : goal.returns-in-Bytes-clause-reads
returns-in-Bytes-clause-reads g c =
    let bound = c.in-Bytes.ensures.bound in
    let len = length-take-le c.in-Bytes.count c.take.new.buffer bound.1 in
    let short : c.in-Bytes.count ≤ 4096 = omega (arith, bound.1, c.take.auto.buffer, c.requires.room) in
    reads_first
    (took_runs c.args.self.now c.args.conversation.now c.requires.listening c.take.new.buffer c.in-Bytes.count len bound.0 short c.in-Bytes.ensures.within.1 c.in-Bytes.ensures.takes)
    (rw c.in-Bytes.ensures.counted at c.piece.ensures.reads)

pub returns-in-Idle-clause-reads : goal.returns-in-Idle-clause-reads
returns-in-Idle-clause-reads g c =
    rw c.in-Idle.ensures.counted
    (reads_at (intake_of (counted took.Idle c.args.self.now))
    (runs_on (idled_runs c.args.self.now c.args.conversation.now c.requires.listening c.take.new.buffer c.in-Idle.ensures.takes)
    (rw c.in-Idle.ensures.counted at c.idle.ensures.runs)))

pub returns-in-End-clause-reads : goal.returns-in-End-clause-reads
returns-in-End-clause-reads g c = record {
  intake = intake_of c.args.self.now;
  kept_is = tt;
  runs = rw c.end.ensures
      (ended_runs c.args.self.now c.args.conversation.now c.requires.listening c.take.new.buffer c.in-End.ensures.takes);
}

pub returns-in-Failed-clause-reads : goal.returns-in-Failed-clause-reads
returns-in-Failed-clause-reads g c = record {
  intake = intake_of c.args.self.now;
  kept_is = tt;
  runs = missed_runs c.args.self.now c.args.conversation.now c.requires.listening c.take.new.buffer c.in-Failed.ensures.takes;
}
