use Rattle.std.proofs.Common.{◌∙◌}
use Rattle.v2_sessions.proofs.Chains.{runs_on}
use Rattle.v2_sessions.proofs.conversation.Conversation.listen.Goals as goal

pub returns-in-Err-clause-serves : goal.returns-in-Err-clause-serves
returns-in-Err-clause-serves g c = record {
  intake = c.in-Err.ensures.reads.intake;
  runs = runs_on c.loop-end.invariant.runs c.in-Err.ensures.reads.runs;
}

pub loop-end-preserved : goal.loop-end-preserved
loop-end-preserved g c = record {
  ready = c.turn.ensures.ready;
  listening = c.in_default.ensures.listening;
  room = c.turn.auto.buffer ∙ c.loop-end.invariant.room;
  runs = runs_on c.loop-end.invariant.runs (rw c.in_default.ensures.reads.kept_is at c.in_default.ensures.reads.runs);
}
