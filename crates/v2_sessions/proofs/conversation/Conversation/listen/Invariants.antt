use Rattle.std.proofs.Common.{◌≡◌, length}
use Rattle.link_turns.specs.Waits.{turns_left}
use Rattle.session_steps.specs.States.{Reading}
use Rattle.v2_sessions.specs.Running.{Runs}
use Rattle.v2_sessions.specs.Standing.{IsListening, intake_of, state_at}
use Rattle.v2_sessions.proofs.conversation.Conversation.listen.Given as goal

abbrev pub invariant-loop-end : goal.invariant-loop-end
invariant-loop-end g l = record {
  ready : g.A.Acting.ready l.acting;
  listening : IsListening l.self.session.declares l.listener;
  room : length l.buffer ≡ 4096;
  runs : Runs g.A.Acting.worker g.A.Acting.does
      (state_at Reading (intake_of l.initial.listener) l.initial.self) (state_at Reading (intake_of l.listener) l.self) (g.L.Link.seen l.initial.link) (g.L.Link.seen l.link) l.initial.acting l.acting;
}

abbrev pub decreases-loop-end : goal.decreases-loop-end
decreases-loop-end g l = turns_left l.listener.waiting
