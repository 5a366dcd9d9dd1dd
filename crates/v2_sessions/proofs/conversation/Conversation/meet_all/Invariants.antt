use Rattle.std.proofs.Common.{◌≡◌, ◌<◌, ◌++◌, length}
use Rattle.sv2_frames.specs.Holding.{IsCutWithin}
use Rattle.session_steps.specs.States.{Reading, most_payload}
use Rattle.v2_sessions.specs.Running.{Runs}
use Rattle.v2_sessions.specs.Standing.{HoldsNoMore, Intake, state_at}
use Rattle.v2_sessions.proofs.conversation.Conversation.meet_all.Given as goal

abbrev pub invariant-loop-rest : goal.invariant-loop-rest
invariant-loop-rest g l = record {
  ready : g.A.Acting.ready l.acting;
  limit : l.splitter.limit ≡ most_payload l.self.session.declares;
  cut : IsCutWithin l.splitter;
  no_more : HoldsNoMore l.splitter;
  runs : (intake : Intake) → 0 < intake.idles
      → Runs g.A.Acting.worker g.A.Acting.does
      (state_at Reading (record intake { unmet = l.initial.splitter.held ++ l.piece }) l.initial.self)
      (state_at Reading (record intake { unmet = l.splitter.held ++ l.rest }) l.self) (g.L.Link.seen l.initial.link) (g.L.Link.seen l.link) l.initial.acting l.acting;
}

abbrev pub decreases-loop-rest : goal.decreases-loop-rest
decreases-loop-rest g l = length l.rest
