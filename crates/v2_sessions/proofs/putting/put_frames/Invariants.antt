use Rattle.std.proofs.Common.{◌≡◌, ℕ, ◌-◌, List, ◌++◌, length, drop}
use Rattle.pool_io.specs.Outside.{AddsBytes}
use Rattle.session_steps.specs.Answers.{answer_frames}
use Rattle.session_steps.specs.Steps.{bytes_of_frames}
use Rattle.v2_sessions.proofs.putting.put_frames.Given as goal

abbrev pub invariant-loop-frame : goal.invariant-loop-frame
invariant-loop-frame g l = record {
  put : (front : List ℕ)
      × (front ++ bytes_of_frames (drop l.part (answer_frames l.session l.reply)) ≡ bytes_of_frames (answer_frames l.session l.reply))
      × AddsBytes (g.L.Link.seen l.initial.link).sink.held (g.L.Link.seen l.link).sink.held front;
  source : (g.L.Link.seen l.link).source ≡ (g.L.Link.seen l.initial.link).source;
  writes : (g.L.Link.seen l.link).sink.faults ≡ (g.L.Link.seen l.initial.link).sink.faults;
}

abbrev pub decreases-loop-frame : goal.decreases-loop-frame
decreases-loop-frame g l = length (answer_frames l.session l.reply) - l.part
