use Rattle.std.proofs.Common.{◌≡◌, ℕ, ◌-◌, List, ◌++◌, length, drop, map}
use Rattle.pool_io.specs.Outside.{AddsBytes}
use Rattle.v1_translate.specs.Heard.{Message}
use Rattle.v1_sessions.specs.States.{v1_after}
use Rattle.v1_sessions.specs.Told.{told_in}
use Rattle.v1_sessions.proofs.Parted.{said_from}
use Rattle.v1_sessions.proofs.telling.tell_messages.Given as goal

abbrev pub invariant-loop-lines : goal.invariant-loop-lines
invariant-loop-lines g l = record {
  put : (front : List ℕ)
      × (front ++ said_from l.terms l.v1 (drop l.part (told_in l.about l.reply)) ≡ said_from l.terms l.initial.v1 (told_in l.about l.reply))
      × AddsBytes (g.L.Link.seen l.initial.link).sink.held (g.L.Link.seen l.link).sink.held front;
  after : v1_after l.terms l.v1 (map Message (drop l.part (told_in l.about l.reply))) ≡ v1_after l.terms l.initial.v1 (map Message (told_in l.about l.reply));
  source : (g.L.Link.seen l.link).source ≡ (g.L.Link.seen l.initial.link).source;
  writes : (g.L.Link.seen l.link).sink.faults ≡ (g.L.Link.seen l.initial.link).sink.faults;
}

abbrev pub decreases-loop-lines : goal.decreases-loop-lines
decreases-loop-lines g l = length (told_in l.about l.reply) - l.part
