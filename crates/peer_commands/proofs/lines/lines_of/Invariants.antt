use Rattle.std.proofs.Common.{◌≡◌, take}
use Rattle.peer_commands.specs.Feeding.{verdict_lines}
use Rattle.peer_commands.proofs.lines.lines_of.Given as goal

abbrev pub invariant-loop-verdict : goal.invariant-loop-verdict
invariant-loop-verdict l = l.text.items ≡ verdict_lines (take l.verdict-index l.verdicts)
