use Rattle.std.proofs.Common.{◌≡◌, ◌-◌}
use Rattle.coinbase.specs.Cursors.{place_of}
use Rattle.coinbase.specs.Reading.{many_at}
use Rattle.coinbase.proofs.Loops.{with_front}
use Rattle.coinbase.proofs.reading.many_at.Given as goal

abbrev pub invariant-loop : goal.invariant-loop
invariant-loop g l = with_front l.parts.items (many_at g.T.Part.part_at (l.count - l.counter) (place_of l.after)) ≡ many_at g.T.Part.part_at l.count (place_of l.fn.cursor)
