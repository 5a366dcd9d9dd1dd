use Rattle.std.proofs.Common.{arith, length-append, length-drop, rules}
use Rattle.std.proofs.lemmas.List.{length-take}
use Rattle.ledger_disk.proofs.Rooms.{room_rest}
use Rattle.ledger_disk.proofs.past.+tear_all.Goals as goal

pub tear_all-requires : goal.tear_all-requires
tear_all-requires t c = (search rules, room_rest _ _ c.tear.ensures.room _ c.requires)
