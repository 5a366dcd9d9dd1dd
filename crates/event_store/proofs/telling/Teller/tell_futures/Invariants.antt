use Rattle.std.proofs.Common.{◌≡◌, ◌++◌, drop}
use Rattle.event_store.specs.Told.{futures_told, heard_as}
use Rattle.event_store.proofs.telling.Teller.tell_futures.Given as goal

abbrev pub invariant-loop-mark : goal.invariant-loop-mark
invariant-loop-mark l =
    l.notes.items ++ futures_told l.self.rules.now l.self.events.now (heard_as l.to) (drop l.mark-index l.marks)
    ≡ l.initial.notes.items ++ futures_told l.self.rules.now l.self.events.now (heard_as l.to) l.marks
