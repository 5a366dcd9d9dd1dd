use Rattle.std.proofs.Common.{◌≡◌, ◌++◌, map, take}
use Rattle.event_store.specs.Told.{heard_as, prev_hash_note}
use Rattle.event_store.proofs.notes.tell_tip.Given as goal

abbrev pub invariant-loop-heard : goal.invariant-loop-heard
invariant-loop-heard l = l.notes.items ≡ l.initial.notes.items ++ map (prev_hash_note l.tip l.number) (map heard_as (take l.heard-index l.to))
