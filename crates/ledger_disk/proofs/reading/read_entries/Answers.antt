use Rattle.std.proofs.Common.{rules, Ok, Option, List, ℕ, ◌+◌, ◌∙◌, ◌++◌, ◌∷◌, [], drop, length, subst, sym}
use Rattle.ledger_disk.specs.Moments.{last_content}
use Rattle.ledger_disk.specs.Steps.{HoldsFront, ReadsEntry}
use Rattle.ledger_disk.proofs.EntriesRead.{front_read}
use Rattle.ledger_disk.proofs.reading.read_entries.Goals as goal

pub loop-entries-preserved : goal.loop-entries-preserved
loop-entries-preserved g c = (
  search rules,
  search rules,
  search rules,
  λ log is.
      let read = subst (λ (f : Option (List ℕ)). ReadsEntry (drop c.loop-entries.at (last_content log)) (Ok f)) c.in-Some.is
      ((c.in_ok-entry.ensures).reads log (c.loop-entries.invariant.1 ∙ is)) in
      let whole = front_read c.loop-entries.at c.loop-entries.entries.items (last_content log) c.in-Some.entry (c.loop-entries.invariant.3 log is) (search rules) read in
      subst (λ (l : List (List ℕ)). HoldsFront (c.loop-entries.at + (5 + length c.bytes.result.now)) l (last_content log)) (sym {A = List (List ℕ)} ((c.in-Ok.ensures).items))
      (subst (λ (l : List ℕ). HoldsFront (c.loop-entries.at + (5 + length l)) (c.loop-entries.entries.items ++ c.in-Some.entry ∷ []) (last_content log)) (sym c.bytes.ensures) whole),
)
