use Rattle.std.proofs.Common.{Ok, List, Option, ap, ℕ, ◌∙◌, drop, length, subst}
use Rattle.ledger_disk.specs.Moments.{last_content}
use Rattle.ledger_disk.specs.Steps.{ReadsLength}
use Rattle.ledger_disk.proofs.EntriesRead.{read_whole}
use Rattle.ledger_disk.proofs.reading.read_entry.Goals as goal

pub returns-clause-reads : goal.returns-clause-reads
returns-clause-reads g c = λ log is.
    let head = subst (λ (f : Option ℕ). ReadsLength (drop c.args.at (last_content log)) (Ok f)) c.in-Some.is ((c.in_ok-count.ensures).reads log is) in
    let read = (c.in_ok-bytes.ensures).reads log ((c.in_ok-count.ensures).stays ∙ is) in
    read_whole c.args.at c.in-Some.count (last_content log) c.from_vec.result head (c.from_vec.ensures ∙ read)
    (ap (λ (l : List ℕ). length l) c.from_vec.ensures ∙ (c.in_ok-bytes.ensures).size)
