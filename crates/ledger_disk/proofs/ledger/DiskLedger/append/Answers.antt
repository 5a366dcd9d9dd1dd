use Rattle.std.proofs.Common.{OnErr, OnOk, ◌≡◌, ◌∙◌, ap, length, subst}
use Rattle.pool_io.specs.Outside.{AddsRecord}
use Rattle.ledger_disk.specs.Calls.{DiskSeen, WhereTold}
use Rattle.pool_io.specs.Crashes.{FindsMore, StoresNext}
use Rattle.ledger_disk.specs.Crashes.{MayBeFound, StoresMore, Throughout, counts_told, entries_told, stored_entries}
use Rattle.ledger_disk.proofs.Telling.{added_counts, added_finds, added_more, added_none, added_on_disk, added_only}
use Rattle.ledger_disk.proofs.ledger.DiskLedger.append.Goals as goal

pub invariant_of-self : goal.invariant_of-self
invariant_of-self g c =
    added_on_disk c.args.bytes.now c.self.inside.gate c.write_entry.new.gate c.write_entry.new.is_torn c.write_entry.result
    (g.D.Disk.seen c.self.inside.disk).log (g.D.Disk.seen c.write_entry.new.disk).log c.write_entry.ensures.untold c.write_entry.ensures.adds

pub returns-clause-kept : goal.returns-clause-kept
returns-clause-kept g c =
    subst (λ (d : DiskSeen). OnOk c.write_entry.result (AddsRecord (entries_told d) (entries_told (g.D.Disk.seen c.write_entry.new.disk)) c.args.bytes.now)) c.self.view_is
    (added_more c.args.bytes.now c.self.inside.gate c.write_entry.new.gate c.write_entry.new.is_torn c.write_entry.result
    (g.D.Disk.seen c.self.inside.disk).log (g.D.Disk.seen c.write_entry.new.disk).log c.write_entry.ensures.untold c.write_entry.ensures.adds)

pub returns-clause-refused : goal.returns-clause-refused
returns-clause-refused g c =
    subst (λ (d : DiskSeen). OnErr c.write_entry.result (entries_told (g.D.Disk.seen c.write_entry.new.disk) ≡ entries_told d)) c.self.view_is
    (added_none c.args.bytes.now c.self.inside.gate c.write_entry.new.gate c.write_entry.new.is_torn c.write_entry.result
    (g.D.Disk.seen c.self.inside.disk).log (g.D.Disk.seen c.write_entry.new.disk).log c.write_entry.ensures.untold c.write_entry.ensures.adds)

pub returns-clause-stored : goal.returns-clause-stored
returns-clause-stored g c =
    added_only c.args.bytes.now c.self.inside.gate c.write_entry.new.gate c.write_entry.new.is_torn c.write_entry.result
    (g.D.Disk.seen c.self.inside.disk).log (g.D.Disk.seen c.write_entry.new.disk).log c.write_entry.ensures.untold c.write_entry.ensures.adds

pub returns-clause-crash : goal.returns-clause-crash
returns-clause-crash g c = λ before is.
    subst (λ (d : DiskSeen). FindsMore before c.args.bytes.now c.write_entry.result (MayBeFound d) (MayBeFound (g.D.Disk.seen c.write_entry.new.disk))) c.self.view_is
    (added_finds c.args.bytes.now c.self.inside.gate c.write_entry.new.gate c.write_entry.new.is_torn c.write_entry.result
    (g.D.Disk.seen c.self.inside.disk).log (g.D.Disk.seen c.write_entry.new.disk).log c.write_entry.ensures.untold c.write_entry.ensures.adds
    before (ap entries_told c.self.view_is ∙ is))

pub returns-clause-during : goal.returns-clause-during
returns-clause-during g c =
    subst (λ (d : DiskSeen). WhereTold d.log
    (λ log. Throughout (λ now. StoresMore (stored_entries log) c.args.bytes.now c.write_entry.result (stored_entries now)) log (g.D.Disk.seen c.write_entry.new.disk).log)) c.self.view_is
    (λ log is. (c.write_entry.ensures.adds log is).during)

pub returns-clause-moments : goal.returns-clause-moments
returns-clause-moments g c = λ before is.
    subst (λ (d : DiskSeen). StoresNext c.write_entry.result (length before) (counts_told d) (counts_told (g.D.Disk.seen c.write_entry.new.disk))) c.self.view_is
    (added_counts c.args.bytes.now c.self.inside.gate c.write_entry.new.gate c.write_entry.new.is_torn c.write_entry.result
    (g.D.Disk.seen c.self.inside.disk).log (g.D.Disk.seen c.write_entry.new.disk).log c.write_entry.ensures.untold c.write_entry.ensures.adds
    before (ap entries_told c.self.view_is ∙ is))
