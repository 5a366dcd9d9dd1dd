use Rattle.std.proofs.Common.{ap, refl, subst, sym, ◌∙◌}
use Rattle.ledger_records.specs.Growing.{hash_after}
use Rattle.share_ledger.specs.Books.{KeepsLedger}
use Rattle.share_ledger.specs.Recovery.{IsRecoverable}
use Rattle.ledger_resume.specs.Histories.{IsHistoryOf}
use Rattle.ledger_resume.proofs.Continued.{history_of}
use Rattle.ledger_resume.proofs.Excluded.{can_recover, keeps_ledger, not_refused}
use Rattle.ledger_resume.proofs.resuming.resume.Goals as goal

pub into_tables-requires : goal.into_tables-requires
into_tables-requires g c = let from = rw c.in-Ok-Some.field-0-is at c.in-Ok-Some.ensures.some in from.restored_is

pub of_tables-requires-clause-hashed : goal.of_tables-requires-clause-hashed
of_tables-requires-clause-hashed g c =
    let from = rw c.in-Ok-Some.field-0-is at c.in-Ok-Some.ensures.some in from.restored_is.hash_is ∙ ap hash_after (sym c.into_tables.ensures)

pub of_tables-requires-clause-ledger : goal.of_tables-requires-clause-ledger
of_tables-requires-clause-ledger g c =
    let from = rw c.in-Ok-Some.field-0-is at c.in-Ok-Some.ensures.some in
    let seen = g.K.Keeper.seen c.args.keeper in
    subst (KeepsLedger seen.records) (sym c.into_tables.ensures)
    (keeps_ledger seen.records c.args.records.now c.in-Ok-Some.restored.history.events (history_of c.args.records.now c.in-Ok-Some.restored from) c.requires.told)

pub of_tables-requires-clause-recovers : goal.of_tables-requires-clause-recovers
of_tables-requires-clause-recovers g c =
    let from = rw c.in-Ok-Some.field-0-is at c.in-Ok-Some.ensures.some in
    let seen = g.K.Keeper.seen c.args.keeper in
    let may = g.K.Keeper.may_find c.args.keeper in
    subst (IsRecoverable seen may) (sym c.into_tables.ensures)
    (can_recover seen may c.args.records.now c.in-Ok-Some.restored.history.events (history_of c.args.records.now c.in-Ok-Some.restored from) c.requires.told
    c.requires.settled)

pub refusal_of-requires : goal.refusal_of-requires
refusal_of-requires g c = rw c.in-Ok-None.field-0-is at c.in-Ok-None.ensures.none

pub returns-in-Ok-clause-history : goal.returns-in-Ok-clause-history
returns-in-Ok-clause-history g c =
    let from = rw c.in-Ok-Some.field-0-is at c.in-Ok-Some.ensures.some in
    subst (IsHistoryOf c.args.records.now) (sym (c.in-Ok.ensures.events ∙ c.into_tables.ensures)) (history_of c.args.records.now c.in-Ok-Some.restored from)

pub returns-in-Ok-clause-keeper : goal.returns-in-Ok-clause-keeper
returns-in-Ok-clause-keeper g c = c.in-Ok.ensures.keeper

pub returns-in-Ok-clause-bad : goal.returns-in-Ok-clause-bad
returns-in-Ok-clause-bad g c = λ refusal other fits.
    let from = rw c.in-Ok-Some.field-0-is at c.in-Ok-Some.ensures.some in
    other
    (not_refused c.args.records.now c.in-Ok-Some.restored.history.events refusal (history_of c.args.records.now c.in-Ok-Some.restored from) fits)

pub returns-in-Err-of_tables-clause-back : goal.returns-in-Err-of_tables-clause-back
returns-in-Err-of_tables-clause-back g c = c.in-Err-of_tables.ensures.refused

pub returns-in-Err-of_tables-clause-good : goal.returns-in-Err-of_tables-clause-good
returns-in-Err-of_tables-clause-good g c = λ history is. refl

pub returns-in-Ok-None-clause-back : goal.returns-in-Ok-None-clause-back
returns-in-Ok-None-clause-back g c = refl

pub returns-in-Ok-None-clause-refused : goal.returns-in-Ok-None-clause-refused
returns-in-Ok-None-clause-refused g c = c.refusal_of.ensures

pub returns-in-Ok-None-clause-good : goal.returns-in-Ok-None-clause-good
returns-in-Ok-None-clause-good g c = λ history is. (let none = rw c.in-Ok-None.field-0-is at c.in-Ok-None.ensures.none in absurd (none history is))

pub returns-in-Err-clause-back : goal.returns-in-Err-clause-back
returns-in-Err-clause-back g c = refl

pub returns-in-Err-clause-good : goal.returns-in-Err-clause-good
returns-in-Err-clause-good g c = λ history is. refl
