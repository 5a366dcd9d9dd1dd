use Rattle.std.proofs.Common.{◌≤◌, ◌∙◌, ℕ, subst, sym}
use Rattle.ledger_disk.specs.Moments.{last_content}
use Rattle.ledger_disk.proofs.Becoming.{blank_becomes, blank_crash, blank_through, closed_becomes, holds_those}
use Rattle.ledger_disk.proofs.opening.open_disk.Goals as goal

pub returns-in_err-make_ledger-clause-crash : goal.returns-in_err-make_ledger-clause-crash
returns-in_err-make_ledger-clause-crash g c = λ log is.
    blank_crash log (subst (λ (n : ℕ). n ≤ 8) ((c.in_ok-size.ensures).told log is) c.if-size-le8.true) (g.D.Disk.seen c.make_ledger.new.disk).log c.make_ledger.result
    (c.make_ledger.ensures.makes log (c.length.ensures.stays ∙ is))

pub returns-then-size-le8-clause-opens : goal.returns-then-size-le8-clause-opens
returns-then-size-le8-clause-opens g c = λ log is.
    blank_becomes log (subst (λ (n : ℕ). n ≤ 8) ((c.in_ok-size.ensures).told log is) c.if-size-le8.true) (g.D.Disk.seen c.make_ledger.new.disk).log c.new.result.items c.new.ensures.items
    ((c.in_ok-make_ledger.ensures).makes log (c.length.ensures.stays ∙ is))

pub returns-then-size-le8-clause-crash : goal.returns-then-size-le8-clause-crash
returns-then-size-le8-clause-crash g c = λ log is.
    blank_crash log (subst (λ (n : ℕ). n ≤ 8) ((c.in_ok-size.ensures).told log is) c.if-size-le8.true) (g.D.Disk.seen c.make_ledger.new.disk).log c.make_ledger.result
    (c.make_ledger.ensures.makes log (c.length.ensures.stays ∙ is))

pub close_behind-requires-clause-holds : goal.close_behind-requires-clause-holds
close_behind-requires-clause-holds g c = λ log is.
    holds_those c.in_ok-entries.gate c.in_ok-entries.entries.items (last_content log) ((c.in_ok-entries.ensures).reads log (sym (c.in_ok-entries.ensures).stays ∙ is))

pub returns-clause-opens : goal.returns-clause-opens
returns-clause-opens g c = λ log is.
    let here = (c.in_ok-has_magic.ensures).stays ∙ c.length.ensures.stays ∙ is in
    closed_becomes log c.in_ok-entries.gate (g.D.Disk.seen c.close_behind.new.disk).log c.in_ok-entries.entries.items ((c.in_ok-entries.ensures).reads log here)
    ((c.in_ok-close_behind.ensures).closes log ((c.in_ok-entries.ensures).stays ∙ here))

pub returns-in_err-make_ledger-clause-during : goal.returns-in_err-make_ledger-clause-during
returns-in_err-make_ledger-clause-during g c = λ log is.
    blank_through log (subst (λ (n : ℕ). n ≤ 8) ((c.in_ok-size.ensures).told log is) c.if-size-le8.true) (g.D.Disk.seen c.make_ledger.new.disk).log c.make_ledger.result
    (c.make_ledger.ensures.makes log (c.length.ensures.stays ∙ is))

pub returns-then-size-le8-clause-during : goal.returns-then-size-le8-clause-during
returns-then-size-le8-clause-during g c = λ log is.
    blank_through log (subst (λ (n : ℕ). n ≤ 8) ((c.in_ok-size.ensures).told log is) c.if-size-le8.true) (g.D.Disk.seen c.make_ledger.new.disk).log c.make_ledger.result
    (c.make_ledger.ensures.makes log (c.length.ensures.stays ∙ is))

pub returns-in_err-close_behind-clause-during : goal.returns-in_err-close_behind-clause-during
returns-in_err-close_behind-clause-during g c = λ log is settled.
    (c.close_behind.ensures.closes log ((c.in_ok-entries.ensures).stays ∙ (c.in_ok-has_magic.ensures).stays ∙ c.length.ensures.stays ∙ is)).during settled

pub returns-clause-during : goal.returns-clause-during
returns-clause-during g c = λ log is settled.
    (c.close_behind.ensures.closes log ((c.in_ok-entries.ensures).stays ∙ (c.in_ok-has_magic.ensures).stays ∙ c.length.ensures.stays ∙ is)).during settled
