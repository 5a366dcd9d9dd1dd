use Rattle.std.proofs.Common.{inl, inr, refl, sym, ◌∙◌}
use Rattle.ledger_audit.specs.Judging.{in_a_row}
use Rattle.ledger_resume.proofs.Cut.{ledger_of_legal, never}
use Rattle.ledger_resume.proofs.refusing.refusal_of.Goals as goal

pub returns-then-not-have_magic : goal.returns-then-not-have_magic
returns-then-not-have_magic c = inl (inr (λ magic. never (sym c.if-not-have_magic.true ∙ c.have_magic.ensures.1 magic), refl))

pub first_cut_otherwise-requires : goal.first_cut_otherwise-requires
first_cut_otherwise-requires c = record {
  ledger = ledger_of_legal (in_a_row c.args.records.now) (c.have_magic.ensures.0 c.if-not-have_magic.false) (rw c.in-Ok-Legal.field-0-is at c.in-Ok-Legal.ensures);
  none = c.requires;
}

pub returns-in-Ok-Illegal : goal.returns-in-Ok-Illegal
returns-in-Ok-Illegal c = (
  c.in-Ok-Illegal.field-0-1,
  inl (c.have_magic.ensures.0 c.if-not-have_magic.false, rw c.in-Ok-Illegal.field-0-is at c.in-Ok-Illegal.ensures),
)

pub returns-in-Ok-BrokenChain : goal.returns-in-Ok-BrokenChain
returns-in-Ok-BrokenChain c =
    inl (c.have_magic.ensures.0 c.if-not-have_magic.false, rw c.in-Ok-BrokenChain.field-0-is at c.in-Ok-BrokenChain.ensures)

pub returns-in-Ok-NotALedger : goal.returns-in-Ok-NotALedger
returns-in-Ok-NotALedger c =
    inl (inl (c.have_magic.ensures.0 c.if-not-have_magic.false, rw c.in-Ok-NotALedger.field-0-is at c.in-Ok-NotALedger.ensures))
