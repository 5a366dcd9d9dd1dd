-- A copy gives bytes one answer, as an audit does.
use Rattle.std.proofs.Common.{ℕ, List, ◌++◌, refl}
use Rattle.stream_commands.specs.Duties.{IsSoundDuty}
use Rattle.ledger_audit.specs.Duty.{IsAuditedLegal, IsUndecided, legal_text}
use Rattle.ledger_audit.specs.Verdicts.{AreLegal}
use Rattle.ledger_audit.specs.Sound.{audit_duty_is_sound, audit_owes_so_far}
use Rattle.ledger_audit.specs.Copying.{HasCopied, copying_duty}
use Rattle.ledger_audit.specs.declared.copying.Copier.{Copier}

pub copying_owes_so_far : (copier : Copier) (bytes text : List ℕ) → HasCopied copier bytes text → IsUndecided bytes text
copying_owes_so_far copier bytes text copied = audit_owes_so_far copier.auditor bytes text copied.audited

-- a legal ledger has a text
audited : (bytes : List ℕ) (legal : AreLegal bytes) → IsAuditedLegal bytes (legal_text legal.history)
audited bytes legal = record { format = legal.format; history = legal.history; whole = legal.whole; printed = refl }

pub copying_duty_is_sound : IsSoundDuty copying_duty
copying_duty_is_sound = record {
  nothing = audit_duty_is_sound.nothing;
  whole_or_refused = λ bytes more text other whole refused.
      audit_duty_is_sound.whole_or_refused bytes more (legal_text whole.legal.history) other
      (audited (bytes ++ more) whole.legal) refused;
  so_far_or_refused = audit_duty_is_sound.so_far_or_refused;
  whole_or_cut = λ bytes text other whole cut.
      audit_duty_is_sound.whole_or_cut bytes (legal_text whole.legal.history) other (audited bytes whole.legal) cut;
}
