use Rattle.std.proofs.Common.{ap, sym, ◌∙◌, Err}
use Rattle.sv2_messages.specs.declared.error.MsgError.TheVariants.{BadField}
use Rattle.stream_programs.proofs.Verdicts.{good_if, bad_if}
use Rattle.stream_programs.proofs.verdict.verdict.Goals as goal

pub returns-in-Ok-clause-good : goal.returns-in-Ok-clause-good
returns-in-Ok-clause-good c = good_if _ c.check.result c.check.ensures (λ e is. absurd (let both = sym c.in-Ok.is ∙ is in cc))

pub returns-in-Err-UnknownKind-clause-good : goal.returns-in-Err-UnknownKind-clause-good
returns-in-Err-UnknownKind-clause-good c =
    good_if _ c.check.result c.check.ensures
    (λ e is.
    let unknown = c.in-Err-UnknownKind.is ∙ ap (λ x. Err x) c.in-Err-UnknownKind.field-0-is in
    let both = sym is ∙ unknown in
    (c.in-Err-UnknownKind.field-0-0, cc))

pub returns-in-Err-Trailing-clause-bad : goal.returns-in-Err-Trailing-clause-bad
returns-in-Err-Trailing-clause-bad c =
    bad_if _ c.check.result _ c.if-frame-ne0.false c.check.ensures (c.in-Err-Trailing.is ∙ ap (λ x. Err x) c.in-Err-Trailing.field-0-is) (λ k same. cc)

pub returns-in-Err-BadField-clause-bad : goal.returns-in-Err-BadField-clause-bad
returns-in-Err-BadField-clause-bad c =
    bad_if _ c.check.result (BadField c.in-Err-BadField.place c.in-Err-BadField.reason) c.if-frame-ne0.false c.check.ensures
    (c.in-Err-BadField.is ∙ ap (λ x. Err x) c.in-Err-BadField.field-0-is) (λ k same. cc)
