use Rattle.std.proofs.Common.{ap, ◌∙◌, ◌++◌, Err}
use Rattle.sv2_messages.specs.declared.error.MsgError.TheVariants.{BadField, Trailing}
use Rattle.sv2_messages.specs.Tables.{mining_table, template_table, declare_table}
use Rattle.sv2_messages.proofs.Joined.{first_error, answers_other, last_error}
use Rattle.stream_programs.proofs.verdict.check.Goals as goal

pub returns-in-Err-BadField : goal.returns-in-Err-BadField
returns-in-Err-BadField c =
    first_error c.read.result (BadField c.in-Err-BadField.place c.in-Err-BadField.reason) mining_table (template_table ++ declare_table) c.args.kind c.args.payload.now c.read.ensures.refused
    (c.in-Err-BadField.is ∙ ap (λ x. Err x) c.in-Err-BadField.field-0-is) (λ k same. cc)

pub returns-in-Err-Trailing : goal.returns-in-Err-Trailing
returns-in-Err-Trailing c =
    first_error c.read.result (Trailing c.in-Err-Trailing.count) mining_table (template_table ++ declare_table) c.args.kind c.args.payload.now c.read.ensures.refused
    (c.in-Err-Trailing.is ∙ ap (λ x. Err x) c.in-Err-Trailing.field-0-is) (λ k same. cc)

pub returns-in-Err-BadField-read : goal.returns-in-Err-BadField-read
returns-in-Err-BadField-read c =
    answers_other c.read.result _ mining_table (template_table ++ declare_table) c.args.kind _ c.args.payload.now c.read.ensures.refused
    (c.in-Err-UnknownKind.is ∙ ap (λ x. Err x) c.in-Err-UnknownKind.field-0-is)
    (first_error c.read-2.result (BadField c.in-Err-BadField-read.place c.in-Err-BadField-read.reason) template_table declare_table c.args.kind c.args.payload.now c.read-2.ensures.refused
    (c.in-Err-BadField-read.is ∙ ap (λ x. Err x) c.in-Err-BadField-read.field-0-is) (λ k same. cc))

pub returns-in-Err-Trailing-read : goal.returns-in-Err-Trailing-read
returns-in-Err-Trailing-read c =
    answers_other c.read.result _ mining_table (template_table ++ declare_table) c.args.kind _ c.args.payload.now c.read.ensures.refused
    (c.in-Err-UnknownKind.is ∙ ap (λ x. Err x) c.in-Err-UnknownKind.field-0-is)
    (first_error c.read-2.result (Trailing c.in-Err-Trailing-read.count) template_table declare_table c.args.kind c.args.payload.now c.read-2.ensures.refused
    (c.in-Err-Trailing-read.is ∙ ap (λ x. Err x) c.in-Err-Trailing-read.field-0-is) (λ k same. cc))

pub returns-in-Err : goal.returns-in-Err
returns-in-Err c =
    answers_other c.read.result _ mining_table (template_table ++ declare_table) c.args.kind _ c.args.payload.now c.read.ensures.refused
    (c.in-Err-UnknownKind.is ∙ ap (λ x. Err x) c.in-Err-UnknownKind.field-0-is)
    (answers_other c.read-2.result _ template_table declare_table c.args.kind _ c.args.payload.now c.read-2.ensures.refused
    (c.in-Err-UnknownKind-read.is ∙ ap (λ x. Err x) c.in-Err-UnknownKind-read.field-0-is)
    (last_error c.read-3.result c.in-Err.error declare_table c.args.kind c.args.payload.now c.read-3.ensures.refused c.in-Err.is))
