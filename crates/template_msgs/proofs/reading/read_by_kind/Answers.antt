use Rattle.std.proofs.Common.{refl, arith}
use Rattle.std.proofs.lemmas.Bool.{ne_eqb}
use Rattle.sv2_messages.specs.declared.kinds.TheConstants as kinds
use Rattle.sv2_messages.specs.Reading.{values_of}
use Rattle.template_msgs.proofs.reading.read_by_kind.Goals as goal

pub returns-in_default : goal.returns-in_default
unfolding values_of
returns-in_default c =
    rw (
      ne_eqb kinds.COINBASE_OUTPUT_CONSTRAINTS c.args.kind (λ e. absurd (omega arith)),
      ne_eqb kinds.NEW_TEMPLATE c.args.kind (λ e. absurd (omega arith)),
      ne_eqb kinds.TEMPLATE_SET_NEW_PREV_HASH c.args.kind (λ e. absurd (omega arith)),
      ne_eqb kinds.REQUEST_TRANSACTION_DATA c.args.kind (λ e. absurd (omega arith)),
      ne_eqb kinds.REQUEST_TRANSACTION_DATA_SUCCESS c.args.kind (λ e. absurd (omega arith)),
      ne_eqb kinds.REQUEST_TRANSACTION_DATA_ERROR c.args.kind (λ e. absurd (omega arith)),
      ne_eqb kinds.SUBMIT_SOLUTION c.args.kind (λ e. absurd (omega arith)),
    ) refl
