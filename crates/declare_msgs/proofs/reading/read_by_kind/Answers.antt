use Rattle.std.proofs.Common.{refl, arith}
use Rattle.std.proofs.lemmas.Bool.{ne_eqb}
use Rattle.sv2_messages.specs.declared.kinds.TheConstants as kinds
use Rattle.sv2_messages.specs.Reading.{values_of}
use Rattle.declare_msgs.proofs.reading.read_by_kind.Goals as goal

pub returns-in_default : goal.returns-in_default
unfolding values_of
returns-in_default c =
    rw (
      ne_eqb kinds.ALLOCATE_MINING_JOB_TOKEN c.args.kind (λ e. absurd (omega arith)),
      ne_eqb kinds.ALLOCATE_MINING_JOB_TOKEN_SUCCESS c.args.kind (λ e. absurd (omega arith)),
      ne_eqb kinds.PROVIDE_MISSING_TRANSACTIONS c.args.kind (λ e. absurd (omega arith)),
      ne_eqb kinds.PROVIDE_MISSING_TRANSACTIONS_SUCCESS c.args.kind (λ e. absurd (omega arith)),
      ne_eqb kinds.DECLARE_MINING_JOB c.args.kind (λ e. absurd (omega arith)),
      ne_eqb kinds.DECLARE_MINING_JOB_SUCCESS c.args.kind (λ e. absurd (omega arith)),
      ne_eqb kinds.DECLARE_MINING_JOB_ERROR c.args.kind (λ e. absurd (omega arith)),
      ne_eqb kinds.PUSH_SOLUTION c.args.kind (λ e. absurd (omega arith)),
    ) refl
