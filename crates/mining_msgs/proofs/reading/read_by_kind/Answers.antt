use Rattle.std.proofs.Common.{refl, arith}
use Rattle.std.proofs.lemmas.Bool.{ne_eqb}
use Rattle.sv2_messages.specs.declared.kinds.TheConstants as kinds
use Rattle.sv2_messages.specs.Reading.{values_of}
use Rattle.mining_msgs.proofs.reading.read_by_kind.Goals as goal

pub returns-in_default : goal.returns-in_default
unfolding values_of
returns-in_default c =
    rw (
      ne_eqb kinds.SETUP_CONNECTION c.args.kind (λ e. absurd (omega arith)),
      ne_eqb kinds.SETUP_CONNECTION_SUCCESS c.args.kind (λ e. absurd (omega arith)),
      ne_eqb kinds.SETUP_CONNECTION_ERROR c.args.kind (λ e. absurd (omega arith)),
      ne_eqb kinds.OPEN_STANDARD_MINING_CHANNEL c.args.kind (λ e. absurd (omega arith)),
      ne_eqb kinds.OPEN_STANDARD_MINING_CHANNEL_SUCCESS c.args.kind (λ e. absurd (omega arith)),
      ne_eqb kinds.OPEN_MINING_CHANNEL_ERROR c.args.kind (λ e. absurd (omega arith)),
      ne_eqb kinds.OPEN_EXTENDED_MINING_CHANNEL c.args.kind (λ e. absurd (omega arith)),
      ne_eqb kinds.OPEN_EXTENDED_MINING_CHANNEL_SUCCESS c.args.kind (λ e. absurd (omega arith)),
      ne_eqb kinds.NEW_MINING_JOB c.args.kind (λ e. absurd (omega arith)),
      ne_eqb kinds.UPDATE_CHANNEL c.args.kind (λ e. absurd (omega arith)),
      ne_eqb kinds.UPDATE_CHANNEL_ERROR c.args.kind (λ e. absurd (omega arith)),
      ne_eqb kinds.CLOSE_CHANNEL c.args.kind (λ e. absurd (omega arith)),
      ne_eqb kinds.SET_EXTRANONCE_PREFIX c.args.kind (λ e. absurd (omega arith)),
      ne_eqb kinds.SUBMIT_SHARES_STANDARD c.args.kind (λ e. absurd (omega arith)),
      ne_eqb kinds.SUBMIT_SHARES_EXTENDED c.args.kind (λ e. absurd (omega arith)),
      ne_eqb kinds.SUBMIT_SHARES_SUCCESS c.args.kind (λ e. absurd (omega arith)),
      ne_eqb kinds.SUBMIT_SHARES_ERROR c.args.kind (λ e. absurd (omega arith)),
      ne_eqb kinds.NEW_EXTENDED_MINING_JOB c.args.kind (λ e. absurd (omega arith)),
      ne_eqb kinds.MINING_SET_NEW_PREV_HASH c.args.kind (λ e. absurd (omega arith)),
      ne_eqb kinds.SET_TARGET c.args.kind (λ e. absurd (omega arith)),
      ne_eqb kinds.SET_CUSTOM_MINING_JOB c.args.kind (λ e. absurd (omega arith)),
      ne_eqb kinds.SET_CUSTOM_MINING_JOB_SUCCESS c.args.kind (λ e. absurd (omega arith)),
      ne_eqb kinds.SET_CUSTOM_MINING_JOB_ERROR c.args.kind (λ e. absurd (omega arith)),
    ) refl

pub returns-in-22 : goal.returns-in-22
returns-in-22 c = rw (c.in-22.is) (c.read_update_channel.ensures)

pub returns-in-23 : goal.returns-in-23
returns-in-23 c = rw (c.in-23.is) (c.read_update_channel_error.ensures)
