use Rattle.std.proofs.Common.{refl}
use Rattle.sv2_messages.specs.Tables.{mining_table}
use Rattle.mining_msgs.proofs.message.Mining.frame.Goals as goal

pub returns-in-SubmitSharesSuccess-clause-ok : goal.returns-in-SubmitSharesSuccess-clause-ok
returns-in-SubmitSharesSuccess-clause-ok c = rw (c.in-SubmitSharesSuccess.is) (c.put_frame.ensures.ok mining_table _ refl c.fields.ensures)

pub returns-in-SubmitSharesError-clause-ok : goal.returns-in-SubmitSharesError-clause-ok
returns-in-SubmitSharesError-clause-ok c = rw (c.in-SubmitSharesError.is) (c.put_frame-in-SubmitSharesError.ensures.ok mining_table _ refl c.fields-in-SubmitSharesError.ensures)
