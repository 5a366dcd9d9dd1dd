use Rattle.std.proofs.Common.{sym}
use Rattle.sv2_messages.specs.Tables.{template_table}
use Rattle.template_msgs.proofs.message.Template.frame.Goals as goal

pub returns-in-CoinbaseOutputConstraints-clause-ok : goal.returns-in-CoinbaseOutputConstraints-clause-ok
returns-in-CoinbaseOutputConstraints-clause-ok c = rw (c.in-CoinbaseOutputConstraints.is) (c.put_frame.ensures.ok template_table _ (sym (rw (c.in-CoinbaseOutputConstraints.is) at c.kind-kind.ensures)) c.fields.ensures)

pub returns-in-NewTemplate-clause-ok : goal.returns-in-NewTemplate-clause-ok
returns-in-NewTemplate-clause-ok c = rw (c.in-NewTemplate.is) (c.put_frame-in-NewTemplate.ensures.ok template_table _ (sym (rw (c.in-NewTemplate.is) at c.kind-kind.ensures)) c.fields-in-NewTemplate.ensures)

pub returns-in-SetNewPrevHash-clause-ok : goal.returns-in-SetNewPrevHash-clause-ok
returns-in-SetNewPrevHash-clause-ok c = rw (c.in-SetNewPrevHash.is) (c.put_frame-in-SetNewPrevHash.ensures.ok template_table _ (sym (rw (c.in-SetNewPrevHash.is) at c.kind-kind.ensures)) c.fields-in-SetNewPrevHash.ensures)

pub returns-in-RequestTransactionData-clause-ok : goal.returns-in-RequestTransactionData-clause-ok
returns-in-RequestTransactionData-clause-ok c = rw (c.in-RequestTransactionData.is) (c.put_frame-in-RequestTransactionData.ensures.ok template_table _ (sym (rw (c.in-RequestTransactionData.is) at c.kind-kind.ensures)) c.fields-in-RequestTransactionData.ensures)

pub returns-in-RequestTransactionDataSuccess-clause-ok : goal.returns-in-RequestTransactionDataSuccess-clause-ok
returns-in-RequestTransactionDataSuccess-clause-ok c = rw (c.in-RequestTransactionDataSuccess.is) (c.put_frame-in-RequestTransactionDataSuccess.ensures.ok template_table _ (sym (rw (c.in-RequestTransactionDataSuccess.is) at c.kind-kind.ensures)) c.fields-in-RequestTransactionDataSuccess.ensures)

pub returns-in-RequestTransactionDataError-clause-ok : goal.returns-in-RequestTransactionDataError-clause-ok
returns-in-RequestTransactionDataError-clause-ok c = rw (c.in-RequestTransactionDataError.is) (c.put_frame-in-RequestTransactionDataError.ensures.ok template_table _ (sym (rw (c.in-RequestTransactionDataError.is) at c.kind-kind.ensures)) c.fields-in-RequestTransactionDataError.ensures)

pub returns-in-SubmitSolution-clause-ok : goal.returns-in-SubmitSolution-clause-ok
returns-in-SubmitSolution-clause-ok c = rw (c.in-SubmitSolution.is) (c.put_frame-in-SubmitSolution.ensures.ok template_table _ (sym (rw (c.in-SubmitSolution.is) at c.kind-kind.ensures)) c.fields-in-SubmitSolution.ensures)
