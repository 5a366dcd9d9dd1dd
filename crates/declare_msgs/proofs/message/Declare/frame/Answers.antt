use Rattle.std.proofs.Common.{sym}
use Rattle.sv2_messages.specs.Tables.{declare_table}
use Rattle.declare_msgs.proofs.message.Declare.frame.Goals as goal

pub returns-in-AllocateMiningJobToken-clause-ok : goal.returns-in-AllocateMiningJobToken-clause-ok
returns-in-AllocateMiningJobToken-clause-ok c = rw (c.in-AllocateMiningJobToken.is) (c.put_frame.ensures.ok declare_table _ (sym (rw (c.in-AllocateMiningJobToken.is) at c.kind-kind.ensures)) c.fields.ensures)

pub returns-in-AllocateMiningJobTokenSuccess-clause-ok : goal.returns-in-AllocateMiningJobTokenSuccess-clause-ok
returns-in-AllocateMiningJobTokenSuccess-clause-ok c = rw (c.in-AllocateMiningJobTokenSuccess.is) (c.put_frame-in-AllocateMiningJobTokenSuccess.ensures.ok declare_table _ (sym (rw (c.in-AllocateMiningJobTokenSuccess.is) at c.kind-kind.ensures)) c.fields-in-AllocateMiningJobTokenSuccess.ensures)

pub returns-in-ProvideMissingTransactions-clause-ok : goal.returns-in-ProvideMissingTransactions-clause-ok
returns-in-ProvideMissingTransactions-clause-ok c = rw (c.in-ProvideMissingTransactions.is) (c.put_frame-in-ProvideMissingTransactions.ensures.ok declare_table _ (sym (rw (c.in-ProvideMissingTransactions.is) at c.kind-kind.ensures)) c.fields-in-ProvideMissingTransactions.ensures)

pub returns-in-ProvideMissingTransactionsSuccess-clause-ok : goal.returns-in-ProvideMissingTransactionsSuccess-clause-ok
returns-in-ProvideMissingTransactionsSuccess-clause-ok c = rw (c.in-ProvideMissingTransactionsSuccess.is) (c.put_frame-in-ProvideMissingTransactionsSuccess.ensures.ok declare_table _ (sym (rw (c.in-ProvideMissingTransactionsSuccess.is) at c.kind-kind.ensures)) c.fields-in-ProvideMissingTransactionsSuccess.ensures)

pub returns-in-DeclareMiningJob-clause-ok : goal.returns-in-DeclareMiningJob-clause-ok
returns-in-DeclareMiningJob-clause-ok c = rw (c.in-DeclareMiningJob.is) (c.put_frame-in-DeclareMiningJob.ensures.ok declare_table _ (sym (rw (c.in-DeclareMiningJob.is) at c.kind-kind.ensures)) c.fields-in-DeclareMiningJob.ensures)

pub returns-in-DeclareMiningJobSuccess-clause-ok : goal.returns-in-DeclareMiningJobSuccess-clause-ok
returns-in-DeclareMiningJobSuccess-clause-ok c = rw (c.in-DeclareMiningJobSuccess.is) (c.put_frame-in-DeclareMiningJobSuccess.ensures.ok declare_table _ (sym (rw (c.in-DeclareMiningJobSuccess.is) at c.kind-kind.ensures)) c.fields-in-DeclareMiningJobSuccess.ensures)

pub returns-in-DeclareMiningJobError-clause-ok : goal.returns-in-DeclareMiningJobError-clause-ok
returns-in-DeclareMiningJobError-clause-ok c = rw (c.in-DeclareMiningJobError.is) (c.put_frame-in-DeclareMiningJobError.ensures.ok declare_table _ (sym (rw (c.in-DeclareMiningJobError.is) at c.kind-kind.ensures)) c.fields-in-DeclareMiningJobError.ensures)

pub returns-in-PushSolution-clause-ok : goal.returns-in-PushSolution-clause-ok
returns-in-PushSolution-clause-ok c = rw (c.in-PushSolution.is) (c.put_frame-in-PushSolution.ensures.ok declare_table _ (sym (rw (c.in-PushSolution.is) at c.kind-kind.ensures)) c.fields-in-PushSolution.ensures)
