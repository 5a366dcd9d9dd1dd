use Rattle.sv2_messages.specs.Tables.{declare_table}
use Rattle.declare_msgs.proofs.message.Declare.fits.Goals as goal

pub returns-in-AllocateMiningJobToken : goal.returns-in-AllocateMiningJobToken
returns-in-AllocateMiningJobToken c = rw (c.in-AllocateMiningJobToken.is) (λ so. c.fits.ensures.fits so declare_table _ c.fields.ensures, c.fits.ensures.only declare_table _ c.fields.ensures)

pub returns-in-AllocateMiningJobTokenSuccess : goal.returns-in-AllocateMiningJobTokenSuccess
returns-in-AllocateMiningJobTokenSuccess c = rw (c.in-AllocateMiningJobTokenSuccess.is) (λ so. c.fits-in-AllocateMiningJobTokenSuccess.ensures.fits so declare_table _ c.fields-in-AllocateMiningJobTokenSuccess.ensures, c.fits-in-AllocateMiningJobTokenSuccess.ensures.only declare_table _ c.fields-in-AllocateMiningJobTokenSuccess.ensures)

pub returns-in-ProvideMissingTransactions : goal.returns-in-ProvideMissingTransactions
returns-in-ProvideMissingTransactions c = rw (c.in-ProvideMissingTransactions.is) (λ so. c.fits-in-ProvideMissingTransactions.ensures.fits so declare_table _ c.fields-in-ProvideMissingTransactions.ensures, c.fits-in-ProvideMissingTransactions.ensures.only declare_table _ c.fields-in-ProvideMissingTransactions.ensures)

pub returns-in-ProvideMissingTransactionsSuccess : goal.returns-in-ProvideMissingTransactionsSuccess
returns-in-ProvideMissingTransactionsSuccess c = rw (c.in-ProvideMissingTransactionsSuccess.is) (λ so. c.fits-in-ProvideMissingTransactionsSuccess.ensures.fits so declare_table _ c.fields-in-ProvideMissingTransactionsSuccess.ensures, c.fits-in-ProvideMissingTransactionsSuccess.ensures.only declare_table _ c.fields-in-ProvideMissingTransactionsSuccess.ensures)

pub returns-in-DeclareMiningJob : goal.returns-in-DeclareMiningJob
returns-in-DeclareMiningJob c = rw (c.in-DeclareMiningJob.is) (λ so. c.fits-in-DeclareMiningJob.ensures.fits so declare_table _ c.fields-in-DeclareMiningJob.ensures, c.fits-in-DeclareMiningJob.ensures.only declare_table _ c.fields-in-DeclareMiningJob.ensures)

pub returns-in-DeclareMiningJobSuccess : goal.returns-in-DeclareMiningJobSuccess
returns-in-DeclareMiningJobSuccess c = rw (c.in-DeclareMiningJobSuccess.is) (λ so. c.fits-in-DeclareMiningJobSuccess.ensures.fits so declare_table _ c.fields-in-DeclareMiningJobSuccess.ensures, c.fits-in-DeclareMiningJobSuccess.ensures.only declare_table _ c.fields-in-DeclareMiningJobSuccess.ensures)

pub returns-in-DeclareMiningJobError : goal.returns-in-DeclareMiningJobError
returns-in-DeclareMiningJobError c = rw (c.in-DeclareMiningJobError.is) (λ so. c.fits-in-DeclareMiningJobError.ensures.fits so declare_table _ c.fields-in-DeclareMiningJobError.ensures, c.fits-in-DeclareMiningJobError.ensures.only declare_table _ c.fields-in-DeclareMiningJobError.ensures)

pub returns-in-PushSolution : goal.returns-in-PushSolution
returns-in-PushSolution c = rw (c.in-PushSolution.is) (λ so. c.fits-in-PushSolution.ensures.fits so declare_table _ c.fields-in-PushSolution.ensures, c.fits-in-PushSolution.ensures.only declare_table _ c.fields-in-PushSolution.ensures)
