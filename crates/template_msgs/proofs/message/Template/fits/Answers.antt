use Rattle.sv2_messages.specs.Tables.{template_table}
use Rattle.template_msgs.proofs.message.Template.fits.Goals as goal

pub returns-in-CoinbaseOutputConstraints : goal.returns-in-CoinbaseOutputConstraints
returns-in-CoinbaseOutputConstraints c = rw (c.in-CoinbaseOutputConstraints.is) (λ so. c.fits.ensures.fits so template_table _ c.fields.ensures, c.fits.ensures.only template_table _ c.fields.ensures)

pub returns-in-NewTemplate : goal.returns-in-NewTemplate
returns-in-NewTemplate c = rw (c.in-NewTemplate.is) (λ so. c.fits-in-NewTemplate.ensures.fits so template_table _ c.fields-in-NewTemplate.ensures, c.fits-in-NewTemplate.ensures.only template_table _ c.fields-in-NewTemplate.ensures)

pub returns-in-SetNewPrevHash : goal.returns-in-SetNewPrevHash
returns-in-SetNewPrevHash c = rw (c.in-SetNewPrevHash.is) (λ so. c.fits-in-SetNewPrevHash.ensures.fits so template_table _ c.fields-in-SetNewPrevHash.ensures, c.fits-in-SetNewPrevHash.ensures.only template_table _ c.fields-in-SetNewPrevHash.ensures)

pub returns-in-RequestTransactionData : goal.returns-in-RequestTransactionData
returns-in-RequestTransactionData c = rw (c.in-RequestTransactionData.is) (λ so. c.fits-in-RequestTransactionData.ensures.fits so template_table _ c.fields-in-RequestTransactionData.ensures, c.fits-in-RequestTransactionData.ensures.only template_table _ c.fields-in-RequestTransactionData.ensures)

pub returns-in-RequestTransactionDataSuccess : goal.returns-in-RequestTransactionDataSuccess
returns-in-RequestTransactionDataSuccess c = rw (c.in-RequestTransactionDataSuccess.is) (λ so. c.fits-in-RequestTransactionDataSuccess.ensures.fits so template_table _ c.fields-in-RequestTransactionDataSuccess.ensures, c.fits-in-RequestTransactionDataSuccess.ensures.only template_table _ c.fields-in-RequestTransactionDataSuccess.ensures)

pub returns-in-RequestTransactionDataError : goal.returns-in-RequestTransactionDataError
returns-in-RequestTransactionDataError c = rw (c.in-RequestTransactionDataError.is) (λ so. c.fits-in-RequestTransactionDataError.ensures.fits so template_table _ c.fields-in-RequestTransactionDataError.ensures, c.fits-in-RequestTransactionDataError.ensures.only template_table _ c.fields-in-RequestTransactionDataError.ensures)

pub returns-in-SubmitSolution : goal.returns-in-SubmitSolution
returns-in-SubmitSolution c = rw (c.in-SubmitSolution.is) (λ so. c.fits-in-SubmitSolution.ensures.fits so template_table _ c.fields-in-SubmitSolution.ensures, c.fits-in-SubmitSolution.ensures.only template_table _ c.fields-in-SubmitSolution.ensures)
