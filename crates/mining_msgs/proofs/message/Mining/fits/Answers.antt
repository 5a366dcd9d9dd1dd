use Rattle.sv2_messages.specs.Tables.{mining_table}
use Rattle.mining_msgs.proofs.message.Mining.fits.Goals as goal

pub returns-in-SetupConnection : goal.returns-in-SetupConnection
returns-in-SetupConnection c = rw (c.in-SetupConnection.is) (λ so. c.fits.ensures.fits so mining_table _ c.fields.ensures, c.fits.ensures.only mining_table _ c.fields.ensures)

pub returns-in-SetupConnectionSuccess : goal.returns-in-SetupConnectionSuccess
returns-in-SetupConnectionSuccess c = rw (c.in-SetupConnectionSuccess.is) (λ so. c.fits-in-SetupConnectionSuccess.ensures.fits so mining_table _ c.fields-in-SetupConnectionSuccess.ensures, c.fits-in-SetupConnectionSuccess.ensures.only mining_table _ c.fields-in-SetupConnectionSuccess.ensures)

pub returns-in-SetupConnectionError : goal.returns-in-SetupConnectionError
returns-in-SetupConnectionError c = rw (c.in-SetupConnectionError.is) (λ so. c.fits-in-SetupConnectionError.ensures.fits so mining_table _ c.fields-in-SetupConnectionError.ensures, c.fits-in-SetupConnectionError.ensures.only mining_table _ c.fields-in-SetupConnectionError.ensures)

pub returns-in-OpenStandardMiningChannel : goal.returns-in-OpenStandardMiningChannel
returns-in-OpenStandardMiningChannel c = rw (c.in-OpenStandardMiningChannel.is) (λ so. c.fits-in-OpenStandardMiningChannel.ensures.fits so mining_table _ c.fields-in-OpenStandardMiningChannel.ensures, c.fits-in-OpenStandardMiningChannel.ensures.only mining_table _ c.fields-in-OpenStandardMiningChannel.ensures)

pub returns-in-OpenStandardMiningChannelSuccess : goal.returns-in-OpenStandardMiningChannelSuccess
returns-in-OpenStandardMiningChannelSuccess c = rw (c.in-OpenStandardMiningChannelSuccess.is) (λ so. c.fits-in-OpenStandardMiningChannelSuccess.ensures.fits so mining_table _ c.fields-in-OpenStandardMiningChannelSuccess.ensures, c.fits-in-OpenStandardMiningChannelSuccess.ensures.only mining_table _ c.fields-in-OpenStandardMiningChannelSuccess.ensures)

pub returns-in-OpenMiningChannelError : goal.returns-in-OpenMiningChannelError
returns-in-OpenMiningChannelError c = rw (c.in-OpenMiningChannelError.is) (λ so. c.fits-in-OpenMiningChannelError.ensures.fits so mining_table _ c.fields-in-OpenMiningChannelError.ensures, c.fits-in-OpenMiningChannelError.ensures.only mining_table _ c.fields-in-OpenMiningChannelError.ensures)

pub returns-in-OpenExtendedMiningChannel : goal.returns-in-OpenExtendedMiningChannel
returns-in-OpenExtendedMiningChannel c = rw (c.in-OpenExtendedMiningChannel.is) (λ so. c.fits-in-OpenExtendedMiningChannel.ensures.fits so mining_table _ c.fields-in-OpenExtendedMiningChannel.ensures, c.fits-in-OpenExtendedMiningChannel.ensures.only mining_table _ c.fields-in-OpenExtendedMiningChannel.ensures)

pub returns-in-OpenExtendedMiningChannelSuccess : goal.returns-in-OpenExtendedMiningChannelSuccess
returns-in-OpenExtendedMiningChannelSuccess c = rw (c.in-OpenExtendedMiningChannelSuccess.is) (λ so. c.fits-in-OpenExtendedMiningChannelSuccess.ensures.fits so mining_table _ c.fields-in-OpenExtendedMiningChannelSuccess.ensures, c.fits-in-OpenExtendedMiningChannelSuccess.ensures.only mining_table _ c.fields-in-OpenExtendedMiningChannelSuccess.ensures)

pub returns-in-NewMiningJob : goal.returns-in-NewMiningJob
returns-in-NewMiningJob c = rw (c.in-NewMiningJob.is) (λ so. c.fits-in-NewMiningJob.ensures.fits so mining_table _ c.fields-in-NewMiningJob.ensures, c.fits-in-NewMiningJob.ensures.only mining_table _ c.fields-in-NewMiningJob.ensures)

pub returns-in-UpdateChannel : goal.returns-in-UpdateChannel
returns-in-UpdateChannel c = rw (c.in-UpdateChannel.is) (λ so. c.fits-in-UpdateChannel.ensures.fits so mining_table _ c.fields-in-UpdateChannel.ensures, c.fits-in-UpdateChannel.ensures.only mining_table _ c.fields-in-UpdateChannel.ensures)

pub returns-in-UpdateChannelError : goal.returns-in-UpdateChannelError
returns-in-UpdateChannelError c = rw (c.in-UpdateChannelError.is) (λ so. c.fits-in-UpdateChannelError.ensures.fits so mining_table _ c.fields-in-UpdateChannelError.ensures, c.fits-in-UpdateChannelError.ensures.only mining_table _ c.fields-in-UpdateChannelError.ensures)

pub returns-in-CloseChannel : goal.returns-in-CloseChannel
returns-in-CloseChannel c = rw (c.in-CloseChannel.is) (λ so. c.fits-in-CloseChannel.ensures.fits so mining_table _ c.fields-in-CloseChannel.ensures, c.fits-in-CloseChannel.ensures.only mining_table _ c.fields-in-CloseChannel.ensures)

pub returns-in-SetExtranoncePrefix : goal.returns-in-SetExtranoncePrefix
returns-in-SetExtranoncePrefix c = rw (c.in-SetExtranoncePrefix.is) (λ so. c.fits-in-SetExtranoncePrefix.ensures.fits so mining_table _ c.fields-in-SetExtranoncePrefix.ensures, c.fits-in-SetExtranoncePrefix.ensures.only mining_table _ c.fields-in-SetExtranoncePrefix.ensures)

pub returns-in-SubmitSharesStandard : goal.returns-in-SubmitSharesStandard
returns-in-SubmitSharesStandard c = rw (c.in-SubmitSharesStandard.is) (λ so. c.fits-in-SubmitSharesStandard.ensures.fits so mining_table _ c.fields-in-SubmitSharesStandard.ensures, c.fits-in-SubmitSharesStandard.ensures.only mining_table _ c.fields-in-SubmitSharesStandard.ensures)

pub returns-in-SubmitSharesExtended : goal.returns-in-SubmitSharesExtended
returns-in-SubmitSharesExtended c = rw (c.in-SubmitSharesExtended.is) (λ so. c.fits-in-SubmitSharesExtended.ensures.fits so mining_table _ c.fields-in-SubmitSharesExtended.ensures, c.fits-in-SubmitSharesExtended.ensures.only mining_table _ c.fields-in-SubmitSharesExtended.ensures)

pub returns-in-SubmitSharesSuccess : goal.returns-in-SubmitSharesSuccess
returns-in-SubmitSharesSuccess c = rw (c.in-SubmitSharesSuccess.is) (λ so. c.fits-in-SubmitSharesSuccess.ensures.fits so mining_table _ c.fields-in-SubmitSharesSuccess.ensures, c.fits-in-SubmitSharesSuccess.ensures.only mining_table _ c.fields-in-SubmitSharesSuccess.ensures)

pub returns-in-SubmitSharesError : goal.returns-in-SubmitSharesError
returns-in-SubmitSharesError c = rw (c.in-SubmitSharesError.is) (λ so. c.fits-in-SubmitSharesError.ensures.fits so mining_table _ c.fields-in-SubmitSharesError.ensures, c.fits-in-SubmitSharesError.ensures.only mining_table _ c.fields-in-SubmitSharesError.ensures)

pub returns-in-NewExtendedMiningJob : goal.returns-in-NewExtendedMiningJob
returns-in-NewExtendedMiningJob c = rw (c.in-NewExtendedMiningJob.is) (λ so. c.fits-in-NewExtendedMiningJob.ensures.fits so mining_table _ c.fields-in-NewExtendedMiningJob.ensures, c.fits-in-NewExtendedMiningJob.ensures.only mining_table _ c.fields-in-NewExtendedMiningJob.ensures)

pub returns-in-SetNewPrevHash : goal.returns-in-SetNewPrevHash
returns-in-SetNewPrevHash c = rw (c.in-SetNewPrevHash.is) (λ so. c.fits-in-SetNewPrevHash.ensures.fits so mining_table _ c.fields-in-SetNewPrevHash.ensures, c.fits-in-SetNewPrevHash.ensures.only mining_table _ c.fields-in-SetNewPrevHash.ensures)

pub returns-in-SetTarget : goal.returns-in-SetTarget
returns-in-SetTarget c = rw (c.in-SetTarget.is) (λ so. c.fits-in-SetTarget.ensures.fits so mining_table _ c.fields-in-SetTarget.ensures, c.fits-in-SetTarget.ensures.only mining_table _ c.fields-in-SetTarget.ensures)

pub returns-in-SetCustomMiningJob : goal.returns-in-SetCustomMiningJob
returns-in-SetCustomMiningJob c = rw (c.in-SetCustomMiningJob.is) (λ so. c.fits-in-SetCustomMiningJob.ensures.fits so mining_table _ c.fields-in-SetCustomMiningJob.ensures, c.fits-in-SetCustomMiningJob.ensures.only mining_table _ c.fields-in-SetCustomMiningJob.ensures)

pub returns-in-SetCustomMiningJobSuccess : goal.returns-in-SetCustomMiningJobSuccess
returns-in-SetCustomMiningJobSuccess c = rw (c.in-SetCustomMiningJobSuccess.is) (λ so. c.fits-in-SetCustomMiningJobSuccess.ensures.fits so mining_table _ c.fields-in-SetCustomMiningJobSuccess.ensures, c.fits-in-SetCustomMiningJobSuccess.ensures.only mining_table _ c.fields-in-SetCustomMiningJobSuccess.ensures)

pub returns-in-SetCustomMiningJobError : goal.returns-in-SetCustomMiningJobError
returns-in-SetCustomMiningJobError c = rw (c.in-SetCustomMiningJobError.is) (λ so. c.fits-in-SetCustomMiningJobError.ensures.fits so mining_table _ c.fields-in-SetCustomMiningJobError.ensures, c.fits-in-SetCustomMiningJobError.ensures.only mining_table _ c.fields-in-SetCustomMiningJobError.ensures)
