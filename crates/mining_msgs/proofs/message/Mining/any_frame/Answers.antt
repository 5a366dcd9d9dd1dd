use Rattle.std.proofs.Common.{sym}
use Rattle.sv2_messages.specs.Tables.{mining_table}
use Rattle.mining_msgs.proofs.message.Mining.any_frame.Goals as goal

pub returns-in-SetupConnection-clause-ok : goal.returns-in-SetupConnection-clause-ok
returns-in-SetupConnection-clause-ok c = rw (c.in-SetupConnection.is) (c.put_frame.ensures.ok mining_table _ (sym (rw (c.in-SetupConnection.is) at c.kind-kind.ensures)) c.fields.ensures)

pub returns-in-SetupConnectionSuccess-clause-ok : goal.returns-in-SetupConnectionSuccess-clause-ok
returns-in-SetupConnectionSuccess-clause-ok c = rw (c.in-SetupConnectionSuccess.is) (c.put_frame-in-SetupConnectionSuccess.ensures.ok mining_table _ (sym (rw (c.in-SetupConnectionSuccess.is) at c.kind-kind.ensures)) c.fields-in-SetupConnectionSuccess.ensures)

pub returns-in-SetupConnectionError-clause-ok : goal.returns-in-SetupConnectionError-clause-ok
returns-in-SetupConnectionError-clause-ok c = rw (c.in-SetupConnectionError.is) (c.put_frame-in-SetupConnectionError.ensures.ok mining_table _ (sym (rw (c.in-SetupConnectionError.is) at c.kind-kind.ensures)) c.fields-in-SetupConnectionError.ensures)

pub returns-in-OpenStandardMiningChannel-clause-ok : goal.returns-in-OpenStandardMiningChannel-clause-ok
returns-in-OpenStandardMiningChannel-clause-ok c = rw (c.in-OpenStandardMiningChannel.is) (c.put_frame-in-OpenStandardMiningChannel.ensures.ok mining_table _ (sym (rw (c.in-OpenStandardMiningChannel.is) at c.kind-kind.ensures)) c.fields-in-OpenStandardMiningChannel.ensures)

pub returns-in-OpenStandardMiningChannelSuccess-clause-ok : goal.returns-in-OpenStandardMiningChannelSuccess-clause-ok
returns-in-OpenStandardMiningChannelSuccess-clause-ok c = rw (c.in-OpenStandardMiningChannelSuccess.is) (c.put_frame-in-OpenStandardMiningChannelSuccess.ensures.ok mining_table _ (sym (rw (c.in-OpenStandardMiningChannelSuccess.is) at c.kind-kind.ensures)) c.fields-in-OpenStandardMiningChannelSuccess.ensures)

pub returns-in-OpenMiningChannelError-clause-ok : goal.returns-in-OpenMiningChannelError-clause-ok
returns-in-OpenMiningChannelError-clause-ok c = rw (c.in-OpenMiningChannelError.is) (c.put_frame-in-OpenMiningChannelError.ensures.ok mining_table _ (sym (rw (c.in-OpenMiningChannelError.is) at c.kind-kind.ensures)) c.fields-in-OpenMiningChannelError.ensures)

pub returns-in-OpenExtendedMiningChannel-clause-ok : goal.returns-in-OpenExtendedMiningChannel-clause-ok
returns-in-OpenExtendedMiningChannel-clause-ok c = rw (c.in-OpenExtendedMiningChannel.is) (c.put_frame-in-OpenExtendedMiningChannel.ensures.ok mining_table _ (sym (rw (c.in-OpenExtendedMiningChannel.is) at c.kind-kind.ensures)) c.fields-in-OpenExtendedMiningChannel.ensures)

pub returns-in-OpenExtendedMiningChannelSuccess-clause-ok : goal.returns-in-OpenExtendedMiningChannelSuccess-clause-ok
returns-in-OpenExtendedMiningChannelSuccess-clause-ok c = rw (c.in-OpenExtendedMiningChannelSuccess.is) (c.put_frame-in-OpenExtendedMiningChannelSuccess.ensures.ok mining_table _ (sym (rw (c.in-OpenExtendedMiningChannelSuccess.is) at c.kind-kind.ensures)) c.fields-in-OpenExtendedMiningChannelSuccess.ensures)

pub returns-in-NewMiningJob-clause-ok : goal.returns-in-NewMiningJob-clause-ok
returns-in-NewMiningJob-clause-ok c = rw (c.in-NewMiningJob.is) (c.put_frame-in-NewMiningJob.ensures.ok mining_table _ (sym (rw (c.in-NewMiningJob.is) at c.kind-kind.ensures)) c.fields-in-NewMiningJob.ensures)

pub returns-in-UpdateChannel-clause-ok : goal.returns-in-UpdateChannel-clause-ok
returns-in-UpdateChannel-clause-ok c = rw (c.in-UpdateChannel.is) (c.put_frame-in-UpdateChannel.ensures.ok mining_table _ (sym (rw (c.in-UpdateChannel.is) at c.kind-kind.ensures)) c.fields-in-UpdateChannel.ensures)

pub returns-in-UpdateChannelError-clause-ok : goal.returns-in-UpdateChannelError-clause-ok
returns-in-UpdateChannelError-clause-ok c = rw (c.in-UpdateChannelError.is) (c.put_frame-in-UpdateChannelError.ensures.ok mining_table _ (sym (rw (c.in-UpdateChannelError.is) at c.kind-kind.ensures)) c.fields-in-UpdateChannelError.ensures)

pub returns-in-CloseChannel-clause-ok : goal.returns-in-CloseChannel-clause-ok
returns-in-CloseChannel-clause-ok c = rw (c.in-CloseChannel.is) (c.put_frame-in-CloseChannel.ensures.ok mining_table _ (sym (rw (c.in-CloseChannel.is) at c.kind-kind.ensures)) c.fields-in-CloseChannel.ensures)

pub returns-in-SetExtranoncePrefix-clause-ok : goal.returns-in-SetExtranoncePrefix-clause-ok
returns-in-SetExtranoncePrefix-clause-ok c = rw (c.in-SetExtranoncePrefix.is) (c.put_frame-in-SetExtranoncePrefix.ensures.ok mining_table _ (sym (rw (c.in-SetExtranoncePrefix.is) at c.kind-kind.ensures)) c.fields-in-SetExtranoncePrefix.ensures)

pub returns-in-SubmitSharesStandard-clause-ok : goal.returns-in-SubmitSharesStandard-clause-ok
returns-in-SubmitSharesStandard-clause-ok c = rw (c.in-SubmitSharesStandard.is) (c.put_frame-in-SubmitSharesStandard.ensures.ok mining_table _ (sym (rw (c.in-SubmitSharesStandard.is) at c.kind-kind.ensures)) c.fields-in-SubmitSharesStandard.ensures)

pub returns-in-SubmitSharesExtended-clause-ok : goal.returns-in-SubmitSharesExtended-clause-ok
returns-in-SubmitSharesExtended-clause-ok c = rw (c.in-SubmitSharesExtended.is) (c.put_frame-in-SubmitSharesExtended.ensures.ok mining_table _ (sym (rw (c.in-SubmitSharesExtended.is) at c.kind-kind.ensures)) c.fields-in-SubmitSharesExtended.ensures)

pub returns-in-SubmitSharesSuccess-clause-ok : goal.returns-in-SubmitSharesSuccess-clause-ok
returns-in-SubmitSharesSuccess-clause-ok c = rw (c.in-SubmitSharesSuccess.is) (c.put_frame-in-SubmitSharesSuccess.ensures.ok mining_table _ (sym (rw (c.in-SubmitSharesSuccess.is) at c.kind-kind.ensures)) c.fields-in-SubmitSharesSuccess.ensures)

pub returns-in-SubmitSharesError-clause-ok : goal.returns-in-SubmitSharesError-clause-ok
returns-in-SubmitSharesError-clause-ok c = rw (c.in-SubmitSharesError.is) (c.put_frame-in-SubmitSharesError.ensures.ok mining_table _ (sym (rw (c.in-SubmitSharesError.is) at c.kind-kind.ensures)) c.fields-in-SubmitSharesError.ensures)

pub returns-in-NewExtendedMiningJob-clause-ok : goal.returns-in-NewExtendedMiningJob-clause-ok
returns-in-NewExtendedMiningJob-clause-ok c = rw (c.in-NewExtendedMiningJob.is) (c.put_frame-in-NewExtendedMiningJob.ensures.ok mining_table _ (sym (rw (c.in-NewExtendedMiningJob.is) at c.kind-kind.ensures)) c.fields-in-NewExtendedMiningJob.ensures)

pub returns-in-SetNewPrevHash-clause-ok : goal.returns-in-SetNewPrevHash-clause-ok
returns-in-SetNewPrevHash-clause-ok c = rw (c.in-SetNewPrevHash.is) (c.put_frame-in-SetNewPrevHash.ensures.ok mining_table _ (sym (rw (c.in-SetNewPrevHash.is) at c.kind-kind.ensures)) c.fields-in-SetNewPrevHash.ensures)

pub returns-in-SetTarget-clause-ok : goal.returns-in-SetTarget-clause-ok
returns-in-SetTarget-clause-ok c = rw (c.in-SetTarget.is) (c.put_frame-in-SetTarget.ensures.ok mining_table _ (sym (rw (c.in-SetTarget.is) at c.kind-kind.ensures)) c.fields-in-SetTarget.ensures)

pub returns-in-SetCustomMiningJob-clause-ok : goal.returns-in-SetCustomMiningJob-clause-ok
returns-in-SetCustomMiningJob-clause-ok c = rw (c.in-SetCustomMiningJob.is) (c.put_frame-in-SetCustomMiningJob.ensures.ok mining_table _ (sym (rw (c.in-SetCustomMiningJob.is) at c.kind-kind.ensures)) c.fields-in-SetCustomMiningJob.ensures)

pub returns-in-SetCustomMiningJobSuccess-clause-ok : goal.returns-in-SetCustomMiningJobSuccess-clause-ok
returns-in-SetCustomMiningJobSuccess-clause-ok c = rw (c.in-SetCustomMiningJobSuccess.is) (c.put_frame-in-SetCustomMiningJobSuccess.ensures.ok mining_table _ (sym (rw (c.in-SetCustomMiningJobSuccess.is) at c.kind-kind.ensures)) c.fields-in-SetCustomMiningJobSuccess.ensures)

pub returns-in-SetCustomMiningJobError-clause-ok : goal.returns-in-SetCustomMiningJobError-clause-ok
returns-in-SetCustomMiningJobError-clause-ok c = rw (c.in-SetCustomMiningJobError.is) (c.put_frame-in-SetCustomMiningJobError.ensures.ok mining_table _ (sym (rw (c.in-SetCustomMiningJobError.is) at c.kind-kind.ensures)) c.fields-in-SetCustomMiningJobError.ensures)
