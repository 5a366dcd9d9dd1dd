use Rattle.v2_sessions.proofs.asking.mining_meaning.Goals as goal

pub returns-in-OpenStandardMiningChannel : goal.returns-in-OpenStandardMiningChannel
returns-in-OpenStandardMiningChannel c = rw c.in-OpenStandardMiningChannel.is c.standard_opening.ensures

pub returns-in-OpenExtendedMiningChannel : goal.returns-in-OpenExtendedMiningChannel
returns-in-OpenExtendedMiningChannel c = rw c.in-OpenExtendedMiningChannel.is c.extended_opening.ensures
