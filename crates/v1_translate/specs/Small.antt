-- Shares that can be written.
use Rattle.std.specs.Prelude.{◌<◌, ◌≤◌, ◌^◌, length}
use Rattle.v1_translate.specs.State.{SentShare}

-- the numbers of a share are those of 32 bits
pub record IsSmall (share : SentShare) : Type 0 where
  pub channel : share.channel < 2 ^ 32
  pub sequence : share.sequence < 2 ^ 32
  pub job : share.job < 2 ^ 32
  pub nonce : share.nonce < 2 ^ 32
  pub ntime : share.ntime < 2 ^ 32
  pub version : share.version < 2 ^ 32
  pub extranonce : length share.extranonce ≤ 32
