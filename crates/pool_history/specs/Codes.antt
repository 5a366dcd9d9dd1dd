-- The codes of refusals in messages (Stratum V2, "SubmitShares.Error", "OpenMiningChannel.Error",
-- "UpdateChannel.Error" and "SetCustomMiningJob.Error"; codes that the standard lacks are this
-- project's own). Compared in the tests.
use Rattle.std.specs.Prelude.{ℕ, List, codes}
use Rattle.pool_history.specs.declared.refusals.CustomError.{CustomError}
use Rattle.pool_history.specs.declared.refusals.CustomError.TheVariants as custom
use Rattle.pool_history.specs.declared.refusals.Failed.{Failed}
use Rattle.pool_history.specs.declared.refusals.Failed.TheVariants as failed
use Rattle.pool_history.specs.declared.refusals.OpenError.{OpenError}
use Rattle.pool_history.specs.declared.refusals.OpenError.TheVariants as open_error
use Rattle.pool_history.specs.declared.refusals.UpdateError.{UpdateError}
use Rattle.pool_history.specs.declared.refusals.UpdateError.TheVariants as update

-- the code of a share's failed condition
abbrev pub share_code : Failed → List ℕ
share_code failed.Channel = codes "invalid-channel-id"
share_code failed.ExtranonceSize = codes "invalid-extranonce-size"
share_code failed.Job = codes "invalid-job-id"
share_code failed.Stale = codes "stale-share"
share_code failed.Version = codes "invalid-version"
share_code failed.Ntime = codes "invalid-ntime"
share_code failed.Difficulty = codes "difficulty-too-low"
share_code failed.Duplicate = codes "duplicate-share"
share_code failed.Full = codes "ledger-full"

-- the code of a refused opening; no reply says that memory ran out
abbrev pub open_code : OpenError → List ℕ
open_code open_error.UnknownUser = codes "unknown-user"
open_code (open_error.TargetOutOfRange class) = codes "max-target-out-of-range"
open_code (open_error.SizeTooLarge size) = codes "min-extranonce-size-too-large"
open_code (open_error.TooManyChannels held opened) = codes "too-many-channels"
open_code open_error.NoSpace = codes "no-extranonce-space"
open_code open_error.Memory = codes "out-of-memory"

-- the code of a refused update of a channel
abbrev pub update_code : UpdateError → List ℕ
update_code update.NotOpen = codes "invalid-channel-id"
update_code (update.TargetOutOfRange class) = codes "max-target-out-of-range"

-- the code of a refused job of a miner's own
abbrev pub custom_code : CustomError → List ℕ
custom_code custom.NotOpen = codes "invalid-channel-id"
custom_code custom.BadToken = codes "invalid-mining-job-token"
custom_code custom.StaleTip = codes "stale-prev-hash"
custom_code (custom.EarlyTime least) = codes "invalid-min-ntime"
custom_code (custom.BadPath entries) = codes "invalid-merkle-path"
custom_code (custom.Coinbase error) = codes "invalid-coinbase"
