-- Why a miner's own job is refused before its coinbase is looked at (this project's own).
use Rattle.std.specs.Prelude.{◌≡◌, not, if◌then◌else◌, Option, None, Some, List, [], ◌∷◌, length, nat_le}
use Rattle.pool_history.specs.declared.refusals.CustomError.{CustomError}
use Rattle.pool_history.specs.declared.refusals.CustomError.TheVariants as custom
use Rattle.pool_history.specs.declared.templates.CustomData.{CustomData}
use Rattle.pool_history.specs.declared.templates.TipData.{TipData}
use Rattle.pool_history.specs.Conditions.{first_false}
use Rattle.pool_history.specs.Refusing.{Granted, is_bad_path, is_extended, is_other_tip}
use Rattle.channels.specs.declared.channel.Channel.{Channel}
use Rattle.pool_tables.specs.GrantTables.{GrantTable, unspent_in}

-- by the tip
abbrev pub tip_refusal : Granted → Option TipData → CustomData → Option CustomError
tip_refusal granted None offer = Some custom.StaleTip
tip_refusal granted (Some tip) offer =
    first_false
    ((not (is_other_tip tip offer), custom.StaleTip)
    ∷ (nat_le tip.header_timestamp offer.min_ntime, custom.EarlyTime tip.header_timestamp)
    ∷ (
      not (is_bad_path granted offer.merkle_path),
      custom.BadPath
          (length offer.merkle_path),
    )
    ∷ []) None

-- by the token
abbrev pub token_refusal : Option Granted → Option TipData → CustomData → Option CustomError
token_refusal None tip offer = Some custom.BadToken
token_refusal (Some granted) tip offer = tip_refusal granted tip offer

-- by the channel
abbrev pub refusal_before_coinbase :
    Option Channel → GrantTable → Option TipData → CustomData → Option CustomError
refusal_before_coinbase None grants tip offer = Some custom.NotOpen
refusal_before_coinbase (Some channel) grants tip offer =
    if is_extended channel.kind
    then token_refusal (unspent_in grants offer.token channel.account) tip offer
    else Some custom.NotOpen
