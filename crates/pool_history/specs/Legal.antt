-- Which events are legal after others (this project's own). A condition is told by the cause that
-- its failure has.
-- Computed on an event for each cause (`IllegalEvents`, `OwnJobs`) and on the worked session.
use Rattle.std.specs.Prelude.{◌≡◌, ℕ, ◌==◌, ◌&&◌, Bool, true, false, not, if◌then◌else◌, Option, None, Some, is_some, Result, Ok, Err, List, [], ◌∷◌, length, bit_and, nat_le, nat_lt}
use Rattle.std.specs.Int.{bit_at}
use Rattle.std.specs.Str.{bytes_eq}
use Rattle.pool_history.specs.declared.causes.Cause.{Cause}
use Rattle.pool_history.specs.declared.causes.Cause.TheVariants as cause
use Rattle.pool_history.specs.declared.events.Event.{Event}
use Rattle.pool_history.specs.declared.events.Event.TheVariants as event
use Rattle.pool_history.specs.declared.events.Kind.{Kind}
use Rattle.pool_history.specs.declared.events.Kind.TheVariants as kind
use Rattle.pool_history.specs.declared.refusals.CustomError.{CustomError}
use Rattle.pool_history.specs.declared.refusals.CustomError.TheVariants as custom
use Rattle.pool_history.specs.declared.refusals.Failed.{Failed}
use Rattle.pool_history.specs.declared.refusals.GrantError.{GrantError}
use Rattle.pool_history.specs.declared.refusals.GrantError.TheVariants as grant
use Rattle.pool_history.specs.declared.settings.Rules.{Rules}
use Rattle.pool_history.specs.Accounts.{are_in_range, is_empty, is_known}
use Rattle.pool_history.specs.Channels.{OpenChannel, channel_in, channels_of, present_class}
use Rattle.pool_history.specs.Conditions.{first_false}
use Rattle.pool_history.specs.Crediting.{first_failed}
use Rattle.pool_history.specs.Judging.{is_standard}
use Rattle.pool_history.specs.Refusing.{custom_refusal, grant_refusal, has_too_many, held_leads, most_enters, own_channel, template_refusal, tippable}
use Rattle.pool_history.specs.Sessions.{Entrance, enters, entrance, feeds, is_present, mines, past_of, rules_of}
use Rattle.pool_history.specs.Spaces.{lowest}

-- the flags of a setup that are acceptable: bit 0, bit 1 and, with version rolling, bit 2 (Stratum
-- V2, "SetupConnection")
abbrev pub allowed_flags : Rules → ℕ
allowed_flags rules = if rules.version_rolling then 7 else 3

-- no other flag is set
abbrev pub are_acceptable : Rules → ℕ → Bool
are_acceptable rules flags = bit_and flags (allowed_flags rules) == flags

-- a session may bring jobs of its own: REQUIRES_WORK_SELECTION
abbrev pub selects_work : ℕ → Bool
selects_work flags = bit_at flags 1 == 1

-- a refusal is a cause
abbrev pub refused_as : {X : Type 0} → Cause → Option X → Option Cause
refused_as code None = None
refused_as code (Some refusal) = Some code

-- so is one in place of what was to be found
abbrev pub unfound_as : {X C : Type 0} → Cause → Result X C → Option Cause
unfound_as code (Ok x) = None
unfound_as code (Err refusal) = Some code

-- a share's failed condition is its cause
abbrev pub failed_as : Option Failed → Option Cause
failed_as None = None
failed_as (Some failed) = Some (cause.Share failed)

-- the causes of refused grants
abbrev pub grant_cause : Option GrantError → Option Cause
grant_cause None = None
grant_cause (Some grant.UnknownUser) = Some cause.UnknownUser
grant_cause (Some (grant.TooManyGrants count)) = Some cause.TooManyGrants
grant_cause (Some (grant.PathTooLong entries)) = Some cause.BadPath

-- the causes of refused jobs of miners
abbrev pub custom_cause : Option CustomError → Option Cause
custom_cause None = None
custom_cause (Some custom.NotOpen) = Some cause.NotOpen
custom_cause (Some custom.BadToken) = Some cause.BadToken
custom_cause (Some custom.StaleTip) = Some cause.StalePrevHash
custom_cause (Some (custom.EarlyTime least)) = Some cause.BadNtime
custom_cause (Some (custom.BadPath entries)) = Some cause.BadPath
custom_cause (Some (custom.Coinbase error)) = Some cause.BadCoinbase

-- the account that an opening has to say: none for V1
abbrev pub is_opening_account : Rules → Kind → List ℕ → Bool
is_opening_account rules kind.Standard account = is_known rules account
is_opening_account rules kind.Extended account = is_known rules account
is_opening_account rules kind.V1 account = is_empty account

-- a class that a channel may have
abbrev pub is_class : Rules → ℕ → Bool
is_class rules class = nat_le rules.least_class class && nat_le class 60

-- the length that a lead may have
abbrev pub is_lead_length : Kind → ℕ → Bool
is_lead_length kind.Standard len = len == 4
is_lead_length kind.Extended len = nat_le 1 len && nat_le len 4
is_lead_length kind.V1 len = nat_le 1 len && nat_le len 4

-- just these bytes were found
abbrev pub is_just : List ℕ → Option (List ℕ) → Bool
is_just bytes None = false
is_just bytes (Some others) = bytes_eq bytes others

-- the lead has a length of its kind and is the lowest free one
abbrev pub is_next_lead : List Event → Kind → List ℕ → Bool
is_next_lead past kind lead =
    is_lead_length kind (length lead) && is_just lead (lowest (length lead) (held_leads past))

-- a V1 channel without account
abbrev pub is_nameless : Kind → List ℕ → Bool
is_nameless kind.Standard account = false
is_nameless kind.Extended account = false
is_nameless kind.V1 account = is_empty account

-- a channel may get this account
abbrev pub may_get : Rules → List ℕ → Option OpenChannel → Bool
may_get rules account None = false
may_get rules account (Some channel) =
    is_nameless channel.kind channel.account && is_known rules account

-- a channel's class may become this one
abbrev pub may_become : Rules → ℕ → Option OpenChannel → Bool
may_become rules class None = false
may_become rules class (Some channel) = is_class rules class && not (class == present_class channel)

-- a credit counts as standard where its channel is
abbrev pub is_standard_in : Option OpenChannel → Bool
is_standard_in None = false
is_standard_in (Some channel) = is_standard channel.kind

-- a session was entered so
abbrev pub entered_with : (Entrance → Bool) → Option Entrance → Bool
entered_with may None = false
entered_with may (Some entered) = may entered

-- any session, one that sends templates, one that submits shares, and one that brings jobs of its
-- own
abbrev pub may_anything : Entrance → Bool
may_anything entered = true

abbrev pub may_feed : Entrance → Bool
may_feed entered = feeds entered.role

abbrev pub may_mine : Entrance → Bool
may_mine entered = mines entered.role

abbrev pub may_select_work : Entrance → Bool
may_select_work entered = mines entered.role && selects_work entered.flags

-- the session is present, and may have the event; then the event's own conditions
abbrev pub within : (Entrance → Bool) → List Event → ℕ → Option Cause → Option Cause
within may past session own =
    first_false
    ((is_present past session, cause.NoSession)
    ∷ (entered_with may (entrance past session), cause.BadRole)
    ∷ []) own

-- the cause of an event after the events before it, whose rules these are: that of the first
-- condition that is false
abbrev pub cause_by : Rules → List Event → Event → Option Cause
cause_by rules past (event.Start other) = Some cause.BadStart
cause_by rules past (event.Enter worker role flags) =
    first_false
    ((nat_lt (enters past) most_enters, cause.PoolFull)
    ∷ (are_acceptable rules flags, cause.BadFlags)
    ∷ []) None
cause_by rules past (event.Leave session) = within may_anything past session None
cause_by rules past (event.Template session template) =
    within may_feed past session
    (refused_as cause.BadTemplate (template_refusal rules.pool_script past template))
cause_by rules past (event.Tip session tip) =
    within may_feed past session (unfound_as cause.BadTip (tippable past tip))
cause_by rules past (event.Open session kind account class lead) =
    within may_mine past session
    (first_false
    ((is_opening_account rules kind account, cause.UnknownUser)
    ∷ (is_class rules class, cause.BadClass)
    ∷ (not (has_too_many past session), cause.TooManyChannels)
    ∷ (is_next_lead past kind lead, cause.BadLead)
    ∷ []) None)
cause_by rules past (event.Name session channel account) =
    within may_mine past session
    (first_false
    ((may_get rules account (own_channel past session channel), cause.BadName) ∷ []) None)
cause_by rules past (event.Class session channel class) =
    within may_mine past session
    (first_false
    ((may_become rules class (own_channel past session channel), cause.BadClass) ∷ []) None)
cause_by rules past (event.Close session channel) =
    within may_mine past session
    (first_false ((is_some (own_channel past session channel), cause.NotOpen) ∷ []) None)
cause_by rules past (event.Credit session channel job nonce ntime version extranonce) =
    within may_mine past session (failed_as (first_failed rules past session (record {
      is_standard = is_standard_in (channel_in (channels_of past) channel);
      channel = channel;
      job = job;
      nonce = nonce;
      ntime = ntime;
      version = version;
      extranonce = extranonce;
    })))
cause_by rules past (event.Grant session account fixed path) =
    within may_select_work past session (grant_cause (grant_refusal rules past account path))
cause_by rules past (event.Custom session offer) =
    within may_select_work past session
    (custom_cause (custom_refusal rules.pool_script past session offer))

-- the cause where a Start stands first, or doesn't
abbrev pub cause_in : Option Rules → List Event → Event → Option Cause
cause_in None past event = Some cause.BadStart
cause_in (Some rules) past event = cause_by rules past event

-- the cause of the first condition of an event that is false after the events before it, or none
abbrev pub cause_of : List Event → Event → Option Cause
cause_of [] (event.Start rules) = if are_in_range rules then None else Some cause.BadStart
cause_of past event = cause_in (rules_of past) past event

-- no condition of any event is false
abbrev pub LegalPast : List Event → Type 0
LegalPast [] = Unit {0}
LegalPast (event ∷ older) = LegalPast older × (cause_of older event ≡ None)

-- each event of the history is legal after the events before it
abbrev pub Legal : List Event → Type 0
Legal history = LegalPast (past_of history)
