-- Why a request is refused (Stratum V2's error codes; their order and the limits are this project's
-- own). What a request is answered with and what makes an event illegal are both by these.
-- Computed on each refusal but the counts that are too great to compute (`Rows`, `OwnJobs`,
-- `IllegalEvents`, `AnswerRows`).
use Rattle.std.specs.Prelude.{ℕ, ◌+◌, ◌-◌, ◌^◌, ◌==◌, ◌&&◌, ◌||◌, Bool, true, false, not, if◌then◌else◌, min, max, Option, None, Some, is_some, Result, Ok, Err, List, [], ◌∷◌, ◌++◌, length, map, nat_lt, nat_le}
use Rattle.std.specs.Int.{w64, to_le_bytes}
use Rattle.std.specs.List.{list_any}
use Rattle.std.specs.Str.{bytes_eq}
use Rattle.block_header.specs.Target as target
use Rattle.coinbase.specs.Coin.{template_assembly}
use Rattle.coinbase.specs.Custom.{custom_assembly}
use Rattle.coinbase.specs.Parts.{Parts}
use Rattle.coinbase.specs.declared.error.AssemblyError.{AssemblyError}
use Rattle.coinbase.specs.declared.error.OutputsError.{OutputsError}
use Rattle.pool_history.specs.declared.asking.OpenAsk.{OpenAsk}
use Rattle.pool_history.specs.declared.events.Event.{Event}
use Rattle.pool_history.specs.declared.events.Event.TheVariants as event
use Rattle.pool_history.specs.declared.events.Kind.{Kind}
use Rattle.pool_history.specs.declared.events.Kind.TheVariants as kind
use Rattle.pool_history.specs.declared.refusals.CustomError.{CustomError}
use Rattle.pool_history.specs.declared.refusals.CustomError.TheVariants as custom
use Rattle.pool_history.specs.declared.refusals.GrantError.{GrantError}
use Rattle.pool_history.specs.declared.refusals.GrantError.TheVariants as grant
use Rattle.pool_history.specs.declared.refusals.JobError.{JobError}
use Rattle.pool_history.specs.declared.refusals.JobError.TheVariants as job
use Rattle.pool_history.specs.declared.refusals.NameError.{NameError}
use Rattle.pool_history.specs.declared.refusals.NameError.TheVariants as name
use Rattle.pool_history.specs.declared.refusals.OpenError.{OpenError}
use Rattle.pool_history.specs.declared.refusals.OpenError.TheVariants as open_error
use Rattle.pool_history.specs.declared.refusals.UpdateError.{UpdateError}
use Rattle.pool_history.specs.declared.refusals.UpdateError.TheVariants as update
use Rattle.pool_history.specs.declared.settings.Rules.{Rules}
use Rattle.pool_history.specs.declared.templates.CustomData.{CustomData}
use Rattle.pool_history.specs.declared.templates.TemplateData.{TemplateData}
use Rattle.pool_history.specs.declared.templates.TipData.{TipData}
use Rattle.pool_history.specs.Accounts.{account_of, is_empty, is_known}
use Rattle.pool_history.specs.Channels.{OpenChannel, channel_in, channels_in, channels_of}
use Rattle.pool_history.specs.Conditions.{first_false, found, provided, unless_refusal}
use Rattle.pool_history.specs.Jobs.{Job, future_of, has_template, jobs_of}
use Rattle.pool_history.specs.Judging.{custom_terms, template_terms}
use Rattle.pool_history.specs.Sessions.{grants, opens, templates}
use Rattle.pool_history.specs.Spaces.{lowest}

-- the limits: Enter events, Open events, templates, grants, open channels of a session, entries of
-- a miner's own path
abbrev pub most_enters : ℕ
most_enters = 2 ^ 22

abbrev pub most_opens : ℕ
most_opens = 2 ^ 22

abbrev pub most_templates : ℕ
most_templates = 2 ^ 20

abbrev pub most_grants : ℕ
most_grants = 2 ^ 18

abbrev pub most_channels : ℕ
most_channels = 1024

abbrev pub most_entries : ℕ
most_entries = 32

-- a template whose coinbase is refused
abbrev pub coinbase_refusal : Result Parts AssemblyError → Option JobError
coinbase_refusal (Ok parts) = None
coinbase_refusal (Err error) = Some (job.Coinbase error)

-- a template's job is among these
abbrev pub is_template_known : List Job → ℕ → Bool
is_template_known jobs id = list_any (λ job. has_template id job.source) jobs

-- why a template is refused after so many others, with these jobs future or live and this tip: the
-- limit, a job with its id, no tip, its coinbase
abbrev pub refusal_among :
    List ℕ → ℕ → List Job → Option TipData → TemplateData → Option JobError
refusal_among script count jobs tip template =
    first_false
    ((nat_lt count most_templates, job.TooMany count)
    ∷ (
      not (is_template_known jobs template.template_id),
      job.TemplateKnown template.template_id,
    )
    ∷ (template.future_template || is_some tip, job.NoTip)
    ∷ []) (coinbase_refusal (template_assembly (template_terms template) script))

-- the same after a history
abbrev pub template_refusal : List ℕ → List Event → TemplateData → Option JobError
template_refusal script past template =
    refusal_among script (templates past) ((jobs_of past).future ++ (jobs_of past).live)
    (jobs_of past).tip template

-- the job that a tip makes live, or why the tip is refused: no future job has its template
abbrev pub tippable : List Event → TipData → Result Job JobError
tippable past tip =
    found (job.UnknownTemplate tip.template_id) (future_of (jobs_of past) tip.template_id)

-- whether a channel of a kind is opened for a known account; a V1 channel is opened without one
abbrev pub may_open : Rules → Kind → List ℕ → Bool
may_open rules kind.Standard account = is_known rules account
may_open rules kind.Extended account = is_known rules account
may_open rules kind.V1 account = true

-- the class of a target
abbrev pub class_of_target : List ℕ → ℕ
class_of_target bytes = target.class_of_number (target.number bytes)

-- the class that a target gets: not below the least
abbrev pub class_for : Rules → List ℕ → ℕ
class_for rules bytes = max (class_of_target bytes) rules.least_class

-- how many bytes a channel's lead has
abbrev pub lead_length : Kind → ℕ → ℕ
lead_length kind.Standard size = 4
lead_length kind.Extended size = min 4 (12 - size)
lead_length kind.V1 size = min 4 (12 - size)

-- the leads of the open channels
abbrev pub held_leads : List Event → List (List ℕ)
held_leads past = map (λ channel. channel.lead) (channels_of past)

-- how many channels of a session are among these
abbrev pub count_among : List OpenChannel → ℕ → ℕ
count_among channels session = length (channels_in channels session)

-- a session that has these open channels among all may not open one more, after so many openings
abbrev pub has_too_many_among : List OpenChannel → ℕ → ℕ → Bool
has_too_many_among channels openings session =
    nat_le most_channels (count_among channels session) || nat_le most_opens openings

-- the lead that an opening gets beside these channels
abbrev pub lead_among : List OpenChannel → OpenAsk → Option (List ℕ)
lead_among channels ask =
    lowest (lead_length ask.kind ask.min_size) (map (λ channel. channel.lead) channels)

-- what an opening needs, and why it is refused where it hasn't it
abbrev pub conditions_among :
    Rules → List OpenChannel → ℕ → ℕ → OpenAsk → List (Bool × OpenError)
conditions_among rules channels openings session ask =
    (may_open rules ask.kind (account_of ask.identity), open_error.UnknownUser)
    ∷ (
      nat_le (class_of_target ask.max_target) 60,
      open_error.TargetOutOfRange
          (class_of_target ask.max_target),
    )
    ∷ (nat_le ask.min_size 11, open_error.SizeTooLarge ask.min_size)
    ∷ (
      not (has_too_many_among channels openings session),
      open_error.TooManyChannels (count_among channels session) openings,
    )
    ∷ []

-- the lead that an opening gets, where there is no refusal
abbrev pub lead_unless : Option OpenError → Option (List ℕ) → Result (List ℕ) OpenError
lead_unless (Some refusal) lead = Err refusal
lead_unless None lead = found open_error.NoSpace lead

-- the lead that an opening gets beside these channels and after so many openings, or why it is
-- refused; the last reason is that no lead is free
abbrev pub openable_among :
    Rules → List OpenChannel → ℕ → ℕ → OpenAsk → Result (List ℕ) OpenError
openable_among rules channels openings session ask =
    lead_unless (first_false (conditions_among rules channels openings session ask) None)
    (lead_among channels ask)

-- the same after a history
abbrev pub open_count : List Event → ℕ → ℕ
open_count past session = count_among (channels_of past) session

abbrev pub has_too_many : List Event → ℕ → Bool
has_too_many past session = has_too_many_among (channels_of past) (opens past) session

abbrev pub lead_for : List Event → OpenAsk → Option (List ℕ)
lead_for past ask = lead_among (channels_of past) ask

abbrev pub open_conditions : Rules → List Event → ℕ → OpenAsk → List (Bool × OpenError)
open_conditions rules past session ask =
    conditions_among rules (channels_of past) (opens past) session ask

abbrev pub openable : Rules → List Event → ℕ → OpenAsk → Result (List ℕ) OpenError
openable rules past session ask =
    openable_among rules (channels_of past) (opens past) session ask

-- the open channel of a session
abbrev pub own_channel : List Event → ℕ → ℕ → Option OpenChannel
own_channel past session id = channel_in (channels_in (channels_of past) session) id

-- a channel has another account
abbrev pub has_other : List ℕ → OpenChannel → Bool
has_other account channel = not (is_empty channel.account) && not (bytes_eq channel.account account)

-- the channel that is named, or why it isn't
abbrev pub nameable : Rules → List ℕ → Option OpenChannel → Result OpenChannel NameError
nameable rules account None = Err name.NotOpen
nameable rules account (Some channel) =
    unless_refusal
    (first_false
    ((is_known rules account, name.UnknownUser)
    ∷ (not (has_other account channel), name.OtherAccount)
    ∷ []) None) channel

-- the channel whose class is set, or why it isn't
abbrev pub updatable : List ℕ → Option OpenChannel → Result OpenChannel UpdateError
updatable target None = Err update.NotOpen
updatable target (Some channel) =
    provided (nat_le (class_of_target target) 60)
    (update.TargetOutOfRange (class_of_target target)) channel

-- why a token isn't granted for a path, none being no path
abbrev pub grant_refusal : Rules → List Event → List ℕ → List (List ℕ) → Option GrantError
grant_refusal rules past account path =
    first_false
    ((is_known rules account, grant.UnknownUser)
    ∷ (nat_lt (grants past) most_grants, grant.TooManyGrants (grants past))
    ∷ (nat_le (length path) most_entries, grant.PathTooLong (length path))
    ∷ []) None

-- the token of a Grant: its number in eight bytes
abbrev pub token_of : ℕ → List ℕ
token_of number = to_le_bytes w64 number

-- what was granted
pub record Granted : Type 0 where
  pub account : List ℕ
  pub fixed : Bool
  pub path : List (List ℕ)

-- the Grant of a token; a Grant's number is one more than the number of Grants before
abbrev pub grant_of : List Event → List ℕ → Option Granted
grant_of [] token = None
grant_of (event.Grant session account fixed path ∷ older) token =
    if bytes_eq token (token_of (grants older + 1))
    then Some (record { account = account; fixed = fixed; path = path }) else grant_of older token
grant_of (event.Start rules ∷ older) token = grant_of older token
grant_of (event.Enter worker role flags ∷ older) token = grant_of older token
grant_of (event.Template session template ∷ older) token = grant_of older token
grant_of (event.Tip session tip ∷ older) token = grant_of older token
grant_of (event.Open session kind account class lead ∷ older) token = grant_of older token
grant_of (event.Name session channel account ∷ older) token = grant_of older token
grant_of (event.Class session channel class ∷ older) token = grant_of older token
grant_of (event.Close session channel ∷ older) token = grant_of older token
grant_of (event.Leave session ∷ older) token = grant_of older token
grant_of (event.Credit session channel job nonce ntime version extranonce ∷ older) token =
    grant_of older token
grant_of (event.Custom session custom ∷ older) token = grant_of older token

-- a miner's own job names the token
abbrev pub is_spent : List Event → List ℕ → Bool
is_spent [] token = false
is_spent (event.Custom session custom ∷ older) token =
    bytes_eq token custom.token || is_spent older token
is_spent (event.Start rules ∷ older) token = is_spent older token
is_spent (event.Enter worker role flags ∷ older) token = is_spent older token
is_spent (event.Template session template ∷ older) token = is_spent older token
is_spent (event.Tip session tip ∷ older) token = is_spent older token
is_spent (event.Open session kind account class lead ∷ older) token = is_spent older token
is_spent (event.Name session channel account ∷ older) token = is_spent older token
is_spent (event.Class session channel class ∷ older) token = is_spent older token
is_spent (event.Close session channel ∷ older) token = is_spent older token
is_spent (event.Leave session ∷ older) token = is_spent older token
is_spent (event.Credit session channel job nonce ntime version extranonce ∷ older) token =
    is_spent older token
is_spent (event.Grant session account fixed path ∷ older) token = is_spent older token

-- an extended kind
abbrev pub is_extended : Kind → Bool
is_extended kind.Standard = false
is_extended kind.Extended = true
is_extended kind.V1 = false

-- what was granted, where it was to the account
abbrev pub granted_to : List ℕ → Option Granted → Option Granted
granted_to account None = None
granted_to account (Some granted) = if bytes_eq granted.account account then Some granted else None

-- the grant of a token that the channel's account has still to spend
abbrev pub unspent : List Event → List ℕ → OpenChannel → Option Granted
unspent past token channel =
    if is_spent past token then None else granted_to channel.account (grant_of past token)

-- two lists of hashes are the same
abbrev pub same_path : List (List ℕ) → List (List ℕ) → Bool
same_path [] [] = true
same_path (a ∷ as') (b ∷ bs) = bytes_eq a b && same_path as' bs
same_path [] (b ∷ bs) = false
same_path (a ∷ as') [] = false

-- a path that is too long, or another than the one that was fixed
abbrev pub is_bad_path : Granted → List (List ℕ) → Bool
is_bad_path granted path =
    nat_lt most_entries (length path) || (granted.fixed && not (same_path path granted.path))

-- a miner's job whose coinbase is refused
abbrev pub outputs_refusal : Result (Parts × ℕ) OutputsError → Option CustomError
outputs_refusal (Ok assembly) = None
outputs_refusal (Err error) = Some (custom.Coinbase error)

-- a tip of another block
abbrev pub is_other_tip : TipData → CustomData → Bool
is_other_tip tip offer =
    not (bytes_eq tip.prev_hash offer.prev_hash) || not (tip.nbits == offer.nbits)

-- why a miner's own job is refused over a tip, its channel and its token being good
abbrev pub over_tip : List ℕ → Granted → CustomData → Option TipData → Option CustomError
over_tip script granted offer None = Some custom.StaleTip
over_tip script granted offer (Some tip) =
    first_false
    ((not (is_other_tip tip offer), custom.StaleTip)
    ∷ (nat_le tip.header_timestamp offer.min_ntime, custom.EarlyTime tip.header_timestamp)
    ∷ (
      not (is_bad_path granted offer.merkle_path),
      custom.BadPath
          (length offer.merkle_path),
    )
    ∷ []) (outputs_refusal (custom_assembly (custom_terms offer) script))

-- the same by its token
abbrev pub with_token : List ℕ → List Event → CustomData → Option Granted → Option CustomError
with_token script past offer None = Some custom.BadToken
with_token script past offer (Some granted) = over_tip script granted offer (jobs_of past).tip

-- the same by its channel, which is an extended one of the session
abbrev pub on_channel : List ℕ → List Event → CustomData → Option OpenChannel → Option CustomError
on_channel script past offer None = Some custom.NotOpen
on_channel script past offer (Some channel) =
    if is_extended channel.kind then with_token script past offer (unspent past offer.token channel)
    else Some custom.NotOpen

-- why a miner's own job is refused
abbrev pub custom_refusal : List ℕ → List Event → ℕ → CustomData → Option CustomError
custom_refusal script past session offer =
    on_channel script past offer (own_channel past session offer.channel_id)
