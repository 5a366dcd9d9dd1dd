-- Changes of a table that were planned (this project's own).
use Rattle.std.specs.Prelude.{◌≡◌, ℕ, ◌+◌, ◌≤◌, ◌==◌, ◌||◌, ◌⊎◌, Bool, false, Option, None, Some, is_some, Result, Ok, Err, List, [], ◌∷◌, length, map, nat_eq, IsTrue}
use Rattle.std.specs.Map.{lookup}
use Rattle.std.specs.Str.{bytes_eq}
use Rattle.pool_history.specs.declared.asking.OpenAsk.{OpenAsk}
use Rattle.pool_history.specs.declared.events.Kind.{Kind}
use Rattle.pool_history.specs.declared.events.Kind.TheVariants.{Standard}
use Rattle.pool_history.specs.declared.refusals.NameError.{NameError}
use Rattle.pool_history.specs.declared.refusals.NameError.TheVariants as name
use Rattle.pool_history.specs.declared.refusals.OpenError.{OpenError}
use Rattle.pool_history.specs.declared.replies.Opened.{Opened}
use Rattle.pool_history.specs.declared.settings.Rules.{Rules}
use Rattle.pool_history.specs.Accounts.{is_empty, is_known}
use Rattle.pool_history.specs.Answering.{account_for}
use Rattle.pool_history.specs.Channels.{ChannelMove, Names, Opens, Sets, channel_in}
use Rattle.pool_history.specs.Conditions.{first_false}
use Rattle.pool_history.specs.Refusing.{class_for, has_too_many_among, openable_among}
use Rattle.pool_history.specs.Spaces.{lowest}
use Rattle.channels.specs.declared.channel.Channel.{Channel}
use Rattle.channels.specs.declared.plan.ChannelPlan.{ChannelPlan}
use Rattle.channels.specs.declared.plan.ChannelPlan.TheVariants as plan
use Rattle.channels.specs.Cuts.{IsAskedWithin, with_cut}
use Rattle.channels.specs.Tables.{ChannelTable, count_kept}

-- the move that a plan makes
abbrev pub planned_move : ChannelPlan → ChannelMove
planned_move (plan.Open at session kind account opened) =
    Opens at session kind account opened.class opened.lead
planned_move (plan.Name channel account) = Names channel account
planned_move (plan.Class at channel class span) = Sets at channel class

-- what a plan opens
abbrev pub opened_by : ChannelPlan → Option Opened
opened_by (plan.Open at session kind account opened) = Some opened
opened_by (plan.Name channel account) = None
opened_by (plan.Class at channel class span) = None

-- what is opened next for a session: it may open one more, the id and the lead are the next, and a
-- standard channel's lead has four bytes
pub record IsNextOpening (table : ChannelTable) (session : ℕ) (kind : Kind) (opened : Opened)
    : Type 0 where
  pub few : has_too_many_among table.open_channels table.opened session ≡ false
  pub next : opened.channel ≡ table.opened + 1
  pub lead_is : lowest (length opened.lead) (map (λ channel. channel.lead) table.open_channels)
      ≡ Some opened.lead
  pub whole : kind ≡ Standard → length opened.lead ≡ 4

-- there is room for it
pub record MayOpenNext (table : ChannelTable) (session : ℕ) (kind : Kind) (opened : Opened)
    : Type 0 where
  pub room : 1 ≤ table.opening_room
  pub listed : 1 ≤ count_kept (lookup (nat_eq session) table.session_rooms)
  pub opening : IsNextOpening table session kind opened

-- a table may set a class: there is room, and the channel is open
pub record MaySetClass (table : ChannelTable) (channel : ℕ) : Type 0 where
  pub room : 1 ≤ count_kept (lookup (nat_eq channel) table.setting_rooms)
  pub there : IsTrue (is_some (channel_in table.open_channels channel))

-- a plan can be applied without memory; so it can as long as the table is as when it was made
abbrev pub CanApply : ChannelTable → ChannelPlan → Type 0
CanApply table (plan.Open at session kind account opened) = MayOpenNext table session kind opened
CanApply table (plan.Name channel account) = Unit {0}
CanApply table (plan.Class at channel class span) = MaySetClass table channel

-- classes are asked for as it was planned: where one is set, within the span of the plan
abbrev pub IsAskedAsPlanned : (ℕ → Bool) → ChannelPlan → Type 0
IsAskedAsPlanned is_asked (plan.Open at session kind account opened) = Unit {0}
IsAskedAsPlanned is_asked (plan.Name channel account) = Unit {0}
IsAskedAsPlanned is_asked (plan.Class at channel class span) = IsAskedWithin is_asked span at

-- a class that is set forgets those that no one asks for within the plan's bounds
abbrev pub CutsAsPlanned : ChannelPlan → ChannelTable → ChannelTable → Type 0
CutsAsPlanned (plan.Open at session kind account opened) old new = Unit {0}
CutsAsPlanned (plan.Name channel account) old new = Unit {0}
CutsAsPlanned (plan.Class at channel class span) old new =
    new.open_channels ≡ map (with_cut at channel class span) old.open_channels

-- a plan where something was found, or why not
abbrev pub plan_for : {X E : Type 0} → ChannelPlan → Result X E → Result ChannelPlan E
plan_for planned (Ok x) = Ok planned
plan_for planned (Err refusal) = Err refusal

-- what an opening gives that gets a lead, or why it is refused
abbrev pub opened_for : ChannelTable → Rules → OpenAsk → Result (List ℕ) OpenError
    → Result Opened OpenError
opened_for table rules ask (Err refusal) = Err refusal
opened_for table rules ask (Ok lead) =
    Ok (record { channel = table.opened + 1; class = class_for rules ask.max_target; lead = lead })

-- what an opening on a table gives, or why it is refused
abbrev pub opening_on : ChannelTable → Rules → ℕ → OpenAsk → Result Opened OpenError
opening_on table rules session ask =
    opened_for table rules ask
    (openable_among rules table.open_channels table.opened session ask)

-- the plan of an opening
abbrev pub opening_plan : ℕ → ℕ → OpenAsk → Result Opened OpenError → Result ChannelPlan OpenError
opening_plan session at ask (Err refusal) = Err refusal
opening_plan session at ask (Ok opened) =
    Ok (plan.Open at session ask.kind (account_for ask.kind ask.identity) opened)

-- an answer is this, unless memory runs out
abbrev pub IsUnless : {X E : Type 0} → E → Result X E → Result X E → Type 0
IsUnless memory result answer = (result ≡ Err memory) ⊎ (result ≡ answer)

-- whether something was found, or why not
abbrev pub completion_of : {X E : Type 0} → Result X E → Result Unit E
completion_of (Ok x) = Ok tt
completion_of (Err refusal) = Err refusal

-- it is done where something was found, unless memory runs out
abbrev pub IsDoneUnless : {X E : Type 0} → E → Result Unit E → Result X E → Type 0
IsDoneUnless memory result found = IsUnless memory result (completion_of found)

-- why a channel that is kept doesn't get an account in a session
abbrev pub naming_refusal : Rules → List ℕ → ℕ → Option Channel → Option NameError
naming_refusal rules account session None = Some name.NotOpen
naming_refusal rules account session (Some channel) =
    first_false
    ((channel.session == session, name.NotOpen)
    ∷ (is_known rules account, name.UnknownUser)
    ∷ (is_empty channel.account || bytes_eq channel.account account, name.OtherAccount)
    ∷ []) None
