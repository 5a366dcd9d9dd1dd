-- Events that are planned, with what they change (this project's own).
use Rattle.std.specs.Prelude.{◌≡◌, ℕ, ◌<◌, ◌≤◌, Bool, Option, None, Some, is_some, List, [], ◌∷◌, ◌++◌, length, IsTrue, Result, Ok, Err}
use Rattle.std.specs.Option.{option_map}
use Rattle.pool_history.specs.declared.asking.Request.{Request}
use Rattle.pool_history.specs.declared.events.Event.{Event}
use Rattle.pool_history.specs.declared.events.Event.TheVariants as event
use Rattle.pool_history.specs.declared.events.Role.{Role}
use Rattle.pool_history.specs.declared.replies.Reply.{Reply}
use Rattle.pool_history.specs.declared.replies.Reply.TheVariants as reply
use Rattle.pool_history.specs.declared.settings.Rules.{Rules}
use Rattle.pool_history.specs.declared.spans.LiveSpan.{LiveSpan}
use Rattle.pool_history.specs.declared.templates.CustomData.{CustomData}
use Rattle.pool_history.specs.declared.templates.TemplateData.{TemplateData}
use Rattle.pool_history.specs.declared.templates.TipData.{TipData}
use Rattle.pool_history.specs.Answering.{Effect, step_in, with_event, without_event}
use Rattle.pool_history.specs.Channels.{channel_in, channel_moves, channels_in}
use Rattle.pool_history.specs.Crediting.{Booked, bookings_of, headers}
use Rattle.pool_history.specs.Jobs.{FromMiner, FromTemplate, future_in}
use Rattle.pool_history.specs.Refusing.{most_enters, most_grants}
use Rattle.pool_history.specs.Sessions.{past_of, rules_of, script_of}
use Rattle.history_laws.specs.AskedPlaces.{is_asked_after}
use Rattle.ledger_records.specs.Keeping.{KeepsOn}
use Rattle.channels.specs.Plans.{CanApply, IsAskedAsPlanned, planned_move}
use Rattle.channels.specs.declared.plan.ChannelPlan.{ChannelPlan}
use Rattle.channels.specs.declared.plan.ChannelPlan.TheVariants as channel_plan
use Rattle.event_store.specs.Blocks.{is_block_event}
use Rattle.pool_tables.specs.GrantTables.{MaySpend, granted_count}
use Rattle.payouts.specs.Plans.{BlockPlan, Planning}
use Rattle.payouts.specs.Plans as tallies
use Rattle.pool_tables.specs.Tables.{entered_count}
use Rattle.template_jobs.specs.Plans.{IsPlannedAs, PlannedJob}
use Rattle.template_jobs.specs.Tables.{kept_jobs}
use Rattle.template_jobs.specs.Tables as job_tables
use Rattle.share_ledger.specs.declared.planning.Change.{Change}
use Rattle.share_ledger.specs.declared.planning.Change.TheVariants as change
use Rattle.share_ledger.specs.declared.planning.Crediting.{Crediting}
use Rattle.share_ledger.specs.declared.planning.Planned.{Planned}
use Rattle.share_ledger.specs.declared.planning.Step.{Step}
use Rattle.share_ledger.specs.declared.planning.Step.TheVariants as step
use Rattle.share_ledger.specs.Tables.{LedgerTables}

-- the events before the next one, the last of which stands first
abbrev pub past_in : LedgerTables → List Event
past_in tables = past_of tables.history.events

-- the event may be the next: there is room for it, and with it the history is legal and has a
-- ledger
pub record IsNext (tables : LedgerTables) (next : Event) : Type 0 where
  pub room : 1 ≤ tables.history.room
  pub keeps : KeepsOn tables.history.events (next ∷ [])

-- a session begins
pub record EntersNext (tables : LedgerTables) (next : Event) (worker : ℕ) (role : Role) (flags : ℕ)
    : Type 0 where
  pub is : next ≡ event.Enter worker role flags
  pub room : 1 ≤ tables.sessions.room
  pub few : entered_count tables.sessions < most_enters

-- a session ends
abbrev pub IsLeaving : Event → ℕ → Type 0
IsLeaving next session = next ≡ event.Leave session

-- a template's job comes
pub record OffersJob (tables : LedgerTables) (next : Event) (plan : PlannedJob) : Type 0 where
  pub session : ℕ
  pub template : TemplateData
  pub is : next ≡ event.Template session template
  pub planned : IsPlannedAs session (length tables.history.events) (FromTemplate template)
      (script_of (past_in tables)) plan
  pub fits : job_tables.Fits tables.jobs plan

-- a tip makes a job live
pub record TipsJob (tables : LedgerTables) (next : Event) (tip : TipData) : Type 0 where
  pub session : ℕ
  pub is : next ≡ event.Tip session tip
  pub found : IsTrue (is_some (future_in (kept_jobs tables.jobs).future tip.template_id))

-- an event of a channel that is opened, named, classed or closed
abbrev pub IsOfChannels : Event → Type 0
IsOfChannels (event.Open session kind account class lead) = Unit {0}
IsOfChannels (event.Name session channel account) = Unit {0}
IsOfChannels (event.Class session channel class) = Unit {0}
IsOfChannels (event.Close session channel) = Unit {0}
IsOfChannels (event.Start rules) = ⊥
IsOfChannels (event.Enter worker role flags) = ⊥
IsOfChannels (event.Template session template) = ⊥
IsOfChannels (event.Tip session tip) = ⊥
IsOfChannels (event.Leave session) = ⊥
IsOfChannels (event.Credit session channel job nonce ntime version extranonce) = ⊥
IsOfChannels (event.Grant session account fixed path) = ⊥
IsOfChannels (event.Custom session custom) = ⊥

-- a class that is set forgets those that no one asks for within these bounds, and no others
abbrev pub ForgetsWithin : LiveSpan → ChannelPlan → Type 0
ForgetsWithin live (channel_plan.Open at session kind account opened) = Unit {0}
ForgetsWithin live (channel_plan.Name channel account) = Unit {0}
ForgetsWithin live (channel_plan.Class at channel class span) = span ≡ live

-- the open channels are changed as was planned
pub record MovesChannels (tables : LedgerTables) (next : Event) (plan : ChannelPlan) : Type 0 where
  pub only : IsOfChannels next
  pub moves : channel_moves (next ∷ past_in tables)
      ≡ planned_move plan ∷ channel_moves (past_in tables)
  pub ready : CanApply tables.channels plan
  pub asked : IsAskedAsPlanned (is_asked_after (next ∷ past_in tables)) plan
  pub spanned : ForgetsWithin tables.jobs.span plan

-- a session's open channel is closed
pub record ClosesOwn (tables : LedgerTables) (next : Event) (session channel : ℕ) : Type 0 where
  pub is : next ≡ event.Close session channel
  pub own : IsTrue
      (is_some (channel_in (channels_in tables.channels.open_channels session) channel))

-- a planned push as a credit
abbrev pub planned_credit : Planning → Booked
planned_credit plan =
    record {
      account = plan.account;
      work = plan.work;
      reward = option_map (λ block. block.reward) plan.block;
    }

-- a block is settled with the fee of the rules
abbrev pub HasFee : Option BlockPlan → List Event → Type 0
HasFee None past = Unit {0}
HasFee (Some block) past = (rules : Rules) → rules_of past ≡ Some rules → block.fee ≡ rules.fee

-- a share is booked: its credit, its header, and whether it is a block
pub record BooksShare (tables : LedgerTables) (next : Event) (plan : Planning) (header : List ℕ)
    (is_block : Bool) : Type 0 where
  pub session : ℕ
  pub channel : ℕ
  pub job : ℕ
  pub nonce : ℕ
  pub ntime : ℕ
  pub version : ℕ
  pub extranonce : List ℕ
  pub is : next ≡ event.Credit session channel job nonce ntime version extranonce
  pub books : bookings_of (next ∷ past_in tables)
      ≡ planned_credit plan ∷ bookings_of (past_in tables)
  pub adds : headers (next ∷ past_in tables) ≡ header ∷ headers (past_in tables)
  pub block : is_block ≡ is_block_event (past_in tables) next
  pub fee : HasFee plan.block (past_in tables)
  pub fits : tallies.Fits tables.tally plan
  pub room : 1 ≤ tables.headers.room

abbrev pub CreditsShare : LedgerTables → Event → Crediting → Type 0
CreditsShare tables next crediting =
    BooksShare tables next crediting.plan crediting.header crediting.is_block

-- a token is granted
pub record GrantsNext (tables : LedgerTables) (next : Event) (account : List ℕ) (fixed : Bool)
    (path : List (List ℕ)) : Type 0 where
  pub session : ℕ
  pub is : next ≡ event.Grant session account fixed path
  pub room : 1 ≤ tables.grants.room
  pub few : granted_count tables.grants < most_grants

-- a miner's own job comes, and spends its token
pub record BringsJob (tables : LedgerTables) (next : Event) (plan : PlannedJob) (token : List ℕ)
    : Type 0 where
  pub session : ℕ
  pub custom : CustomData
  pub is : next ≡ event.Custom session custom
  pub names : custom.token ≡ token
  pub planned : IsPlannedAs 0 (length tables.history.events) (FromMiner custom)
      (script_of (past_in tables)) plan
  pub fits : job_tables.Fits tables.jobs plan
  pub unspent : MaySpend tables.grants token

-- what the event changes was planned, and can be done
abbrev pub Changes : LedgerTables → Event → Change → Type 0
Changes tables next (change.Enter worker role flags) = EntersNext tables next worker role flags
Changes tables next (change.Leave session) = IsLeaving next session
Changes tables next (change.Template plan) = OffersJob tables next plan
Changes tables next (change.Tip tip) = TipsJob tables next tip
Changes tables next (change.Channel plan) = MovesChannels tables next plan
Changes tables next (change.Close session channel) = ClosesOwn tables next session channel
Changes tables next (change.Credit crediting) = CreditsShare tables next crediting
Changes tables next (change.Grant account fixed path) = GrantsNext tables next account fixed path
Changes tables next (change.Custom plan token) = BringsJob tables next plan token

-- a request's effect is what was answered, or what was planned
abbrev pub IsStep : LedgerTables → Effect → Step → Type 0
IsStep tables effect (step.Answer reply) = effect ≡ without_event reply
IsStep tables effect (step.Move planned) =
    (effect ≡ with_event planned.event planned.reply)
    × Changes tables planned.event planned.change

-- a session's request by the rules of a history; without a Start none has an effect
abbrev pub step_within : Option Rules → List Event → ℕ → Request → Effect
step_within None past session asked = without_event reply.NoSession
step_within (Some rules) past session asked = step_in rules past session asked

-- a session's request is planned by the tables as they were before
abbrev pub IsStepWithin : LedgerTables → LedgerTables → ℕ → Request → Step → Type 0
IsStepWithin old new session asked planned =
    IsStep new (step_within (rules_of (past_in old)) (past_in old) session asked) planned

-- the events that a step adds, and its reply
abbrev pub events_of : Step → List Event
events_of (step.Answer reply) = []
events_of (step.Move planned) = planned.event ∷ []

abbrev pub reply_of : Step → Reply
reply_of (step.Answer reply) = reply
reply_of (step.Move planned) = planned.reply

-- the step can be made
abbrev pub IsReady : LedgerTables → Step → Type 0
IsReady tables (step.Answer reply) = Unit {0}
IsReady tables (step.Move planned) =
    IsNext tables planned.event × Changes tables planned.event planned.change

-- a step that was planned is made: its reply is answered, and its events are added
abbrev pub MakesStep :
    {E : Type 0} → Result Step E → List Event → List Event → Reply → Type 0
MakesStep (Ok planned) old new answer =
    (answer ≡ reply_of planned) × (new ≡ old ++ events_of planned)
MakesStep (Err error) old new answer = ⊥
