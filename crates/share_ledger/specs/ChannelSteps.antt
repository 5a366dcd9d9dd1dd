-- The steps that planned changes of channels make (this project's own).
use Rattle.std.specs.Prelude.{ℕ, Option, None, Some, is_some, IsTrue}
use Rattle.pool_history.specs.declared.events.Event.{Event}
use Rattle.pool_history.specs.declared.events.Event.TheVariants as event
use Rattle.pool_history.specs.declared.replies.Opened.{Opened}
use Rattle.pool_history.specs.declared.replies.Reply.TheVariants as reply
use Rattle.channels.specs.declared.plan.ChannelPlan.{ChannelPlan}
use Rattle.channels.specs.declared.plan.ChannelPlan.TheVariants as plan
use Rattle.share_ledger.specs.declared.planning.Change.TheVariants as change
use Rattle.share_ledger.specs.declared.planning.Step.{Step}
use Rattle.share_ledger.specs.declared.planning.Step.TheVariants as step

-- the event of a planned opening, and what it gives
abbrev pub opening_of : ChannelPlan → Option (Event × Opened)
opening_of (plan.Open at session kind account opened) =
    Some (event.Open session kind account opened.class opened.lead, opened)
opening_of (plan.Name channel account) = None
opening_of (plan.Class at channel class span) = None

abbrev pub IsOpeningPlan : ChannelPlan → Type 0
IsOpeningPlan planned = IsTrue (is_some (opening_of planned))

-- the event of a planned naming in a session
abbrev pub named_account : ℕ → ChannelPlan → Option Event
named_account session (plan.Open at opening kind account opened) = None
named_account session (plan.Name channel account) = Some (event.Name session channel account)
named_account session (plan.Class at channel class span) = None

abbrev pub IsNamingPlan : ChannelPlan → Type 0
IsNamingPlan planned = IsTrue (is_some (named_account 0 planned))

-- the steps: an opening, a naming, and a class that is set
abbrev pub open_step_by : ChannelPlan → Option (Event × Opened) → Step
open_step_by planned None = step.Answer reply.NoSession
open_step_by planned (Some (made, opened)) =
    step.Move (record { event = made; change = change.Channel planned; reply = reply.Opened opened })

abbrev pub open_step : ChannelPlan → Step
open_step planned = open_step_by planned (opening_of planned)

abbrev pub name_step_by : ChannelPlan → Option Event → Step
name_step_by planned None = step.Answer reply.NoSession
name_step_by planned (Some made) =
    step.Move (record { event = made; change = change.Channel planned; reply = reply.Named })

abbrev pub name_step : ℕ → ChannelPlan → Step
name_step session planned = name_step_by planned (named_account session planned)

abbrev pub class_step : ℕ → ℕ → ℕ → ChannelPlan → Step
class_step session channel class planned =
    step.Move (record {
      event = event.Class session channel class;
      change = change.Channel planned;
      reply = reply.Target channel class;
    })
