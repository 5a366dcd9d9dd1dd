-- What the telling of an event takes from a legal history (this project's own). That a legal
-- history gives it is proved.
use Rattle.std.specs.Prelude.{◌≡◌, ℕ, ◌-◌, ◌^◌, ◌≤◌, Option, None, Some, List, [], length, slice_get, take}
use Rattle.std.specs.List.{AllByRecursion}
use Rattle.history_laws.specs.Fitting.{ScriptFits}
use Rattle.history_laws.specs.News.{owed_at}
use Rattle.pool_history.specs.declared.events.Event.{Event}
use Rattle.pool_history.specs.declared.events.Event.TheVariants as event
use Rattle.pool_history.specs.declared.settings.Rules.{Rules}
use Rattle.pool_history.specs.declared.telling.Note.{Note}
use Rattle.pool_history.specs.declared.templates.TemplateData.{TemplateData}
use Rattle.pool_history.specs.Headers.{rolled_length}
use Rattle.event_store.specs.declared.marks.OpeningMark.{OpeningMark}
use Rattle.event_store.specs.Chains.{MarksAreChained}
use Rattle.event_store.specs.Index.{IndexParts}
use Rattle.event_store.specs.Told.{IsAccepted, event_template}

-- the future templates of an opening are among those that are kept
pub record HasFutures (count : ℕ) (mark : OpeningMark) : Type 0 where
  pub in_order : mark.first_future ≤ mark.end_future
  pub within : mark.end_future ≤ count

-- each template was accepted by the pool's script, the marks are chained, and the numbers of the
-- sessions leave room for those of the groups
pub record CanTell (rules : Rules) (events : List Event) (index : IndexParts) : Type 0 where
  pub script : ScriptFits rules.pool_script
  pub accepted : (at : ℕ) (template : TemplateData)
      → event_template (slice_get events at) ≡ Some template
      → IsAccepted rules.pool_script template
  pub chained : MarksAreChained index
  pub few : length index.sessions ≤ 2 ^ 31
  pub futures : AllByRecursion (HasFutures (length index.futures)) index.openings

-- a credit has the bytes that its channel rolls
abbrev pub RollsItsBytes : IndexParts → Event → Type 0
RollsItsBytes index (event.Credit session channel job nonce ntime version extranonce) =
    (mark : OpeningMark) → slice_get index.openings (channel - 1) ≡ Some mark
    → length extranonce ≡ rolled_length mark.listener.kind mark.listener.lead
RollsItsBytes index event = Unit {0}

-- what is owed to a session for the event at a place
abbrev pub owed_in : List Event → ℕ → ℕ → Option Event → List Note
owed_in events at session None = []
owed_in events at session (Some event) = owed_at (take at events) event session
