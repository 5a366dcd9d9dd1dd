-- What an event needs to be marked (this project's own). That a legal one has it is proved.
use Rattle.std.specs.Prelude.{ℕ, ◌-◌, ◌<◌, ◌≤◌, ◌^◌, List, length}
use Rattle.pool_history.specs.declared.events.Event.{Event}
use Rattle.pool_history.specs.declared.events.Event.TheVariants as event
use Rattle.pool_history.specs.declared.events.Kind.{Kind}
use Rattle.pool_history.specs.Headers.{IsBriefing}
use Rattle.event_store.specs.Index.{IndexParts}

-- an opening has a lead of its kind, and an id
pub record CanMarkOpening (index : IndexParts) (kind : Kind) (lead : List ℕ) : Type 0 where
  pub few : length index.openings < 2 ^ 32 - 1
  pub some : 1 ≤ length lead
  pub most : length lead ≤ 4
  pub whole : IsBriefing kind lead

-- so an event can be marked: the numbers of jobs and channels have room
abbrev pub CanMark : IndexParts → Event → Type 0
CanMark index (event.Template session template) = length index.jobs < 2 ^ 32 - 1
CanMark index (event.Custom session custom) = length index.jobs < 2 ^ 32 - 1
CanMark index (event.Open session kind account class lead) = CanMarkOpening index kind lead
CanMark index event = Unit {0}
