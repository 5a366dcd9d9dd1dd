-- What is kept of the events of a pool (this project's own).
use Rattle.std.specs.Prelude.{◌≡◌, ℕ, ◌<◌, ◌≤◌, ◌^◌, List, length}
use Rattle.pool_history.specs.declared.events.Event.{Event}
use Rattle.pool_history.specs.Legal.{Legal}
use Rattle.pool_history.specs.Sessions.{past_of}
use Rattle.event_store.specs.Index.{IndexParts, details_of, index_of}
use Rattle.event_store.specs.Places.{common_places}

-- the events, and for how many more there is room
pub record KeptHistory : Type 0 where
  pub events : List Event
  pub room : ℕ

-- they are legal, and so the first of them is the Start; their number has a limit; the details,
-- the marks and the places of what may be news to any session are theirs
pub record IsKeptHistory (events : List Event) (details : List ℕ) (index : IndexParts)
    (common : List ℕ) : Type 0 where
  pub legal : Legal events
  pub started : 1 ≤ length events
  pub few : length events < 2 ^ 62
  pub detailed : details ≡ details_of (past_of events)
  pub marked : index ≡ index_of (past_of events)
  pub listed : common ≡ common_places (past_of events)
