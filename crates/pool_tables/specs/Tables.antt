-- What a table of sessions shows (this project's own).
use Rattle.std.specs.Prelude.{◌≡◌, ℕ, ◌≤◌, Bool, true, false, Option, Some, List, ◌∷◌, length, nat_eq, slice_get}
use Rattle.std.specs.Map.{lookup}
use Rattle.std.specs.Option.{option_map}
use Rattle.pool_history.specs.declared.events.Event.{Event}
use Rattle.pool_history.specs.declared.events.Event.TheVariants as event
use Rattle.pool_history.specs.Refusing.{most_enters}
use Rattle.pool_history.specs.Sessions.{Entrance, enters, entrance, present}

-- what each session was entered with, by its number, and each worker that has a session present
-- with it, in whatever order
pub record SessionTable : Type 0 where
  pub entrances : List Entrance
  pub presents : List (ℕ × ℕ)
  -- so many sessions need no memory
  pub room : ℕ

-- how many sessions were entered, a worker's present one, and what one was entered with
abbrev pub entered_count : SessionTable → ℕ
entered_count table = length table.entrances

abbrev pub present_in : SessionTable → ℕ → Option ℕ
present_in table worker = lookup (nat_eq worker) table.presents

abbrev pub entrance_in : SessionTable → ℕ → Option Entrance
entrance_in table session = slice_get table.entrances session

-- nothing changed but the room
pub record ShowsSameSessions (old new : SessionTable) : Type 0 where
  pub entrances_stay : new.entrances ≡ old.entrances
  pub presents_stay : new.presents ≡ old.presents

-- a table shows the sessions of a history, whose last event stands first
pub record ShowsSessions (table : SessionTable) (past : List Event) : Type 0 where
  pub count_is : entered_count table ≡ enters past
  pub presents_are : (worker : ℕ) → present_in table worker ≡ present past worker
  pub entrances_are : (session : ℕ) → entrance_in table session ≡ entrance past session

-- the kept parts fit each other: there are not too many sessions, and a session that is present
-- was entered by its worker
pub record HasOwnPresents (entrances : List Entrance) (presents : List (ℕ × ℕ)) : Type 0 where
  pub few : length entrances ≤ most_enters
  pub own : (worker session : ℕ) → lookup (nat_eq worker) presents ≡ Some session
      → option_map (λ entered. entered.worker) (slice_get entrances session) ≡ Some worker

-- an event by which a session begins or ends
abbrev pub moves_sessions : Event → Bool
moves_sessions (event.Enter worker role flags) = true
moves_sessions (event.Leave session) = true
moves_sessions event = false

-- any other leaves what is shown
abbrev pub OtherEventsLeaveSessions : Type 0
OtherEventsLeaveSessions =
    (table : SessionTable) (past : List Event) (event : Event) → moves_sessions event ≡ false
    → ShowsSessions table past → ShowsSessions table (event ∷ past)
