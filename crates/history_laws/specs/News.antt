-- What is owed to a session, place by place, and that it goes on where it ended (this project's
-- own). The news of one event is computed in `NewsRows` of `pool_history`.
use Rattle.std.specs.Prelude.{◌≡◌, ℕ, ◌≤◌, if◌then◌else◌, List, [], ◌∷◌, ◌++◌, length, nat_le}
use Rattle.pool_history.specs.declared.events.Event.{Event}
use Rattle.pool_history.specs.declared.telling.Note.{Note}
use Rattle.pool_history.specs.News.{news, owed_notes}
use Rattle.pool_history.specs.Sessions.{past_of, rules_of}

-- what a session is owed for an event that stands behind these: by the history up to and with that
-- event, and by nothing that comes later
abbrev pub owed_at : List Event → Event → ℕ → List Note
owed_at before event session =
    owed_notes (rules_of (event ∷ past_of before)) event (past_of before) session

-- what is owed of these events behind those, for each once and in their order, from a place on
abbrev pub owed_from : ℕ → List Event → List Event → ℕ → List Note
owed_from from before [] session = []
owed_from from before (event ∷ more) session =
    (if nat_le from (length before) then owed_at before event session else [])
    ++ owed_from from (before ++ event ∷ []) more session

-- so the news are
abbrev pub NewsByPlaces : Type 0
NewsByPlaces =
    (history : List Event) (from session : ℕ)
    → news from (past_of history) session ≡ owed_from from [] history session

-- what is owed from a place on over a longer history is what the shorter one owes, and then what is
-- owed from its length on: a poll that goes on where the last one ended misses nothing and is told
-- nothing twice
abbrev pub NewsGoOn : Type 0
NewsGoOn =
    (history more : List Event) (from session : ℕ) → from ≤ length history
    → news from (past_of (history ++ more)) session
    ≡ news from (past_of history) session
    ++ news (length history) (past_of (history ++ more)) session
