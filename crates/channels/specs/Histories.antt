-- The tables of histories (this project's own).
use Rattle.std.specs.Prelude.{◌≡◌, ℕ, Bool, List}
use Rattle.pool_history.specs.declared.events.Event.{Event}
use Rattle.pool_history.specs.Channels.{channel_moves, channels_of}
use Rattle.pool_history.specs.Sessions.{opens}
use Rattle.channels.specs.Tables.{AllAnswerFor, ChannelTable, IsTold}

-- a table shows the openings of a history, the last event first, and channels that answer for the
-- open ones, where classes may be asked for at these places
pub record ShowsHistory (is_asked : ℕ → Bool) (table : ChannelTable) (past : List Event)
    : Type 0 where
  pub opened_are : table.opened ≡ opens past
  pub channels_are : AllAnswerFor is_asked table.open_channels (channels_of past)

-- a table that was told the moves of a history shows it
abbrev pub TablesShowHistories : Type 0
TablesShowHistories =
    (is_asked : ℕ → Bool) (table : ChannelTable) (past : List Event)
    → IsTold is_asked table (channel_moves past)
    → ShowsHistory is_asked table past
