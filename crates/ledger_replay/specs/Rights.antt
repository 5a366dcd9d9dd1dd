-- What a session has to be entered with (this project's own).
use Rattle.std.specs.Prelude.{Bool}
use Rattle.pool_history.specs.Legal.{may_anything, may_feed, may_mine, may_select_work}
use Rattle.pool_history.specs.Sessions.{Entrance}
use Rattle.ledger_replay.specs.declared.sessions_by.Right.{Right}
use Rattle.ledger_replay.specs.declared.sessions_by.Right.TheVariants as right

-- the condition of each right
abbrev pub right_test : Right → Entrance → Bool
right_test right.Present = may_anything
right_test right.Feed = may_feed
right_test right.Mine = may_mine
right_test right.SelectWork = may_select_work
