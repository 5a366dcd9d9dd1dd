-- What a feed knows between two frames (this project's own).
use Rattle.std.specs.Prelude.{ℕ, Bool, Option, List}
use Rattle.test_miner.specs.declared.feed.FeedEnd.{FeedEnd}
use Rattle.test_miner.specs.declared.feed.Verdict.{Verdict}
use Rattle.test_miner.specs.ScriptValues.{ScriptValue}

pub record FeedState : Type 0 where
  pub script : ScriptValue
  -- whether its caller has set up
  pub is_set_up : Bool
  -- what came of the solutions so far, in their order
  pub verdicts : List Verdict
  -- how it ended, if it has
  pub end : Option FeedEnd
