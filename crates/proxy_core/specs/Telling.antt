-- What a miner's session makes of what it hears.
use Rattle.std.specs.Prelude.{◌≡◌, ℕ, List}
use Rattle.v1_translate.specs.State.{Reaction}
use Rattle.v1_translate.specs.Saying.{with_lines}
use Rattle.proxy_rules.specs.State.{Session}

-- it is in the state behind a reaction, its seat is as before, and the lines were appended
pub record Hears (reaction : Reaction) (old new : Session) (before said : List ℕ) : Type 0 where
  pub session : new ≡ record { seat = old.seat; v1 = reaction.after }
  pub lines : said ≡ with_lines before reaction.says
