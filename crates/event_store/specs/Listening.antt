-- A channel as news are made for it (this project's own).
use Rattle.std.specs.Prelude.{ℕ, List}
use Rattle.pool_history.specs.declared.events.Kind.{Kind}

-- its id, its kind and its lead
pub record Listening : Type 0 where
  pub id : ℕ
  pub kind : Kind
  pub lead : List ℕ
