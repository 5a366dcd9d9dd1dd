-- What jobs give to a merkle root (this project's own).
use Rattle.std.specs.Prelude.{◌≡◌}
use Rattle.pool_history.specs.declared.shares.RootSource.{RootSource}

-- two give the same bytes: round the extranonce, and on the way up to the root
pub record HaveSameBytes (root other : RootSource) : Type 0 where
  pub path_is : root.path ≡ other.path
  pub prefix_is : root.coinbase.prefix ≡ other.coinbase.prefix
  pub suffix_is : root.coinbase.suffix ≡ other.coinbase.suffix
