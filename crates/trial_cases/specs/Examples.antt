-- The rules that the examples and the benchmarks begin with (this project's own).
use Rattle.std.specs.Prelude.{ℕ, Bool, None, [], ◌∷◌}
use Rattle.pool_history.specs.declared.settings.Rules.{Rules}

-- the worked session's rules, but for the rolling of versions and the limit of credits: the script is
-- OP_TRUE, no class is too easy, one percent stays with the pool, the rule is the proportional one,
-- and each account is known
abbrev pub rules_of_example : Bool → ℕ → Rules
rules_of_example rolled limit = record {
  pool_script = 81 ∷ [];
  least_class = 0;
  fee = 100;
  window = None;
  ntime_window = 600;
  credit_limit = limit;
  version_rolling = rolled;
  users = [];
}
