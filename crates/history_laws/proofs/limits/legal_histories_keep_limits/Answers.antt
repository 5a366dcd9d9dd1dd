use Rattle.history_laws.proofs.Spending.{limits-kept}
use Rattle.history_laws.proofs.limits.legal_histories_keep_limits.Goals as goal

pub returns : goal.returns
returns c = limits-kept
