use Rattle.history_laws.proofs.Spending.{tokens-spent_once}
use Rattle.history_laws.proofs.limits.jobs_spend_tokens.Goals as goal

pub returns : goal.returns
returns c = tokens-spent_once
