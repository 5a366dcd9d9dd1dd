use Rattle.pool_commands.proofs.Running.{others, servings, sessions}
use Rattle.pool_commands.proofs.durable_laws.commands_are_runs.Goals as goal

pub returns-clause-sessions : goal.returns-clause-sessions
returns-clause-sessions c = sessions

pub returns-clause-servings : goal.returns-clause-servings
returns-clause-servings c = servings

pub returns-clause-others : goal.returns-clause-others
returns-clause-others c = others
