use Rattle.serde_json.specs.View.{view}
use Rattle.pool_settings.proofs.Between.{answered-in_range}
use Rattle.pool_settings.proofs.reading.read_settings.Goals as goal

pub returns-in-Ok-clause-ranges : goal.returns-in-Ok-clause-ranges
returns-in-Ok-clause-ranges c = answered-in_range (view c.in-Ok.value) c.settings_of.result c.settings_of.ensures
