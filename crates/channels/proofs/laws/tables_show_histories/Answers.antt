use Rattle.std.proofs.Common.{◌∙◌}
use Rattle.history_laws.proofs.Stepping.{opened-opens}
use Rattle.channels.proofs.laws.tables_show_histories.Goals as goal

pub returns : goal.returns
returns c is_asked table past told = record {
  opened_are = told.opened_are ∙ opened-opens past;
  channels_are = told.channels_are;
}
