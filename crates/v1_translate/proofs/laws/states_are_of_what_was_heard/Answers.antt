use Rattle.v1_translate.proofs.States.{of_what_was_heard}
use Rattle.v1_translate.proofs.laws.states_are_of_what_was_heard.Goals as goal

pub returns : goal.returns
returns c = of_what_was_heard
