use Rattle.pool_history.proofs.PlacesOfStates.{states_are_by_places}
use Rattle.pool_history.proofs.laws.states_by_places.Goals as goal

pub returns : goal.returns
returns c = states_are_by_places
