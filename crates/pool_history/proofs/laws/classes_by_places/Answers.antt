use Rattle.pool_history.proofs.PlacesOfClasses.{classes_are_by_places}
use Rattle.pool_history.proofs.laws.classes_by_places.Goals as goal

pub returns : goal.returns
returns c = classes_are_by_places
