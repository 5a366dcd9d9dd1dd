use Rattle.history_laws.proofs.RebuiltWith.{bookings-placed}
use Rattle.history_laws.proofs.conditions.bookings_by_places.Goals as goal

pub returns : goal.returns
returns c = bookings-placed
