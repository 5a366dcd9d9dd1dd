use Rattle.stream_programs.specs.OneReading.{one_reading}
use Rattle.stream_programs.proofs.laws.has_one_reading.Goals as goal

pub returns : goal.returns
returns c = one_reading
