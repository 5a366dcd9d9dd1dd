use Rattle.sv2_messages.proofs.Steps.{ended, trails}
use Rattle.sv2_messages.proofs.reading.FieldReader.end.Goals as goal

pub returns-in-empty : goal.returns-in-empty
returns-in-empty c = ended _ _ _ c.self.view_is c.in-empty.len_below

pub returns-in_default : goal.returns-in_default
returns-in_default c = trails _ _ _ c.self.view_is c.in_default.len_at_least
