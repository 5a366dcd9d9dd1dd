use Rattle.sv2_types.specs.Fields.{BOOL, Truth}
use Rattle.sv2_messages.proofs.Steps.{passed, refused}
use Rattle.sv2_messages.proofs.reading.FieldReader.boolean.Goals as goal

pub returns-in-Ok-clause-value : goal.returns-in-Ok-clause-value
returns-in-Ok-clause-value c =
    let moved = c.in-Ok.ensures.spelled in
    passed BOOL (Truth c.in-Ok.value) moved.0 _ _ _ _ _ _ _
    (record { admits = tt; form = moved.1 }) c.self.view_is c.new-reader.ensures moved.2 c.at.ensures c.pass.ensures

pub returns-in-Err-clause-value : goal.returns-in-Err-clause-value
returns-in-Err-clause-value c = refused BOOL _ _ _ _ _ c.self.view_is c.new-reader.ensures c.in-Err.ensures.refused
