use Rattle.std.proofs.Common.{refl, arith}
use Rattle.sv2_types.specs.Fields.{U64, Number}
use Rattle.sv2_types.specs.Spelling.{spelled_u64}
use Rattle.sv2_messages.proofs.Steps.{passed, refused}
use Rattle.sv2_messages.proofs.reading.FieldReader.u64.Goals as goal

pub returns-in-Ok-clause-value : goal.returns-in-Ok-clause-value
returns-in-Ok-clause-value c =
    passed U64 (Number c.in-Ok.value) (spelled_u64 c.in-Ok.value) _ _ _ _ _ _ _
    (record { admits = omega arith; form = refl }) c.self.view_is c.new-reader.ensures c.in-Ok.ensures.spelled c.at.ensures c.pass.ensures

pub returns-in-Err-clause-value : goal.returns-in-Err-clause-value
returns-in-Err-clause-value c = refused U64 _ _ _ _ _ c.self.view_is c.new-reader.ensures c.in-Err.ensures.refused
