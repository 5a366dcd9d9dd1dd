use Rattle.std.proofs.Common.{refl}
use Rattle.sv2_types.specs.Fields.{B0_32, Bytes}
use Rattle.sv2_types.specs.Spelling.{spelled_b255}
use Rattle.sv2_messages.proofs.Steps.{passed, refused}
use Rattle.sv2_messages.proofs.reading.FieldReader.b32.Goals as goal

pub returns-in-Ok-clause-value : goal.returns-in-Ok-clause-value
returns-in-Ok-clause-value c =
    passed B0_32 (Bytes c.in-Ok.value.now) (spelled_b255 c.in-Ok.value.now) _ _ _ _ _ _ _
    (record { admits = c.in-Ok.ensures.fits; form = refl }) c.self.view_is c.new-reader.ensures c.in-Ok.ensures.spelled c.at.ensures c.pass.ensures

pub returns-in-Err-clause-value : goal.returns-in-Err-clause-value
returns-in-Err-clause-value c = refused B0_32 _ _ _ _ _ c.self.view_is c.new-reader.ensures c.in-Err.ensures.refused
