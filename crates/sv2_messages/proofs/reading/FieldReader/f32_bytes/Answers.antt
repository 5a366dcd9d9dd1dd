use Rattle.std.proofs.Common.{refl}
use Rattle.sv2_types.specs.Fields.{F32, Bytes}
use Rattle.sv2_messages.proofs.Steps.{passed, refused}
use Rattle.sv2_messages.proofs.reading.FieldReader.f32_bytes.Goals as goal

pub returns-in-Ok-clause-value : goal.returns-in-Ok-clause-value
returns-in-Ok-clause-value c =
    passed F32 (Bytes c.in-Ok.value) c.in-Ok.value _ _ _ _ _ _ _
    (record { admits = c.in-Ok.ensures.fits; form = refl }) c.self.view_is c.new-reader.ensures c.in-Ok.ensures.spelled c.at.ensures c.pass.ensures

pub returns-in-Err-clause-value : goal.returns-in-Err-clause-value
returns-in-Err-clause-value c = refused F32 _ _ _ _ _ c.self.view_is c.new-reader.ensures c.in-Err.ensures.refused
