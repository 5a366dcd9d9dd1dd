use Rattle.std.proofs.Common.{refl}
use Rattle.sv2_types.specs.Fields.{OPTION_U32, Perhaps}
use Rattle.sv2_types.specs.Spelling.{spelled_option_u32}
use Rattle.sv2_messages.proofs.Steps.{passed, refused}
use Rattle.sv2_messages.proofs.reading.FieldReader.option_u32.Goals as goal

pub returns-in-Ok-clause-value : goal.returns-in-Ok-clause-value
returns-in-Ok-clause-value c =
    passed OPTION_U32 (Perhaps c.in-Ok.value) (spelled_option_u32 c.in-Ok.value) _ _ _ _ _ _ _
    (record { admits = c.in-Ok.ensures.fits; form = refl }) c.self.view_is c.new-reader.ensures c.in-Ok.ensures.spelled c.at.ensures c.pass.ensures

pub returns-in-Err-clause-value : goal.returns-in-Err-clause-value
returns-in-Err-clause-value c = refused OPTION_U32 _ _ _ _ _ c.self.view_is c.new-reader.ensures c.in-Err.ensures.refused
