use Rattle.std.proofs.Common.{refl}
use Rattle.sv2_types.specs.Fields.{SEQ0_64K_U16, Numbers}
use Rattle.sv2_types.specs.Spelling.{spelled_seq_u16}
use Rattle.sv2_types.specs.Reading.{numbers_of}
use Rattle.sv2_messages.proofs.Steps.{passed, refused}
use Rattle.sv2_messages.proofs.reading.FieldReader.seq_u16.Goals as goal

pub returns-in-Ok-clause-value : goal.returns-in-Ok-clause-value
returns-in-Ok-clause-value c =
    passed SEQ0_64K_U16 (Numbers (numbers_of c.in-Ok.value.spelled.now)) (spelled_seq_u16 (numbers_of c.in-Ok.value.spelled.now)) _ _ _ _ _ _ _
    (record { admits = c.in-Ok.ensures.fits; form = refl }) c.self.view_is c.new-reader.ensures c.in-Ok.ensures.spelled c.at.ensures c.pass.ensures

pub returns-in-Err-clause-value : goal.returns-in-Err-clause-value
returns-in-Err-clause-value c = refused SEQ0_64K_U16 _ _ _ _ _ c.self.view_is c.new-reader.ensures c.in-Err.ensures.refused
