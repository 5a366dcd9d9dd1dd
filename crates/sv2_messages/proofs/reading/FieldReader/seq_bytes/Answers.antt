use Rattle.std.proofs.Common.{refl}
use Rattle.sv2_types.specs.Fields.{SEQ0_64K_B0_16M, Parts}
use Rattle.sv2_types.specs.Spelling.{spelled_seq_bytes}
use Rattle.sv2_types.specs.Reading.{parts_at}
use Rattle.sv2_messages.proofs.Steps.{passed, refused}
use Rattle.sv2_messages.proofs.reading.FieldReader.seq_bytes.Goals as goal

pub returns-in-Ok-clause-value : goal.returns-in-Ok-clause-value
returns-in-Ok-clause-value c =
    passed SEQ0_64K_B0_16M (Parts (parts_at c.in-Ok.value.count c.in-Ok.value.spelled.now)) (spelled_seq_bytes (parts_at c.in-Ok.value.count c.in-Ok.value.spelled.now)) _ _ _ _ _ _ _
    (record { admits = c.in-Ok.ensures.fits; form = refl }) c.self.view_is c.new-reader.ensures c.in-Ok.ensures.spelled c.at.ensures c.pass.ensures

pub returns-in-Err-clause-value : goal.returns-in-Err-clause-value
returns-in-Err-clause-value c = refused SEQ0_64K_B0_16M _ _ _ _ _ c.self.view_is c.new-reader.ensures c.in-Err.ensures.refused
