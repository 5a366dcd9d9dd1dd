use Rattle.std.proofs.Common.{refl}
use Rattle.sv2_types.specs.Fields.{SEQ0_255_U256, Parts}
use Rattle.sv2_types.specs.Spelling.{spelled_seq_u256}
use Rattle.sv2_messages.proofs.Steps.{passed, refused}
use Rattle.sv2_messages.proofs.reading.FieldReader.seq_u256.Goals as goal

pub returns-in-Ok-clause-value : goal.returns-in-Ok-clause-value
returns-in-Ok-clause-value c =
    passed SEQ0_255_U256 (Parts c.in-Ok.value.items.now) (spelled_seq_u256 c.in-Ok.value.items.now) _ _ _ _ _ _ _
    (record { admits = c.in-Ok.ensures.fits; form = refl }) c.self.view_is c.new-reader.ensures c.in-Ok.ensures.spelled c.at.ensures c.pass.ensures

pub returns-in-Err-clause-value : goal.returns-in-Err-clause-value
returns-in-Err-clause-value c = refused SEQ0_255_U256 _ _ _ _ _ c.self.view_is c.new-reader.ensures c.in-Err.ensures.refused
