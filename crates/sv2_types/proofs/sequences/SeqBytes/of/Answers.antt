use Rattle.sv2_types.proofs.Items.{parts_size-spelled}
use Rattle.sv2_types.proofs.sequences.SeqBytes.of.Goals as goal

pub spelled_parts-requires : goal.spelled_parts-requires
spelled_parts-requires c = parts_size-spelled c.args.count c.args.spelled.now c.requires

pub invariant_of-result : goal.invariant_of-result
invariant_of-result c = record { whole = rw c.spelled_parts.ensures.value (parts_size-spelled c.args.count c.args.spelled.now c.requires) }
