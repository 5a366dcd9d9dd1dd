use Rattle.block_header.proofs.Targets.{class_where_reached, class_where_not}
use Rattle.block_header.proofs.target.class_of_bytes.Goals as goal

pub returns-then-is_at_most : goal.returns-then-is_at_most
returns-then-is_at_most c =
    class_where_reached c.args.bytes.now c.target_bytes.result _ c.is_at_most.result (record { whole = c.told-bytes; bytes = c.fits-bytes })
    c.zero_bits-zeros.ensures.value c.target_bytes.ensures c.is_at_most.ensures c.if-is_at_most.true

pub returns-else-is_at_most : goal.returns-else-is_at_most
returns-else-is_at_most c =
    class_where_not c.args.bytes.now c.target_bytes.result _ c.is_at_most.result (record { whole = c.told-bytes; bytes = c.fits-bytes })
    c.zero_bits-zeros.ensures.value c.target_bytes.ensures c.is_at_most.ensures c.if-is_at_most.false
