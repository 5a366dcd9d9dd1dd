use Rattle.std.proofs.Common.{◌≡◌, ◌*◌, ◌/◌, length, arith}
use Rattle.sv2_types.proofs.Items.{flat_map-first_chunks, first_chunks-fit}
use Rattle.sv2_types.proofs.sequences.hashes_of.Goals as goal

pub returns-clause-items : goal.returns-clause-items
returns-clause-items c =
    let bytes = c.args.bytes.now in
    let whole : length bytes ≡ 32 * (length bytes / 32) = omega (arith, c.requires) in
    rw c.as_chunks.ensures.front (flat_map-first_chunks (length bytes / 32) bytes whole)

pub returns-clause-fits : goal.returns-clause-fits
returns-clause-fits c =
    let bytes = c.args.bytes.now in
    let whole : length bytes ≡ 32 * (length bytes / 32) = omega (arith, c.requires) in
    rw c.as_chunks.ensures.front (first_chunks-fit (length bytes / 32) bytes whole)
