use Rattle.std.proofs.Common.{◌∙◌, ◌++◌, map, ap}
use Rattle.block_header.specs.Hash.{dsha}
use Rattle.share_headers.proofs.Rows.{map_twice}
use Rattle.share_headers.proofs.roots.parents_of.Goals as goal

pub returns : goal.returns
returns c =
    c.double_64.ensures ∙ ap (map dsha) c.pairs_of.ensures
    ∙ map_twice dsha (λ hash. hash ++ c.args.sibling.now) c.args.hashes.now
