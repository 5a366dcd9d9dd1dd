use Rattle.std.proofs.Common.{◌∙◌, ◌++◌, map, ap, sym}
use Rattle.std.proofs.lemmas.List.{map-id, take_more}
use Rattle.block_header.specs.Hash.{dsha}
use Rattle.share_headers.proofs.Rows.{roots_more}
use Rattle.share_headers.proofs.roots.roots_of.Goals as goal

pub up-init : goal.up-init
up-init c = sym (map-id c.args.ids.now)

pub up-preserved : goal.up-preserved
up-preserved c =
    c.parents_of-hashes.ensures
    ∙ ap (map (λ hash. dsha (hash ++ _))) c.up.invariant
    ∙ roots_more c.args.path.now c.up.sibling-index _ c.args.ids.now
    (take_more c.args.path.now c.up.sibling-index _ c.up-test.true)
