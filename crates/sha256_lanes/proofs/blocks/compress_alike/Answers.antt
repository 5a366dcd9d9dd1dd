use Rattle.std.proofs.Common.{[], ◌∙◌, ap}
use Rattle.std.proofs.lemmas.List.{get_or-replicate}
use Rattle.sha2.specs.Sha256.{compress}
use Rattle.sha256_lanes.specs.Lanes.{lane}
use Rattle.sha256_lanes.proofs.blocks.compress_alike.Goals as goal

pub returns : goal.returns
returns c = λ l lt.
    c.compress.ensures l lt
    ∙ ap (compress (lane l c.args.state)) (get_or-replicate 4 l c.args.block.now [] lt)
