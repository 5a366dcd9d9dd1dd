use Rattle.std.proofs.Common.{◌∙◌, [], ◌∷◌}
use Rattle.block_header.specs.Hash.{dsha}
use Rattle.job_declaration.proofs.Trees.{eight_above}
use Rattle.job_declaration.proofs.paths.hashes_above.Goals as goal

pub returns : goal.returns
returns c =
    c.double_64.ensures
    ∙ (λ t. dsha (c.pair_of.ensures t) ∷ dsha (c.pair_of-2.ensures t) ∷ dsha (c.pair_of-3.ensures t)
    ∷ dsha (c.pair_of-4.ensures t) ∷ [])
    ∙ eight_above c.args.eight.now c.requires
