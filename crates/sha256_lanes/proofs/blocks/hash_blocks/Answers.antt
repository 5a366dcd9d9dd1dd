use Rattle.std.proofs.Common.{◌∙◌, sym, refl}
use Rattle.sha2.specs.Sha256.{compress, hash_after}
use Rattle.sha2.proofs.Absorbing256.{hash_after_next}
use Rattle.sha256_lanes.specs.Lanes.{lane}
use Rattle.sha256_lanes.proofs.blocks.hash_blocks.Goals as goal

pub each-init : goal.each-init
unfolding hash_after
each-init c = λ k lt. refl

pub each-preserved : goal.each-preserved
each-preserved c = λ k lt.
    c.compress_alike-next.ensures k lt
    ∙ (λ t. compress (c.each.invariant k lt t) (c.block_at.ensures t))
    ∙ sym (hash_after_next (lane k c.args.state) c.args.bytes.now c.each.i)
