use Rattle.std.proofs.Common.{◌∙◌, ap, arith}
use Rattle.sha2.specs.Sha256.{compress}
use Rattle.sha256_lanes.proofs.kept.Kept.behind.Goals as goal

pub returns : goal.returns
returns c = record {
  long = c.told-block;
  compressed = c.first_lane.ensures ∙ c.compress-state.ensures 0 (omega arith)
      ∙ ap (λ h. compress h c.args.block.now) (c.initial_hash.ensures 0 (omega arith));
}
