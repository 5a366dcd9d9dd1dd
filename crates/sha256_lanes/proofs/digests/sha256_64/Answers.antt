use Rattle.std.proofs.Common.{◌∙◌}
use Rattle.sha256_lanes.proofs.Whole.{digests_are}
use Rattle.sha256_lanes.proofs.digests.sha256_64.Goals as goal

pub returns : goal.returns
returns c = c.digests_of.ensures
    ∙ digests_are (λ m. m) c.hash_64.result c.args.messages.now c.told-messages c.hash_64.ensures
