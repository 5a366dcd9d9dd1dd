use Rattle.std.proofs.Common.{◌∙◌, [], get_or}
use Rattle.sha2.specs.Sha256.{sha256}
use Rattle.sha256_lanes.proofs.Whole.{digests_are}
use Rattle.sha256_lanes.proofs.digests.double_80.Goals as goal

pub returns : goal.returns
returns c = c.digests_of.ensures
    ∙ digests_are sha256 c.hash_again.result c.args.messages.now c.told-messages (λ l lt.
    c.hash_again.ensures l lt (get_or c.args.messages.now l []) (c.hash_80.ensures l lt))
