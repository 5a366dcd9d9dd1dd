use Rattle.std.proofs.Common.{◌≡◌, ◌∙◌, ◌/◌, ◌++◌, [], get_or, length, sym, ap}
use Rattle.sha2.specs.Sha256.{final_hash, initial_hash_256, sha256}
use Rattle.sha256_lanes.proofs.Whole.{digests_are}
use Rattle.sha256_lanes.proofs.common_text.CommonText.double.Goals as goal

pub returns : goal.returns
returns c = λ before after around.
    c.digests_of.ensures
    ∙ digests_are (λ m. sha256 (before ++ m ++ after)) c.hash_again.result c.args.middles.now c.told-middles
    (λ l lt. c.hash_again.ensures l lt (before ++ get_or c.args.middles.now l [] ++ after)
    (c.hash_with.ensures.hash l lt
    ∙ sym (around.hashed (get_or c.args.middles.now l []) (c.hash_with.ensures.long l lt))))
