use Rattle.std.proofs.Common.{◌∙◌, ◌++◌, [], get_or}
use Rattle.sha2.specs.Sha256.{sha256}
use Rattle.sha256_lanes.specs.Lanes.{IsBehind}
use Rattle.sha256_lanes.proofs.Whole.{digests_are}
use Rattle.sha256_lanes.proofs.kept.Kept.double_80.Goals as goal

pub returns : goal.returns
returns c = λ front behind.
    let seen : IsBehind front c.self.inside.state = record {
      long = behind.long;
      compressed = c.self.view_is ∙ behind.compressed;
    } in
    c.digests_of.ensures
    ∙ digests_are (λ tail. sha256 (front ++ tail)) c.hash_again.result c.args.tails.now c.told-tails
    (λ l lt. c.hash_again.ensures l lt (front ++ get_or c.args.tails.now l [])
    (c.hash_behind.ensures front seen l lt))
