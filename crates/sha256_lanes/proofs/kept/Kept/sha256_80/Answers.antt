use Rattle.std.proofs.Common.{◌∙◌, ◌++◌}
use Rattle.sha256_lanes.specs.Lanes.{IsBehind}
use Rattle.sha256_lanes.proofs.Whole.{digests_are}
use Rattle.sha256_lanes.proofs.kept.Kept.sha256_80.Goals as goal

pub returns : goal.returns
returns c = λ front behind.
    let seen : IsBehind front c.self.inside.state = record {
      long = behind.long;
      compressed = c.self.view_is ∙ behind.compressed;
    } in
    c.digests_of.ensures
    ∙ digests_are (λ tail. front ++ tail) c.hash_behind.result c.args.tails.now c.told-tails
    (c.hash_behind.ensures front seen)
