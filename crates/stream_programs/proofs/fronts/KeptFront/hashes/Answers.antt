use Rattle.std.proofs.Common.{◌++◌, map, ap, ◌∙◌, refl}
use Rattle.block_header.specs.Hash.{dsha}
use Rattle.sha256_lanes.specs.Lanes.{IsBehind}
use Rattle.stream_programs.proofs.Alike.{map-tails}
use Rattle.stream_programs.proofs.fronts.KeptFront.hashes.Goals as goal

pub returns : goal.returns
returns c =
    let front = c.front_of-front.result in
    let held = c.turn_to.new.self in
    let behind : IsBehind front held.kept = rw c.turn_to.ensures at held.behind in
    c.double_80-2.ensures front behind
    ∙ ap (λ tails. map (λ tail. dsha (front ++ tail)) tails) c.tails_of.ensures
    ∙ map-tails dsha front c.args.headers.now (c.if-not-begin_with.ensures refl)
