use Rattle.std.proofs.Common.{◌≡◌, ◌-◌, length, drop, ◌∙◌, arith}
use Rattle.std.proofs.lemmas.List.{length-drop, take_all}
use Rattle.event_store.proofs.Rising.{parted-since, rising-parted}
use Rattle.event_store.proofs.places.since.Goals as goal

pub count_before-requires : goal.count_before-requires
count_before-requires c = rising-parted c.args.from 0 c.args.places.now c.requires

pub returns : goal.returns
returns c =
    let rest : length (drop c.count_before.result c.args.places.now) ≡ length c.args.places.now - c.count_before.result =
    length-drop c.count_before.result c.args.places.now in
    take_all (length c.args.places.now - c.count_before.result) (drop c.count_before.result c.args.places.now) (omega (arith, rest))
    ∙ parted-since c.args.from c.count_before.result c.args.places.now c.count_before.ensures.parted.0 c.count_before.ensures.parted.1 c.count_before.ensures.within
