use Rattle.std.proofs.Common.{arith, map, sym}
use Rattle.v1_translate.proofs.Names.{none_at, now-append, one_more_at}
use Rattle.v1_translate.proofs.configuring.texts_in.Goals as goal

pub returns-in-None : goal.returns-in-None
returns-in-None c =
    sym (none_at c.args.items.now c.loop-item.item-index c.item-item.result (omega arith) c.item-item.is (sym c.in-None.ensures))

pub loop-item-preserved : goal.loop-item-preserved
loop-item-preserved c =
    let more = one_more_at c.args.items.now c.loop-item.item-index c.item-item.result
    (map (λ text. text.now) c.loop-item.texts.items) c.in-Some.text.now (omega arith) c.item-item.is
    c.loop-item.invariant (sym c.in-Some.ensures) in
    rw (c.in_ok-push-in-Some.ensures.items, now-append) more
