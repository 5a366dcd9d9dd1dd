use Rattle.std.proofs.Common.{◌≡◌, ◌+◌, ◌≤◌, ◌<◌, Some, length, ap, subst, arith}
use Rattle.std.specs.Prelude.{slice_get}
use Rattle.event_store.specs.Chains.{reach}
use Rattle.event_store.specs.Places.{if_since, is_own_since}
use Rattle.event_store.proofs.Walked.{HasListed, get-read, listed-early, listed-on, since-high, since-own, since-reach, since-twice, walk-shorter, walk-starts}
use Rattle.event_store.proofs.hearing.openings_since.Goals as goal

pub loop-next-init : goal.loop-next-init
loop-next-init c = record {
  listed =
      rw c.if_since-next.ensures
      (listed-early c.args.session c.args.from c.args.openings.now c.new-places.result.items c.args.last c.requires.rising
      (walk-starts c.args.session (is_own_since c.args.session c.args.from) (λ mark. mark.at) (since-own c.args.session c.args.from)
      c.args.openings.now c.new-places.result.items c.args.last c.requires.last c.new-places.ensures.items));
  since = rw c.if_since-next.ensures (since-twice c.args.from c.args.openings.now c.args.last);
}

pub loop-next-smaller : goal.loop-next-smaller
loop-next-smaller c =
    let w : HasListed c.args.session c.args.from c.args.openings.now c.loop-next.places.items (Some c.in-Some.at) =
    subst (HasListed c.args.session c.args.from c.args.openings.now c.loop-next.places.items) c.in-Some.is c.loop-next.invariant.listed in
    let less : c.in-Some.at + 1 ≤ length c.args.openings.now = w.within in
    let there : slice_get c.args.openings.now c.in-Some.at ≡ Some c.index-openings-at.result =
    get-read c.args.openings.now c.in-Some.at c.index-openings-at.result (omega (arith, less)) c.index-openings-at.is in
    let short : reach c.index-openings-at.result.before ≤ c.in-Some.at = walk-shorter c.in-Some.at c.args.openings.now c.index-openings-at.result c.requires.openings there in
    let early : reach (if_since c.args.from c.args.openings.now c.index-openings-at.result.before) ≤ reach c.index-openings-at.result.before =
    since-reach c.args.from c.args.openings.now c.index-openings-at.result.before in
    let now : reach c.loop-next.next ≡ c.in-Some.at + 1 = ap reach c.in-Some.is in
    let next : reach c.if_since-next-in-Some.result ≡ reach (if_since c.args.from c.args.openings.now c.index-openings-at.result.before) =
    ap reach c.if_since-next-in-Some.ensures in
    let falls : reach c.if_since-next-in-Some.result < reach c.loop-next.next = omega (arith, short, early, now, next) in
    falls

pub loop-next-preserved : goal.loop-next-preserved
loop-next-preserved c =
    let w : HasListed c.args.session c.args.from c.args.openings.now c.loop-next.places.items (Some c.in-Some.at) =
    subst (HasListed c.args.session c.args.from c.args.openings.now c.loop-next.places.items) c.in-Some.is c.loop-next.invariant.listed in
    let stays : if_since c.args.from c.args.openings.now (Some c.in-Some.at) ≡ Some c.in-Some.at =
    subst (λ o. if_since c.args.from c.args.openings.now o ≡ o) c.in-Some.is c.loop-next.invariant.since in
    let less : c.in-Some.at + 1 ≤ length c.args.openings.now = w.within in
    let there : slice_get c.args.openings.now c.in-Some.at ≡ Some c.index-openings-at.result =
    get-read c.args.openings.now c.in-Some.at c.index-openings-at.result (omega (arith, less)) c.index-openings-at.is in
    record {
      listed =
          rw c.if_since-next-in-Some.ensures
          (listed-early c.args.session c.args.from c.args.openings.now c.push.new.self.items c.index-openings-at.result.before c.requires.rising
          (listed-on c.args.session c.args.from c.in-Some.at c.args.openings.now c.index-openings-at.result c.loop-next.places.items c.push.new.self.items
          c.requires.openings w there (since-high c.args.from c.args.openings.now c.in-Some.at c.index-openings-at.result stays there) c.in_ok-push.ensures.items));
      since = rw c.if_since-next-in-Some.ensures (since-twice c.args.from c.args.openings.now c.index-openings-at.result.before);
    }
