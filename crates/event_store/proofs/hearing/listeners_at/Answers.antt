use Rattle.std.proofs.Common.{◌≡◌, ◌+◌, ◌≤◌, ◌<◌, Some, length, ap, subst, arith}
use Rattle.std.specs.Prelude.{slice_get}
use Rattle.event_store.specs.Chains.{reach}
use Rattle.event_store.specs.Told.{listens_at}
use Rattle.event_store.proofs.Walked.{HasHeard, get-read, heard-on, listens-own, walk-shorter, walk-starts}
use Rattle.event_store.proofs.hearing.listeners_at.Goals as goal

pub loop-next-init : goal.loop-next-init
loop-next-init c =
    walk-starts c.args.session (listens_at c.args.session c.args.place) (λ mark. mark.listener) (listens-own c.args.session c.args.place)
    c.args.openings.now c.new-listeners.result.items c.args.last c.requires.last c.new-listeners.ensures.items

pub loop-next-smaller : goal.loop-next-smaller
loop-next-smaller c =
    let w : HasHeard c.args.session c.args.place c.args.openings.now c.loop-next.listeners.items (Some c.in-Some.at) =
    subst (HasHeard c.args.session c.args.place c.args.openings.now c.loop-next.listeners.items) c.in-Some.is c.loop-next.invariant in
    let less : c.in-Some.at + 1 ≤ length c.args.openings.now = w.within in
    let there : slice_get c.args.openings.now c.in-Some.at ≡ Some c.index-openings-at.result =
    get-read c.args.openings.now c.in-Some.at c.index-openings-at.result (omega (arith, less)) c.index-openings-at.is in
    let short : reach c.index-openings-at.result.before ≤ c.in-Some.at = walk-shorter c.in-Some.at c.args.openings.now c.index-openings-at.result c.requires.openings there in
    let now : reach c.loop-next.next ≡ c.in-Some.at + 1 = ap reach c.in-Some.is in
    let falls : reach c.index-openings-at.result.before < reach c.loop-next.next = omega (arith, short, now) in
    falls

pub loop-next-preserved : goal.loop-next-preserved
loop-next-preserved c =
    let w : HasHeard c.args.session c.args.place c.args.openings.now c.loop-next.listeners.items (Some c.in-Some.at) =
    subst (HasHeard c.args.session c.args.place c.args.openings.now c.loop-next.listeners.items) c.in-Some.is c.loop-next.invariant in
    let less : c.in-Some.at + 1 ≤ length c.args.openings.now = w.within in
    let there : slice_get c.args.openings.now c.in-Some.at ≡ Some c.index-openings-at.result =
    get-read c.args.openings.now c.in-Some.at c.index-openings-at.result (omega (arith, less)) c.index-openings-at.is in
    heard-on c.args.session c.args.place c.in-Some.at c.args.openings.now c.index-openings-at.result c.loop-next.listeners.items _ c.requires.openings w there
    c.in_ok-add_listener.ensures
