use Rattle.std.proofs.Common.{◌≡◌, ap, subst, sym, ◌∙◌}
use Rattle.std.specs.List.{AllByRecursion}
use Rattle.pool_history.specs.Legal.{Legal}
use Rattle.pool_history.specs.Sessions.{past_of}
use Rattle.pool_history.specs.Telling.{NoteFits}
use Rattle.event_store.specs.Chains.{MarksAreChained}
use Rattle.event_store.specs.Index.{IndexParts, index_of}
use Rattle.event_store.specs.Kept.{KeptHistory}
use Rattle.event_store.specs.Places.{OpeningsRise, common_places, openings_since, since}
use Rattle.event_store.proofs.Chained.{marks-chained}
use Rattle.event_store.proofs.Heard.{poll-begun, poll-ended, poll-on, poll-within}
use Rattle.event_store.proofs.Polled.{news-fits}
use Rattle.event_store.proofs.Unowed.{common-rise, openings-rise}
use Rattle.event_store.proofs.history.History.news.Goals as goal

pub openings_since-requires-clause-chained : goal.openings_since-requires-clause-chained
openings_since-requires-clause-chained c =
    subst MarksAreChained (sym c.self.invariant.marked) (marks-chained (past_of c.self.inside.events.items) c.self.invariant.legal)

pub openings_since-requires-clause-rising : goal.openings_since-requires-clause-rising
openings_since-requires-clause-rising c =
    subst (λ (index : IndexParts). OpeningsRise index.openings) (sym c.self.invariant.marked) (openings-rise (past_of c.self.inside.events.items))

pub since-common-requires : goal.since-common-requires
since-common-requires c = rw (c.deref.ensures.value, c.self.invariant.listed) (common-rise (past_of c.self.inside.events.items))

pub loop-at-init : goal.loop-at-init
loop-at-init c =
    let same : c.self.inside.events.items ≡ c.args.self.now.events = ap (λ (h : KeptHistory). h.events) c.self.view_is in
    let common : c.since-common.result.now ≡ since c.args.from (common_places (past_of c.args.self.now.events)) =
    c.since-common.ensures ∙ ap (since c.args.from) (c.deref.ensures.value ∙ c.self.invariant.listed ∙ ap (λ h. common_places (past_of h)) same) in
    let own : c.as_slice-own.result.now ≡ openings_since (index_of (past_of c.args.self.now.events)).openings c.args.session c.args.from =
    c.as_slice-own.ensures.value ∙ c.in_ok-openings.ensures
    ∙ ap (λ (index : IndexParts). openings_since index.openings c.args.session c.args.from) (c.self.invariant.marked ∙ ap (λ h. index_of (past_of h)) same) in
    rw (c.new-notes.ensures.items, common, own) (poll-begun c.args.self.now.events c.args.from c.args.session)

pub tell-requires : goal.tell-requires
tell-requires c =
    poll-within c.args.self.now.events c.args.from c.args.session c.in-Some.at c.loop-at.notes.items c.loop-at.common.now c.loop-at.own.now
    c.loop-at.invariant c.in-Some.ensures

pub loop-at-preserved : goal.loop-at-preserved
loop-at-preserved c =
    rw (c.behind-common.ensures, c.behind-own.ensures)
    (poll-on c.args.self.now.events c.args.from c.args.session c.in-Some.at c.loop-at.notes.items c.tell.new.notes.items c.loop-at.common.now c.loop-at.own.now
    c.loop-at.invariant c.in-Some.ensures c.in_ok-tell.ensures)

pub of-requires : goal.of-requires
of-requires c =
    let legal : Legal c.args.self.now.events = subst (λ (h : KeptHistory). Legal h.events) c.self.view_is c.self.invariant.legal in
    subst (AllByRecursion NoteFits)
    (sym (poll-ended c.args.self.now.events c.args.from c.args.session c.loop-at.notes.items c.loop-at.common.now c.loop-at.own.now c.loop-at.invariant c.in_default.ensures))
    (news-fits c.args.from c.args.self.now.events c.args.session legal)

pub returns : goal.returns
returns c =
    c.of.ensures
    ∙ poll-ended c.args.self.now.events c.args.from c.args.session c.loop-at.notes.items c.loop-at.common.now c.loop-at.own.now c.loop-at.invariant c.in_default.ensures
