use Rattle.std.proofs.Common.{◌≡◌, ◌<◌, Some, length, ap, sym, ◌∙◌, arith}
use Rattle.std.proofs.lemmas.List.{length-reverse}
use Rattle.std.specs.Prelude.{slice_get}
use Rattle.pool_history.specs.Sessions.{past_of, rules_of}
use Rattle.event_store.specs.Telling.{owed_in}
use Rattle.event_store.specs.Told.{event_told}
use Rattle.event_store.proofs.Able.{can-tell, rolls-at, told-at}
use Rattle.event_store.proofs.Later.{details-length}
use Rattle.event_store.proofs.Walked.{get-read}
use Rattle.event_store.proofs.history.History.tell.Goals as goal

pub index-requires : goal.index-requires
index-requires c =
    let less : c.args.at < length c.self.inside.events.items = rw (← c.self.view_is) at c.requires in
    let same : length c.self.inside.details.items ≡ length c.self.inside.events.items =
    ap length c.self.invariant.detailed ∙ details-length (past_of c.self.inside.events.items) ∙ length-reverse c.self.inside.events.items in
    omega (arith, less, same)

pub tell-requires-clause-able : goal.tell-requires-clause-able
tell-requires-clause-able c =
    let are : rules_of (past_of c.self.inside.events.items) ≡ Some c.rules.result.now = rw (← c.self.view_is) at c.rules.ensures in
    rw (c.deref.ensures.value, c.self.invariant.marked) (can-tell c.self.inside.events.items c.rules.result.now c.self.invariant.legal are)

pub tell-requires-clause-rolls : goal.tell-requires-clause-rolls
tell-requires-clause-rolls c =
    let less : c.args.at < length c.self.inside.events.items = rw (← c.self.view_is) at c.requires in
    let is : slice_get c.self.inside.events.items c.args.at ≡ Some c.index-2.result.now =
    get-read c.self.inside.events.items c.args.at c.index-2.result.now less c.index-2.ensures in
    rw c.self.invariant.marked (rolls-at c.self.inside.events.items c.args.at c.index-2.result.now c.self.invariant.legal is)

pub tell-requires-clause-here : goal.tell-requires-clause-here
tell-requires-clause-here c =
    let less : c.args.at < length c.self.inside.events.items = rw (← c.self.view_is) at c.requires in
    rw c.deref.ensures.value (get-read c.self.inside.events.items c.args.at c.index-2.result.now less c.index-2.ensures)

pub returns : goal.returns
returns c =
    let less : c.args.at < length c.self.inside.events.items = rw (← c.self.view_is) at c.requires in
    let same : length c.self.inside.details.items ≡ length c.self.inside.events.items =
    ap length c.self.invariant.detailed ∙ details-length (past_of c.self.inside.events.items) ∙ length-reverse c.self.inside.events.items in
    let is : slice_get c.self.inside.events.items c.args.at ≡ Some c.index-2.result.now =
    get-read c.self.inside.events.items c.args.at c.index-2.result.now less c.index-2.ensures in
    let detailed : slice_get c.self.inside.details.items c.args.at ≡ Some c.index.result.now =
    get-read c.self.inside.details.items c.args.at c.index.result.now (omega (arith, less, same)) c.index.ensures in
    let are : rules_of (past_of c.self.inside.events.items) ≡ Some c.rules.result.now = rw (← c.self.view_is) at c.rules.ensures in
    let told : event_told c.rules.result.now c.deref.result.now c.self.inside.index.parts c.args.session c.args.at c.index.result.now c.index-2.result.now
    ≡ owed_in c.self.inside.events.items c.args.at c.args.session (slice_get c.self.inside.events.items c.args.at) =
    ap (λ h. event_told c.rules.result.now h c.self.inside.index.parts c.args.session c.args.at c.index.result.now c.index-2.result.now) c.deref.ensures.value
    ∙ ap (λ i. event_told c.rules.result.now c.self.inside.events.items i c.args.session c.args.at c.index.result.now c.index-2.result.now) c.self.invariant.marked
    ∙ told-at c.self.inside.events.items c.rules.result.now c.args.at c.index.result.now c.index-2.result.now c.args.session c.self.invariant.legal are is
    (ap (λ d. slice_get d c.args.at) (sym c.self.invariant.detailed) ∙ detailed)
    ∙ ap (owed_in c.self.inside.events.items c.args.at c.args.session) (sym is) in
    rw (← c.self.view_is) (rw (sym told) c.tell.ensures)
