use Rattle.std.proofs.Common.{length, refl, ap, sym, ◌∙◌}
use Rattle.desk.specs.Passes.{MakesCall, progress_of}
use Rattle.desk.specs.Plays.{call_of, called_view, outcome_of}
use Rattle.desk.proofs.Acts.{answered, carries, has-machine, made-call, next-call, rests-again, tagged}
use Rattle.desk.proofs.desk.Desk.act.Goals as goal
use Rattle.desk.proofs.desk.Desk.act.Goals.{in-Ok, in-Err}

pub take_machine-machine-requires-clause-carried : goal.take_machine-machine-requires-clause-carried
take_machine-machine-requires-clause-carried g c =
    carries g.M.Machine.events g.M.Machine.health c.pass.inside.seat.me c.take_turn-count.new.seat.me c.take_turn-count.result c.take_turn-count.ensures.taken c.pass.invariant.carried

pub put_back-requires-clause-call : goal.put_back-requires-clause-call
put_back-requires-clause-call g c =
    let has = has-machine g.M.Machine.events g.M.Machine.health c.pass.inside.seat.me c.take_turn-count.new.seat.me c.take_turn-count.result c.take_machine-machine.result
    c.take_turn-count.ensures.taken c.pass.invariant.carried c.take_machine-machine.ensures.taken in
    let note = c.answer-answered.ensures.note in
    next-call g.M.Machine.answers g.M.Machine.wants_memory c.pass.inside.seat.me.0 c.take_machine-machine.new.seat.me.0 c.take_turn-count.result _ _ _ _ c.pass.inside.worker c.args.request c.answer-answered.result.1 c.answer-answered.result.0
    (ap (λ m. m.0) c.take_machine-machine.ensures.same.1 ∙ has.is) c.pass.invariant.workers c.answer-answered.ensures.turn c.answer-answered.ensures.later note.0 note.1 note.2

made : (g : _) (c : goal.Joined-answered g)
    → MakesCall g.M.Machine.answers g.M.Machine.wants_memory (progress_of c.pass.inside.worker c.pass.inside.seat.table_id c.pass.inside.seat.me.0)
    (progress_of c.pass.inside.worker c.put_back.new.seat.table_id
    (called_view c.take_machine-machine.new.seat.me.0 (g.M.Machine.events c.answer-answered.new.machine)
    (call_of c.take_machine-machine.new.seat.me.0 (g.M.Machine.events c.answer-answered.new.machine) (g.M.Machine.health c.answer-answered.new.machine) c.answer-answered.result.1)))
    (length (g.M.Machine.events c.take_machine-machine.result)) c.args.request (outcome_of c.answer-answered.result.0)
made g c =
    let has = has-machine g.M.Machine.events g.M.Machine.health c.pass.inside.seat.me c.take_turn-count.new.seat.me c.take_turn-count.result c.take_machine-machine.result
    c.take_turn-count.ensures.taken c.pass.invariant.carried c.take_machine-machine.ensures.taken in
    let note = c.answer-answered.ensures.note in
    made-call g.M.Machine.answers g.M.Machine.wants_memory c.pass.inside.seat.table_id c.put_back.new.seat.table_id c.pass.inside.seat.me.0 c.take_machine-machine.new.seat.me.0 c.take_turn-count.result _ _ _ _ c.pass.inside.worker c.args.request c.answer-answered.result.1 c.answer-answered.result.0
    (ap (λ m. m.0) c.take_machine-machine.ensures.same.1 ∙ has.is) c.pass.invariant.workers has.seen has.known c.answer-answered.ensures.turn c.answer-answered.ensures.later note.0 note.1 note.2

pub invariant_of-pass : goal.invariant_of-pass
invariant_of-pass g c =
    let has = has-machine g.M.Machine.events g.M.Machine.health c.pass.inside.seat.me c.take_turn-count.new.seat.me c.take_turn-count.result c.take_machine-machine.result
    c.take_turn-count.ensures.taken c.pass.invariant.carried c.take_machine-machine.ensures.taken in
    let is = ap (λ m. m.0) c.take_machine-machine.ensures.same.1 ∙ has.is in
    rests-again g.M.Machine.answers g.M.Machine.wants_memory c.pass.inside.seat.table_id c.put_back.new.seat.table_id c.pass.inside.seat.me _ _ c.pass.inside.worker c.args.request _ (made g c)
    (ap (λ v. v.told) is) refl (ap (λ v. v.workers) is) c.pass.invariant c.put_back.new.seat.me c.put_back.ensures.called

pub returns-clause-call : goal.returns-clause-call
returns-clause-call g c =
    answered g.M.Machine.answers g.M.Machine.wants_memory _ _ _ _ _ c.length-front.result c.args.request c.answer-answered.result.0 c.match-answered.result
    c.pass.view_is
    (ap (λ m. progress_of c.pass.inside.worker c.put_back.new.seat.table_id m.0) (sym c.put_back.ensures.called))
    c.length-front.ensures.count
    (elim c.match-answered.branch [ in-Ok w ↦ w.result-is ∙ ap (tagged c.length-front.result) (sym w.in-Ok.is) | in-Err w ↦ w.result-is ∙ ap (tagged c.length-front.result) (sym w.in-Err.is) ])
    (made g c)

pub returns-clause-rise : goal.returns-clause-rise
returns-clause-rise g c = let rests = invariant_of-pass g c in (rests.numbers, rests.fronts)
