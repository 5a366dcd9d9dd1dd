use Rattle.std.proofs.Common.{ap, sym}
use Rattle.v1_translate.specs.Saying.{asking_of}
use Rattle.proxy_rules.specs.Steps.{asks_by, line_said}
use Rattle.proxy_core.proofs.Callers.{no_session, none_at, ok_at, ok_same, session_at}
use Rattle.proxy_core.proofs.calling.hear_line.Goals as goal

pub returns-in-Some-clause-hears : goal.returns-in-Some-clause-hears
returns-in-Some-clause-hears c =
    ok_at c.hear_line.result c.args.caller (line_said c.args.terms.now c.args.line.now) c.args.miners.now.items c.as_slice.result.now c.in-Some.place
    c.index_mut.result.now c.hear_line.new.self c.as_slice.ensures.value c.in-Some.ensures c.index_mut.ensures.value c.hear_line.ensures.hears

pub returns-in-Some-clause-asks : goal.returns-in-Some-clause-asks
returns-in-Some-clause-asks c =
    ok_same c.hear_line.result asking_of (asks_by c.args.terms.now c.args.line.now) c.index_mut.result.now.session _
    (sym (session_at c.args.caller c.args.miners.now.items c.as_slice.result.now c.in-Some.place c.index_mut.result.now
    c.as_slice.ensures.value c.in-Some.ensures c.index_mut.ensures.value)) c.hear_line.ensures.asks

pub returns-in-None-clause-hears : goal.returns-in-None-clause-hears
returns-in-None-clause-hears c =
    none_at c.args.caller (line_said c.args.terms.now c.args.line.now) c.args.miners.now.items c.as_slice.result.now c.as_slice.ensures.value c.in-None.ensures

pub returns-in-None-clause-asks : goal.returns-in-None-clause-asks
returns-in-None-clause-asks c =
    sym (ap (asks_by c.args.terms.now c.args.line.now)
    (no_session c.args.caller c.args.miners.now.items c.as_slice.result.now c.as_slice.ensures.value c.in-None.ensures))
