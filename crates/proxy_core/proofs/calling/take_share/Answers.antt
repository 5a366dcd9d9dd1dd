use Rattle.std.proofs.Common.{ap, sym, ◌∙◌}
use Rattle.proxy_rules.specs.Steps.{handed_over, share_id}
use Rattle.proxy_core.proofs.Callers.{no_session, none_at, session_at, set_at}
use Rattle.proxy_core.proofs.calling.take_share.Goals as goal

pub returns-in-Some-clause-id : goal.returns-in-Some-clause-id
returns-in-Some-clause-id c =
    c.take_share.ensures.id ∙ sym (ap (share_id c.args.sequence) (session_at c.args.caller c.args.miners.now.items c.as_slice.result.now c.in-Some.place
    c.index_mut.result.now c.as_slice.ensures.value c.in-Some.ensures c.index_mut.ensures.value))

pub returns-in-Some-clause-rest : goal.returns-in-Some-clause-rest
returns-in-Some-clause-rest c =
    set_at c.args.caller (handed_over c.args.sequence) c.args.miners.now.items c.as_slice.result.now c.in-Some.place c.index_mut.result.now
    c.take_share.new.self c.as_slice.ensures.value c.in-Some.ensures c.index_mut.ensures.value c.take_share.ensures.rest

pub returns-in-None-clause-id : goal.returns-in-None-clause-id
returns-in-None-clause-id c =
    sym (ap (share_id c.args.sequence)
    (no_session c.args.caller c.args.miners.now.items c.as_slice.result.now c.as_slice.ensures.value c.in-None.ensures))

pub returns-in-None-clause-rest : goal.returns-in-None-clause-rest
returns-in-None-clause-rest c =
    none_at c.args.caller (handed_over c.args.sequence) c.args.miners.now.items c.as_slice.result.now c.as_slice.ensures.value c.in-None.ensures
