use Rattle.std.proofs.Common.{◌-◌, [], inl, inr, ⊎_elim, arith, refl}
use Rattle.pool_history.specs.declared.asking.OpenAsk.{OpenAsk}
use Rattle.pool_history.specs.declared.events.Kind.TheVariants.{V1}
use Rattle.ledger_replay.proofs.Probing.{probe-refused}
use Rattle.ledger_replay.proofs.opening_events.next_opening.Goals as goal

pub returns-clause-refused : goal.returns-clause-refused
returns-clause-refused c =
    let ask : OpenAsk = record { kind = V1; identity = []; max_target = c.of-2.result; min_size = 12 - c.from.result; standard_rolls_none = λ e. cc } in
    ⊎_elim (λ is. inl (cc))
    (λ is. inr (probe-refused c.args.rules.now c.args.channels.now c.args.session c.args.len ask c.in-Err.refusal refl c.of-2.ensures.value
    (omega arith) c.requires.some c.requires.most is)) c.in-Err.ensures.answer
