use Rattle.std.proofs.Common.{◌<◌, ◌^◌, length, refl, ap, sym, ◌∙◌, arith}
use Rattle.std.specs.Option.{option_copied}
use Rattle.pool_tables.specs.OwnJobs.{refusal_before_coinbase}
use Rattle.pool_history.specs.declared.events.Event.TheVariants as event
use Rattle.pool_history.specs.Legal.{may_select_work}
use Rattle.ledger_replay.specs.Replays.{tables_of}
use Rattle.ledger_replay.proofs.Caused.{by_session}
use Rattle.ledger_replay.proofs.CustomsMoved.{own-few, own-refused, own-taken, own-unmade}
use Rattle.ledger_replay.proofs.replay.Replay.custom.Goals as goal

pub returns-in-Some-clause-judged : goal.returns-in-Some-clause-judged
returns-in-Some-clause-judged c past was =
    by_session (tables_of c.args.self.now) past (event.Custom c.args.session c.args.custom.now) may_select_work c.args.session _ c.in-Some.cause was refl
    (c.in-Some.ensures past was.sessions_are)

pub returns-in-Some-own_job_refusal-clause-judged : goal.returns-in-Some-own_job_refusal-clause-judged
returns-in-Some-own_job_refusal-clause-judged c past was =
    own-refused (tables_of c.args.self.now) past c.args.session c.args.custom.now was (c.in_default.ensures past was.sessions_are)
    c.tables_show_histories.ensures (option_copied c.own-there.result) c.in-Some-own_job_refusal.refusal c.own_job_cause.result
    c.own-there.ensures
    (c.in-Some-own_job_refusal.ensures.refusal ∙ ap (λ tip. refusal_before_coinbase (option_copied c.own-there.result) c.args.self.now.grants tip c.args.custom.now) c.tip.ensures)
    c.own_job_cause.ensures

pub returns-then-own_count-ge-MOST_OWN_JOBS-clause-judged : goal.returns-then-own_count-ge-MOST_OWN_JOBS-clause-judged
returns-then-own_count-ge-MOST_OWN_JOBS-clause-judged c past was =
    let few : length c.args.self.now.jobs.own < 2 ^ 18 =
    own-few (tables_of c.args.self.now) past c.args.session c.args.custom.now was (c.in_default.ensures past was.sessions_are) c.tables_show_histories.ensures
    (c.in_default-own_job_refusal.ensures.few refl) in
    absurd (omega (arith, few, c.own_count.ensures))

pub returns-in-Ok-clause-judged : goal.returns-in-Ok-clause-judged
returns-in-Ok-clause-judged c past was =
    own-taken (tables_of c.args.self.now) past c.args.session c.args.custom.now was (c.in_default.ensures past was.sessions_are)
    c.tables_show_histories.ensures c.other_events_leave_sessions.ensures c.moves_are_told.ensures c.add_custom.new.self c.spend.new.self
    c.bytes-script.result.now (option_copied c.own-there.result) c.own-there.ensures
    (c.in_default-own_job_refusal.ensures.refusal ∙ ap (λ tip. refusal_before_coinbase (option_copied c.own-there.result) c.args.self.now.grants tip c.args.custom.now) c.tip.ensures)
    c.bytes-script.ensures c.in-Ok.ensures.refusal c.in-Ok.ensures.takes
    (c.spend.ensures c.args.session c.args.custom.now past (sym c.bytes.ensures) was.grants_are)

pub returns-in-Err-clause-judged : goal.returns-in-Err-clause-judged
returns-in-Err-clause-judged c past was =
    own-unmade (tables_of c.args.self.now) past c.args.session c.args.custom.now was (c.in_default.ensures past was.sessions_are)
    c.tables_show_histories.ensures c.add_custom.new.self c.bytes-script.result.now (option_copied c.own-there.result) c.in-Err.refusal _ c.own-there.ensures
    (c.in_default-own_job_refusal.ensures.refusal ∙ ap (λ tip. refusal_before_coinbase (option_copied c.own-there.result) c.args.self.now.grants tip c.args.custom.now) c.tip.ensures)
    c.bytes-script.ensures c.in-Err.ensures.refusal c.in-Err.ensures.refused c.coinbase_error.ensures
