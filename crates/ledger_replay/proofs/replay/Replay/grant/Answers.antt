use Rattle.std.proofs.Common.{length, refl, ap, ◌∙◌}
use Rattle.pool_tables.specs.GrantTables.{grant_refusal_after}
use Rattle.pool_history.specs.declared.events.Event.TheVariants as event
use Rattle.pool_history.specs.Legal.{may_select_work}
use Rattle.ledger_replay.specs.Replays.{tables_of}
use Rattle.ledger_replay.proofs.Caused.{by_session}
use Rattle.ledger_replay.proofs.TokensMoved.{grant-refused, grant-taken}
use Rattle.ledger_replay.proofs.replay.Replay.grant.Goals as goal

pub returns-in-Some-clause-judged : goal.returns-in-Some-clause-judged
returns-in-Some-clause-judged c past was =
    by_session (tables_of c.args.self.now) past (event.Grant c.args.session c.args.account c.args.fixed c.args.path) may_select_work c.args.session _ c.in-Some.cause was refl
    (c.in-Some.ensures past was.sessions_are)

pub returns-in-Some-grant_refusal_of-clause-judged : goal.returns-in-Some-grant_refusal_of-clause-judged
returns-in-Some-grant_refusal_of-clause-judged c past was =
    grant-refused (tables_of c.args.self.now) past c.args.session c.count-count.result c.args.account c.args.fixed c.args.path c.in-Some-grant_refusal_of.refusal c.grant_cause.result
    was (c.in_default.ensures past was.sessions_are) c.count-count.ensures.value
    (c.in-Some-grant_refusal_of.ensures
    ∙ ap (λ account. grant_refusal_after c.args.self.now.rules c.count-count.result account (length c.items-len.result.now)) c.text.ensures.value
    ∙ ap (λ path. grant_refusal_after c.args.self.now.rules c.count-count.result c.args.account (length path)) c.items-len.ensures.value)
    c.grant_cause.ensures

pub returns-in-Ok-clause-judged : goal.returns-in-Ok-clause-judged
returns-in-Ok-clause-judged c past was =
    grant-taken (tables_of c.args.self.now) c.grant.new.self past c.args.session c.count-count.result c.args.account c.args.fixed c.args.path
    c.other_events_leave_sessions.ensures was (c.in_default.ensures past was.sessions_are) c.count-count.ensures.value
    (c.in_default-grant_refusal_of.ensures
    ∙ ap (λ account. grant_refusal_after c.args.self.now.rules c.count-count.result account (length c.items-len.result.now)) c.text.ensures.value
    ∙ ap (λ path. grant_refusal_after c.args.self.now.rules c.count-count.result c.args.account (length path)) c.items-len.ensures.value)
    (c.grant.ensures.shown c.args.session past (c.in-Ok.ensures.shown past was.grants_are))
