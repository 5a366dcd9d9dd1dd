use Rattle.std.proofs.Common.{refl}
use Rattle.pool_history.specs.Legal.{may_mine}
use Rattle.ledger_replay.specs.Replays.{tables_of}
use Rattle.ledger_replay.specs.Shares.{credit_event}
use Rattle.ledger_replay.proofs.Caused.{by_session}
use Rattle.ledger_replay.proofs.CreditsMoved.{credit-refused, credit-taken}
use Rattle.ledger_replay.proofs.SharesJudged.{judges-after}
use Rattle.ledger_replay.proofs.replay.Replay.credit.Goals as goal

pub returns-in-Some-clause-judged : goal.returns-in-Some-clause-judged
returns-in-Some-clause-judged c past was =
    by_session (tables_of c.args.self.now) past (credit_event c.args.session c.args.share.now) may_mine c.args.session _ c.in-Some.cause was refl
    (c.in-Some.ensures past was.sessions_are)

pub returns-in-Ok-clause-judged : goal.returns-in-Ok-clause-judged
returns-in-Ok-clause-judged c past was =
    credit-taken (tables_of c.args.self.now) c.book_share.new.tally c.book_share.new.headers past c.args.session c.args.share.now
    c.other_events_leave_sessions.ensures c.other_events_leave_grants.ensures was (c.in_default.ensures past was.sessions_are)
    (c.in-Ok.ensures past (judges-after (tables_of c.args.self.now) past c.tables_show_histories.ensures was))

pub returns-in-Err-clause-judged : goal.returns-in-Err-clause-judged
returns-in-Err-clause-judged c past was =
    credit-refused (tables_of c.args.self.now) c.book_share.new.tally c.book_share.new.headers past c.args.session c.args.share.now c.in-Err.refusal _
    was (c.in_default.ensures past was.sessions_are)
    (c.in-Err.ensures past (judges-after (tables_of c.args.self.now) past c.tables_show_histories.ensures was)) c.share_error.ensures
