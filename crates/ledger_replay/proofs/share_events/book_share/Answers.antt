use Rattle.std.proofs.Common.{refl, ap, sym, subst, ◌∙◌}
use Rattle.payout_laws.proofs.Ranges.{pays_from}
use Rattle.pool_history.specs.Crediting.{bookings_of, first_failed, headers}
use Rattle.pool_history.specs.Judging.{Share}
use Rattle.ledger_replay.specs.Shares.{IsPassed, share_after}
use Rattle.ledger_replay.proofs.SharesJudged.{booked-share, few-pushes, shows-credits, standard-shown}
use Rattle.ledger_replay.proofs.share_events.book_share.Goals as goal

pub push-requires-clause-few : goal.push-requires-clause-few
push-requires-clause-few c =
    few-pushes c.args.rules.now c.args.tally.now.pushes c.pushes.result c.requires.range c.pushes.ensures c.in-Ok.ensures.few

pub push-requires-clause-fee : goal.push-requires-clause-fee
push-requires-clause-fee c = (pays_from c.args.rules.now c.requires.range).fee

pub returns-in-Ok-push : goal.returns-in-Ok-push
returns-in-Ok-push c past after =
    let shows = shows-credits c.args.rules.now c.args.channels.now c.args.jobs.now c.args.tally.now c.args.headers.now past c.pushes.result c.pushes.ensures after in
    let same = c.submission_of-sub.ensures past (standard-shown c.args.channels.now past c.args.share.now.channel _ _ after.shown.channels_are c.kind_of.ensures c.channel.ensures) in
    let passes : IsPassed c.args.rules.now past c.args.session (share_after past c.args.share.now) c.in-Ok.judged.account.now c.in-Ok.judged.passed =
    subst (λ (s : Share). IsPassed c.args.rules.now past c.args.session s c.in-Ok.judged.account.now c.in-Ok.judged.passed) same (c.in-Ok.ensures.passed past shows) in (
      passes.none,
      booked-share c.args.rules.now past c.args.session c.args.share.now c.in-Ok.judged.account.now c.in-Ok.judged.passed c.push.new.tally c.push.new.headers
          after.rules_are passes (c.in-Ok-push.ensures.ok c.args.rules.now (bookings_of past) (headers past) refl after.booked),
    )

pub returns-in-Err-push : goal.returns-in-Err-push
returns-in-Err-push c past after = c.in-Err-push.ensures.err c.args.rules.now (bookings_of past) (headers past) after.booked

pub returns-in-Err : goal.returns-in-Err
returns-in-Err c past after =
    let shows = shows-credits c.args.rules.now c.args.channels.now c.args.jobs.now c.args.tally.now c.args.headers.now past c.pushes.result c.pushes.ensures after in
    let same = c.submission_of-sub.ensures past (standard-shown c.args.channels.now past c.args.share.now.channel _ _ after.shown.channels_are c.kind_of.ensures c.channel.ensures) in
    (ap (first_failed c.args.rules.now past c.args.session) (sym same) ∙ c.in-Err.ensures.refused past shows, after.booked)
