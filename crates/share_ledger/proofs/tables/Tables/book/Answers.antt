use Rattle.std.proofs.Common.{sym, ◌∙◌, ◌≡◌, ◌≤◌, ap, subst, Some}
use Rattle.history_laws.specs.Answered.{credit_of}
use Rattle.pool_history.specs.Answering.{with_event}
use Rattle.pool_history.specs.Judging.{share_of}
use Rattle.pool_history.specs.declared.replies.Reply.TheVariants as reply
use Rattle.share_ledger.specs.contracts.tables.Tables.{the_view}
use Rattle.share_ledger.specs.Planning.{BooksShare, past_in}
use Rattle.share_ledger.specs.Shares.{Passes}
use Rattle.share_ledger.specs.Tables.{LedgerTables}
use Rattle.share_ledger.proofs.ShareSteps.{booked, few_pushes, has_account, low_fee, passed_by}
use Rattle.share_ledger.proofs.Within.{roomy}
use Rattle.share_ledger.proofs.tables.Tables.book.Goals as goal

pub plan_push-requires-clause-there : goal.plan_push-requires-clause-there
plan_push-requires-clause-there c =
    has_account (the_view c.self.inside) c.self.invariant c.args.session c.rules.result.now c.rules.ensures c.tables_show_histories.ensures
    (share_of c.args.sub.now) c.args.passed.header c.args.passed.is_block c.args.passed.work c.args.passed.reward
    (passed_by (the_view c.self.inside) c.self.invariant c.args.session c.rules.result.now c.rules.ensures c.args.self.now c.self.view_is
    (share_of c.args.sub.now) c.args.passed.header c.args.passed.is_block c.args.passed.work c.args.passed.reward c.requires.passes)

pub plan_push-requires-clause-few : goal.plan_push-requires-clause-few
plan_push-requires-clause-few c =
    few_pushes (the_view c.self.inside) c.self.invariant c.args.session c.rules.result.now c.rules.ensures
    (share_of c.args.sub.now) c.args.passed.header c.args.passed.is_block c.args.passed.work c.args.passed.reward
    (passed_by (the_view c.self.inside) c.self.invariant c.args.session c.rules.result.now c.rules.ensures c.args.self.now c.self.view_is
    (share_of c.args.sub.now) c.args.passed.header c.args.passed.is_block c.args.passed.work c.args.passed.reward c.requires.passes)

pub plan_push-requires-clause-fee : goal.plan_push-requires-clause-fee
plan_push-requires-clause-fee c =
    low_fee (the_view c.self.inside) c.self.invariant c.args.session c.rules.result.now c.rules.ensures

pub invariant_of-self-in_err-reserve : goal.invariant_of-self-in_err-reserve
invariant_of-self-in_err-reserve c =
    roomy (the_view c.self.inside) c.plan_push.new.tally c.reserve.new.self c.self.invariant c.plan_push.ensures.same c.reserve.ensures.same

pub invariant_of-self-in_err-credit_event : goal.invariant_of-self-in_err-credit_event
invariant_of-self-in_err-credit_event c =
    roomy (the_view c.self.inside) c.plan_push.new.tally c.reserve.new.self c.self.invariant c.plan_push.ensures.same c.reserve.ensures.same

pub invariant_of-self-2 : goal.invariant_of-self-2
invariant_of-self-2 c =
    roomy (the_view c.self.inside) c.plan_push.new.tally c.reserve.new.self c.self.invariant c.plan_push.ensures.same c.reserve.ensures.same

pub returns-clause-booked : goal.returns-clause-booked
returns-clause-booked c =
    let p = passed_by (the_view c.self.inside) c.self.invariant c.args.session c.rules.result.now c.rules.ensures c.args.self.now c.self.view_is
    (share_of c.args.sub.now) c.args.passed.header c.args.passed.is_block c.args.passed.work c.args.passed.reward c.requires.passes in
    let asked = c.in_ok-plan.ensures.asked in (
      ap (λ e. with_event e (reply.Credited c.args.passed.work)) (sym c.in_ok-credit_event.ensures),
      subst (λ e. BooksShare (record (the_view c.self.inside) { tally = c.plan_push.new.tally; headers = c.reserve.new.self }) e c.in_ok-plan.plan
          c.args.passed.header c.args.passed.is_block) (sym c.in_ok-credit_event.ensures)
          (booked (the_view c.self.inside) c.self.invariant c.args.session c.rules.result.now c.rules.ensures c.tables_show_histories.ensures
          c.plan_push.new.tally c.reserve.new.self (share_of c.args.sub.now) c.args.passed.header c.args.passed.is_block c.args.passed.work
          c.args.passed.reward c.in_ok-plan.plan asked.0 p asked.1 asked.2 c.in_ok-plan.ensures.fits c.in_ok-reserve.ensures.room),
    )
