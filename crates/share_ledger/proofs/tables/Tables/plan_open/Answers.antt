use Rattle.std.proofs.Common.{rules, sym, ◌∙◌, ◌≡◌, ◌≢◌, ◌≤◌, ◌+◌, ap, subst, length, None, Some}
use Rattle.pool_history.specs.declared.asking.Request.TheVariants as request
use Rattle.pool_history.specs.declared.events.Event.TheVariants as event
use Rattle.pool_history.specs.declared.replies.Reply.TheVariants as reply
use Rattle.share_ledger.specs.declared.planning.Change.TheVariants as change
use Rattle.share_ledger.specs.contracts.tables.Tables.{the_view}
use Rattle.share_ledger.specs.Tables.{LedgerTables}
use Rattle.pool_history.specs.declared.refusals.OpenError.TheVariants as open_error
use Rattle.share_ledger.specs.ChannelSteps.{open_step}
use Rattle.share_ledger.proofs.ChannelSteps.{open-made, open-refused}
use Rattle.share_ledger.proofs.Within.{if_made, least_class, still}
use Rattle.share_ledger.proofs.tables.Tables.plan_open.Goals as goal

pub plan_open-requires : goal.plan_open-requires
plan_open-requires c = least_class _ c.self.invariant c.rules.result.now c.rules.ensures

pub returns-in-Ok-clause-step : goal.returns-in-Ok-clause-step
returns-in-Ok-clause-step c =
    if_made (the_view c.self.inside) c.args.self.now _ c.args.session (request.Open c.args.ask) c.opening_step.result (open_step c.in-Ok.plan) c.self.view_is
    c.opening_step.ensures
    (open-made (the_view c.self.inside) c.self.invariant c.args.session c.tables_show_histories.ensures c.rules.result.now c.rules.ensures
    c.plan_open.new.self c.args.ask c.in-Ok.plan c.len-at.result c.len-at.ensures.value c.in-Ok.ensures.answer c.in-Ok.ensures.ready)

pub returns : goal.returns
returns c =
    let other : c.in-Err.refusal ≢ open_error.Memory = search rules in
    record {
      same = ap (λ (t : LedgerTables). t.history) c.self.view_is;
      step = still (the_view c.self.inside) c.args.self.now c.args.session (request.Open c.args.ask) (reply.OpenRefused c.in-Err.refusal) c.self.view_is
          (open-refused (the_view c.self.inside) c.self.invariant c.args.session c.tables_show_histories.ensures c.rules.result.now c.rules.ensures
          c.plan_open.new.self c.args.ask c.in-Err.refusal c.len-at.result other c.in-Err.ensures.answer);
    }
