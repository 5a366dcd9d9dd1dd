use Rattle.std.proofs.Common.{rules, ◌≡◌, ◌≢◌, Ok, Err, List, ℕ, Result, ap, subst}
use Rattle.pool_history.specs.declared.asking.Request.TheVariants as request
use Rattle.pool_history.specs.declared.refusals.NameError.{NameError}
use Rattle.pool_history.specs.declared.refusals.NameError.TheVariants as name_error
use Rattle.pool_history.specs.declared.replies.Reply.TheVariants as reply
use Rattle.pool_history.specs.Accounts.{account_of}
use Rattle.pool_history.specs.Channels.{channel_in, channels_in}
use Rattle.pool_history.specs.Refusing.{nameable}
use Rattle.channels.specs.declared.plan.ChannelPlan.{ChannelPlan}
use Rattle.channels.specs.declared.plan.ChannelPlan.TheVariants as plan
use Rattle.channels.specs.Plans.{IsUnless, plan_for}
use Rattle.share_ledger.specs.contracts.tables.Tables.{the_view}
use Rattle.share_ledger.specs.ChannelSteps.{name_step}
use Rattle.share_ledger.specs.Tables.{LedgerTables}
use Rattle.share_ledger.proofs.ChannelSteps.{name-known, name-made, name-not}
use Rattle.share_ledger.proofs.Within.{if_made, still}
use Rattle.share_ledger.proofs.tables.Tables.plan_name.Goals as goal

pub returns-then-unnamed-clause-step : goal.returns-then-unnamed-clause-step
returns-then-unnamed-clause-step c =
    let old : LedgerTables = the_view c.self.inside in
    if_made old c.args.self.now _ c.args.session (request.Name c.args.channel c.args.identity) c.naming_step.result (name_step c.args.session c.in-Ok.plan)
    c.self.view_is c.naming_step.ensures
    (name-made old c.self.invariant c.args.session c.tables_show_histories.ensures c.rules-rules.result.now c.rules-rules.ensures
    c.plan_name.new.self c.args.channel c.args.identity c.in-Ok.plan c.is_unnamed-unnamed.result
    (subst (λ i. IsUnless name_error.Memory (Ok c.in-Ok.plan) (plan_for (plan.Name c.args.channel (account_of i))
    (nameable c.rules-rules.result.now (account_of i) (channel_in (channels_in old.channels.open_channels c.args.session) c.args.channel))))
    c.text.ensures.value c.in-Ok.ensures.answer) c.in-Ok.ensures.ready c.is_unnamed-unnamed.ensures c.if-unnamed.true)

pub returns-in-Ok-clause-step : goal.returns-in-Ok-clause-step
returns-in-Ok-clause-step c =
    let old : LedgerTables = the_view c.self.inside in
    still old c.args.self.now c.args.session (request.Name c.args.channel c.args.identity) reply.Named c.self.view_is
    (name-known old c.self.invariant c.args.session c.tables_show_histories.ensures c.rules-rules.result.now c.rules-rules.ensures
    c.plan_name.new.self c.args.channel c.args.identity c.in-Ok.plan c.is_unnamed-unnamed.result
    (subst (λ i. IsUnless name_error.Memory (Ok c.in-Ok.plan) (plan_for (plan.Name c.args.channel (account_of i))
    (nameable c.rules-rules.result.now (account_of i) (channel_in (channels_in old.channels.open_channels c.args.session) c.args.channel))))
    c.text.ensures.value c.in-Ok.ensures.answer) c.is_unnamed-unnamed.ensures c.if-unnamed.false)

pub returns : goal.returns
returns c =
    let old : LedgerTables = the_view c.self.inside in
    let other : c.in-Err.refusal ≢ name_error.Memory = search rules in
    record {
      same = ap (λ (t : LedgerTables). t.history) c.self.view_is;
      step = still old c.args.self.now c.args.session (request.Name c.args.channel c.args.identity) (reply.NameRefused c.in-Err.refusal) c.self.view_is
          (name-not old c.self.invariant c.args.session c.tables_show_histories.ensures c.rules-rules.result.now c.rules-rules.ensures
          c.plan_name.new.self c.args.channel c.args.identity c.in-Err.refusal other
          (subst (λ i. IsUnless {X = ChannelPlan} name_error.Memory (Err c.in-Err.refusal) (plan_for (plan.Name c.args.channel (account_of i))
          (nameable c.rules-rules.result.now (account_of i) (channel_in (channels_in old.channels.open_channels c.args.session) c.args.channel))))
          c.text.ensures.value c.in-Err.ensures.answer));
    }
