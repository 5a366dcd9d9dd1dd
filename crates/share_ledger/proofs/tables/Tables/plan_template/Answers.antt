use Rattle.std.proofs.Common.{rules, sym, ◌∙◌, ◌≡◌, ◌≢◌, ◌≤◌, ◌+◌, ap, subst, length, None, Some}
use Rattle.pool_history.specs.declared.asking.Request.TheVariants as request
use Rattle.pool_history.specs.declared.events.Event.TheVariants as event
use Rattle.pool_history.specs.declared.replies.Reply.TheVariants as reply
use Rattle.share_ledger.specs.declared.planning.Change.TheVariants as change
use Rattle.share_ledger.specs.contracts.tables.Tables.{the_view}
use Rattle.share_ledger.specs.Tables.{LedgerTables}
use Rattle.pool_history.specs.declared.refusals.JobError.TheVariants as job_error
use Rattle.share_ledger.proofs.JobSteps.{template-made, template-refused}
use Rattle.share_ledger.proofs.Within.{moved, script_short, script_some, still}
use Rattle.share_ledger.proofs.tables.Tables.plan_template.Goals as goal

pub plan_template-requires-clause-some : goal.plan_template-requires-clause-some
plan_template-requires-clause-some c =
    subst (λ s. 1 ≤ length s) (sym c.bytes-script.ensures) (script_some _ c.self.invariant c.rules.result.now c.rules.ensures)

pub plan_template-requires-clause-short : goal.plan_template-requires-clause-short
plan_template-requires-clause-short c =
    subst (λ s. length s ≤ 100) (sym c.bytes-script.ensures) (script_short _ c.self.invariant c.rules.result.now c.rules.ensures)

pub returns-in-Ok-clause-step : goal.returns-in-Ok-clause-step
returns-in-Ok-clause-step c =
    rw c.in_ok-new-in-Ok.ensures
    (moved (the_view c.self.inside) c.args.self.now _ c.args.session (request.Template c.args.template) (event.Template c.args.session c.args.template)
    (change.Template c.in-Ok.plan) (reply.Job (c.count-number.result + 1)) c.self.view_is
    (template-made (the_view c.self.inside) c.self.invariant c.args.session c.histories_are_read.ensures c.rules.result.now c.rules.ensures
    c.bytes-script.result.now c.bytes-script.ensures c.plan_template.new.self c.args.template c.in-Ok.plan (c.count-number.result + 1)
    c.len-at.result c.len-at.ensures.value c.in-Ok.ensures.refusal (ap (λ n. n + 1) c.count-number.ensures.value) c.in-Ok.ensures.planned c.in-Ok.ensures.fits))

pub returns : goal.returns
returns c =
    let other : c.in-Err.refusal ≢ job_error.Memory = search rules in
    record {
      same = ap (λ (t : LedgerTables). t.history) c.self.view_is;
      step = still (the_view c.self.inside) c.args.self.now c.args.session (request.Template c.args.template) (reply.TemplateRefused c.in-Err.refusal)
          c.self.view_is
          (template-refused (the_view c.self.inside) c.self.invariant c.args.session c.histories_are_read.ensures c.rules.result.now c.rules.ensures
          c.bytes-script.result.now c.bytes-script.ensures c.plan_template.new.self c.args.template c.in-Err.refusal other c.in-Err.ensures.refusal);
    }
