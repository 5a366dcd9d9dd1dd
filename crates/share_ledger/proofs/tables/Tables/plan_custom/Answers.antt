use Rattle.std.proofs.Common.{rules, sym, ◌∙◌, ◌≡◌, ◌≢◌, ◌≤◌, ◌+◌, ap, subst, length, None, Some}
use Rattle.pool_history.specs.declared.asking.Request.TheVariants as request
use Rattle.pool_history.specs.declared.events.Event.TheVariants as event
use Rattle.pool_history.specs.declared.replies.Reply.TheVariants as reply
use Rattle.share_ledger.specs.declared.planning.Change.TheVariants as change
use Rattle.share_ledger.specs.contracts.tables.Tables.{the_view}
use Rattle.share_ledger.specs.Tables.{LedgerTables}
use Rattle.std.specs.Option.{option_copied}
use Rattle.coinbase.specs.declared.error.OutputsError.TheVariants as outputs_error
use Rattle.pool_history.specs.declared.refusals.CustomError.TheVariants as custom_error
use Rattle.pool_tables.specs.OwnJobs.{refusal_before_coinbase}
use Rattle.share_ledger.proofs.TokenSteps.{custom-made, custom-refused, custom-unmade, own_few}
use Rattle.share_ledger.proofs.Within.{moved, not_some, script_short, script_some, still}
use Rattle.share_ledger.proofs.tables.Tables.plan_custom.Goals as goal

pub plan_custom-requires-clause-some : goal.plan_custom-requires-clause-some
plan_custom-requires-clause-some c =
    subst (λ s. 1 ≤ length s) (sym c.bytes-script.ensures) (script_some _ c.self.invariant c.rules.result.now c.rules.ensures)

pub plan_custom-requires-clause-short : goal.plan_custom-requires-clause-short
plan_custom-requires-clause-short c =
    subst (λ s. length s ≤ 100) (sym c.bytes-script.ensures) (script_short _ c.self.invariant c.rules.result.now c.rules.ensures)

pub plan_custom-requires-clause-few : goal.plan_custom-requires-clause-few
plan_custom-requires-clause-few c =
    own_few (the_view c.self.inside) c.self.invariant c.args.session c.rules.result.now c.rules.ensures
    (c.own_job_refusal.ensures.few (not_some c.own_job_refusal.result c.in_default.not-Some))

pub returns-in-Some-clause-step : goal.returns-in-Some-clause-step
returns-in-Some-clause-step c =
    let old : LedgerTables = the_view c.self.inside in
    let told : Some c.in-Some.refusal ≡ refusal_before_coinbase (option_copied c.own-there.result) c.self.inside.grants c.self.inside.jobs.tip c.args.custom =
    c.in-Some.ensures.refusal
    ∙ ap (λ t. refusal_before_coinbase (option_copied c.own-there.result) c.self.inside.grants t c.args.custom) c.tip.ensures in
    still old c.args.self.now c.args.session (request.Custom c.args.custom) (reply.CustomRefused c.in-Some.refusal) c.self.view_is
    (custom-refused old c.self.invariant c.args.session c.self.invariant.rules c.self.invariant.told.are_rules c.tables_show_histories.ensures
    old c.args.custom (option_copied c.own-there.result) c.in-Some.refusal c.own-there.ensures told)

pub returns-in-Ok-clause-step : goal.returns-in-Ok-clause-step
returns-in-Ok-clause-step c =
    let none : c.own_job_refusal.result ≡ None = not_some c.own_job_refusal.result c.in_default.not-Some in
    let told : None ≡ refusal_before_coinbase (option_copied c.own-there.result) c.self.inside.grants c.self.inside.jobs.tip c.args.custom =
    sym none ∙ c.own_job_refusal.ensures.refusal
    ∙ ap (λ t. refusal_before_coinbase (option_copied c.own-there.result) c.self.inside.grants t c.args.custom) c.tip.ensures in
    rw c.in_ok-new-in-Ok.ensures
    (moved (the_view c.self.inside) c.args.self.now _ c.args.session (request.Custom c.args.custom) (event.Custom c.args.session c.args.custom)
    (change.Custom c.in-Ok.plan c.in_ok-token.token) (reply.CustomJob (c.count-number.result + 1)) c.self.view_is
    (custom-made (the_view c.self.inside) c.self.invariant c.args.session c.rules.result.now c.rules.ensures c.tables_show_histories.ensures
    c.plan_custom.new.self c.args.custom (option_copied c.own-there.result) c.in-Ok.plan (c.count-number.result + 1) c.len-at.result
    c.bytes-script.result.now c.in_ok-token.token c.len-at.ensures.value (c.in_ok-token.ensures ∙ c.bytes.ensures) c.own-there.ensures told
    c.bytes-script.ensures c.in-Ok.ensures.refusal (ap (λ n. n + 1) c.count-number.ensures.value) c.in-Ok.ensures.planned c.in-Ok.ensures.fits
    (c.own_job_refusal.ensures.ready none)))

pub returns : goal.returns
returns c =
    let other : c.in-Err.error ≢ outputs_error.Memory = search rules in
    let none : c.own_job_refusal.result ≡ None = not_some c.own_job_refusal.result c.in_default.not-Some in
    let told : None ≡ refusal_before_coinbase (option_copied c.own-there.result) c.self.inside.grants c.self.inside.jobs.tip c.args.custom =
    sym none ∙ c.own_job_refusal.ensures.refusal
    ∙ ap (λ t. refusal_before_coinbase (option_copied c.own-there.result) c.self.inside.grants t c.args.custom) c.tip.ensures in
    record {
      same = ap (λ (t : LedgerTables). t.history) c.self.view_is;
      step = still (the_view c.self.inside) c.args.self.now c.args.session (request.Custom c.args.custom)
          (reply.CustomRefused (custom_error.Coinbase c.in-Err.error)) c.self.view_is
          (custom-unmade (the_view c.self.inside) c.self.invariant c.args.session c.rules.result.now c.rules.ensures c.tables_show_histories.ensures
          (the_view c.self.inside) c.args.custom (option_copied c.own-there.result) c.in-Err.error c.bytes-script.result.now c.own-there.ensures told other
          c.bytes-script.ensures c.in-Err.ensures.refusal);
    }
