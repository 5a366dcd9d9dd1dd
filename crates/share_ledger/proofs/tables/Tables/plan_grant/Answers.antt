use Rattle.std.proofs.Common.{rules, sym, ◌∙◌, ◌≡◌, ◌≢◌, ◌≤◌, ◌+◌, ap, subst, length, None, Some}
use Rattle.pool_history.specs.declared.asking.Request.TheVariants as request
use Rattle.pool_history.specs.declared.events.Event.TheVariants as event
use Rattle.pool_history.specs.declared.replies.Reply.TheVariants as reply
use Rattle.share_ledger.specs.declared.planning.Change.TheVariants as change
use Rattle.share_ledger.specs.contracts.tables.Tables.{the_view}
use Rattle.share_ledger.specs.Tables.{LedgerTables}
use Rattle.pool_history.specs.Accounts.{account_of}
use Rattle.pool_tables.specs.GrantTables.{grant_refusal_after, granted_count}
use Rattle.share_ledger.proofs.TokenSteps.{grant-made-as, grant-refused}
use Rattle.share_ledger.proofs.Within.{moved, not_some, script_short, script_some, still}
use Rattle.share_ledger.proofs.tables.Tables.plan_grant.Goals as goal

pub returns-in-Some-clause-step : goal.returns-in-Some-clause-step
returns-in-Some-clause-step c =
    let account_is : c.account_in-account.result.now ≡ account_of c.args.identity = c.account_in-account.ensures ∙ ap account_of c.text.ensures.value in
    still (the_view c.self.inside) c.args.self.now c.args.session (request.Grant c.args.identity c.args.path) (reply.GrantRefused c.in-Some.refusal)
    c.self.view_is
    (grant-refused (the_view c.self.inside) c.self.invariant c.args.session c.rules-rules.result.now c.rules-rules.ensures (the_view c.self.inside)
    c.args.identity c.args.path c.fixed_path-fixed.result.0 c.fixed_path-fixed.result.1 c.in-Some.refusal c.fixed_path-fixed.ensures
    (c.in-Some.ensures
    ∙ ap (λ n. grant_refusal_after c.rules-rules.result.now n c.account_in-account.result.now (length c.items.result.now)) c.count-count.ensures.value
    ∙ ap (λ a. grant_refusal_after c.rules-rules.result.now (granted_count c.self.inside.grants) a (length c.items.result.now)) account_is
    ∙ ap (λ p. grant_refusal_after c.rules-rules.result.now (granted_count c.self.inside.grants) (account_of c.args.identity) (length p))
    c.items.ensures.value))

pub of-script-requires-clause-some : goal.of-script-requires-clause-some
of-script-requires-clause-some c =
    subst (λ s. 1 ≤ length s) (sym (c.in_ok-of.ensures ∙ c.bytes.ensures))
    (script_some _ c.self.invariant c.rules-rules.result.now c.rules-rules.ensures)

pub of-script-requires-clause-short : goal.of-script-requires-clause-short
of-script-requires-clause-short c =
    subst (λ s. length s ≤ 100) (sym (c.in_ok-of.ensures ∙ c.bytes.ensures))
    (script_short _ c.self.invariant c.rules-rules.result.now c.rules-rules.ensures)

pub returns-clause-step : goal.returns-clause-step
returns-clause-step c =
    let account_is : c.account_in-account.result.now ≡ account_of c.args.identity = c.account_in-account.ensures ∙ ap account_of c.text.ensures.value in
    let none : c.grant_refusal_of.result ≡ None = not_some c.grant_refusal_of.result c.in_default.not-Some in
    let told : None ≡ grant_refusal_after c.rules-rules.result.now (granted_count c.self.inside.grants) (account_of c.args.identity)
    (length c.fixed_path-fixed.result.1) =
    sym none ∙ c.grant_refusal_of.ensures
    ∙ ap (λ n. grant_refusal_after c.rules-rules.result.now n c.account_in-account.result.now (length c.items.result.now)) c.count-count.ensures.value
    ∙ ap (λ a. grant_refusal_after c.rules-rules.result.now (granted_count c.self.inside.grants) a (length c.items.result.now)) account_is
    ∙ ap (λ p. grant_refusal_after c.rules-rules.result.now (granted_count c.self.inside.grants) (account_of c.args.identity) (length p))
    c.items.ensures.value in
    moved (the_view c.self.inside) c.args.self.now _ c.args.session (request.Grant c.args.identity c.args.path)
    (event.Grant c.args.session c.in_ok-of-2.field-0 c.fixed_path-fixed.result.0 c.in_ok-of-3.field-0)
    (change.Grant c.in_ok-of-4.field-0 c.fixed_path-fixed.result.0 c.fixed_path-fixed.result.1) (reply.Granted (c.from.result + 1) c.of-script.result)
    c.self.view_is
    (grant-made-as (the_view c.self.inside) c.self.invariant c.args.session c.rules-rules.result.now c.rules-rules.ensures c.reserve.new.self
    c.args.identity c.args.path c.fixed_path-fixed.result.0 c.fixed_path-fixed.result.1 (c.from.result + 1) c.of-script.result
    c.in_ok-of-2.field-0 c.in_ok-of-4.field-0 c.in_ok-of-3.field-0 (c.in_ok-of-2.ensures ∙ account_is) (c.in_ok-of-4.ensures ∙ account_is)
    (c.in_ok-of-3.ensures ∙ c.items-2.ensures.value) c.fixed_path-fixed.ensures told
    (ap (λ n. n + 1) (c.from.ensures ∙ c.count-count.ensures.value)) (c.of-script.ensures ∙ c.in_ok-of.ensures ∙ c.bytes.ensures)
    c.in_ok-reserve.ensures.room (ap length c.in_ok-reserve.ensures.same.held_stay))
