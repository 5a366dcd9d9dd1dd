use Rattle.std.proofs.Common.{sym, ◌∙◌, ◌≡◌, subst, Some}
use Rattle.std.specs.Prelude.{IfErr, IfOk, Ok}
use Rattle.pool_history.specs.Judging.{share_of}
use Rattle.pool_history.specs.Sessions.{rules_of, script_of}
use Rattle.pool_tables.specs.Passing as passing
use Rattle.share_ledger.specs.contracts.tables.Tables.{the_view}
use Rattle.share_ledger.specs.Planning.{past_in}
use Rattle.share_ledger.specs.Shares.{IsPassed, Passes, failed_within}
use Rattle.share_ledger.specs.Tables.{LedgerTables}
use Rattle.share_ledger.proofs.ShareSteps.{as_passed, credits_counted, failed_all, header_rebuilt, passed_all}
use Rattle.share_ledger.proofs.Within.{shows_shares}
use Rattle.share_ledger.proofs.tables.Tables.pass.Goals as goal

pub returns-clause-err : goal.returns-clause-err
returns-clause-err c =
    let old : LedgerTables = the_view c.self.inside in
    let found = c.in-Ok.ensures.admitted (past_in old) (shows_shares old c.self.invariant c.tables_show_histories.ensures) in
    let rebuilt = header_rebuilt old c.self.invariant c.args.session c.rules-rules.result.now c.rules-rules.ensures c.checked_headers_are_rebuilt.ensures
    c.args.checked.now.sub found.0 c.parts.result c.header_by_parts.result.0 (c.parts.ensures.given (script_of (past_in old)) found.0 found.2)
    c.header_by_parts.ensures.header in
    let passes = c.pass.ensures.passes (script_of (past_in old)) (past_in old) found.0 found.2 c.self.invariant.told.headers_are
    (c.pushes-credits.ensures ∙ credits_counted old c.self.invariant c.args.session c.rules-rules.result.now c.rules-rules.ensures) in
    subst (λ (t : LedgerTables). IfErr c.pass.result (λ code. Some code
    ≡ failed_within (rules_of (past_in t)) (past_in t) c.args.session (share_of c.args.checked.now.sub))) c.self.view_is
    (failed_all old c.self.invariant c.args.session c.rules-rules.result.now c.rules-rules.ensures (share_of c.args.checked.now.sub) found.0
    c.header_by_parts.result.0 c.pass.result found.1 rebuilt passes)

pub returns-clause-ok : goal.returns-clause-ok
returns-clause-ok c =
    let old : LedgerTables = the_view c.self.inside in
    let found = c.in-Ok.ensures.admitted (past_in old) (shows_shares old c.self.invariant c.tables_show_histories.ensures) in
    let rebuilt = header_rebuilt old c.self.invariant c.args.session c.rules-rules.result.now c.rules-rules.ensures c.checked_headers_are_rebuilt.ensures
    c.args.checked.now.sub found.0 c.parts.result c.header_by_parts.result.0 (c.parts.ensures.given (script_of (past_in old)) found.0 found.2)
    c.header_by_parts.ensures.header in
    let passes = c.pass.ensures.passes (script_of (past_in old)) (past_in old) found.0 found.2 c.self.invariant.told.headers_are
    (c.pushes-credits.ensures ∙ credits_counted old c.self.invariant c.args.session c.rules-rules.result.now c.rules-rules.ensures) in
    as_passed old c.args.self.now c.self.view_is c.args.session (share_of c.args.checked.now.sub) c.rules-rules.result.now c.rules-rules.ensures c.pass.result
    (passed_all old c.self.invariant c.args.session c.rules-rules.result.now c.rules-rules.ensures (share_of c.args.checked.now.sub) found.0
    c.header_by_parts.result.0 c.pass.result found.1 rebuilt passes)
