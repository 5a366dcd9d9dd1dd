use Rattle.std.proofs.Common.{sym, ◌≡◌, ◌∙◌, subst}
use Rattle.std.specs.Prelude.{IsTrue}
use Rattle.pool_history.specs.Accounts.{is_window}
use Rattle.share_ledger.specs.contracts.tables.Tables.{the_view}
use Rattle.pool_tables.proofs.Ranges.{window_and_limit}
use Rattle.share_ledger.proofs.Started.{started}
use Rattle.share_ledger.proofs.tables.Tables.start.Goals as goal

pub new-requires-2 : goal.new-requires-2
new-requires-2 c =
    record { window = subst (λ w. IsTrue (is_window w)) (sym c.rule_of-rule.ensures) (window_and_limit c.args.rules c.requires).0 }

pub invariant_of-result : goal.invariant_of-result
invariant_of-result c =
    started c.args.rules _ c.starts_are_kept.ensures c.other_events_leave_sessions.ensures c.other_events_leave_grants.ensures c.requires
    c.in_ok-history.ensures c.start_fits.ensures c.new-sessions.ensures c.in_ok-channels.ensures c.new-jobs.ensures.told c.new-jobs.ensures.coinbases
    c.new-grants.ensures (c.in_ok-tally.ensures.window ∙ c.rule_of-rule.ensures) c.in_ok-tally.ensures.told c.in_ok-tally.ensures.summed
    c.new-headers.ensures
