-- Shares that are booked (this project's own).
use Rattle.std.specs.Prelude.{◌≡◌, ℕ}
use Rattle.pool_history.specs.declared.replies.Reply.TheVariants as reply
use Rattle.pool_history.specs.Answering.{with_event}
use Rattle.pool_history.specs.Judging.{Share}
use Rattle.history_laws.specs.Answered.{credit_of}
use Rattle.share_ledger.specs.declared.planning.Step.{Step}
use Rattle.share_ledger.specs.Planning.{IsStep}
use Rattle.share_ledger.specs.Tables.{LedgerTables}

-- the step is the credit of a share, answered with its work
abbrev pub BooksPassed : LedgerTables → ℕ → Share → ℕ → Step → Type 0
BooksPassed tables session share work planned =
    IsStep tables (with_event (credit_of session share) (reply.Credited work)) planned
