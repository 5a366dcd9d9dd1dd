-- The sessions that were present when an earlier run ended (this project's own).
use Rattle.std.specs.Prelude.{ℕ, ◌≡◌, ◌<◌, zero, suc, List, Result, Ok, Err}
use Rattle.pool_history.specs.declared.asking.Request.TheVariants as request
use Rattle.pool_history.specs.declared.events.Event.{Event}
use Rattle.pool_history.specs.declared.replies.Reply.{Reply}
use Rattle.share_ledger.specs.Books.{IsReplied}

-- this worker's Leave was asked, and is answered by the history
abbrev pub IsAskedToLeave : ℕ → (old new : List Event) → Type 0
IsAskedToLeave worker old new = (answer : Reply) × IsReplied old new worker request.Leave answer

-- so were those of the first so many workers, one after the other
unfoldable pub LeaveUpTo : ℕ → (old new : List Event) → Type 0
LeaveUpTo zero old new = new ≡ old
LeaveUpTo (suc worker) old new =
    (middle : List Event) × LeaveUpTo worker old middle × IsAskedToLeave worker middle new

-- so were those of all these workers; or the next one's wasn't answered
abbrev pub LeaveInTurn : {E : Type 0} → ℕ → (old new : List Event) → Result Unit E → Type 0
LeaveInTurn workers old new (Ok done) = LeaveUpTo workers old new
LeaveInTurn workers old new (Err error) =
    (worker : ℕ) × (worker < workers) × LeaveUpTo worker old new
