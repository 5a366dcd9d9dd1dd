-- Calls that part a history keep a ledger of it.
use Rattle.std.proofs.Common.{List, ◌++◌, subst, sym}
use Rattle.std.proofs.lemmas.List.{append-nil}
use Rattle.pool_base.proofs.Behind.{all-kept}
use Rattle.pool_base.specs.Calls.{Faulted, IsOutcome, Outcome, Replied}
use Rattle.pool_history.specs.declared.events.Event.{Event}
use Rattle.pool_history.specs.declared.refusals.BookError.{BookError}
use Rattle.pool_history.specs.declared.replies.Reply.{Reply}
use Rattle.pool_history.specs.Answering.{Answer}
use Rattle.pool_history.specs.Calls.{PoolCall, wants_memory}
use Rattle.ledger_records.specs.Keeping.{CallsCanBeKept, IsKept, IsWellFormedCall}
use Rattle.ledger_records.proofs.Answered.{answers-kept}

-- the history before a call, with the events of the call
outcome-kept : (before : List Event) (call : PoolCall) (o : Outcome Reply BookError) → IsWellFormedCall call → IsOutcome Answer wants_memory before call o
    → IsKept before → IsKept (before ++ call.added)
outcome-kept before call (Replied answer) w h k = (answers-kept before call.worker call.asked call.added answer k w.worker_fits w.asked_fits h).kept
outcome-kept before call (Faulted fault) w h k = subst (λ added. IsKept (before ++ added)) (sym h.0) (subst IsKept (sym (append-nil before)) k)

pub calls-kept : CallsCanBeKept
calls-kept start history least most calls parted good fit k =
    all-kept Answer wants_memory IsKept IsWellFormedCall (λ before call w h before_kept. outcome-kept before call call.outcome w h before_kept)
    start history least most calls parted good fit k
