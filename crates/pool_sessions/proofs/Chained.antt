-- What the calls of a session over a book of its own did to its keeper.
use Rattle.std.proofs.Common.{ℕ, List, [], ◌∷◌, Option, Some, None, refl, sym, ap, subst}
use Rattle.pool_history.specs.declared.events.Event.{Event}
use Rattle.pool_history.specs.Calls.{PoolCall, has_keeper_failed}
use Rattle.pool_io.specs.Outside.{CountsFailure}
use Rattle.v2_sessions.specs.Answerers.{Acts}
use Rattle.share_ledger.specs.Books.{BookSeen, KeepsInstead, KeepsLedger}
use Rattle.pool_sessions.specs.Calling.{CallsBook}
use Rattle.pool_sessions.specs.Solo.{CountsCalls}

-- calls are those of what is seen of who answers
pub acts_seen : {A B : Type 0} (new : A) (see : A → B) (does : B → PoolCall → B → Type 0) (old : A) (calls : List PoolCall)
    → Acts (λ before call after. does (see before) call (see after)) old calls new → Acts does (see old) calls (see new)
acts_seen new see does old [] acts = ap see acts
acts_seen new see does old (call ∷ calls) acts = (see acts.0, acts.1, acts_seen new see does acts.0 calls acts.2)

-- the counts round the calls are the keeper's
pub counts_calls : (old new : BookSeen) (calls : List PoolCall)
    → Acts CallsBook old calls new → CountsCalls old.keeper.faults calls new.keeper.faults
counts_calls old new [] acts = ap (λ (book : BookSeen). book.keeper.faults) acts
counts_calls old new (call ∷ calls) acts =
    let first = acts.1 in
    (first.count_before, subst (λ n. CountsFailure (has_keeper_failed call.outcome) old.keeper.faults n) (sym first.count_after) first.counts, subst (λ n. CountsCalls n calls new.keeper.faults) (sym first.count_after) (counts_calls acts.0 new calls acts.2))

-- a keeper that began with a history's ledger and then went on with its calls has the ledger of all
pub ledger_on : (before begun after : Option (List (List ℕ))) (start history : List Event) → KeepsInstead before begun start
    → (KeepsLedger begun start → KeepsInstead begun after history) → KeepsInstead before after history
ledger_on None begun after start history begins goes = (rw begins at goes) tt
ledger_on (Some told) begun after start history begins goes = (rw begins at goes) refl
