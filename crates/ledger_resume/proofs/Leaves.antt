-- Workers that leave, one after the other.
use Rattle.std.proofs.Common.{◌≡◌, inr, ℕ, ◌+◌, zero, suc, List, [], ◌++◌, Option, None, Some, Result, Ok, Err, IfErr, refl, ap, subst, sym, ◌∙◌, add-one, append_assoc, append-nil}
use Rattle.pool_base.specs.Lists.{Begins}
use Rattle.pool_io.specs.Outside.{CountsFailure}
use Rattle.pool_io.specs.Seen.{KeeperSeen}
use Rattle.ledger_disk.specs.Calls.{DiskSeen}
use Rattle.ledger_disk.specs.Crashes.{entries_told}
use Rattle.pool_history.specs.declared.events.Event.{Event}
use Rattle.pool_history.specs.declared.settings.Rules.{Rules}
use Rattle.share_ledger.specs.Books.{BookSeen, KeepsInstead, KeepsLedger}
use Rattle.share_ledger.specs.Recovery.{KeepsBeginning}
use Rattle.ledger_resume.specs.declared.cause.NoBook.{NoBook}
use Rattle.ledger_resume.specs.Books.{AreOfPool, IsNotMadeOf, HasUnendedSession, keeper_on}
use Rattle.ledger_resume.specs.Causes.{is_disk_fault}
use Rattle.ledger_resume.specs.Leaving.{IsAskedToLeave, LeaveUpTo}

pub none_left : (events : List Event) → LeaveUpTo 0 events events
unfolding LeaveUpTo
none_left events = refl

pub one_left : (worker : ℕ) (old middle new : List Event) → LeaveUpTo worker old middle → IsAskedToLeave worker middle new → LeaveUpTo (worker + 1) old new
unfolding LeaveUpTo
one_left worker old middle new left one = subst (λ (n : ℕ). LeaveUpTo n old new) (sym (add-one worker)) (middle, left, one)

-- what a keeper tells stays, and goes on
pub keeps_itself : (told : Option (List (List ℕ))) (history : List Event) → KeepsLedger told history → KeepsInstead told told history
keeps_itself None history keeps = refl
keeps_itself (Some records) history keeps = ap Some keeps

pub keeps_on : (a b c : Option (List (List ℕ))) (between history : List Event) → KeepsInstead a b between → KeepsInstead b c history → KeepsInstead a c history
keeps_on None b c between history first then = rw first at then
keeps_on (Some records) b c between history first then = rw first at then

-- a history that workers leave goes on
pub leave_begins : (workers : ℕ) (old new : List Event) → LeaveUpTo workers old new → Begins old new
unfolding LeaveUpTo
leave_begins zero old new left = ([], append-nil old ∙ sym left)
leave_begins (suc worker) old new left =
    let before = leave_begins worker old left.0 left.1 in
    let added = left.2.1 in
    (before.0 ++ added.0, sym (append_assoc old before.0 added.0) ∙ ap (λ (l : List Event). l ++ added.0) before.1 ∙ sym added.1)

-- where a Leave wasn't answered there is no book
pub not_left : {B D : Type 0} (seen : D → DiskSeen) (rules : Rules) (ledger : DiskSeen) (records : List (List ℕ)) (book : BookSeen) (result : Result B (D × NoBook))
    → AreOfPool rules records book.events → book.keeper ≡ keeper_on ledger → IfErr result (λ back. HasUnendedSession book (seen back.0) back.1)
    → IfErr result (λ back. IsNotMadeOf rules ledger records (seen back.0) back.1)
not_left seen rules ledger records book (Ok made) of_pool same stands = tt
not_left seen rules ledger records book (Err back) of_pool same stands = inr (inr (record {
  past = book.events;
  of_pool = of_pool;
  worker = stands.worker;
  few = stands.few;
  events = stands.events;
  left = stands.left;
  is_kept = stands.is_kept;
  kept = subst (λ (k : KeeperSeen). KeepsInstead k.records (entries_told (seen back.0)) stands.events) same stands.kept;
  begun = subst (λ (k : KeeperSeen). KeepsBeginning k (keeper_on (seen back.0))) same stands.begun;
  leaves = stands.leaves;
  own = stands.own;
  counts = subst (λ (k : KeeperSeen). CountsFailure (is_disk_fault back.1) k.faults (seen back.0).faults) same stands.counts;
}))
