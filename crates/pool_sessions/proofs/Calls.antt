-- Calls of a book by itself.
use Rattle.std.proofs.Common.{◌≡◌, ℕ, ◌≤◌, false, List, [], ◌∷◌, ◌++◌, Option, Some, None, Result, Ok, Err, length, refl, sym, ap, subst, ◌∙◌, append_assoc, append-nil, arith}
use Rattle.std.specs.Prelude.{IfOk, OnErr}
use Rattle.std.proofs.lemmas.List.{length-take-le}
use Rattle.pool_base.specs.Calls.{IsOutcome, Outcome, Replied, Faulted}
use Rattle.pool_base.specs.Counts.{Rose}
use Rattle.pool_io.specs.Outside.{CountsFailure}
use Rattle.pool_history.specs.declared.asking.Request.{Request}
use Rattle.pool_history.specs.declared.events.Event.{Event}
use Rattle.pool_history.specs.declared.refusals.BookError.{BookError}
use Rattle.pool_history.specs.declared.refusals.BookError.TheVariants as fault
use Rattle.pool_history.specs.declared.replies.Reply.{Reply}
use Rattle.pool_history.specs.Answering.{Answer}
use Rattle.pool_history.specs.Calls.{PoolCall, blames_keeper, wants_memory}
use Rattle.pool_history.specs.Legal.{Legal}
use Rattle.history_laws.specs.Answered.{AnswersKeepLegality, BriefsRoll}
use Rattle.ledger_records.specs.Requests.{IsWellFormedRequest}
use Rattle.v2_sessions.specs.Answerers.{Acts, RollsAsBriefed, outcome_of}
use Rattle.share_ledger.specs.Books.{BookSeen, IsReplied, KeepsInstead, KeepsLedger, is_keeper_fault}
use Rattle.share_ledger.specs.Recovery.{KeepsBeginning}
use Rattle.pool_sessions.specs.Calling.{CallsBook, GoesOn, StandInTurn, added_in}

-- a fault that isn't a lack of memory was counted
fault_rose : (cause : BookError) (before after : ℕ) → CountsFailure (blames_keeper cause) before after → wants_memory cause ≡ false → Rose before after
fault_rose fault.KeeperFault before after counts wanted = omega (arith, counts)
fault_rose fault.Memory before after counts wanted = cc

module _ (worker : ℕ) (old new : BookSeen) (asked : Request) (front : ℕ) (at_end : front ≡ length old.events)
    (kept : KeepsInstead old.keeper.records new.keeper.records new.events) (begun : KeepsBeginning old.keeper new.keeper) where
  -- the call that a request made
  pub called : (outcome : Result Reply BookError) → IfOk outcome (IsReplied old.events new.events worker asked) → OnErr outcome (new.events ≡ old.events)
      → CountsFailure (is_keeper_fault outcome) old.keeper.faults new.keeper.faults
      → (call : PoolCall) × (call.worker ≡ worker) × (call.front ≡ front) × (call.asked ≡ asked) × (call.outcome ≡ outcome_of outcome) × CallsBook old call new
  called (Ok answer) replied refused counts = (
    record { worker = worker; number = 0; front = front; faults_before = old.keeper.faults; faults_after = new.keeper.faults; asked = asked; outcome = Replied answer; added = replied.0 },
    refl,
    refl,
    refl,
    refl,
    record { at_end = at_end; grows = replied.1; ended = replied.2; kept = kept; begun = begun; count_before = refl; count_after = refl; counts = counts },
  )
  called (Err cause) replied refused counts = (
    record { worker = worker; number = 0; front = front; faults_before = old.keeper.faults; faults_after = new.keeper.faults; asked = asked; outcome = Faulted cause; added = [] },
    refl,
    refl,
    refl,
    refl,
    record {
      at_end = at_end;
      grows = refused ∙ sym (append-nil old.events);
      ended = (refl, fault_rose cause old.keeper.faults new.keeper.faults counts);
      kept = kept;
      begun = begun;
      count_before = refl;
      count_after = refl;
      counts = counts;
    },
  )

-- a share that is briefed rolls as many bytes as its channel
pub rolls : (old new : List Event) (worker : ℕ) (asked : Request) (outcome : Result Reply BookError) → BriefsRoll → IsWellFormedRequest asked → IfOk outcome (IsReplied old new worker asked)
    → RollsAsBriefed asked outcome
rolls old new worker asked outcome roll fits replied sub brief asks is =
    let sent = rw asks at fits in
    let told = rw (is, asks) at replied in
    let whole : sub.extranonce_len ≤ length sub.extranonce = omega (arith, sent.extranonce, sub.extranonce_fits) in
    sym (length-take-le sub.extranonce_len sub.extranonce whole) ∙ roll old worker sub told.0 brief told.2

-- what a keeper tells goes on
pieces_on : (a b c : Option (List (List ℕ))) (h1 h2 : List Event) → KeepsInstead a b h1 → KeepsInstead b c h2 → KeepsInstead a c h2
pieces_on None b c h1 h2 first then = rw first at then
pieces_on (Some told) b c h1 h2 first then = rw first at then

pieces_none : (a : Option (List (List ℕ))) (h : List Event) → KeepsLedger a h → KeepsInstead a a h
pieces_none None h keeps = refl
pieces_none (Some told) h keeps = ap Some keeps

pieces_keep : (a b : Option (List (List ℕ))) (h : List Event) → KeepsInstead a b h → KeepsLedger b h
pieces_keep None b h instead = rw instead tt
pieces_keep (Some told) b h instead = rw instead refl

legal_on : AnswersKeepLegality → (history : List Event) (call : PoolCall) (outcome : Outcome Reply BookError) → IsOutcome Answer wants_memory history call outcome → Legal history
    → Legal (history ++ call.added)
legal_on keep history call (Replied answer) ended legal = keep history call.worker call.asked call.added answer legal ended
legal_on keep history call (Faulted cause) ended legal = rw (ended.0, append-nil history) legal

pub goes_on : AnswersKeepLegality → (old new : BookSeen) (calls : List PoolCall)
    → Acts CallsBook old calls new → GoesOn old calls new
goes_on keep old new [] acts =
    rw acts
    (record { grows = sym (append-nil old.events); turns = tt; kept = λ keeps. pieces_none old.keeper.records old.events keeps; begun = refl; legal = λ legal. legal })
goes_on keep old new (call ∷ calls) acts =
    let middle = acts.0 in
    let first = acts.1 in
    let rest = goes_on keep middle new calls acts.2 in
    record {
      grows = rest.grows ∙ ap (λ h. h ++ added_in calls) first.grows ∙ append_assoc old.events call.added (added_in calls);
      turns = (first.at_end, first.ended, subst (λ h. StandInTurn h calls) first.grows rest.turns);
      kept = λ keeps.
          pieces_on old.keeper.records middle.keeper.records new.keeper.records middle.events new.events first.kept
          (rest.kept (pieces_keep old.keeper.records middle.keeper.records middle.events first.kept));
      begun = rest.begun ∙ first.begun;
      legal = λ legal. rest.legal (rw first.grows (legal_on keep old.events call call.outcome first.ended legal));
    }
