-- Calls that part a history keep it legal.
use Rattle.std.proofs.Common.{List, [], ◌∷◌, ◌++◌, take, subst, sym}
use Rattle.std.proofs.lemmas.List.{append-nil}
use Rattle.std.specs.List.{AllByRecursion}
use Rattle.pool_base.proofs.Behind.{all-kept, its-front}
use Rattle.pool_base.specs.Calls.{Faulted, IsOutcome, Outcome, Replied}
use Rattle.pool_history.specs.declared.events.Event.{Event}
use Rattle.pool_history.specs.declared.refusals.BookError.{BookError}
use Rattle.pool_history.specs.declared.replies.Reply.{Reply}
use Rattle.pool_history.specs.Answering.{Answer}
use Rattle.pool_history.specs.Calls.{PoolCall, wants_memory}
use Rattle.pool_history.specs.Legal.{Legal}
use Rattle.history_laws.specs.Serving.{CallsAreAnswered, CallsAreJudged, CallsKeepLegality}
use Rattle.history_laws.proofs.Answering.{answers-legal}
use Rattle.history_laws.proofs.Judged.{judged}

-- the events of a call keep the history before it legal
outcome-legal : (before : List Event) (call : PoolCall) (o : Outcome Reply BookError) → IsOutcome Answer wants_memory before call o → Legal before
    → Legal (before ++ call.added)
outcome-legal before call (Replied answer) h l = answers-legal before call.worker call.asked call.added answer l h
outcome-legal before call (Faulted fault) h l = subst (λ added. Legal (before ++ added)) (sym h.0) (subst Legal (sym (append-nil before)) l)

-- any call will do
abbrev AnyCall : PoolCall → Type 0
AnyCall call = Unit {0}

any : (calls : List PoolCall) → AllByRecursion AnyCall calls
any [] = tt
any (call ∷ calls) = (tt, any calls)

pub calls-legal : CallsKeepLegality
calls-legal start history least most calls parted good l =
    all-kept Answer wants_memory Legal AnyCall (λ before call s h k. outcome-legal before call call.outcome h k) start history least most calls parted good
    (any calls) l

pub calls-answered : CallsAreAnswered
calls-answered history call answer g replied =
    subst (λ b. Answer b call.worker call.asked call.added answer) (sym (its-front Answer wants_memory history call g))
    (subst (IsOutcome Answer wants_memory g.before call) replied g.outcome)

pub calls-judged : CallsAreJudged
calls-judged history call checked answer may g asked replied =
    judged (take call.front history) call.worker may checked call.added answer
    (subst (λ a. Answer (take call.front history) call.worker a call.added answer) asked (calls-answered history call answer g replied))
