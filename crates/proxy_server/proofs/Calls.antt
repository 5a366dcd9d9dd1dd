-- Calls of a proxy's pass go on.
use Rattle.std.proofs.Common.{◌≡◌, ℕ, Result, Ok, Err, List, [], ◌∷◌, ◌++◌, sym, subst}
use Rattle.std.specs.List.{AllByRecursion}
use Rattle.std.specs.declared.alloc.AllocError.{AllocError}
use Rattle.pool_base.specs.Calls.{Call, Replied, Faulted}
use Rattle.desk.specs.Calling.{IsAsked}
use Rattle.desk.proofs.Calls.{goes_both, goes_none, goes_one}
use Rattle.proxy_rules.specs.declared.requests.ProxyReply.{ProxyReply}
use Rattle.proxy_rules.specs.declared.requests.ProxyRequest.{ProxyRequest}
use Rattle.proxy_rules.specs.declared.requests.ProxyRequest.TheVariants as request
use Rattle.proxy_rules.specs.Answering.{ProxyAnswers}
use Rattle.proxy_server.specs.Calls.{ActsEach, AreBytes, ProxyCall, RepliesTo, wants_memory}
use Rattle.proxy_server.specs.Calling.{CallsProxy, ProxyPass}
use Rattle.proxy_server.specs.Visits.{CallsByPass}

-- a poll is replied to by bytes
poll_bytes : (old new : ProxyPass) (from : ℕ) (answer : ProxyReply) → IsAsked ProxyAnswers wants_memory old (request.Poll from) (Ok answer) new → AreBytes answer
poll_bytes old new from answer asked =
    let call = asked.calls in
    let ended = subst (λ o. Rattle.pool_base.specs.Calls.IsOutcome ProxyAnswers wants_memory call.events asked.call o) asked.outcome_is call.ended in
    subst AreBytes (sym (rw asked.asked_is at ended.replies)) tt

pub replies_to : (old new : ProxyPass) (asked : ProxyRequest) (result : Result ProxyReply AllocError) → IsAsked ProxyAnswers wants_memory old asked result new → RepliesTo asked result
replies_to old new (request.Poll from) (Ok answer) h = poll_bytes old new from answer h
replies_to old new (request.Poll from) (Err fault) h = tt
replies_to old new (request.Up bytes) result h = tt
replies_to old new request.UpEnd result h = tt
replies_to old new request.Join result h = tt
replies_to old new (request.Line line) result h = tt
replies_to old new request.Leave result h = tt

-- calls of one pass, each for its worker
pub by_pass : (old new : ProxyPass) (calls : List ProxyCall) → ActsEach CallsProxy old calls new → CallsByPass old calls new
by_pass old new [] acts = subst (λ (p : ProxyPass). CallsByPass old [] p) (sym acts) (record { adds = goes_none ProxyAnswers wants_memory old; own = tt })
by_pass old new (call ∷ calls) acts =
    let middle = acts.0 in
    let first = acts.1 in
    let rest = by_pass middle new calls acts.2 in
    record {
      adds = goes_both ProxyAnswers wants_memory old middle new (call ∷ []) calls (goes_one ProxyAnswers wants_memory old middle call first.calls) rest.adds;
      own = (first.worker_is, subst (λ (n : ℕ). AllByRecursion (λ (later : ProxyCall). later.worker ≡ n) calls) first.calls.same.1 rest.own);
    }

-- no calls, and calls after calls
pub by_none : (pass : ProxyPass) → CallsByPass pass [] pass
by_none pass = record { adds = goes_none ProxyAnswers wants_memory pass; own = tt }

own_both : (worker : ℕ) (xs ys : List ProxyCall) → AllByRecursion (λ (call : ProxyCall). call.worker ≡ worker) xs → AllByRecursion (λ (call : ProxyCall). call.worker ≡ worker) ys
    → AllByRecursion (λ (call : ProxyCall). call.worker ≡ worker) (xs ++ ys)
own_both worker [] ys first then = then
own_both worker (x ∷ xs) ys first then = (first.0, own_both worker xs ys first.1 then)

pub by_both : (a b c : ProxyPass) (xs ys : List ProxyCall) → CallsByPass a xs b → CallsByPass b ys c → CallsByPass a (xs ++ ys) c
by_both a b c xs ys first then = record {
  adds = goes_both ProxyAnswers wants_memory a b c xs ys first.adds then.adds;
  own = own_both a.worker xs ys first.own (subst (λ (n : ℕ). AllByRecursion (λ (call : ProxyCall). call.worker ≡ n) ys) first.adds.same.1 then.own);
}
