-- The calls of a proxy (this project's own).
use Rattle.std.specs.Prelude.{◌≡◌, Bool, true, Result, Ok, List, [], ◌∷◌}
use Rattle.std.specs.declared.alloc.AllocError.{AllocError}
use Rattle.pool_base.specs.Calls.{Call, Faulted, GoodCalls, Replied}
use Rattle.desk.specs.Plays.{outcome_of}
use Rattle.proxy_rules.specs.declared.events.ProxyEvent.{ProxyEvent}
use Rattle.proxy_rules.specs.declared.requests.ProxyReply.{ProxyReply}
use Rattle.proxy_rules.specs.declared.requests.ProxyReply.TheVariants as reply
use Rattle.proxy_rules.specs.declared.requests.ProxyRequest.{ProxyRequest}
use Rattle.proxy_rules.specs.declared.requests.ProxyRequest.TheVariants as request
use Rattle.proxy_rules.specs.Answering.{ProxyAnswers}

abbrev pub ProxyCall : Type 0
ProxyCall = Call ProxyEvent ProxyRequest ProxyReply AllocError

-- it fails for want of memory alone
abbrev pub wants_memory : AllocError → Bool
wants_memory fault = true

abbrev pub GoodProxyCalls : List ProxyEvent → List ProxyCall → Type 0
GoodProxyCalls events calls = GoodCalls ProxyAnswers wants_memory events calls

-- a request was asked by one call, and answered so
pub record MakesCall {A : Type 0} (does : A → ProxyCall → A → Type 0) (old : A)
    (asked : ProxyRequest) (result : Result ProxyReply AllocError) (new : A) : Type 0 where
  pub call : ProxyCall
  pub asked_is : call.asked ≡ asked
  pub outcome_is : call.outcome ≡ outcome_of result
  pub done : does old call new

-- calls one after the other
abbrev pub ActsEach : {A : Type 0} → (A → ProxyCall → A → Type 0) → A → List ProxyCall → A → Type 0
ActsEach does old [] new = new ≡ old
ActsEach {A} does old (call ∷ calls) new =
    (middle : A) × does old call middle × ActsEach does middle calls new

-- bytes are the reply to a poll
abbrev pub AreBytes : ProxyReply → Type 0
AreBytes (reply.Bytes bytes) = Unit {0}
AreBytes _ = ⊥

abbrev pub RepliesTo : ProxyRequest → Result ProxyReply AllocError → Type 0
RepliesTo (request.Poll from) (Ok answer) = AreBytes answer
RepliesTo _ _ = Unit {0}

-- a call asked this and was replied to, so, or somehow; or it failed, for want of memory
abbrev pub RepliesSo : ProxyRequest → ProxyReply → ProxyCall → Type 0
RepliesSo asked answer call = (call.asked ≡ asked) × (call.outcome ≡ Replied answer)

abbrev pub Replies : ProxyRequest → ProxyCall → Type 0
Replies asked call = (answer : ProxyReply) × RepliesSo asked answer call

abbrev pub Fails : ProxyRequest → ProxyCall → Type 0
Fails asked call =
    (fault : AllocError) × (call.asked ≡ asked) × (call.outcome ≡ Faulted fault)
