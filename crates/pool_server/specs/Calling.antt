-- What the calls of a pool's pass do to what the pass has seen (this project's own).
use Rattle.std.specs.Prelude.{◌≡◌, ℕ, ◌+◌, ◌≤◌, Bool, false, if◌then◌else◌, List, [], ◌∷◌, ◌++◌, length}
use Rattle.pool_base.specs.Lists.{Begins}
use Rattle.pool_base.specs.Calls.{IsOutcome, Outcome, Replied, Faulted, RiseFrom}
use Rattle.desk.specs.Passes.{FrontsRise, IsSamePass, Progress}
use Rattle.pool_io.specs.Outside.{next_count}
use Rattle.pool_history.specs.declared.asking.Request.{Request}
use Rattle.pool_history.specs.declared.events.Event.{Event}
use Rattle.pool_history.specs.declared.refusals.BookError.{BookError}
use Rattle.pool_history.specs.declared.replies.Reply.{Reply}
use Rattle.pool_history.specs.Answering.{Answer}
use Rattle.pool_history.specs.Calls.{GoodPoolCalls, PoolCall, has_keeper_failed, wants_memory}
use Rattle.v2_sessions.specs.declared.acting.Acted.{Acted}
use Rattle.v2_sessions.specs.Answerers.{outcome_of}

-- what contracts see of a pass of a book's desk
abbrev pub PoolPass : Type 0
PoolPass = Progress Event Request Reply BookError

-- the worker's call of this request
pub record IsCallOf (call : PoolCall) (worker : ℕ) (asked : Request) (acted : Acted) : Type 0 where
  pub worker_is : call.worker ≡ worker
  pub front_is : call.front ≡ acted.front
  pub asked_is : call.asked ≡ asked
  pub outcome_is : call.outcome ≡ outcome_of acted.outcome

-- one call: it stands at a front that has all that the pass had seen, and is answered by that or is
-- a fault; the pass has then seen that front and what the call added, it has one call more, whose
-- number it didn't know, and it is the same pass
pub record CallsDesk (old : PoolPass) (call : PoolCall) (new : PoolPass) : Type 0 where
  pub events : List Event
  pub at_front : length events ≡ call.front
  pub seen_before : Begins old.seen events
  pub ended : IsOutcome Answer wants_memory events call call.outcome
  pub seen : new.seen ≡ events ++ call.added
  pub calls : new.calls ≡ old.calls ++ call ∷ []
  pub number : old.known ≤ call.number
  pub known : new.known ≡ call.number + 1
  pub same : IsSamePass old new

-- calls one after the other: they are the pass's calls behind those that it had, what it has seen
-- begins with what it had, each call stands there and is answered by what is before it, and neither
-- numbers nor fronts fall
pub record AddsCalls (old : PoolPass) (calls : List PoolCall) (new : PoolPass) : Type 0 where
  pub calls_are : new.calls ≡ old.calls ++ calls
  pub seen : Begins old.seen new.seen
  pub good : GoodPoolCalls new.seen calls
  pub numbers : RiseFrom old.known calls new.known
  pub fronts : FrontsRise (length old.seen) calls (length new.seen)
  pub same : IsSamePass old new

-- a count of the calls at which the keeper failed, after one more call and after all of these
abbrev pub faults_after : ℕ → Outcome Reply BookError → ℕ
faults_after count outcome = if has_keeper_failed outcome then next_count count else count

abbrev pub faults_through : ℕ → List PoolCall → ℕ
faults_through count [] = count
faults_through count (call ∷ calls) = faults_through (faults_after count call.outcome) calls
