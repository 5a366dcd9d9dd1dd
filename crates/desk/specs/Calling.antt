-- What the calls of one pass do to what it has seen (this project's own).
use Rattle.std.specs.Prelude.{◌≡◌, ℕ, ◌+◌, ◌≤◌, Bool, List, [], ◌∷◌, ◌++◌, length, Result}
use Rattle.pool_base.specs.Lists.{Begins}
use Rattle.pool_base.specs.Calls.{Call, GoodCalls, IsOutcome, RiseFrom}
use Rattle.desk.specs.Passes.{FrontsRise, IsSamePass, Progress}
use Rattle.desk.specs.Plays.{outcome_of}

-- one call: it stands at a front that has all that the pass had seen, and is answered by that or is
-- a fault; the pass has then seen that front and what the call added, it has one call more, whose
-- number it didn't know, and it is the same pass
pub record CallsDesk {E Q R F : Type 0} (answers : List E → ℕ → Q → List E → R → Type 0)
    (wants_memory : F → Bool) (old : Progress E Q R F) (call : Call E Q R F)
    (new : Progress E Q R F) : Type 0 where
  pub events : List E
  pub at_front : length events ≡ call.front
  pub seen_before : Begins old.seen events
  pub ended : IsOutcome answers wants_memory events call call.outcome
  pub seen : new.seen ≡ events ++ call.added
  pub calls : new.calls ≡ old.calls ++ call ∷ []
  pub number : old.known ≤ call.number
  pub known : new.known ≡ call.number + 1
  pub same : IsSamePass old new

-- a request was asked by one call, and answered so
pub record IsAsked {E Q R F : Type 0} (answers : List E → ℕ → Q → List E → R → Type 0)
    (wants_memory : F → Bool) (old : Progress E Q R F) (asked : Q) (result : Result R F)
    (new : Progress E Q R F) : Type 0 where
  pub call : Call E Q R F
  pub worker_is : call.worker ≡ old.worker
  pub asked_is : call.asked ≡ asked
  pub outcome_is : call.outcome ≡ outcome_of result
  pub calls : CallsDesk answers wants_memory old call new

-- calls one after the other: they are the pass's calls behind those that it had, what it has seen
-- begins with what it had, each call stands there and is answered by what is before it, and neither
-- numbers nor fronts fall
pub record AddsCalls {E Q R F : Type 0} (answers : List E → ℕ → Q → List E → R → Type 0)
    (wants_memory : F → Bool) (old : Progress E Q R F) (calls : List (Call E Q R F))
    (new : Progress E Q R F) : Type 0 where
  pub calls_are : new.calls ≡ old.calls ++ calls
  pub seen : Begins old.seen new.seen
  pub good : GoodCalls answers wants_memory new.seen calls
  pub numbers : RiseFrom old.known calls new.known
  pub fronts : FrontsRise (length old.seen) calls (length new.seen)
  pub same : IsSamePass old new
