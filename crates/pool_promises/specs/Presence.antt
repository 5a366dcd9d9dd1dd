-- A worker's calls among all, and the session that they find present (this project's own).
-- Computed on calls of two workers, of which one enters and leaves meanwhile (`WorkedCalls`).
use Rattle.std.specs.Prelude.{◌≡◌, ◌≢◌, ℕ, Bool, true, false, Some, List, [], ◌∷◌, ◌++◌, bit_and, take}
use Rattle.std.specs.List.{AllByRecursion}
use Rattle.pool_base.specs.Calls.{Parted, RiseFrom}
use Rattle.pool_history.specs.declared.asking.Request.{Request}
use Rattle.pool_history.specs.declared.asking.Request.TheVariants as request
use Rattle.pool_history.specs.declared.events.Event.{Event}
use Rattle.pool_history.specs.declared.events.Role.{Role}
use Rattle.pool_history.specs.declared.settings.Rules.{Rules}
use Rattle.pool_history.specs.Calls.{GoodPoolCalls, PoolCall}
use Rattle.pool_history.specs.Legal.{allowed_flags}
use Rattle.pool_history.specs.Sessions.{Entrance, entrance, past_of, present, rules_of}

-- The calls that have made a history from its start on, a worker's own ones first: all are good,
-- its own rise, and none of the others is of this worker.
pub record MakeHistory (start history : List Event) (least most worker : ℕ)
    (own others : List PoolCall) : Type 0 where
  pub parted : Parted start history least most (own ++ others)
  pub good : GoodPoolCalls history (own ++ others)
  pub known : ℕ
  pub rise : RiseFrom 0 own known
  pub others_are : AllByRecursion (λ call. call.worker ≢ worker) others

-- a request by which its worker's present session begins or ends
abbrev pub moves_session : Request → Bool
moves_session (request.Enter role flags) = true
moves_session request.Leave = true
moves_session _ = false

-- none of the calls but the last asks to enter or to leave
abbrev pub StayInside : List PoolCall → Type 0
StayInside [] = Unit {0}
StayInside (call ∷ []) = Unit {0}
StayInside (call ∷ next ∷ later) =
    (moves_session call.asked ≡ false) × StayInside (next ∷ later)

-- what a session was entered with: those of the asked flags that the rules allow
abbrev pub entrance_by : Rules → ℕ → Role → ℕ → Entrance
entrance_by rules worker role flags =
    record { worker = worker; role = role; flags = bit_and flags (allowed_flags rules) }

-- before a call the worker's present session is this one, and was entered so
pub record FindsPresent (history : List Event) (worker : ℕ) (role : Role) (flags session : ℕ)
    (call : PoolCall) : Type 0 where
  pub rules : Rules
  pub are_rules : rules_of (past_of (take call.front history)) ≡ Some rules
  pub present_is : present (past_of (take call.front history)) worker ≡ Some session
  pub entrance_is : entrance (past_of (take call.front history)) session
      ≡ Some (entrance_by rules worker role flags)
