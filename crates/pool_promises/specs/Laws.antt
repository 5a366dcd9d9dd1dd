-- What a worker's calls find present (this project's own).
use Rattle.std.specs.Prelude.{ℕ, List, ◌∷◌, ◌++◌}
use Rattle.std.specs.List.{AllByRecursion}
use Rattle.pool_history.specs.declared.events.Event.{Event}
use Rattle.pool_history.specs.declared.events.Role.{Role}
use Rattle.pool_history.specs.Calls.{PoolCall}
use Rattle.history_laws.specs.Serving.{Enters}
use Rattle.pool_promises.specs.Presence.{FindsPresent, MakeHistory, StayInside}

-- what a worker calls behind the call that entered its session finds this session present, up to
-- and with the first call that asks to enter or to leave, whatever others call: only its own
-- worker's calls begin and end a session
abbrev pub SessionsStayPresent : Type 0
SessionsStayPresent =
    (start history : List Event) (least most : ℕ) (earlier inside later others : List PoolCall)
    (enter : PoolCall) (role : Role) (flags session : ℕ)
    → MakeHistory start history least most enter.worker
    (earlier ++ enter ∷ (inside ++ later)) others
    → Enters enter role flags session → StayInside inside
    → AllByRecursion (FindsPresent history enter.worker role flags session) inside
