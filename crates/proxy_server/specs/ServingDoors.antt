-- What is left when all links of a proxy were served (this project's own).
use Rattle.std.specs.Prelude.{◌≡◌, ℕ, ◌+◌, List, [], ◌∷◌, ◌++◌, map}
use Rattle.std.specs.List.{AllByRecursion, flat_map}
use Rattle.pool_base.specs.Lists.{Begins}
use Rattle.pool_base.specs.Calls.{Parted, RiseFrom}
use Rattle.pool_network.specs.Seen.{DoorSeen, LinkSeen}
use Rattle.door_threads.specs.declared.working.DoorEnd.{DoorEnd}
use Rattle.door_threads.specs.Asking.{IsAsked}
use Rattle.session_steps.specs.declared.ends.SessionEnd.{SessionEnd}
use Rattle.door_threads.specs.Counting.{capped, failed_in, starved_in}
use Rattle.proxy_rules.specs.declared.events.ProxyEvent.{ProxyEvent}
use Rattle.proxy_server.specs.declared.phase.UpPhase.{UpPhase}
use Rattle.proxy_server.specs.Calls.{GoodProxyCalls, ProxyCall}
use Rattle.proxy_server.specs.Upstreams.{ServesUpstream}
use Rattle.proxy_server.specs.Shifts.{AreMiners, MinerAsked, answer_of}
use Rattle.proxy_server.specs.Visits.{Notes}
use Rattle.proxy_server.specs.Parts.{ProxyService}

-- a proxy's events, its doors and its upstream's link, as they came and as they went
pub record ProxyHall : Type 0 where
  pub events : List ProxyEvent
  pub doors : List DoorSeen
  pub up : LinkSeen

-- a door as it came and as it went, what it answered, the calls of its worker, and why it was asked no more
pub record MinersShift : Type 0 where
  pub before : DoorSeen
  pub after : DoorSeen
  pub answers : List MinerAsked
  pub calls : List ProxyCall
  pub reason : DoorEnd

-- the numbers of these calls rise
abbrev pub NumbersRise : List ProxyCall → Type 0
NumbersRise calls = (known : ℕ) × RiseFrom 0 calls known

-- these calls are a worker's own, and their numbers rise
pub record AreOwn (worker : ℕ) (calls : List ProxyCall) : Type 0 where
  pub own : AllByRecursion (λ call. call.worker ≡ worker) calls
  pub rise : NumbersRise calls

-- a worker's shift at its door: each caller was served as a miner, by calls that are all of the worker's
pub record IsShiftAt (service : ProxyService) (worker : ℕ) (shift : MinersShift) : Type 0 where
  pub miners : AreMiners service.idle_turns [] shift.answers shift.calls
  pub asked : IsAsked service.door_turns shift.before shift.after (map answer_of shift.answers)
      shift.reason
  pub calls : AreOwn worker shift.calls

-- the shifts are those of this worker and the next ones, each at its door
abbrev pub AreShiftsFrom : ProxyService → ℕ → List MinersShift → Type 0
AreShiftsFrom service worker [] = Unit {0}
AreShiftsFrom service worker (shift ∷ shifts) =
    IsShiftAt service worker shift × AreShiftsFrom service (worker + 1) shifts

-- the upstream's calls, and those of all shifts
abbrev pub all_calls : List ProxyCall → List MinersShift → List ProxyCall
all_calls calls shifts = calls ++ flat_map (λ shift. shift.calls) shifts

-- The first worker served the upstream's link, and each later one had a shift at its door. The events begin
-- with those that came; the calls of all are good, and part what was added to them.
pub record HasRunProxy (service : ProxyService) (old new : ProxyHall) (reason : SessionEnd)
    (door_faults door_memory : ℕ) : Type 0 where
  pub phase : UpPhase
  pub up_calls : List ProxyCall
  pub shifts : List MinersShift
  pub served : ServesUpstream Notes service.idle_turns [] old.up reason phase up_calls new.up
  pub own : AreOwn 0 up_calls
  pub worked : AreShiftsFrom service 1 shifts
  pub doors_before : map (λ shift. shift.before) shifts ≡ old.doors
  pub doors_after : map (λ shift. shift.after) shifts ≡ new.doors
  pub begins : Begins old.events new.events
  pub good : GoodProxyCalls new.events (all_calls up_calls shifts)
  pub parted : Parted old.events new.events 0 0 (all_calls up_calls shifts)
  pub door_faults_are : door_faults ≡ capped (failed_in (map (λ shift. shift.reason) shifts))
  pub door_memory_is : door_memory ≡ capped (starved_in (map (λ shift. shift.reason) shifts))
