-- What a proxy is brought: the upstream's calls bring no event with a worker's number, and those at a door
-- bring its worker's.
use Rattle.std.proofs.Common.{◌≡◌, ◌⊎◌, ℕ, ◌+◌, ◌<◌, true, false, List, [], ◌∷◌, length, ap, sym, subst, ◌∙◌, arith, inl, inr}
use Rattle.std.proofs.lemmas.Bool.{cases_Bool}
use Rattle.std.proofs.lemmas.List.{length-map}
use Rattle.std.specs.declared.alloc.AllocError.{AllocError}
use Rattle.std.specs.List.{AllByRecursion, flat_map}
use Rattle.pool_base.specs.Calls.{Faulted, IsOutcome, Outcome, Replied}
use Rattle.pool_base.proofs.Behind.{all-map}
use Rattle.pool_network.specs.Seen.{DoorSeen}
use Rattle.session_steps.specs.declared.ends.SessionEnd.{SessionEnd}
use Rattle.proxy_rules.specs.declared.events.ProxyEvent.{ProxyEvent}
use Rattle.proxy_rules.specs.declared.requests.ProxyReply.{ProxyReply}
use Rattle.proxy_rules.specs.declared.requests.ProxyRequest.{ProxyRequest}
use Rattle.proxy_rules.specs.declared.requests.ProxyRequest.TheVariants as request
use Rattle.proxy_rules.specs.Answering.{ProxyAnswers, has_joined, turn_of}
use Rattle.proxy_server.specs.Calls.{ProxyCall, wants_memory}
use Rattle.proxy_server.specs.Parts.{ProxyService}
use Rattle.proxy_server.specs.ServingDoors.{AreShiftsFrom, HasRunProxy, MinersShift, ProxyHall, all_calls}
use Rattle.pool_promises.specs.Proxying.{IsAtDoor, IsInput}
use Rattle.pool_promises.proofs.ProxyLists.{all_join}
use Rattle.pool_promises.proofs.Setups.{asks_up, up_asks}

-- ---- what a call adds

-- a call asks as the upstream's do, or is of a worker at a door
abbrev pub Brings : ℕ → ProxyCall → Type 0
Brings doors call = (asks_up call.asked ≡ true) ⊎ IsAtDoor doors call.worker

module _ (doors : ℕ) where
  abbrev AreInputs : List ProxyEvent → Type 0
  AreInputs inputs = AllByRecursion (IsInput doors) inputs

  turn_inputs : (before : List ProxyEvent) (worker : ℕ) (asked : ProxyRequest) → (asks_up asked ≡ true) ⊎ IsAtDoor doors worker
      → AreInputs (turn_of before worker asked).added
  turn_inputs before worker (request.Up bytes) by = (tt, tt)
  turn_inputs before worker request.UpEnd by = (tt, tt)
  turn_inputs before worker (request.Poll from) by = tt
  turn_inputs before worker request.Join (inl up) = absurd (let never : false ≡ true = up in cc)
  turn_inputs before worker (request.Line line) (inl up) = absurd (let never : false ≡ true = up in cc)
  turn_inputs before worker request.Leave (inl up) = absurd (let never : false ≡ true = up in cc)
  turn_inputs before worker request.Join (inr at) = elim (cases_Bool (has_joined before worker)) [ inl is ↦ rw is tt | inr new ↦ rw new (at, tt) ]
  turn_inputs before worker (request.Line line) (inr at) = elim (cases_Bool (has_joined before worker)) [ inl is ↦ rw is (at, tt) | inr new ↦ rw new tt ]
  turn_inputs before worker request.Leave (inr at) = elim (cases_Bool (has_joined before worker)) [ inl is ↦ rw is (at, tt) | inr new ↦ rw new tt ]

  pub outcome_inputs : (before : List ProxyEvent) (call : ProxyCall) (outcome : Outcome ProxyReply AllocError) → Brings doors call
      → IsOutcome ProxyAnswers wants_memory before call outcome → AreInputs call.added
  outcome_inputs before call (Replied answer) by is = subst AreInputs (sym is.events) (turn_inputs before call.worker call.asked by)
  outcome_inputs before call (Faulted fault) by is = subst AreInputs (sym is.0) tt

  -- ---- the calls of all

  from_doors : (service : ProxyService) (worker : ℕ) (shifts : List MinersShift) → 0 < worker → worker + length shifts ≡ doors + 1 → AreShiftsFrom service worker shifts
      → AllByRecursion (Brings doors) (flat_map (λ (shift : MinersShift). shift.calls) shifts)
  from_doors service worker [] some fits are = tt
  from_doors service worker (shift ∷ shifts) some fits are =
      all_join (Brings doors) shift.calls (flat_map (λ (shift : MinersShift). shift.calls) shifts)
      (all-map (λ (call : ProxyCall). call.worker ≡ worker) (Brings doors) (λ call is. inr (omega (arith, is, some), omega (arith, is, fits))) shift.calls are.0.calls.own)
      (from_doors service (worker + 1) shifts (omega arith) (omega (arith, fits)) are.1)

pub all_bring : (service : ProxyService) (old new : ProxyHall) (reason : SessionEnd) (door_faults door_memory : ℕ) → (ran : HasRunProxy service old new reason door_faults door_memory)
    → AllByRecursion (Brings (length old.doors)) (all_calls ran.up_calls ran.shifts)
all_bring service old new reason door_faults door_memory ran =
    let as_many : length ran.shifts ≡ length old.doors =
    sym (length-map ran.shifts (λ (shift : MinersShift). shift.before)) ∙ ap (λ (doors : List DoorSeen). length doors) ran.doors_before in
    all_join (Brings (length old.doors)) ran.up_calls (flat_map (λ (shift : MinersShift). shift.calls) ran.shifts)
    (all-map (λ (call : ProxyCall). asks_up call.asked ≡ true) (Brings (length old.doors)) (λ call up. inl up) ran.up_calls
    (up_asks service.idle_turns old.up reason ran.phase ran.up_calls new.up ran.served))
    (from_doors (length old.doors) service 1 ran.shifts (omega arith) (omega (arith, as_many)) ran.worked)
