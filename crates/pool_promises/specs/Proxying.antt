-- The laws of proxies that were run over links (this project's own).
use Rattle.std.specs.Prelude.{◌≡◌, ℕ, ◌<◌, ◌≤◌, Some, List, [], ◌∷◌, length}
use Rattle.std.specs.List.{AllByRecursion}
use Rattle.pool_base.specs.Lists.{Begins}
use Rattle.session_steps.specs.declared.ends.SessionEnd.{SessionEnd}
use Rattle.v1_translate.specs.Heard.{OpenedChannel}
use Rattle.proxy_rules.specs.declared.events.ProxyEvent.{ProxyEvent}
use Rattle.proxy_rules.specs.declared.events.ProxyEvent.TheVariants as event
use Rattle.proxy_rules.specs.Laws.{AnswersItsOwn, AreAnswered, AreSpaces, GoesUp, IsAnsweredOnce, LeadsAreApart, seats_in}
use Rattle.proxy_rules.specs.Sayings.{SaysItsOwn}
use Rattle.proxy_rules.specs.Steps.{after, started}
use Rattle.proxy_server.specs.Parts.{ProxyService}
use Rattle.proxy_server.specs.ServingDoors.{HasRunProxy, ProxyHall}

-- Inputs of a proxy as the laws of `proxy_rules` have them: the leads and the spaces of its miners, what
-- goes upstream, and the answers
pub record KeepsLaws (user : List ℕ) (base : ℕ) (inputs : List ProxyEvent) : Type 0 where
  pub leads : LeadsAreApart (after (started user base) inputs)
  pub spaces : (opened : OpenedChannel) → (after (started user base) inputs).opened ≡ Some opened
      → AreSpaces opened (seats_in (after (started user base) inputs).miners)
  pub up : GoesUp user base inputs
  pub once : (number : ℕ) → IsAnsweredOnce user base inputs number
  pub answered : AreAnswered user base inputs
  pub own : AnswersItsOwn (after (started user base) inputs)
  pub says : (event : ProxyEvent) (caller : ℕ)
      → SaysItsOwn (after (started user base) inputs) event caller

-- a worker serves one of so many doors: worker 0 serves the upstream, those from 1 on a door each
abbrev pub IsAtDoor : ℕ → ℕ → Type 0
IsAtDoor doors worker = (0 < worker) × (worker ≤ doors)

-- what a proxy with so many doors is brought once it started: the upstream's frames and its end, and
-- what those do who called at a door, under the number of its worker; another Start is none of it
abbrev pub IsInput : ℕ → ProxyEvent → Type 0
IsInput doors (event.Start user base) = ⊥
IsInput doors (event.Up bytes) = Unit {0}
IsInput doors event.UpEnd = Unit {0}
IsInput doors (event.Join worker) = IsAtDoor doors worker
IsInput doors (event.Line worker line) = IsAtDoor doors worker
IsInput doors (event.Leave worker) = IsAtDoor doors worker

-- the events of a proxy with so many doors are the Start that it began with, and inputs; and it kept
-- the laws at each moment
pub record RunsByLaws (user : List ℕ) (base doors : ℕ) (events : List ProxyEvent) : Type 0 where
  pub inputs : List ProxyEvent
  pub events_are : events ≡ event.Start user base ∷ inputs
  pub inputs_are : AllByRecursion (IsInput doors) inputs
  pub laws : (front : List ProxyEvent) → Begins front inputs → KeepsLaws user base front

abbrev pub ProxiesKeepLaws : Type 0
ProxiesKeepLaws =
    (service : ProxyService) (old new : ProxyHall) (reason : SessionEnd) (door_faults door_memory : ℕ)
    (user : List ℕ) (base : ℕ) → old.events ≡ event.Start user base ∷ []
    → HasRunProxy service old new reason door_faults door_memory
    → RunsByLaws user base (length old.doors) new.events
