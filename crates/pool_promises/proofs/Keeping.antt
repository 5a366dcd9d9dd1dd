-- A proxy that was run keeps the laws of all proxies.
use Rattle.std.proofs.Common.{◌≡◌, ℕ, List, [], ◌∷◌, ◌++◌, length, ap}
use Rattle.std.specs.List.{AllByRecursion}
use Rattle.pool_base.specs.Calls.{IsOutcome}
use Rattle.pool_base.proofs.Behind.{all-kept}
use Rattle.proxy_rules.specs.declared.events.ProxyEvent.{ProxyEvent}
use Rattle.proxy_rules.specs.declared.events.ProxyEvent.TheVariants as event
use Rattle.proxy_rules.specs.Answering.{ProxyAnswers}
use Rattle.proxy_rules.proofs.Joining.{own_answers}
use Rattle.proxy_rules.proofs.Keeping.{are_answered}
use Rattle.proxy_rules.proofs.Sending.{answered_once, goes_up}
use Rattle.proxy_rules.proofs.Spaces.{spaces_apart}
use Rattle.proxy_rules.proofs.Stepping.{leads_apart}
use Rattle.proxy_rules.proofs.Writing.{sessions_say}
use Rattle.proxy_server.specs.Calls.{ProxyCall, wants_memory}
use Rattle.proxy_server.specs.ServingDoors.{all_calls}
use Rattle.pool_promises.specs.Proxying.{IsInput, KeepsLaws, ProxiesKeepLaws, RunsByLaws}
use Rattle.pool_promises.proofs.Inputs.{Brings, all_bring, outcome_inputs}
use Rattle.pool_promises.proofs.ProxyLists.{all_join}

keeps_laws : (user : List ℕ) (base : ℕ) (inputs : List ProxyEvent) → KeepsLaws user base inputs
keeps_laws user base inputs =
    record {
      leads = leads_apart user base inputs;
      spaces = λ opened is. spaces_apart user base inputs opened is;
      up = goes_up user base inputs;
      once = λ number. answered_once user base inputs number;
      answered = are_answered user base inputs;
      own = own_answers user base inputs;
      says = λ event caller. sessions_say user base inputs event caller;
    }

runs_by_laws : (user : List ℕ) (base doors : ℕ) (events inputs : List ProxyEvent) → events ≡ event.Start user base ∷ inputs → AllByRecursion (IsInput doors) inputs
    → RunsByLaws user base doors events
runs_by_laws user base doors events inputs is are =
    record { inputs = inputs; events_are = is; inputs_are = are; laws = λ front _. keeps_laws user base front }

goes_on : (user : List ℕ) (base doors : ℕ) (before : List ProxyEvent) (call : ProxyCall) → Brings doors call → IsOutcome ProxyAnswers wants_memory before call call.outcome
    → RunsByLaws user base doors before → RunsByLaws user base doors (before ++ call.added)
goes_on user base doors before call by is runs =
    runs_by_laws user base doors (before ++ call.added) (runs.inputs ++ call.added) (ap (λ (l : List ProxyEvent). l ++ call.added) runs.events_are)
    (all_join (IsInput doors) runs.inputs call.added runs.inputs_are (outcome_inputs doors before call call.outcome by is))

pub keep_laws : ProxiesKeepLaws
keep_laws service old new reason door_faults door_memory user base start ran =
    all-kept ProxyAnswers wants_memory (RunsByLaws user base (length old.doors)) (Brings (length old.doors)) (goes_on user base (length old.doors)) old.events new.events 0 0
    (all_calls ran.up_calls ran.shifts) ran.parted ran.good (all_bring service old new reason door_faults door_memory ran)
    (runs_by_laws user base (length old.doors) old.events [] start tt)
