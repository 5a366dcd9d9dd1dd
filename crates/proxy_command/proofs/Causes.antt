-- Each status of `proxy` has its cause.
use Rattle.std.proofs.Common.{ℕ, ◌+◌, ◌<◌, List, [], ◌∷◌, map, Err, refl, sym, subst, arith, inl, inr}
use Rattle.std.proofs.lemmas.Bool.{cond_both}
use Rattle.std.specs.List.{AllByRecursion}
use Rattle.std.specs.Prelude.{◌==◌, if◌then◌else◌, nat_le}
use Rattle.pool_base.specs.Counts.{Rose}
use Rattle.pool_io.specs.declared.host.HostError.{HostError}
use Rattle.pool_io.specs.Outside.{CountsFailure, is_failed_gift}
use Rattle.pool_network.specs.Seen.{LinkSeen}
use Rattle.pool_network.specs.Worlds.{WorldSeen}
use Rattle.door_threads.specs.Failing.{HasFailedLink, SomeDoorFailed}
use Rattle.door_threads.specs.Places.{IsUnserved}
use Rattle.door_threads.proofs.Failed.{some_failed, some_if}
use Rattle.door_threads.proofs.Printed.{printed_or, refused}
use Rattle.door_threads.specs.Asking.{is_failed_end}
use Rattle.session_steps.specs.declared.ends.SessionEnd.{SessionEnd}
use Rattle.session_steps.specs.declared.ends.SessionEnd.TheVariants as end
use Rattle.proxy_rules.specs.declared.events.ProxyEvent.{ProxyEvent}
use Rattle.proxy_server.specs.Parts.{ProxyService}
use Rattle.proxy_server.specs.ServingDoors.{AreShiftsFrom, MinersShift}
use Rattle.stream_commands.specs.declared.status.Status.{Status}
use Rattle.stream_commands.specs.declared.status.Status.TheVariants as status
use Rattle.stream_commands.specs.Statuses.{status_code, status_of_refusal}
use Rattle.proxy_command.specs.declared.serving.Reached.{Reached}
use Rattle.proxy_command.specs.declared.serving.Reached.TheVariants as reached
use Rattle.proxy_command.specs.Row.{FinishesProxy, HasProxyCause, ProxyRow, proxied_text}
use Rattle.proxy_command.specs.Serving.{ProxiedOnNetwork, ProxiesOnNetwork, ProxyTask}
use Rattle.proxy_command.specs.Statuses.{first_cause, status_of_doors, status_of_starved, status_of_upstream}
use Rattle.proxy_command.proofs.Upstreams.{read_failed, write_failed}

-- what holds of two causes holds of the first of them
first : (P : Status → Type 0) (one other : Status) → P one → P other → P (first_cause one other)
first P one other p q =
    cond_both (status_code one == 0) other (if status_code other == 0 then one else if nat_le (status_code one) (status_code other) then one else other) P
    (λ none. q)
    (λ some. cond_both (status_code other == 0) one (if nat_le (status_code one) (status_code other) then one else other) P (λ none. p)
    (λ both. cond_both (nat_le (status_code one) (status_code other)) one other P (λ less. p) (λ more. q)))

all_counted : (service : ProxyService) (worker : ℕ) (shifts : List MinersShift) → AreShiftsFrom service worker shifts
    → AllByRecursion (λ (s : MinersShift). CountsFailure (is_failed_end s.reason) s.before.faults s.after.faults) shifts
all_counted service worker [] are = tt
all_counted service worker (shift ∷ shifts) are = (are.0.asked.counts, all_counted service (worker + 1) shifts are.1)

module _ (task : ProxyTask) (old new : WorldSeen) where
  abbrev Has : Status → Type 0
  Has = HasProxyCause old new

  module _ (events : List ProxyEvent) (door_faults door_memory : ℕ) where
    by_link : (count : LinkSeen → ℕ) (reason : SessionEnd) (served : ProxiedOnNetwork task old.network new.network events reason door_faults door_memory)
        → Rose (count served.link) (count served.link_back) → HasFailedLink count old.network new.network
    by_link count reason served rose = record {
      link = served.link;
      link_back = served.link_back;
      dialled = served.gives.dialled;
      links = served.gives.links;
      failed = rose;
    }

    upstream : (reason : SessionEnd) → ProxiedOnNetwork task old.network new.network events reason door_faults door_memory → Has (status_of_upstream reason)
    upstream end.ReadFault served =
        by_link (λ (l : LinkSeen). l.source.faults) end.ReadFault served (read_failed _ _ _ _ served.link served.link_back served.ran.phase served.ran.served)
    upstream end.WriteFault served =
        inl (by_link (λ (l : LinkSeen). l.sink.faults) end.WriteFault served (write_failed _ _ _ _ served.link served.link_back served.ran.phase served.ran.served))
    upstream end.Done served = tt
    upstream (end.CutFrame bytes) served = tt
    upstream (end.TooLong length) served = tt
    upstream end.BadSetup served = tt
    upstream (end.BadMessage kind) served = tt
    upstream end.LineTooLong served = tt
    upstream end.IdleOut served = tt
    upstream end.BytesOut served = tt
    upstream end.PoolFull served = tt
    upstream end.LedgerFault served = tt
    upstream end.Memory served = tt

    doors_failed : (reason : SessionEnd) (served : ProxiedOnNetwork task old.network new.network events reason door_faults door_memory)
        → 0 < door_faults → SomeDoorFailed served.doors served.doors_back
    doors_failed reason served some =
        let ran = served.ran in
        subst (λ olds. SomeDoorFailed olds served.doors_back) ran.doors_before
        (subst (λ news. SomeDoorFailed (map (λ (s : MinersShift). s.before) ran.shifts) news) ran.doors_after
        (some_failed (λ (s : MinersShift). s.before) (λ (s : MinersShift). s.after) (λ (s : MinersShift). s.reason) ran.shifts
        (all_counted _ 1 ran.shifts ran.worked) (omega (arith, ran.door_faults_are, some))))

    doors : (reason : SessionEnd) → ProxiedOnNetwork task old.network new.network events reason door_faults door_memory → Has (status_of_doors door_faults)
    doors reason served =
        cond_both (door_faults == 0) status.Done status.HostFault Has (λ none. tt)
        (λ some. inr (inr (record {
          doors = served.doors;
          doors_back = served.doors_back;
          opened = served.gives.opened;
          lists = served.gives.lists;
          failed = doors_failed reason served (some_if door_faults some);
        })))

    starved : Has (status_of_starved door_memory)
    starved = cond_both (door_memory == 0) status.Done status.Memory Has (λ none. tt) (λ some. tt)

  refused_on : (error : HostError) → CountsFailure (is_failed_gift {A = Unit {0}} (Err error)) old.network.faults new.network.faults → Has (status_of_refusal error)
  refused_on = refused Has old.network.faults new.network.faults tt (λ rose. inr (inl rose))

  unserved : (error : HostError) → IsUnserved task.places old.network new.network error → Has (status_of_refusal error)
  unserved error (inl (inl none)) = refused_on error none.counts
  unserved error (inl (inr none)) = refused_on error none.counts
  unserved error (inr none) = subst (λ (e : HostError). Has (status_of_refusal e)) (sym none.error_is) tt

  cause : (r : Reached) (answer : Status) → ProxiesOnNetwork task old.network new.network r → FinishesProxy old.host new.host r answer → Has answer
  cause (reached.Ran events reason door_faults door_memory) answer served finishes =
      let rest = first_cause (status_of_starved door_memory) finishes.0 in
      subst Has (sym finishes.1)
      (first Has (status_of_upstream reason) (first_cause (status_of_doors door_faults) rest) (upstream events door_faults door_memory reason served)
      (first Has (status_of_doors door_faults) rest (doors events door_faults door_memory reason served)
      (first Has (status_of_starved door_memory) finishes.0 (starved events door_faults door_memory)
      (printed_or Has old.host new.host tt tt (λ failed. inr failed) (λ rose. inl rose) old.host new.host refl refl (proxied_text events) finishes.0 finishes.2))))
  cause (reached.Unserved error) answer (inl none) finishes =
      subst Has (sym finishes.1) (subst (λ (e : HostError). Has (status_of_refusal e)) (sym none.1) tt)
  cause (reached.Unserved error) answer (inr none) finishes = subst Has (sym finishes.1) (unserved error none)

  pub row_of : (r : Reached) (answer : Status) → ProxiesOnNetwork task old.network new.network r → FinishesProxy old.host new.host r answer → ProxyRow task old new answer
  row_of r answer proxies finishes = record {
    reached = r;
    proxies = proxies;
    finishes = finishes;
    complete = cause r answer proxies finishes;
  }
