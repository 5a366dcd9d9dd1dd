-- What the miners at each door were put.
use Rattle.std.proofs.Common.{◌≡◌, ℕ, ◌+◌, ◌==◌, ◌<◌, false, List, [], ◌∷◌, ◌++◌, refl, ap, sym, subst, ◌∙◌, arith, append_assoc, append-nil}
use Rattle.std.specs.List.{AllByRecursion, flat_map}
use Rattle.std.specs.List.Sorted.{IsPermutation}
use Rattle.std.proofs.lemmas.Bool.{ne_eqb}
use Rattle.std.proofs.lemmas.List.Elements.{All-from_recursion, recursion_from_All}
use Rattle.std.proofs.lemmas.List.Sorted.{All-permutation, IsPermutation-append, IsPermutation-append_comm, IsPermutation-refl, IsPermutation-trans}
use Rattle.pool_base.specs.Calls.{IsGoodCall, Parted}
use Rattle.pool_base.proofs.Behind.{all-front, all-map}
use Rattle.proxy_rules.specs.declared.events.ProxyEvent.{ProxyEvent}
use Rattle.proxy_rules.specs.Answering.{ProxyAnswers}
use Rattle.proxy_server.specs.Calls.{GoodProxyCalls, ProxyCall, wants_memory}
use Rattle.proxy_server.specs.Serving.{ServesMiner}
use Rattle.proxy_server.specs.Shifts.{AreMiners, MinerAsked, Visited, Waited}
use Rattle.proxy_server.specs.Visits.{Notes}
use Rattle.proxy_server.specs.Parts.{ProxyService}
use Rattle.proxy_server.specs.ServingDoors.{AreShiftsFrom, MinersShift}
use Rattle.pool_promises.specs.Puts.{ArePutTheirOutput, MinersArePutOutput}
use Rattle.pool_promises.proofs.Gaps.{GapsBehind, gaps_behind, no_gaps}
use Rattle.pool_promises.proofs.ProxyLists.{all_join, all_later}
use Rattle.pool_promises.proofs.Visits.{visit_put}

abbrev Calls : Type 0
Calls = List ProxyCall

-- ---- one shift

module _ (events : List ProxyEvent) (caller : ℕ) (some : (caller == 0) ≡ false) (idle_turns : ℕ) where
  abbrev AreIts : Calls → Type 0
  AreIts calls = AllByRecursion (λ (call : ProxyCall). call.worker ≡ caller) calls

  record ShiftPut (answers : List MinerAsked) (noted now : Calls) : Type 0 where
    calls : Calls
    calls_are : now ≡ noted ++ calls
    put : GoodProxyCalls events calls → AreIts calls → GapsBehind events caller calls → ArePutTheirOutput idle_turns events noted answers calls

  shift_put : (answers : List MinerAsked) (noted now : Calls) → AreMiners idle_turns noted answers now → ShiftPut answers noted now
  shift_put [] noted now are = record { calls = []; calls_are = are ∙ sym (append-nil noted); put = λ good its gaps. refl }
  shift_put (Waited ∷ answers) noted now are =
      let rest = shift_put answers noted now are in record { calls = rest.calls; calls_are = rest.calls_are; put = rest.put }
  shift_put (Visited visit ∷ answers) noted now are =
      let one = visit_put events caller some idle_turns visit noted are.0 are.1 in
      let rest = shift_put answers are.0 now are.2 in
      record {
        calls = one.own ++ rest.calls;
        calls_are = rest.calls_are ∙ ap (λ (l : Calls). l ++ rest.calls) one.own_is ∙ append_assoc noted one.own rest.calls;
        put = λ good its gaps. (
          one.own,
          rest.calls,
          refl,
          subst (λ (l : Calls). ServesMiner Notes idle_turns noted visit.before visit.ended l visit.after) one.own_is are.1,
          one.put rest.calls (all-front (IsGoodCall ProxyAnswers wants_memory events) one.own rest.calls good)
              (all-front (λ (call : ProxyCall). call.worker ≡ caller) one.own rest.calls its) gaps,
          subst (λ (l : Calls). ArePutTheirOutput idle_turns events l answers rest.calls) one.own_is
              (rest.put (all_later (IsGoodCall ProxyAnswers wants_memory events) one.own rest.calls good)
              (all_later (λ (call : ProxyCall). call.worker ≡ caller) one.own rest.calls its) (gaps_behind events caller one.own rest.calls gaps.reached gaps.gaps)),
        );
      }

  pub whole_shift : (answers : List MinerAsked) (calls : Calls) → AreMiners idle_turns [] answers calls → GoodProxyCalls events calls → AreIts calls
      → GapsBehind events caller calls → ArePutTheirOutput idle_turns events [] answers calls
  whole_shift answers calls are good its gaps =
      let put = shift_put answers [] calls are in
      let same : calls ≡ put.calls = put.calls_are in
      subst (λ (l : Calls). ArePutTheirOutput idle_turns events [] answers l) (sym same)
      (put.put (subst (λ (l : Calls). GoodProxyCalls events l) same good) (subst AreIts same its) (subst (λ (l : Calls). GapsBehind events caller l) same gaps))

-- ---- all shifts

abbrev calls_of : List MinersShift → Calls
calls_of shifts = flat_map (λ (shift : MinersShift). shift.calls) shifts

-- the workers of later shifts are later ones
later_workers : (service : ProxyService) (least worker : ℕ) (shifts : List MinersShift) → least < worker → AreShiftsFrom service worker shifts
    → AllByRecursion (λ (call : ProxyCall). least < call.worker) (calls_of shifts)
later_workers service least worker [] less are = tt
later_workers service least worker (shift ∷ shifts) less are =
    all_join (λ (call : ProxyCall). least < call.worker) shift.calls (calls_of shifts)
    (all-map (λ (call : ProxyCall). call.worker ≡ worker) (λ (call : ProxyCall). least < call.worker) (λ call is. omega (arith, is, less)) shift.calls are.0.calls.own)
    (later_workers service least (worker + 1) shifts (omega (arith, less)) are.1)

not_same : (caller other : ℕ) → other < caller → (other == caller) ≡ false
not_same caller other less = ne_eqb other caller (λ same. omega (arith, same, less))

not_same_later : (caller other : ℕ) → caller < other → (other == caller) ≡ false
not_same_later caller other less = ne_eqb other caller (λ same. omega (arith, same, less))

-- a shift's own calls first
own_first : (passed own later : Calls) → IsPermutation (passed ++ (own ++ later)) (own ++ (passed ++ later))
own_first passed own later =
    subst (λ (l : Calls). IsPermutation l (own ++ (passed ++ later))) (append_assoc passed own later)
    (subst (λ (l : Calls). IsPermutation ((passed ++ own) ++ later) l) (append_assoc own passed later)
    (IsPermutation-append (passed ++ own) (own ++ passed) later later (IsPermutation-append_comm passed own) (IsPermutation-refl later)))

module _ (service : ProxyService) (start events : List ProxyEvent) where
  abbrev IsGood : ProxyCall → Type 0
  IsGood call = IsGoodCall ProxyAnswers wants_memory events call

  all_put : (passed : Calls) (worker : ℕ) (shifts : List MinersShift) → 0 < worker → Parted start events 0 0 (passed ++ calls_of shifts)
      → GoodProxyCalls events (passed ++ calls_of shifts) → AllByRecursion (λ (call : ProxyCall). call.worker < worker) passed → AreShiftsFrom service worker shifts
      → AllByRecursion (λ (shift : MinersShift). ArePutTheirOutput service.idle_turns events [] shift.answers shift.calls) shifts
  all_put passed worker [] some parted good before are = tt
  all_put passed worker (shift ∷ shifts) some parted good before are =
      let own = shift.calls in
      let later = calls_of shifts in
      let moved = own_first passed own later in
      let own_parted : Parted start events 0 0 (own ++ (passed ++ later)) = record {
        ordered = parted.ordered;
        same = IsPermutation-trans parted.ordered (passed ++ (own ++ later)) (own ++ (passed ++ later)) parted.same moved;
        parts = parted.parts;
      } in
      let own_good : GoodProxyCalls events (own ++ (passed ++ later)) =
      recursion_from_All IsGood (own ++ (passed ++ later))
      (All-permutation IsGood (passed ++ (own ++ later)) (own ++ (passed ++ later)) moved (All-from_recursion IsGood (passed ++ (own ++ later)) good)) in
      let away : AllByRecursion (λ (call : ProxyCall). (call.worker == worker) ≡ false) (passed ++ later) =
      all_join (λ (call : ProxyCall). (call.worker == worker) ≡ false) passed later
      (all-map (λ (call : ProxyCall). call.worker < worker) (λ (call : ProxyCall). (call.worker == worker) ≡ false) (λ call less. not_same worker call.worker less) passed before)
      (all-map (λ (call : ProxyCall). worker < call.worker) (λ (call : ProxyCall). (call.worker == worker) ≡ false) (λ call less. not_same_later worker call.worker less) later
      (later_workers service worker (worker + 1) shifts (omega arith) are.1)) in
      let gaps = no_gaps events worker start own (passed ++ later) are.0.calls.rise.0 own_parted own_good are.0.calls.rise.1 away in
      let none : (worker == 0) ≡ false = ne_eqb worker 0 (λ same. omega (arith, same, some)) in (
        whole_shift events worker none service.idle_turns shift.answers own are.0.miners (all-front IsGood own (passed ++ later) own_good) are.0.calls.own
            (record { reached = start; gaps = gaps }),
        all_put (passed ++ own) (worker + 1) shifts (omega (arith, some))
            (subst (λ (l : Calls). Parted start events 0 0 l) (sym (append_assoc passed own later)) parted)
            (subst (λ (l : Calls). GoodProxyCalls events l) (sym (append_assoc passed own later)) good)
            (all_join (λ (call : ProxyCall). call.worker < worker + 1) passed own
            (all-map (λ (call : ProxyCall). call.worker < worker) (λ (call : ProxyCall). call.worker < worker + 1) (λ call less. omega (arith, less)) passed before)
            (all-map (λ (call : ProxyCall). call.worker ≡ worker) (λ (call : ProxyCall). call.worker < worker + 1) (λ call is. omega (arith, is)) own are.0.calls.own))
            are.1,
      )

-- ---- the law

pub put_output : MinersArePutOutput
put_output service old new reason door_faults door_memory ran =
    all_put service old.events new.events ran.up_calls 1 ran.shifts (omega arith) ran.parted ran.good
    (all-map (λ (call : ProxyCall). call.worker ≡ 0) (λ (call : ProxyCall). call.worker < 1) (λ call is. omega (arith, is)) ran.up_calls ran.own.own) ran.worked
