-- Between two calls of a worker's nobody joins with its number.
use Rattle.std.proofs.Common.{◌≡◌, ◌⊎◌, ℕ, ◌+◌, ◌==◌, Bool, true, false, if◌then◌else◌, List, [], ◌∷◌, ◌++◌, take, refl, ap, sym, subst, ◌∙◌, arith, append_assoc, inl, inr}
use Rattle.std.specs.Prelude.{sum_by}
use Rattle.std.specs.declared.alloc.AllocError.{AllocError}
use Rattle.std.proofs.lemmas.Bool.{cases_Bool}
use Rattle.std.proofs.lemmas.List.Elements.{All-from_recursion, recursion_from_All}
use Rattle.std.proofs.lemmas.List.Sorted.{All-permutation, sum_by-IsPermutation}
use Rattle.std.proofs.lemmas.List.Sums.{sum_by-append, sum_by-cons}
use Rattle.std.specs.List.{AllByRecursion, flat_map}
use Rattle.pool_base.specs.Calls.{Faulted, IsGoodCall, IsOutcome, Outcome, Parted, Replied, RiseFrom}
use Rattle.pool_base.specs.Lists.{Begins}
use Rattle.pool_base.specs.Standing.{AreAll, StandInOrder, StandsBehind}
use Rattle.pool_base.proofs.Behind.{all-front, callers-go_on, calls-all, its-front}
use Rattle.proxy_rules.specs.declared.events.ProxyEvent.{ProxyEvent}
use Rattle.proxy_rules.specs.declared.requests.ProxyReply.{ProxyReply}
use Rattle.proxy_rules.specs.declared.requests.ProxyRequest.{ProxyRequest}
use Rattle.proxy_rules.specs.declared.requests.ProxyRequest.TheVariants as request
use Rattle.proxy_rules.specs.Answering.{ProxyAnswers, has_joined, turn_of}
use Rattle.proxy_server.specs.Calls.{GoodProxyCalls, ProxyCall, wants_memory}
use Rattle.pool_promises.proofs.Outputs.{JoinsNot, is_join_of}
use Rattle.pool_promises.proofs.Polls.{is_joining}

-- ---- how many of some events join with a number

abbrev once : Bool → ℕ
once is = if is then 1 else 0

abbrev pub joins : ℕ → List ProxyEvent → ℕ
joins caller [] = 0
joins caller (input ∷ inputs) = once (is_join_of caller input) + joins caller inputs

joins_both : (caller : ℕ) (xs ys : List ProxyEvent) → joins caller (xs ++ ys) ≡ joins caller xs + joins caller ys
joins_both caller [] ys = omega arith
joins_both caller (x ∷ xs) ys = omega (arith, joins_both caller xs ys)

first_not : (is : Bool) (more : ℕ) → once is + more ≡ 0 → (is ≡ false) × (more ≡ 0)
first_not true more none = absurd (omega (arith, none))
first_not false more none = (refl, omega (arith, none))

pub joins_not : (caller : ℕ) (inputs : List ProxyEvent) → joins caller inputs ≡ 0 → JoinsNot caller inputs
joins_not caller [] none = tt
joins_not caller (input ∷ inputs) none =
    let parts = first_not (is_join_of caller input) (joins caller inputs) none in (parts.0, joins_not caller inputs parts.1)

-- ---- what a call adds

abbrev JoinsElse : ℕ → ℕ → ProxyRequest → Type 0
JoinsElse caller worker asked = ((worker == caller) ≡ false) ⊎ (is_joining asked ≡ false)

turn_joins : (caller worker : ℕ) (before : List ProxyEvent) (asked : ProxyRequest) → JoinsElse caller worker asked
    → joins caller (turn_of before worker asked).added ≡ 0
turn_joins caller worker before (request.Up bytes) other = refl
turn_joins caller worker before request.UpEnd other = refl
turn_joins caller worker before request.Join (inr asks) = absurd (let never : true ≡ false = asks in cc)
turn_joins caller worker before request.Join (inl other) = elim (cases_Bool (has_joined before worker)) [
  | inl is ↦ rw is refl
  | inr new ↦ rw new (rw other refl)
]
turn_joins caller worker before (request.Line line) other = elim (cases_Bool (has_joined before worker)) [ inl is ↦ rw is refl | inr new ↦ rw new refl ]
turn_joins caller worker before request.Leave other = elim (cases_Bool (has_joined before worker)) [ inl is ↦ rw is refl | inr new ↦ rw new refl ]
turn_joins caller worker before (request.Poll from) other = refl

outcome_joins : (caller : ℕ) (before : List ProxyEvent) (call : ProxyCall) (outcome : Outcome ProxyReply AllocError) → IsOutcome ProxyAnswers wants_memory before call outcome
    → JoinsElse caller call.worker call.asked → joins caller call.added ≡ 0
outcome_joins caller before call (Replied answer) is other = ap (joins caller) is.events ∙ turn_joins caller call.worker before call.asked other
outcome_joins caller before call (Faulted fault) is other = ap (joins caller) is.0

module _ (events : List ProxyEvent) (caller : ℕ) where
  pub call_joins : (call : ProxyCall) → IsGoodCall ProxyAnswers wants_memory events call → JoinsElse caller call.worker call.asked → joins caller call.added ≡ 0
  call_joins call good other = outcome_joins caller good.before call call.outcome good.outcome other

  abbrev added_joins : ProxyCall → ℕ
  added_joins call = joins caller call.added

  flat_joins : (calls : List ProxyCall) → joins caller (flat_map (λ (call : ProxyCall). call.added) calls) ≡ sum_by added_joins calls
  flat_joins [] = refl
  flat_joins (call ∷ calls) =
      joins_both caller call.added (flat_map (λ (c : ProxyCall). c.added) calls) ∙ ap (λ n. joins caller call.added + n) (flat_joins calls)
      ∙ sym (sum_by-cons added_joins call calls)

  others_none : (others : List ProxyCall) → GoodProxyCalls events others → AllByRecursion (λ (call : ProxyCall). (call.worker == caller) ≡ false) others
      → sum_by added_joins others ≡ 0
  others_none [] good away = refl
  others_none (call ∷ others) good away = omega (arith, sum_by-cons added_joins call others, call_joins call good.0 (inl away.0), others_none others good.1 away.1)

  -- ---- the gaps before and behind a worker's calls

  -- behind events that were reached: so many join with the number in all gaps
  abbrev pub Gaps : List ProxyEvent → List ProxyCall → ℕ → Type 0
  Gaps reached [] total = (tail : List ProxyEvent) × (events ≡ reached ++ tail) × (total ≡ joins caller tail)
  Gaps reached (call ∷ calls) total =
      (gap : List ProxyEvent) × (more : ℕ) × (take call.front events ≡ reached ++ gap) × Gaps (take call.front events ++ call.added) calls more × (total ≡ joins caller gap + more)

  gaps_sum : (reached : List ProxyEvent) (calls : List ProxyCall) (total : ℕ) → Gaps reached calls total
      → joins caller events ≡ joins caller reached + sum_by added_joins calls + total
  gaps_sum reached [] total gaps = omega (arith, ap (joins caller) gaps.1, joins_both caller reached gaps.0, gaps.2)
  gaps_sum reached (call ∷ calls) total gaps =
      let later = gaps_sum (take call.front events ++ call.added) calls gaps.1 gaps.3 in
      omega (arith, later, sum_by-cons added_joins call calls, joins_both caller (take call.front events) call.added, ap (joins caller) gaps.2, joins_both caller reached gaps.0, gaps.4)

  record HasGaps (reached : List ProxyEvent) (calls : List ProxyCall) : Type 0 where
    total : ℕ
    gaps : Gaps reached calls total

  find_gaps : (reached : List ProxyEvent) (calls : List ProxyCall) → GoodProxyCalls events calls → StandInOrder events calls
      → AllByRecursion (λ (call : ProxyCall). Begins reached (take call.front events)) calls → Begins reached events → HasGaps reached calls
  find_gaps reached [] good stand begin whole = record { total = joins caller whole.0; gaps = (whole.0, sym whole.1, refl) }
  find_gaps reached (call ∷ calls) good stand begin whole =
      let rest = find_gaps (take call.front events ++ call.added) calls good.1 stand.1 (behind calls stand.0) ends in
      record { total = joins caller begin.0.0 + rest.total; gaps = (begin.0.0, rest.total, sym begin.0.1, rest.gaps, refl) }
    where
      behind : (later : List ProxyCall) → AllByRecursion (StandsBehind events call) later
          → AllByRecursion (λ (c : ProxyCall). Begins (take call.front events ++ call.added) (take c.front events)) later
      behind [] stands = tt
      behind (c ∷ later) stands = ((stands.0.between, sym stands.0.behind), behind later stands.1)

      ends : Begins (take call.front events ++ call.added) events
      ends = (
        good.0.after,
        ap (λ (b : List ProxyEvent). (b ++ call.added) ++ good.0.after) (its-front ProxyAnswers wants_memory events call good.0) ∙ sym good.0.stands,
      )

  -- ---- all together

  all_fronts : (start : List ProxyEvent) (ordered : List ProxyCall) → AreAll start events ordered → AllByRecursion (λ (call : ProxyCall). Begins start (take call.front events)) ordered
  all_fronts start ordered all = from [] ordered refl
    where
      from : (before after : List ProxyCall) → ordered ≡ before ++ after → AllByRecursion (λ (call : ProxyCall). Begins start (take call.front events)) after
      from before [] is = tt
      from before (call ∷ after) is = (
        (_, sym (all.fronts before after call is)),
        from (before ++ call ∷ []) after (is ∙ sym (append_assoc before (call ∷ []) after)),
      )

  pub no_gaps : (start : List ProxyEvent) (own others : List ProxyCall) (known : ℕ) → Parted start events 0 0 (own ++ others) → GoodProxyCalls events (own ++ others)
      → RiseFrom 0 own known → AllByRecursion (λ (call : ProxyCall). (call.worker == caller) ≡ false) others → Gaps start own 0
  no_gaps start own others known parted good rise away =
      let all : AreAll start events parted.ordered = calls-all start events 0 0 (own ++ others) parted in
      let fronts = all-front (λ (call : ProxyCall). Begins start (take call.front events)) own others (recursion_from_All (λ (call : ProxyCall). Begins start (take call.front events)) (own ++ others)
      (All-permutation (λ (call : ProxyCall). Begins start (take call.front events)) parted.ordered (own ++ others) parted.same
      (All-from_recursion (λ (call : ProxyCall). Begins start (take call.front events)) parted.ordered (all_fronts start parted.ordered all)))) in
      let good_own = all-front (IsGoodCall ProxyAnswers wants_memory events) own others good in
      let found = find_gaps start own good_own (callers-go_on start events 0 0 0 known own others parted rise) fronts (_, sym all.whole) in
      let by_all : joins caller events ≡ joins caller start + sum_by added_joins parted.ordered =
      ap (joins caller) all.whole ∙ joins_both caller start _ ∙ ap (λ n. joins caller start + n) (flat_joins parted.ordered) in
      let moved = sum_by-IsPermutation added_joins parted.ordered (own ++ others) parted.same in
      let none = others_none others (all_behind own others good) away in
      let by_own = gaps_sum start own found.total found.gaps in
      let zero_is : found.total ≡ 0 = omega (arith, by_all, moved, sum_by-append added_joins own others, none, by_own) in
      subst (λ n. Gaps start own n) zero_is found.gaps
    where
      all_behind : (xs ys : List ProxyCall) → GoodProxyCalls events (xs ++ ys) → GoodProxyCalls events ys
      all_behind [] ys g = g
      all_behind (x ∷ xs) ys g = all_behind xs ys g.1

  -- so it is behind the first calls
  pub record GapsBehind (calls : List ProxyCall) : Type 0 where
    pub reached : List ProxyEvent
    pub gaps : Gaps reached calls 0

  pub gaps_behind : (first later : List ProxyCall) (reached : List ProxyEvent) → Gaps reached (first ++ later) 0 → GapsBehind later
  gaps_behind [] later reached gaps = record { reached = reached; gaps = gaps }
  gaps_behind (call ∷ first) later reached gaps =
      let none : gaps.1 ≡ 0 = omega (arith, gaps.4) in
      gaps_behind first later (take call.front events ++ call.added) (subst (λ n. Gaps (take call.front events ++ call.added) (first ++ later) n) none gaps.3)
