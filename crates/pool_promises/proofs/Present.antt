-- A session is present to its worker's calls behind its Enter.
use Rattle.std.proofs.Common.{◌≡◌, ◌≢◌, ℕ, ◌+◌, ◌<◌, false, Some, List, [], ◌∷◌, ◌++◌, length, take, ap, subst, sym, ◌∙◌, arith, append_assoc, append-nil}
use Rattle.std.proofs.lemmas.Grind.{flat_map-append}
use Rattle.std.proofs.lemmas.List.{length-append}
use Rattle.std.specs.List.{AllByRecursion, flat_map}
use Rattle.std.specs.Option.{option_to_list}
use Rattle.pool_base.specs.Calls.{Faulted, IsOutcome, Outcome, Parted, Replied, RiseFrom}
use Rattle.pool_base.specs.Standing.{AreAll}
use Rattle.pool_base.proofs.Behind.{all-map, all-ordered, calls-all, its-front}
use Rattle.pool_history.specs.declared.asking.Request.TheVariants as request
use Rattle.pool_history.specs.declared.events.Event.{Event}
use Rattle.pool_history.specs.declared.events.Role.{Role}
use Rattle.pool_history.specs.declared.refusals.BookError.{BookError}
use Rattle.pool_history.specs.declared.replies.Reply.{Reply}
use Rattle.pool_history.specs.declared.replies.Reply.TheVariants as reply
use Rattle.pool_history.specs.declared.settings.Rules.{Rules}
use Rattle.pool_history.specs.Answering.{Answer, step}
use Rattle.pool_history.specs.Calls.{IsGoodPoolCall, PoolCall, wants_memory}
use Rattle.pool_history.specs.Sessions.{Entrance, past_of, rules_of}
use Rattle.history_laws.specs.Serving.{Enters}
use Rattle.history_laws.proofs.CallsServed.{calls-answered}
use Rattle.history_laws.proofs.Legalities.{past-one}
use Rattle.pool_promises.specs.Presence.{FindsPresent, MakeHistory, StayInside, entrance_by, moves_session}
use Rattle.pool_promises.specs.Laws.{SessionsStayPresent}
use Rattle.pool_promises.proofs.Lists.{StandsIn, StandsLater, all_at, all_join, all_moved, all_parts, all_stand, rises_round, stands_later}
use Rattle.pool_promises.proofs.Staying.{IsInside, rules_stay, stays_behind}
use Rattle.pool_promises.proofs.Stepping.{Begins, IsHarmless, enter_begins, step_ends}

-- ---- one call

module _ {rules : Rules} {entered : Entrance} {session : ℕ} (history : List Event) (call : PoolCall) where
  outcome_stays : (before : List Event) (o : Outcome Reply BookError) → IsOutcome Answer wants_memory before call o → IsHarmless entered.worker call.worker call.asked
      → IsInside rules entered session (past_of before) → IsInside rules entered session (past_of (before ++ call.added))
  outcome_stays before (Replied answer) is harmless inside =
      rw is.events_are (stays_behind before (step (past_of before) call.worker call.asked).event (step_ends (past_of before) inside call.worker call.asked harmless) inside)
  outcome_stays before (Faulted cause) is harmless inside = rw is.0 (rw (append-nil before) inside)

  -- one that neither begins nor ends a session of the worker leaves its session present
  call_stays : IsGoodPoolCall history call → IsHarmless entered.worker call.worker call.asked
      → IsInside rules entered session (past_of (take call.front history)) → IsInside rules entered session (past_of (take call.front history ++ call.added))
  call_stays good harmless inside =
      outcome_stays (take call.front history) call.outcome
      (subst (λ b. IsOutcome Answer wants_memory b call call.outcome) (sym (its-front Answer wants_memory history call good)) good.outcome) harmless inside

-- the call that enters a session begins it
record HasBegun (history : List Event) (enter : PoolCall) (role : Role) (flags session : ℕ) : Type 0 where
  rules : Rules
  inside : IsInside rules (entrance_by rules enter.worker role flags) session (past_of (take enter.front history ++ enter.added))

call_begins : (history : List Event) (enter : PoolCall) (role : Role) (flags session : ℕ) → IsGoodPoolCall history enter → Enters enter role flags session
    → HasBegun history enter role flags session
call_begins history enter role flags session good enters =
    let before : List Event = take enter.front history in
    let answered : Answer before enter.worker (request.Enter role flags) enter.added (reply.Entered session) =
    subst (λ asked. Answer before enter.worker asked enter.added (reply.Entered session)) enters.asked
    (calls-answered history enter (reply.Entered session) good enters.entered) in
    let begins : Begins (past_of before) enter.worker role flags session (step (past_of before) enter.worker (request.Enter role flags)).event =
    enter_begins (past_of before) enter.worker role flags session (sym answered.reply_is) in
    record {
      rules = begins.rules;
      inside =
          subst (λ l. IsInside begins.rules (entrance_by begins.rules enter.worker role flags) session l)
          (sym (ap (λ l. past_of (before ++ l)) (answered.events_are ∙ ap option_to_list begins.made_is) ∙ past-one before begins.event)) begins.inside;
    }

-- ---- the calls between two of a worker's

-- none of the calls before one of them begins or ends a session
inside_before : (before : List PoolCall) (call : PoolCall) (after : List PoolCall) → StayInside (before ++ call ∷ after)
    → AllByRecursion (λ (c : PoolCall). moves_session c.asked ≡ false) before
inside_before [] call after stay = tt
inside_before (c ∷ []) call after stay = (stay.0, tt)
inside_before (c ∷ next ∷ before) call after stay = (stay.0, inside_before (next ∷ before) call after stay.1)

-- a call between two others of a worker's is harmless to its session
abbrev IsHarmlessBetween : PoolCall → PoolCall → PoolCall → Type 0
IsHarmlessBetween enter call between =
    enter.number < between.number → between.number < call.number → IsHarmless enter.worker between.worker between.asked

own_harmless : (known now : ℕ) (earlier before after later : List PoolCall) (enter call : PoolCall)
    → RiseFrom known (earlier ++ enter ∷ ((before ++ call ∷ after) ++ later)) now → StayInside (before ++ call ∷ after)
    → AllByRecursion (IsHarmlessBetween enter call) (earlier ++ enter ∷ ((before ++ call ∷ after) ++ later))
own_harmless known now earlier before after later enter call rise stay =
    let around = rises_round known earlier enter ((before ++ call ∷ after) ++ later) now rise in
    let same : (earlier ++ enter ∷ ((before ++ call ∷ after) ++ later)) ≡ (earlier ++ enter ∷ before) ++ call ∷ (after ++ later) =
    ap (λ l. earlier ++ enter ∷ l) (append_assoc before (call ∷ after) later) ∙ sym (append_assoc earlier (enter ∷ before) (call ∷ (after ++ later))) in
    let behind = rises_round known (earlier ++ enter ∷ before) call (after ++ later) now (subst (λ l. RiseFrom known l now) same rise) in
    subst (AllByRecursion (IsHarmlessBetween enter call)) (sym same)
    (all_join (IsHarmlessBetween enter call) (earlier ++ enter ∷ before) (call ∷ (after ++ later))
    (all_join (IsHarmlessBetween enter call) earlier (enter ∷ before)
    (all-map (λ c. c.number < enter.number) (IsHarmlessBetween enter call) (λ c lower greater less. absurd (omega (arith, lower, greater))) earlier around.lower) (
      λ greater less. absurd (omega (arith, greater)),
      all-map (λ (c : PoolCall). moves_session c.asked ≡ false) (IsHarmlessBetween enter call) (λ c moves greater less is. moves) before (inside_before before call after stay),
    )) (
      λ greater less. absurd (omega (arith, less)),
      all-map (λ c. call.number < c.number) (IsHarmlessBetween enter call) (λ c above greater less. absurd (omega (arith, above, less))) (after ++ later) behind.greater,
    ))

-- ---- from the Enter to the call, in the order of all numbers

-- the events behind these calls
abbrev events_by : List Event → List PoolCall → List Event
events_by start calls = start ++ flat_map (λ (c : PoolCall). c.added) calls

-- one call more
one_further : (start : List Event) (before : List PoolCall) (call : PoolCall) → events_by start (before ++ call ∷ []) ≡ events_by start before ++ call.added
one_further start before call =
    ap (λ l. start ++ l) (flat_map-append (λ (c : PoolCall). c.added) before (call ∷ []) ∙ ap (λ l. flat_map (λ (c : PoolCall). c.added) before ++ l) (append-nil call.added))
    ∙ sym (append_assoc start (flat_map (λ (c : PoolCall). c.added) before) call.added)

module _ {rules : Rules} {entered : Entrance} {session : ℕ} (start history : List Event) (ordered : List PoolCall) (all : AreAll start history ordered) where
  module _ (enter call : PoolCall) (harmless : AllByRecursion (λ (c : PoolCall). IsGoodPoolCall history c
      × (enter.number < c.number → c.number < call.number → IsHarmless entered.worker c.worker c.asked)) ordered) where
    stays_until : (before between after : List PoolCall) → ordered ≡ before ++ (between ++ call ∷ after) → enter.number < length before
        → IsInside rules entered session (past_of (events_by start before)) → IsInside rules entered session (past_of (take call.front history))
    stays_until before [] after parts less inside =
        subst (λ l. IsInside rules entered session (past_of l)) (sym (all.fronts before after call parts)) inside
    stays_until before (c ∷ between) after parts less inside =
        let here : c.number ≡ length before = all.numbers before (between ++ call ∷ after) c parts in
        let further : ordered ≡ (before ++ c ∷ []) ++ (between ++ call ∷ after) = parts ∙ sym (append_assoc before (c ∷ []) (between ++ call ∷ after)) in
        let there : call.number ≡ length ((before ++ c ∷ []) ++ between) =
        all.numbers ((before ++ c ∷ []) ++ between) after call (further ∙ sym (append_assoc (before ++ c ∷ []) between (call ∷ after))) in
        let longer : length ((before ++ c ∷ []) ++ between) ≡ (length before + 1) + length between =
        length-append (before ++ c ∷ []) between ∙ ap (λ n. n + length between) (length-append before (c ∷ [])) in
        let is = (all_parts (λ (c : PoolCall). IsGoodPoolCall history c × (enter.number < c.number → c.number < call.number → IsHarmless entered.worker c.worker c.asked))
        before (c ∷ (between ++ call ∷ after)) (subst (AllByRecursion (λ (c : PoolCall). IsGoodPoolCall history c
        × (enter.number < c.number → c.number < call.number → IsHarmless entered.worker c.worker c.asked))) parts harmless)).1.0 in
        let front : take c.front history ≡ events_by start before = all.fronts before (between ++ call ∷ after) c parts in
        let now : IsInside rules entered session (past_of (take c.front history ++ c.added)) =
        call_stays history c is.0 (is.1 (omega (arith, here, less)) (omega (arith, here, there, longer)))
        (subst (λ l. IsInside rules entered session (past_of l)) (sym front) inside) in
        stays_until (before ++ c ∷ []) between after further (omega (arith, length-append before (c ∷ []), less))
        (subst (λ l. IsInside rules entered session (past_of l)) (ap (λ l. l ++ c.added) front ∙ sym (one_further start before c)) now)

-- ---- from the Enter on

module _ (start history : List Event) (ordered : List PoolCall) (all : AreAll start history ordered) (enter call : PoolCall) (role : Role) (flags session : ℕ) where
  -- the session has begun behind the Enter
  begun_by : (stands : StandsIn enter ordered) (begun : HasBegun history enter role flags session)
      → IsInside begun.rules (entrance_by begun.rules enter.worker role flags) session (past_of (events_by start (stands.before ++ enter ∷ [])))
  begun_by stands begun =
      let same : events_by start (stands.before ++ enter ∷ []) ≡ take enter.front history ++ enter.added =
      one_further start stands.before enter ∙ ap (λ l. l ++ enter.added) (sym (all.fronts stands.before stands.after enter stands.parts)) in
      subst (λ l. IsInside begun.rules (entrance_by begun.rules enter.worker role flags) session (past_of l)) (sym same) begun.inside

  -- the call stands behind it
  stands_behind : (one : StandsIn enter ordered) (two : StandsIn call ordered) → length one.before < length two.before
      → (between : List PoolCall) × (ordered ≡ (one.before ++ enter ∷ []) ++ (between ++ call ∷ two.after))
  stands_behind one two less =
      let later : StandsLater one.before two.before enter =
      stands_later one.before one.after two.before two.after enter call (sym one.parts ∙ two.parts) less in (
        later.between,
        two.parts ∙ ap (λ l. l ++ call ∷ two.after) later.parts ∙ append_assoc one.before (enter ∷ later.between) (call ∷ two.after)
            ∙ sym (append_assoc one.before (enter ∷ []) (later.between ++ call ∷ two.after)),
      )

  -- so it finds the session present
  found_by : AllByRecursion (λ (c : PoolCall). IsGoodPoolCall history c × IsHarmlessBetween enter call c) ordered → Enters enter role flags session
      → (one : StandsIn enter ordered) (two : StandsIn call ordered) → enter.number < call.number → FindsPresent history enter.worker role flags session call
  found_by harmless enters one two less =
      let first : enter.number ≡ length one.before = all.numbers one.before one.after enter one.parts in
      let second : call.number ≡ length two.before = all.numbers two.before two.after call two.parts in
      let behind = stands_behind one two (omega (arith, first, second, less)) in
      let good : IsGoodPoolCall history enter =
      (all_parts (λ (c : PoolCall). IsGoodPoolCall history c × IsHarmlessBetween enter call c) one.before (enter ∷ one.after)
      (subst (AllByRecursion (λ (c : PoolCall). IsGoodPoolCall history c × IsHarmlessBetween enter call c)) one.parts harmless)).1.0.0 in
      let begun = call_begins history enter role flags session good enters in
      let inside : IsInside begun.rules (entrance_by begun.rules enter.worker role flags) session (past_of (take call.front history)) =
      stays_until start history ordered all enter call harmless (one.before ++ enter ∷ []) behind.0 two.after behind.1
      (omega (arith, length-append one.before (enter ∷ []), first)) (begun_by one begun) in
      record { rules = begun.rules; are_rules = inside.are_rules; present_is = inside.there; entrance_is = inside.is_entered }

-- ---- the law

module _ (start history : List Event) (least most : ℕ) (earlier before after later others : List PoolCall) (enter call : PoolCall) (role : Role) (flags session : ℕ)
    (make : MakeHistory start history least most enter.worker (earlier ++ enter ∷ ((before ++ call ∷ after) ++ later)) others) where
  abbrev own : List PoolCall
  own = earlier ++ enter ∷ ((before ++ call ∷ after) ++ later)

  -- all are good, and harmless between the two
  abbrev IsGoodBetween : PoolCall → Type 0
  IsGoodBetween c = IsGoodPoolCall history c × IsHarmlessBetween enter call c

  all_good : StayInside (before ++ call ∷ after) → AllByRecursion IsGoodBetween make.parted.ordered
  all_good stay =
      all-ordered start history least most (own ++ others) make.parted IsGoodBetween
      (both (own ++ others) make.good
      (all_join (IsHarmlessBetween enter call) own others (own_harmless 0 make.known earlier before after later enter call make.rise stay)
      (all-map (λ c. c.worker ≢ enter.worker) (IsHarmlessBetween enter call) (λ c other greater less same. absurd (other same)) others make.others_are)))
    where
      both : (calls : List PoolCall) → AllByRecursion (IsGoodPoolCall history) calls → AllByRecursion (IsHarmlessBetween enter call) calls → AllByRecursion IsGoodBetween calls
      both [] h k = tt
      both (c ∷ calls) h k = ((h.0, k.0), both calls h.1 k.1)

  -- each call stands in the order of all numbers
  stand : AllByRecursion (λ c. StandsIn c make.parted.ordered) (own ++ others)
  stand = all_moved (λ c. StandsIn c make.parted.ordered) make.parted.ordered (own ++ others) make.parted.same (all_stand make.parted.ordered)

  finds : Enters enter role flags session → StayInside (before ++ call ∷ after) → FindsPresent history enter.worker role flags session call
  finds enters stay =
      let from_enter = (all_parts (λ c. StandsIn c make.parted.ordered) earlier (enter ∷ ((before ++ call ∷ after) ++ later))
      (all_parts (λ c. StandsIn c make.parted.ordered) own others stand).0).1 in
      let inside = (all_parts (λ c. StandsIn c make.parted.ordered) (before ++ call ∷ after) later from_enter.1).0 in
      let around = rises_round 0 earlier enter ((before ++ call ∷ after) ++ later) make.known make.rise in
      let greater = (all_parts (λ c. enter.number < c.number) (before ++ call ∷ after) later around.greater).0 in
      found_by start history make.parted.ordered (calls-all start history least most (own ++ others) make.parted) enter call role flags session
      (all_good stay) enters from_enter.0 (all_parts (λ c. StandsIn c make.parted.ordered) before (call ∷ after) inside).1.0
      (all_parts (λ c. enter.number < c.number) before (call ∷ after) greater).1.0

pub stay-present : SessionsStayPresent
stay-present start history least most earlier inside later others enter role flags session make enters stay =
    all_at (FindsPresent history enter.worker role flags session) inside
    (λ before call after parts.
    finds start history least most earlier before after later others enter call role flags session
    (subst (λ l. MakeHistory start history least most enter.worker (earlier ++ enter ∷ (l ++ later)) others) parts make) enters (subst StayInside parts stay))

-- ---- the rules

-- what follows stands under the rules of the start
pub rules_further : (start more : List Event) (rules : Rules) → rules_of (past_of start) ≡ Some rules → rules_of (past_of (start ++ more)) ≡ Some rules
rules_further start [] rules are = rw (append-nil start) are
rules_further start (e ∷ more) rules are =
    subst (λ l. rules_of (past_of l) ≡ Some rules) (append_assoc start (e ∷ []) more)
    (rules_further (start ++ e ∷ []) more rules (ap rules_of (past-one start e) ∙ rules_stay e (past_of start) rules are))

-- so does each of the calls
pub rules_at_fronts : (start history : List Event) (least most : ℕ) (calls : List PoolCall) (rules : Rules) → Parted start history least most calls
    → rules_of (past_of start) ≡ Some rules → AllByRecursion (λ (c : PoolCall). rules_of (past_of (take c.front history)) ≡ Some rules) calls
rules_at_fronts start history least most calls rules parted are =
    let all : AreAll start history parted.ordered = calls-all start history least most calls parted in
    all-map (λ c. StandsIn c parted.ordered) (λ c. rules_of (past_of (take c.front history)) ≡ Some rules)
    (λ c (stands : StandsIn c parted.ordered).
    ap (λ l. rules_of (past_of l)) (all.fronts stands.before stands.after c stands.parts)
    ∙ rules_further start (flat_map (λ (c : PoolCall). c.added) stands.before) rules are) calls
    (all_moved (λ c. StandsIn c parted.ordered) parted.ordered calls parted.same (all_stand parted.ordered))
