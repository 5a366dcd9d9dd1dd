-- Each Credit was asked for by one call.
use Rattle.std.proofs.Common.{◌⊎◌, inl, inr, ◌≡◌, ℕ, ◌+◌, ◌<◌, ◌≤◌, Bool, true, false, Option, None, Some, List, [], ◌∷◌, ◌++◌, length, take, refl, ap, ap₂, subst, sym, ◌∙◌, arith, append_assoc}
use Rattle.std.proofs.lemmas.Bool.{ltb-false, ltb-true}
use Rattle.std.proofs.lemmas.List.{length-append}
use Rattle.std.specs.Prelude.{nat_lt}
use Rattle.std.specs.List.{AllByRecursion}
use Rattle.std.specs.Option.{option_to_list}
use Rattle.pool_base.proofs.Behind.{all-ordered, its-front}
use Rattle.pool_base.specs.Calls.{Faulted, IsOutcome, Outcome, PartsFrom, Replied}
use Rattle.pool_history.specs.declared.events.Event.{Event}
use Rattle.pool_history.specs.declared.refusals.BookError.{BookError}
use Rattle.pool_history.specs.declared.replies.Reply.{Reply}
use Rattle.pool_history.specs.Answering.{Answer, step}
use Rattle.pool_history.specs.Calls.{IsGoodPoolCall, PoolCall, wants_memory}
use Rattle.pool_history.specs.Judging.{Share}
use Rattle.pool_history.specs.Sessions.{past_of}
use Rattle.history_laws.specs.Answered.{credit_of}
use Rattle.history_laws.specs.Serving.{CreditsAreCalled, IsCalled}
use Rattle.history_laws.proofs.CallsServed.{calls-answered}
use Rattle.history_laws.proofs.Judged.{cons-nil, credits-committed}

-- a call makes one event at most
one-at-most : (o : Option Event) → (option_to_list o ≡ []) ⊎ ((e : Event) × (option_to_list o ≡ e ∷ []))
one-at-most None = inl refl
one-at-most (Some e) = inr (e, refl)

made-few : (before : List Event) (call : PoolCall) (o : Outcome Reply BookError) → IsOutcome Answer wants_memory before call o
    → (call.added ≡ []) ⊎ ((e : Event) × (call.added ≡ e ∷ []))
made-few before call (Replied answer) h = few (one-at-most (step (past_of before) call.worker call.asked).event) where
  few : (option_to_list (step (past_of before) call.worker call.asked).event ≡ [])
      ⊎ ((e : Event) × (option_to_list (step (past_of before) call.worker call.asked).event ≡ e ∷ []))
      → (call.added ≡ []) ⊎ ((e : Event) × (call.added ≡ e ∷ []))
  few (inl none) = inl (h.events_are ∙ none)
  few (inr (e, one)) = inr (e, h.events_are ∙ one)
made-few before call (Faulted fault) h = inl h.0

-- one place of a list has one event, and one front
pub record OnePlace (a b : List Event) (x y : Event) : Type 0 where
  pub fronts : a ≡ b
  pub events : x ≡ y

one-place : (a b c d : List Event) (x y : Event) → length a ≡ length b → a ++ x ∷ c ≡ b ++ y ∷ d → OnePlace a b x y
one-place [] [] c d x y long same = record { fronts = refl; events = cc }
one-place [] (e ∷ b) c d x y long same = absurd (omega (arith, long))
one-place (e ∷ a) [] c d x y long same = absurd (omega (arith, long))
one-place (e ∷ a) (f ∷ b) c d x y long same =
    let heads : e ≡ f = cc in
    let tails : a ++ x ∷ c ≡ b ++ y ∷ d = cc in
    let fewer : length a ≡ length b = omega (arith, long) in
    let rest : OnePlace a b x y = one-place a b c d x y fewer tails in
    record { fronts = ap₂ (λ g l. g ∷ l) heads rest.fronts; events = rest.events }

-- the call that made the event of a place
pub record Made (calls : List PoolCall) (history before : List Event) (event : Event) : Type 0 where
  pub earlier : List PoolCall
  pub call : PoolCall
  pub later : List PoolCall
  pub stands : calls ≡ earlier ++ call ∷ later
  pub good : IsGoodPoolCall history call
  pub at_front : take call.front history ≡ before
  pub made : call.added ≡ event ∷ []

-- a call that made one event at a place made that of the place
made-here : (history before after : List Event) (event : Event) (call : PoolCall) (calls : List PoolCall) → IsGoodPoolCall history call → history ≡ before ++ event ∷ after
    → call.front ≡ length before → (e : Event) → call.added ≡ e ∷ [] → Made (call ∷ calls) history before event
made-here history before after event call calls g is at e one =
    let there : g.before ++ e ∷ g.after ≡ before ++ event ∷ after =
    sym (append_assoc g.before (e ∷ []) g.after) ∙ sym (g.stands ∙ ap (λ l. (g.before ++ l) ++ g.after) one) ∙ is in
    let same : OnePlace g.before before e event = one-place g.before before g.after after e event (g.at_front ∙ at) there in
    record {
      earlier = [];
      call = call;
      later = calls;
      stands = refl;
      good = g;
      at_front = its-front Answer wants_memory history call g ∙ same.fronts;
      made = one ∙ ap (λ x. x ∷ []) same.events;
    }

-- so did a later one
made-later : (history before : List Event) (event : Event) (call : PoolCall) (calls : List PoolCall) → Made calls history before event → Made (call ∷ calls) history before event
made-later history before event call calls m = record {
  earlier = call ∷ m.earlier;
  call = m.call;
  later = m.later;
  stands = ap (λ l. call ∷ l) m.stands;
  good = m.good;
  at_front = m.at_front;
  made = m.made;
}

-- so one of the calls did, by what the first of them made
by-first : (history before after : List Event) (event : Event) (call : PoolCall) (calls : List PoolCall) → IsGoodPoolCall history call → history ≡ before ++ event ∷ after
    → (front : ℕ) → call.front ≡ front → front ≤ length before → (call.added ≡ []) ⊎ ((e : Event) × (call.added ≡ e ∷ []))
    → (front + length (call.added) ≤ length before → Made calls history before event) → Made (call ∷ calls) history before event
by-first history before after event call calls g is front at few (inl none) rest =
    let nothing : length (call.added) ≡ 0 = ap length none in
    made-later history before event call calls (rest (omega (arith, few, nothing)))
by-first history before after event call calls g is front at few (inr (e, one)) rest = by_place (nat_lt front (length before)) refl where
  by_place : (b : Bool) → nat_lt front (length before) ≡ b → Made (call ∷ calls) history before event
  by_place true t =
      let less : front < length before = ltb-true front (length before) t in
      let single : length (call.added) ≡ 1 = ap length one in
      made-later history before event call calls (rest (omega (arith, less, single)))
  by_place false f =
      let most : length before ≤ front = ltb-false front (length before) f in
      let same : front ≡ length before = omega (arith, most, few) in
      made-here history before after event call calls g is (at ∙ same) e one

made-by-one : (history before after : List Event) (event : Event) → history ≡ before ++ event ∷ after → (reached : List Event) (number least most : ℕ)
    (calls : List PoolCall) → PartsFrom reached number least history most calls → AllByRecursion (IsGoodPoolCall history) calls
    → length reached ≤ length before → Made calls history before event
made-by-one history before after event is reached number least most [] p g few =
    let long : length history ≡ length before + length (event ∷ after) = ap length is ∙ length-append before (event ∷ after) in
    let all : length history ≡ length reached = ap length p.0 in
    absurd (omega (arith, all, long, few))
made-by-one history before after event is reached number least most (call ∷ calls) p g few =
    by-first history before after event call calls g.0 is (length reached) p.0 few (made-few g.0.before call call.outcome g.0.outcome)
    (λ still. made-by-one history before after event is (reached ++ call.added) (number + 1) call.faults_after most calls p.4 g.1
    (subst (λ n. n ≤ length before) (sym (length-append reached call.added)) still))

-- a call that made an event was answered
answered-it : (history before : List Event) (calls : List PoolCall) (session : ℕ) (share : Share) → (m : Made calls history before (credit_of session share))
    → (o : Outcome Reply BookError) → m.call.outcome ≡ o → IsCalled calls history before session share
answered-it history before calls session share m (Replied answer) replied = record {
  earlier = m.earlier;
  call = m.call;
  later = m.later;
  stands = m.stands;
  at_front = m.at_front;
  answer = answer;
  replied = replied;
  committed =
      credits-committed before m.call.worker m.call.asked answer session share
      (subst (λ h. Answer h m.call.worker m.call.asked (credit_of session share ∷ []) answer) m.at_front
      (subst (λ l. Answer (take m.call.front history) m.call.worker m.call.asked l answer) m.made (calls-answered history m.call answer m.good replied)));
}
answered-it history before calls session share m (Faulted fault) faulted =
    absurd (cons-nil (sym m.made ∙ (subst (IsOutcome Answer wants_memory m.good.before m.call) faulted m.good.outcome).0))

pub credits-called : CreditsAreCalled
credits-called start history least most calls parted good before after session share is few =
    let there : AllByRecursion (IsGoodPoolCall history) parted.ordered =
    all-ordered start history least most calls parted (IsGoodPoolCall history) good in
    let m : Made parted.ordered history before (credit_of session share) =
    made-by-one history before after (credit_of session share) is start 0 least most parted.ordered parted.parts there few in
    answered-it history before parted.ordered session share m m.call.outcome refl
