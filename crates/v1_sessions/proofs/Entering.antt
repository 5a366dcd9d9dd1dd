-- A session of lines asks to enter first, and never again.
use Rattle.std.proofs.Common.{◌≡◌, ℕ, ◌-◌, Bool, true, false, List, [], ◌∷◌, ◌++◌, Option, None, Some, refl, sym, ap, subst, ◌∙◌, append_assoc, append-nil, suc, zero}
use Rattle.std.proofs.Math.Dec.{eqb-suc-zero}
use Rattle.std.specs.Prelude.{if◌then◌else◌, is_none, is_some}
use Rattle.pool_base.specs.Calls.{Outcome, Replied, Faulted}
use Rattle.pool_io.specs.declared.sink.SinkFailed.{SinkFailed}
use Rattle.pool_history.specs.declared.refusals.BookError.{BookError}
use Rattle.pool_history.specs.declared.replies.Reply.{Reply}
use Rattle.pool_history.specs.declared.replies.Reply.TheVariants as reply
use Rattle.pool_history.specs.Calls.{PoolCall}
use Rattle.session_steps.specs.declared.ends.SessionEnd.{SessionEnd}
use Rattle.session_steps.specs.declared.ends.SessionEnd.TheVariants as end
use Rattle.session_steps.specs.States.{Stage, Asking, Committing, Greeting, Leaving, Over, Polling, Reading, Refusing, Saying, Put, end_stage, failed_end, fault_end, hears, input_end, news_stage}
use Rattle.session_steps.specs.Steps.{after_call}
use Rattle.v2_sessions.specs.Ends.{EntersFirst, is_enter}
use Rattle.v2_sessions.proofs.Entering.{StageBehind, StaysBehind, all_more, asking_behind, booking_behind, books_none, ended_behind, news_behind, told_behind}
use Rattle.v1_translate.specs.Lines.{line_reaction}
use Rattle.v1_translate.specs.State.{Terms}
use Rattle.v1_translate.specs.State as v1
use Rattle.v1_sessions.specs.Requests.{IsRequestFor, LineRequest}
use Rattle.v1_sessions.specs.States.{LineState, after_called, after_entering, asks_now, enters_now, entered_next, new_line_state, sends, unless_failed}
use Rattle.v1_sessions.specs.Steps.{Called, CanStep, Ended, Follows, Heard, Idled, LineStep, Missed, Overran, Requests, Spent, Starved, Took, after_step, call_of, calls_of}
use Rattle.v1_sessions.specs.LimitLaws.{LineSessionsEnterFirst}

-- a request that waits isn't an Enter
abbrev AsksNone : Option LineRequest → Type 0
AsksNone None = Unit {0}
AsksNone (Some wish) = is_enter wish.request ≡ false

-- before the first call: the session isn't set up, or it asks to enter while a request waits
abbrev StageBefore : Option ℕ → Option LineRequest → Stage → Type 0
StageBefore flags None Reading = flags ≡ None
StageBefore flags None (Over reason) = Unit {0}
StageBefore flags (Some wish) (Asking asked) = (is_enter asked ≡ true) × (is_none flags ≡ false) × (is_enter wish.request ≡ false)
StageBefore flags next stage = ⊥

-- behind it none waits, and nothing asks to enter
record IsBehind (s : LineState) : Type 0 where
  flags : is_none s.pool.talk.flags ≡ false
  next : s.next ≡ None
  stage : StageBehind s.pool.stage

-- where a session stands in its calls
abbrev StandsInCalls : List PoolCall → LineState → Type 0
StandsInCalls [] s = (s.pool.entered ≡ false) × StageBefore s.pool.talk.flags s.next s.pool.stage
StandsInCalls (call ∷ calls) s = EntersFirst (call ∷ calls) × IsBehind s

-- ---- what a line asks is no Enter

asked_none : (channel : Option ℕ) (asks : v1.Asking) (wish : Option LineRequest) → IsRequestFor channel asks wish → AsksNone wish
asked_none channel (v1.Open class) (Some wish) is = ap (λ (w : LineRequest). is_enter w.request) is.is
asked_none channel (v1.Open class) None is = tt
asked_none channel (v1.Share share) (Some wish) is = ap (λ (w : LineRequest). is_enter w.request) is.is
asked_none channel (v1.Share share) None is = tt
asked_none channel (v1.Update opened class) wish is = subst AsksNone (sym is) refl
asked_none (Some channel) (v1.Name account) wish is = subst AsksNone (sym is) refl
asked_none None (v1.Name account) wish is = subst AsksNone (sym is) tt
asked_none channel v1.Silence wish is = subst AsksNone (sym is) tt

-- ---- before the first call

reading_before : (flags : Option ℕ) (next : Option LineRequest) (stage : Stage) → stage ≡ Reading → StageBefore flags next stage → (next ≡ None) × (flags ≡ None)
reading_before flags None stage is before = (refl, subst (StageBefore flags None) is before)
reading_before flags (Some wish) stage is before = absurd (subst (StageBefore flags (Some wish)) is before)

module _ (flags : Option ℕ) (next : Option LineRequest) (none : next ≡ None) where
  over_before : (entered : Bool) (reason : SessionEnd) → entered ≡ false → StageBefore flags next (end_stage entered reason)
  over_before true reason is = cc
  over_before false reason is = subst (λ n. StageBefore flags n (Over reason)) (sym none) tt

  read_before : flags ≡ None → StageBefore flags next Reading
  read_before is = subst (λ n. StageBefore flags n Reading) (sym none) is

  idle_before : (entered : Bool) (idles : ℕ) → entered ≡ false → flags ≡ None → StageBefore flags next (news_stage entered idles)
  idle_before true idles is unset = cc
  idle_before false zero is unset = over_before false end.IdleOut refl
  idle_before false (suc n) is unset =
      subst (λ b. StageBefore flags next (if b then end_stage false end.IdleOut else Reading)) (sym (eqb-suc-zero n)) (read_before unset)

-- a line, whose first request makes the session enter
abbrev StartsAt : LineState → Type 0
StartsAt s = (s.pool.entered ≡ false) × StageBefore s.pool.talk.flags s.next s.pool.stage

module _ (t : LineState) (out : t.pool.entered ≡ false) (unset : t.pool.talk.flags ≡ None) (none : t.next ≡ None) where
  entering_before : (wish : LineRequest) (set_up : Bool) → set_up ≡ false → is_enter wish.request ≡ false
      → StartsAt (if set_up then record t { pool = asks_now wish t.pool } else record t { pool = enters_now t.pool; next = Some wish })
  entering_before wish true is asks = cc
  entering_before wish false is asks = (out, (refl, refl, asks))

  sent_before : (wish : Option LineRequest) → AsksNone wish → t.pool.stage ≡ Reading → StartsAt (sends wish t)
  sent_before None asks is = (out, subst (StageBefore t.pool.talk.flags t.next) (sym is) (read_before t.pool.talk.flags t.next none unset))
  sent_before (Some wish) asks is = entering_before wish (is_some t.pool.talk.flags) (ap is_some unset) asks

  heard_before : (failed : Option SinkFailed) (wish : Option LineRequest) → AsksNone wish → t.pool.stage ≡ Reading → StartsAt (unless_failed failed t (sends wish t))
  heard_before None wish asks is = sent_before wish asks is
  heard_before (Some cause) wish asks is = (out, over_before t.pool.talk.flags t.next none t.pool.entered (failed_end cause) out)

-- the answer to the entering
entered_behind : (wish : LineRequest) (answer : Reply) (s : LineState) → is_enter wish.request ≡ false → is_none s.pool.talk.flags ≡ false → IsBehind (entered_next wish answer s)
entered_behind wish (reply.PoolFull most) s asks flags = record { flags = flags; next = refl; stage = ended_behind s.pool.entered end.PoolFull }
entered_behind wish answer s asks flags = record { flags = flags; next = refl; stage = asks }

entering_behind : (wish : LineRequest) (s : LineState) (front : ℕ) (outcome : Outcome Reply BookError) → is_enter wish.request ≡ false → is_none s.pool.talk.flags ≡ false
    → IsBehind (after_entering wish s front outcome)
entering_behind wish s front (Faulted cause) asks flags = record { flags = flags; next = refl; stage = ended_behind s.pool.entered (fault_end cause) }
entering_behind wish s front (Replied answer) asks flags = entered_behind wish answer (record s { pool = hears s.pool front answer }) asks flags

-- what the first call asks for, and what it leaves
first_asks : (flags : Option ℕ) (next : Option LineRequest) (stage : Stage) (s : LineState) (call : PoolCall) → StageBefore flags next stage → Requests stage s call
    → (wish : LineRequest) × (next ≡ Some wish) × (is_enter call.asked ≡ true) × (is_none flags ≡ false) × (is_enter wish.request ≡ false)
first_asks flags (Some wish) (Asking asked) s call before asks = (wish, refl, ap is_enter asks ∙ before.0, before.1, before.2)
first_asks flags None Reading s call before asks = absurd asks
first_asks flags None (Over reason) s call before asks = absurd asks
first_asks flags None Greeting s call before asks = absurd before
first_asks flags None (Refusing code refused) s call before asks = absurd before
first_asks flags None (Saying bytes) s call before asks = absurd before
first_asks flags None (Asking asked) s call before asks = absurd before
first_asks flags None (Committing brief) s call before asks = absurd before
first_asks flags None Polling s call before asks = absurd before
first_asks flags None (Leaving reason) s call before asks = absurd before
first_asks flags (Some wish) Greeting s call before asks = absurd before
first_asks flags (Some wish) Reading s call before asks = absurd before
first_asks flags (Some wish) (Refusing code refused) s call before asks = absurd before
first_asks flags (Some wish) (Saying bytes) s call before asks = absurd before
first_asks flags (Some wish) (Committing brief) s call before asks = absurd before
first_asks flags (Some wish) Polling s call before asks = absurd before
first_asks flags (Some wish) (Leaving reason) s call before asks = absurd before
first_asks flags (Some wish) (Over reason) s call before asks = absurd before

-- ---- behind the first call

some_flags : (flags : Option ℕ) → is_none flags ≡ false → is_some flags ≡ true
some_flags None is = cc
some_flags (Some flags) is = refl

module _ (t : LineState) (flags : is_none t.pool.talk.flags ≡ false) (none : t.next ≡ None) where
  asked_behind : (wish : LineRequest) (set_up : Bool) → set_up ≡ true → is_enter wish.request ≡ false
      → IsBehind (if set_up then record t { pool = asks_now wish t.pool } else record t { pool = enters_now t.pool; next = Some wish })
  asked_behind wish true is asks = record { flags = flags; next = none; stage = asks }
  asked_behind wish false is asks = cc

  sent_behind : (wish : Option LineRequest) → AsksNone wish → t.pool.stage ≡ Reading → IsBehind (sends wish t)
  sent_behind None asks is = record { flags = flags; next = none; stage = subst StageBehind (sym is) tt }
  sent_behind (Some wish) asks is = asked_behind wish (is_some t.pool.talk.flags) (some_flags t.pool.talk.flags flags) asks

  heard_behind : (failed : Option SinkFailed) (wish : Option LineRequest) → AsksNone wish → t.pool.stage ≡ Reading → IsBehind (unless_failed failed t (sends wish t))
  heard_behind None wish asks is = sent_behind wish asks is
  heard_behind (Some cause) wish asks is = record { flags = flags; next = none; stage = ended_behind t.pool.entered (failed_end cause) }

asks_later : (stage : Stage) (s : LineState) (call : PoolCall) → Requests stage s call → StageBehind stage → is_enter call.asked ≡ false
asks_later (Asking asked) s call asks behind = ap is_enter asks ∙ behind
asks_later (Committing brief) s call asks behind = books_none s.pool.talk.about brief call.asked asks
asks_later Polling s call asks behind = ap is_enter asks
asks_later (Leaving reason) s call asks behind = ap is_enter asks
asks_later Greeting s call asks behind = absurd asks
asks_later Reading s call asks behind = absurd asks
asks_later (Refusing code flags) s call asks behind = absurd asks
asks_later (Saying bytes) s call asks behind = absurd asks
asks_later (Over reason) s call asks behind = absurd asks

call_behind : (stage : Stage) (s : LineState) (call : PoolCall) (put : Put) → Requests stage s call → StaysBehind s.pool (after_call stage s.pool call put)
call_behind (Asking asked) s call put asks = asking_behind s.pool call.front call.outcome put
call_behind (Committing brief) s call put asks = booking_behind s.pool call.outcome put
call_behind Polling s call put asks = told_behind s.pool call.outcome put
call_behind (Leaving reason) s call put asks = record { flags = refl; stage = tt }
call_behind Greeting s call put asks = absurd asks
call_behind Reading s call put asks = absurd asks
call_behind (Refusing code flags) s call put asks = absurd asks
call_behind (Saying bytes) s call put asks = absurd asks
call_behind (Over reason) s call put asks = absurd asks

called_behind : (terms : Terms) (next : Option LineRequest) (s : LineState) (call : PoolCall) (put : Put) → s.next ≡ next → next ≡ None
    → is_none s.pool.talk.flags ≡ false → Requests s.pool.stage s call → IsBehind (after_called terms next s call put)
called_behind terms (Some wish) s call put is none flags asks = cc
called_behind terms None s call put is none flags asks =
    let stays = call_behind s.pool.stage s call put asks in
    record { flags = ap is_none stays.flags ∙ flags; next = is; stage = stays.stage }

-- ---- a step

-- what a line leads from
abbrev at_line : Terms → LineState → List ℕ → List ℕ → LineState
at_line terms s line rest = record s { pool = record s.pool { unmet = rest }; v1 = (line_reaction terms s.v1 line).after }

module _ (worker : ℕ) (terms : Terms) (s : LineState) where
  step_before : (x : LineStep) → CanStep worker terms s x → StandsInCalls [] s → StandsInCalls (call_of x) (after_step terms s x)
  step_before (Took bytes) can (out, before) = (out, before)
  step_before (Heard line rest wish put) can (out, before) =
      let at = reading_before s.pool.talk.flags s.next s.pool.stage can.reading before in
      heard_before (at_line terms s line rest) out at.1 at.0 put.fault wish
      (asked_none (line_reaction terms s.v1 line).after.channel (line_reaction terms s.v1 line).asks wish can.asks) can.reading
  step_before Overran can (out, before) =
      let at = reading_before s.pool.talk.flags s.next s.pool.stage can.reading before in
      (out, over_before s.pool.talk.flags s.next at.0 s.pool.entered end.LineTooLong out)
  step_before Idled can (out, before) =
      let at = reading_before s.pool.talk.flags s.next s.pool.stage can.waiting.reading before in
      (out, idle_before s.pool.talk.flags s.next at.0 s.pool.entered (s.pool.idles - 1) out at.1)
  step_before Ended can (out, before) =
      let at = reading_before s.pool.talk.flags s.next s.pool.stage can.waiting.reading before in
      (out, over_before s.pool.talk.flags s.next at.0 s.pool.entered (input_end s.pool.unmet) out)
  step_before Missed can (out, before) =
      let at = reading_before s.pool.talk.flags s.next s.pool.stage can.waiting.reading before in
      (out, over_before s.pool.talk.flags s.next at.0 s.pool.entered end.ReadFault out)
  step_before Starved can (out, before) =
      let at = reading_before s.pool.talk.flags s.next s.pool.stage can before in
      (out, over_before s.pool.talk.flags s.next at.0 s.pool.entered end.Memory out)
  step_before Spent can (out, before) =
      let at = reading_before s.pool.talk.flags s.next s.pool.stage can.0.reading before in
      (out, over_before s.pool.talk.flags s.next at.0 s.pool.entered end.BytesOut out)
  step_before (Called call put) can (out, before) =
      let asks = first_asks s.pool.talk.flags s.next s.pool.stage s call before can.requests in
      ((asks.2, tt), subst (λ n. IsBehind (after_called terms n s call put)) (sym asks.1) (entering_behind asks.0 s call.front call.outcome asks.4 asks.3))

  step_behind : (c : PoolCall) (cs : List PoolCall) (x : LineStep) → CanStep worker terms s x → StandsInCalls (c ∷ cs) s → StandsInCalls ((c ∷ cs) ++ call_of x) (after_step terms s x)
  step_behind c cs (Called call put) can (first, behind) = (
    (first.0, all_more cs call first.1 (asks_later s.pool.stage s call can.requests behind.stage)),
    called_behind terms s.next s call put refl behind.next behind.flags can.requests,
  )
  step_behind c cs (Took bytes) can (first, behind) = rw (append-nil cs) (first, record { flags = behind.flags; next = behind.next; stage = behind.stage })
  step_behind c cs (Heard line rest wish put) can (first, behind) =
      rw (append-nil cs) (
        first,
        heard_behind (at_line terms s line rest) behind.flags behind.next put.fault wish
            (asked_none (line_reaction terms s.v1 line).after.channel (line_reaction terms s.v1 line).asks wish can.asks) can.reading,
      )
  step_behind c cs Overran can (first, behind) =
      rw (append-nil cs) (first, record { flags = behind.flags; next = behind.next; stage = ended_behind s.pool.entered end.LineTooLong })
  step_behind c cs Idled can (first, behind) =
      rw (append-nil cs) (first, record { flags = behind.flags; next = behind.next; stage = news_behind s.pool.entered (s.pool.idles - 1) })
  step_behind c cs Ended can (first, behind) =
      rw (append-nil cs) (first, record { flags = behind.flags; next = behind.next; stage = ended_behind s.pool.entered (input_end s.pool.unmet) })
  step_behind c cs Missed can (first, behind) =
      rw (append-nil cs) (first, record { flags = behind.flags; next = behind.next; stage = ended_behind s.pool.entered end.ReadFault })
  step_behind c cs Starved can (first, behind) =
      rw (append-nil cs) (first, record { flags = behind.flags; next = behind.next; stage = ended_behind s.pool.entered end.Memory })
  step_behind c cs Spent can (first, behind) =
      rw (append-nil cs) (first, record { flags = behind.flags; next = behind.next; stage = ended_behind s.pool.entered end.BytesOut })

  step_enters : (calls : List PoolCall) (x : LineStep) → CanStep worker terms s x → StandsInCalls calls s → StandsInCalls (calls ++ call_of x) (after_step terms s x)
  step_enters [] x can enters = step_before x can enters
  step_enters (c ∷ cs) x can enters = step_behind c cs x can enters

enters_on : (worker : ℕ) (terms : Terms) (s t : LineState) (calls : List PoolCall) (xs : List LineStep) → StandsInCalls calls s → Follows worker terms s xs t
    → StandsInCalls (calls ++ calls_of xs) t
enters_on worker terms s t calls [] enters follows = rw (follows, append-nil calls) enters
enters_on worker terms s t calls (x ∷ xs) enters follows =
    subst (λ l. StandsInCalls l t) (append_assoc calls (call_of x) (calls_of xs))
    (enters_on worker terms (after_step terms s x) t (calls ++ call_of x) xs (step_enters worker terms s calls x follows.0 enters) follows.1)

first_enters : (calls : List PoolCall) (s : LineState) → StandsInCalls calls s → EntersFirst calls
first_enters [] s enters = tt
first_enters (call ∷ calls) s enters = enters.0

pub lines_enter_first : LineSessionsEnterFirst
lines_enter_first worker terms manner xs last follows =
    first_enters (calls_of xs) last (enters_on worker terms (new_line_state manner) last [] xs (refl, refl) follows)
