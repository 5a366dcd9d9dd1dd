-- What a session of lines calls, and in which order: an Enter, and where that is answered with a session, what a miner asks, up to a Leave.
use Rattle.std.proofs.Common.{◌≡◌, ℕ, ◌-◌, Bool, true, false, Option, None, Some, List, [], ◌∷◌, refl, ap, subst, sym, ◌∙◌, suc, zero}
use Rattle.std.proofs.Math.Dec.{eqb-suc-zero}
use Rattle.std.specs.List.{AllByRecursion}
use Rattle.std.specs.Prelude.{if◌then◌else◌, is_none, is_some}
use Rattle.pool_base.specs.Calls.{Faulted, Outcome, Replied}
use Rattle.pool_io.specs.declared.sink.SinkFailed.{SinkFailed}
use Rattle.pool_io.specs.declared.sink.SinkFailed.TheVariants as sink
use Rattle.pool_history.specs.declared.asking.Request.{Request}
use Rattle.pool_history.specs.declared.asking.Request.TheVariants as request
use Rattle.pool_history.specs.declared.events.Role.{Role}
use Rattle.pool_history.specs.declared.refusals.BookError.{BookError}
use Rattle.pool_history.specs.declared.replies.Reply.{Reply}
use Rattle.pool_history.specs.declared.replies.Reply.TheVariants as reply
use Rattle.pool_history.specs.Calls.{PoolCall}
use Rattle.pool_history.specs.Headers.{Briefing}
use Rattle.session_steps.specs.declared.about.About.{About}
use Rattle.session_steps.specs.declared.about.About.TheVariants as topic
use Rattle.session_steps.specs.declared.ends.SessionEnd.{SessionEnd}
use Rattle.session_steps.specs.declared.ends.SessionEnd.TheVariants as end
use Rattle.session_steps.specs.declared.manner.Manner.{Manner}
use Rattle.session_steps.specs.States.{State, Stage, Asking, Committing, Greeting, Leaving, Over, Polling, Reading, Refusing, Saying, Put, answered_stage, briefed_stage, end_stage, entered_after, failed_end, fault_end, hears, input_end, news_stage, next_stage, put_stage}
use Rattle.session_steps.specs.Steps.{Books, after_asking, after_booking, after_call, after_news, end_after}
use Rattle.v1_translate.specs.Lines.{line_reaction}
use Rattle.v1_translate.specs.State.{Terms}
use Rattle.v1_translate.specs.State as v1
use Rattle.v1_sessions.specs.Requests.{IsRequestFor, LineRequest}
use Rattle.v1_sessions.specs.States.{LineState, after_called, after_entering, asks_now, enters_now, new_line_state, sends, unless_failed, v1_told}
use Rattle.v1_sessions.specs.Steps.{Called, CanStep, Ended, Follows, Heard, Idled, LineStep, Missed, Overran, Requests, Spent, Starved, Took, after_step, calls_of}
use Rattle.pool_promises.specs.Presence.{StayInside, moves_session}

-- ---- the order

-- what a session that has entered asks for, with all that it calls then
abbrev pub AsksInside : Request → List PoolCall → Type 0
AsksInside (request.Open ask) later = Unit {0}
AsksInside (request.Name channel identity) later = Unit {0}
AsksInside (request.Update channel target) later = Unit {0}
AsksInside (request.Brief sub) later = Unit {0}
AsksInside (request.Commit checked) later = Unit {0}
AsksInside (request.Poll from) later = Unit {0}
AsksInside request.Leave later = later ≡ []
AsksInside _ later = ⊥

abbrev pub AskInside : List PoolCall → Type 0
AskInside [] = Unit {0}
AskInside (call ∷ later) = AsksInside call.asked later × AskInside later

-- behind an Enter, by how it was answered
abbrev pub BehindEnter : Outcome Reply BookError → List PoolCall → Type 0
BehindEnter (Faulted cause) later = later ≡ []
BehindEnter (Replied (reply.Entered session)) later = AskInside later
BehindEnter (Replied (reply.PoolFull most)) later = later ≡ []
BehindEnter (Replied _) later = Unit {0}

abbrev pub EnterAndAsk : Role → List PoolCall → Type 0
EnterAndAsk role [] = Unit {0}
EnterAndAsk role (enter ∷ later) = (enter.asked ≡ request.Enter role 0) × BehindEnter enter.outcome later

-- none but the last leaves
pub stay_inside : (calls : List PoolCall) → AskInside calls → StayInside calls
stay_inside [] asks = tt
stay_inside (call ∷ []) asks = tt
stay_inside (call ∷ next ∷ later) asks = (goes_on call.asked asks.0, stay_inside (next ∷ later) asks.1) where
  goes_on : (asked : Request) → AsksInside asked (next ∷ later) → moves_session asked ≡ false
  goes_on (request.Open ask) asks = refl
  goes_on (request.Name channel identity) asks = refl
  goes_on (request.Update channel target) asks = refl
  goes_on (request.Brief sub) asks = refl
  goes_on (request.Commit checked) asks = refl
  goes_on (request.Poll from) asks = refl
  goes_on request.Leave asks = cc
  goes_on _ asks = absurd asks

-- ---- stages

-- what a line asks
abbrev MayAsk : Request → Type 0
MayAsk (request.Open ask) = Unit {0}
MayAsk (request.Name channel identity) = Unit {0}
MayAsk (request.Update channel target) = Unit {0}
MayAsk (request.Brief sub) = Unit {0}
MayAsk _ = ⊥

asks_inside : (asked : Request) (later : List PoolCall) → MayAsk asked → AsksInside asked later
asks_inside (request.Open ask) later may = tt
asks_inside (request.Name channel identity) later may = tt
asks_inside (request.Update channel target) later may = tt
asks_inside (request.Brief sub) later may = tt
asks_inside _ later may = absurd may

abbrev MayAskIf : Option LineRequest → Type 0
MayAskIf None = Unit {0}
MayAskIf (Some wish) = MayAsk wish.request

wish_may : (channel : Option ℕ) (asks : v1.Asking) (wish : Option LineRequest) → IsRequestFor channel asks wish → MayAskIf wish
wish_may channel (v1.Open class) (Some wish) is = subst (λ (w : LineRequest). MayAsk w.request) (sym is.is) tt
wish_may channel (v1.Open class) None is = tt
wish_may channel (v1.Share share) (Some wish) is = subst (λ (w : LineRequest). MayAsk w.request) (sym is.is) tt
wish_may channel (v1.Share share) None is = tt
wish_may channel (v1.Update opened class) wish is = subst MayAskIf (sym is) tt
wish_may (Some channel) (v1.Name account) wish is = subst MayAskIf (sym is) tt
wish_may None (v1.Name account) wish is = subst MayAskIf (sym is) tt
wish_may channel v1.Silence wish is = subst MayAskIf (sym is) tt

-- the stages of a session that has entered and not left
abbrev StageInside : Stage → Type 0
StageInside Reading = Unit {0}
StageInside (Asking asked) = MayAsk asked
StageInside (Committing brief) = Unit {0}
StageInside Polling = Unit {0}
StageInside (Leaving reason) = Unit {0}
StageInside _ = ⊥

ended_inside : (entered : Bool) (reason : SessionEnd) → entered ≡ true → StageInside (end_stage entered reason)
ended_inside true reason is = tt
ended_inside false reason is = cc

next_inside : (entered : Bool) (idles : ℕ) → entered ≡ true → StageInside (next_stage entered idles)
next_inside entered zero is = ended_inside entered end.IdleOut is
next_inside entered (suc n) is =
    subst (λ b. StageInside (if b then end_stage entered end.IdleOut else Reading)) (sym (eqb-suc-zero n)) tt

news_inside : (entered : Bool) (idles : ℕ) → entered ≡ true → StageInside (news_stage entered idles)
news_inside true idles is = tt
news_inside false idles is = cc

put_inside : (failed : Option SinkFailed) (entered : Bool) (stage : Stage) → entered ≡ true → StageInside stage → StageInside (put_stage failed entered stage)
put_inside None entered stage is inside = inside
put_inside (Some sink.Failed) entered stage is inside = ended_inside entered end.WriteFault is
put_inside (Some sink.Memory) entered stage is inside = ended_inside entered end.Memory is

briefed_inside : (about : About) (brief : Briefing) (stage : Stage) → StageInside stage → StageInside (briefed_stage about brief stage)
briefed_inside (topic.Share sub) brief stage inside = tt
briefed_inside topic.Nothing brief stage inside = inside
briefed_inside (topic.Opening request_id kind) brief stage inside = inside
briefed_inside (topic.Channel channel) brief stage inside = inside
briefed_inside (topic.Token request_id) brief stage inside = inside
briefed_inside (topic.OwnJob channel request_id) brief stage inside = inside
briefed_inside (topic.Declared request_id) brief stage inside = inside

answered_inside : (about : About) (entered : Bool) (idles : ℕ) (answer : Reply) → entered ≡ true → StageInside (answered_stage about entered idles answer)
answered_inside about entered idles (reply.PoolFull most) is = ended_inside entered end.PoolFull is
answered_inside about entered idles (reply.Brief brief) is = briefed_inside about brief (news_stage entered idles) (news_inside entered idles is)
answered_inside about entered idles _ is = news_inside entered idles is

entered_more : (entered : Bool) (answer : Reply) → entered ≡ true → entered_after entered answer ≡ true
entered_more entered (reply.Entered session) is = refl
entered_more entered _ is = is

-- a session of frames that has entered
record HasEntered (s : State) : Type 0 where
  entered : s.entered ≡ true
  flags : is_none s.talk.flags ≡ false
  stage : StageInside s.stage

module _ (s : State) (put : Put) (entered : s.entered ≡ true) (flags : is_none s.talk.flags ≡ false) where
  asking_enters : (front : ℕ) (outcome : Outcome Reply BookError) → HasEntered (after_asking s front outcome put)
  asking_enters front (Faulted cause) = record { entered = entered; flags = flags; stage = ended_inside s.entered (fault_end cause) entered }
  asking_enters front (Replied answer) =
      let h = hears s front answer in
      let more : h.entered ≡ true = entered_more s.entered answer entered in
      record {
        entered = more;
        flags = flags;
        stage = put_inside put.fault h.entered (answered_stage h.talk.about h.entered h.idles answer) more (answered_inside h.talk.about h.entered h.idles answer more);
      }

  booking_enters : (outcome : Outcome Reply BookError) → HasEntered (after_booking s outcome put)
  booking_enters (Faulted cause) = record { entered = entered; flags = flags; stage = ended_inside s.entered (fault_end cause) entered }
  booking_enters (Replied answer) =
      record { entered = entered; flags = flags; stage = put_inside put.fault s.entered (news_stage s.entered s.idles) entered (news_inside s.entered s.idles entered) }

  news_enters : (outcome : Outcome Reply BookError) → HasEntered (after_news s outcome put)
  news_enters (Faulted cause) = record { entered = entered; flags = flags; stage = ended_inside s.entered (fault_end cause) entered }
  news_enters (Replied answer) =
      record { entered = entered; flags = flags; stage = put_inside put.fault s.entered (next_stage s.entered s.idles) entered (next_inside s.entered s.idles entered) }

-- ---- a session that is over calls nothing

not_reading : (stage : Stage) (reason : SessionEnd) → stage ≡ Over reason → stage ≡ Reading → ⊥
not_reading stage reason is reading = (let both : Over reason ≡ Reading = sym is ∙ reading in cc)

no_step : (worker : ℕ) (terms : Terms) (s : LineState) (reason : SessionEnd) → s.pool.stage ≡ Over reason → (x : LineStep) → CanStep worker terms s x → ⊥
no_step worker terms s reason is (Took bytes) can = not_reading s.pool.stage reason is can.can.waiting.reading
no_step worker terms s reason is (Heard line rest wish put) can = not_reading s.pool.stage reason is can.reading
no_step worker terms s reason is Overran can = not_reading s.pool.stage reason is can.reading
no_step worker terms s reason is Idled can = not_reading s.pool.stage reason is can.waiting.reading
no_step worker terms s reason is Ended can = not_reading s.pool.stage reason is can.waiting.reading
no_step worker terms s reason is Missed can = not_reading s.pool.stage reason is can.waiting.reading
no_step worker terms s reason is Starved can = not_reading s.pool.stage reason is can
no_step worker terms s reason is Spent can = not_reading s.pool.stage reason is can.0.reading
no_step worker terms s reason is (Called call put) can = subst (λ stage. Requests stage s call) is can.requests

no_calls : (worker : ℕ) (terms : Terms) (s t : LineState) (reason : SessionEnd) → s.pool.stage ≡ Over reason → (xs : List LineStep) → Follows worker terms s xs t → calls_of xs ≡ []
no_calls worker terms s t reason is [] follows = refl
no_calls worker terms s t reason is (x ∷ xs) follows = absurd (no_step worker terms s reason is x follows.0)

-- ---- a session that has entered

record StandsInside (s : LineState) : Type 0 where
  pool : HasEntered s.pool
  next : s.next ≡ None

some_flags : (flags : Option ℕ) → is_none flags ≡ false → is_some flags ≡ true
some_flags None is = cc
some_flags (Some flags) is = refl

-- what a line leads from
abbrev at_line : Terms → LineState → List ℕ → List ℕ → LineState
at_line terms s line rest = record s { pool = record s.pool { unmet = rest }; v1 = (line_reaction terms s.v1 line).after }

module _ (t : LineState) (entered : t.pool.entered ≡ true) (flags : is_none t.pool.talk.flags ≡ false) (none : t.next ≡ None) where
  asked_inside : (wish : LineRequest) (set_up : Bool) → set_up ≡ true → MayAsk wish.request
      → StandsInside (if set_up then record t { pool = asks_now wish t.pool } else record t { pool = enters_now t.pool; next = Some wish })
  asked_inside wish true is may = record { pool = record { entered = entered; flags = flags; stage = may }; next = none }
  asked_inside wish false is may = cc

  sent_inside : (channel : Option ℕ) (asks : v1.Asking) (wish : Option LineRequest) → IsRequestFor channel asks wish → t.pool.stage ≡ Reading → StandsInside (sends wish t)
  sent_inside channel asks None is reading =
      record { pool = record { entered = entered; flags = flags; stage = subst StageInside (sym reading) tt }; next = none }
  sent_inside channel asks (Some wish) is reading = asked_inside wish (is_some t.pool.talk.flags) (some_flags t.pool.talk.flags flags) (wish_may channel asks (Some wish) is)

  heard_inside : (failed : Option SinkFailed) (channel : Option ℕ) (asks : v1.Asking) (wish : Option LineRequest) → IsRequestFor channel asks wish → t.pool.stage ≡ Reading
      → StandsInside (unless_failed failed t (sends wish t))
  heard_inside None channel asks wish is reading = sent_inside channel asks wish is reading
  heard_inside (Some cause) channel asks wish is reading =
      record { pool = record { entered = entered; flags = flags; stage = ended_inside t.pool.entered (failed_end cause) entered }; next = none }

books_inside : (about : About) (brief : Briefing) (asked : Request) (later : List PoolCall) → Books about brief asked → AsksInside asked later
books_inside (topic.Share sub) brief (request.Commit checked) later books = tt
books_inside (topic.Share sub) brief _ later books = absurd books
books_inside topic.Nothing brief asked later books = absurd books
books_inside (topic.Opening request_id kind) brief asked later books = absurd books
books_inside (topic.Channel channel) brief asked later books = absurd books
books_inside (topic.Token request_id) brief asked later books = absurd books
books_inside (topic.OwnJob channel request_id) brief asked later books = absurd books
books_inside (topic.Declared request_id) brief asked later books = absurd books

module _ (worker : ℕ) (terms : Terms) (t : LineState) where
  -- a call, and what follows on it
  module _ (s : LineState) (call : PoolCall) (put : Put) (xs : List LineStep) (inside : StandsInside s)
      (rest : (u : LineState) → StandsInside u → Follows worker terms u xs t → AskInside (calls_of xs)) where
    abbrev after_at : Stage → LineState
    after_at stage = record s { pool = after_call stage s.pool call put; v1 = v1_told terms s call.outcome }

    called_at : (stage : Stage) → StageInside stage → Requests stage s call → Follows worker terms (after_at stage) xs t → AskInside (call ∷ calls_of xs)
    called_at (Asking asked) stands asks follows = (
      subst (λ a. AsksInside a (calls_of xs)) (sym asks) (asks_inside asked (calls_of xs) stands),
      rest (after_at (Asking asked))
          (record { pool = asking_enters s.pool put inside.pool.entered inside.pool.flags call.front call.outcome; next = inside.next }) follows,
    )
    called_at (Committing brief) stands asks follows = (
      books_inside s.pool.talk.about brief call.asked (calls_of xs) asks,
      rest (after_at (Committing brief))
          (record { pool = booking_enters s.pool put inside.pool.entered inside.pool.flags call.outcome; next = inside.next }) follows,
    )
    called_at Polling stands asks follows = (
      subst (λ a. AsksInside a (calls_of xs)) (sym asks) tt,
      rest (after_at Polling) (record { pool = news_enters s.pool put inside.pool.entered inside.pool.flags call.outcome; next = inside.next }) follows,
    )
    called_at (Leaving reason) stands asks follows =
        let none : calls_of xs ≡ [] = no_calls worker terms (after_at (Leaving reason)) t (end_after reason call.outcome) refl xs follows in
        (subst (λ a. AsksInside a (calls_of xs)) (sym asks) none, subst AskInside (sym none) tt)
    called_at Reading stands asks follows = absurd asks
    called_at Greeting stands asks follows = absurd stands
    called_at (Refusing code flags) stands asks follows = absurd stands
    called_at (Saying bytes) stands asks follows = absurd stands
    called_at (Over reason) stands asks follows = absurd stands

    called_inside : Requests s.pool.stage s call → Follows worker terms (after_called terms s.next s call put) xs t → AskInside (call ∷ calls_of xs)
    called_inside asks follows =
        called_at s.pool.stage inside.pool.stage asks (subst (λ n. Follows worker terms (after_called terms n s call put) xs t) inside.next follows)

  asks_on : (s : LineState) (xs : List LineStep) → StandsInside s → Follows worker terms s xs t → AskInside (calls_of xs)
  asks_on s [] inside follows = tt
  asks_on s (Called call put ∷ xs) inside follows =
      called_inside s call put xs inside (λ u stands follows. asks_on u xs stands follows) follows.0.requests follows.1
  asks_on s (Took bytes ∷ xs) inside follows =
      asks_on (after_step terms s (Took bytes)) xs
      (record { pool = record { entered = inside.pool.entered; flags = inside.pool.flags; stage = inside.pool.stage }; next = inside.next }) follows.1
  asks_on s (Heard line rest wish put ∷ xs) inside follows =
      asks_on (after_step terms s (Heard line rest wish put)) xs
      (heard_inside (at_line terms s line rest) inside.pool.entered inside.pool.flags inside.next put.fault (line_reaction terms s.v1 line).after.channel
      (line_reaction terms s.v1 line).asks wish follows.0.asks follows.0.reading) follows.1
  asks_on s (Overran ∷ xs) inside follows =
      asks_on (after_step terms s Overran) xs
      (record { pool = record { entered = inside.pool.entered; flags = inside.pool.flags; stage = ended_inside s.pool.entered end.LineTooLong inside.pool.entered }; next = inside.next }) follows.1
  asks_on s (Idled ∷ xs) inside follows =
      asks_on (after_step terms s Idled) xs
      (record { pool = record { entered = inside.pool.entered; flags = inside.pool.flags; stage = news_inside s.pool.entered (s.pool.idles - 1) inside.pool.entered }; next = inside.next })
      follows.1
  asks_on s (Ended ∷ xs) inside follows =
      asks_on (after_step terms s Ended) xs
      (record { pool = record { entered = inside.pool.entered; flags = inside.pool.flags; stage = ended_inside s.pool.entered (input_end s.pool.unmet) inside.pool.entered }; next = inside.next })
      follows.1
  asks_on s (Missed ∷ xs) inside follows =
      asks_on (after_step terms s Missed) xs
      (record { pool = record { entered = inside.pool.entered; flags = inside.pool.flags; stage = ended_inside s.pool.entered end.ReadFault inside.pool.entered }; next = inside.next }) follows.1
  asks_on s (Starved ∷ xs) inside follows =
      asks_on (after_step terms s Starved) xs
      (record { pool = record { entered = inside.pool.entered; flags = inside.pool.flags; stage = ended_inside s.pool.entered end.Memory inside.pool.entered }; next = inside.next }) follows.1
  asks_on s (Spent ∷ xs) inside follows =
      asks_on (after_step terms s Spent) xs
      (record { pool = record { entered = inside.pool.entered; flags = inside.pool.flags; stage = ended_inside s.pool.entered end.BytesOut inside.pool.entered }; next = inside.next }) follows.1

-- ---- a session that has not

-- it isn't set up, or it asks to enter while a request waits, or it is over
abbrev StageBefore : Role → Option ℕ → Option LineRequest → Stage → Type 0
StageBefore role flags None Reading = flags ≡ None
StageBefore role flags None (Over reason) = Unit {0}
StageBefore role flags (Some wish) (Asking asked) = (asked ≡ request.Enter role 0) × (is_none flags ≡ false) × MayAsk wish.request
StageBefore role flags next stage = ⊥

record StandsBefore (role : Role) (s : LineState) : Type 0 where
  out : s.pool.entered ≡ false
  role_is : s.pool.talk.role ≡ role
  stage : StageBefore role s.pool.talk.flags s.next s.pool.stage

reading_before : (role : Role) (flags : Option ℕ) (next : Option LineRequest) (stage : Stage) → stage ≡ Reading → StageBefore role flags next stage → (next ≡ None) × (flags ≡ None)
reading_before role flags None stage is before = (refl, subst (StageBefore role flags None) is before)
reading_before role flags (Some wish) stage is before = absurd (subst (StageBefore role flags (Some wish)) is before)

ended_over : (entered : Bool) (reason : SessionEnd) → entered ≡ false → end_stage entered reason ≡ Over reason
ended_over true reason is = cc
ended_over false reason is = refl

module _ (role : Role) (flags : Option ℕ) (next : Option LineRequest) (none : next ≡ None) where
  over_before : (entered : Bool) (reason : SessionEnd) → entered ≡ false → StageBefore role flags next (end_stage entered reason)
  over_before entered reason is =
      subst (λ n. StageBefore role flags n (end_stage entered reason)) (sym none) (subst (StageBefore role flags None) (sym (ended_over entered reason is)) tt)

  read_before : flags ≡ None → StageBefore role flags next Reading
  read_before is = subst (λ n. StageBefore role flags n Reading) (sym none) is

  idle_before : (entered : Bool) (idles : ℕ) → entered ≡ false → flags ≡ None → StageBefore role flags next (news_stage entered idles)
  idle_before true idles is unset = cc
  idle_before false zero is unset = over_before false end.IdleOut refl
  idle_before false (suc n) is unset =
      subst (λ b. StageBefore role flags next (if b then end_stage false end.IdleOut else Reading)) (sym (eqb-suc-zero n)) (read_before unset)

module _ (role : Role) (t : LineState) (out : t.pool.entered ≡ false) (role_is : t.pool.talk.role ≡ role) (unset : t.pool.talk.flags ≡ None) (none : t.next ≡ None) where
  entering_before : (wish : LineRequest) (set_up : Bool) → set_up ≡ false → MayAsk wish.request
      → StandsBefore role (if set_up then record t { pool = asks_now wish t.pool } else record t { pool = enters_now t.pool; next = Some wish })
  entering_before wish true is may = cc
  entering_before wish false is may = record { out = out; role_is = role_is; stage = (ap (λ r. request.Enter r 0) role_is, refl, may) }

  sent_before : (channel : Option ℕ) (asks : v1.Asking) (wish : Option LineRequest) → IsRequestFor channel asks wish → t.pool.stage ≡ Reading → StandsBefore role (sends wish t)
  sent_before channel asks None is reading =
      record { out = out; role_is = role_is; stage = subst (StageBefore role t.pool.talk.flags t.next) (sym reading) (read_before role t.pool.talk.flags t.next none unset) }
  sent_before channel asks (Some wish) is reading = entering_before wish (is_some t.pool.talk.flags) (ap is_some unset) (wish_may channel asks (Some wish) is)

  heard_before : (failed : Option SinkFailed) (channel : Option ℕ) (asks : v1.Asking) (wish : Option LineRequest) → IsRequestFor channel asks wish → t.pool.stage ≡ Reading
      → StandsBefore role (unless_failed failed t (sends wish t))
  heard_before None channel asks wish is reading = sent_before channel asks wish is reading
  heard_before (Some cause) channel asks wish is reading =
      record { out = out; role_is = role_is; stage = over_before role t.pool.talk.flags t.next none t.pool.entered (failed_end cause) out }

module _ (worker : ℕ) (terms : Terms) (t : LineState) (role : Role) where
  -- the Enter, and what follows on it
  entered_on : (s : LineState) (wish : LineRequest) (front : ℕ) (outcome : Outcome Reply BookError) (xs : List LineStep) → s.pool.entered ≡ false
      → is_none s.pool.talk.flags ≡ false → MayAsk wish.request → Follows worker terms (after_entering wish s front outcome) xs t → BehindEnter outcome (calls_of xs)
  entered_on s wish front (Faulted cause) xs out flags may follows =
      no_calls worker terms (after_entering wish s front (Faulted cause)) t (fault_end cause) (ended_over s.pool.entered (fault_end cause) out) xs follows
  entered_on s wish front (Replied (reply.Entered session)) xs out flags may follows =
      asks_on worker terms t (after_entering wish s front (Replied (reply.Entered session))) xs
      (record { pool = record { entered = refl; flags = flags; stage = may }; next = refl }) follows
  entered_on s wish front (Replied (reply.PoolFull most)) xs out flags may follows =
      no_calls worker terms (after_entering wish s front (Replied (reply.PoolFull most))) t end.PoolFull (ended_over s.pool.entered end.PoolFull out) xs follows
  entered_on s wish front (Replied _) xs out flags may follows = tt

  enter_on : (s : LineState) (call : PoolCall) (put : Put) (xs : List LineStep) (next : Option LineRequest) (stage : Stage) → s.pool.entered ≡ false
      → StageBefore role s.pool.talk.flags next stage → Requests stage s call → Follows worker terms (after_called terms next s call put) xs t
      → EnterAndAsk role (call ∷ calls_of xs)
  enter_on s call put xs (Some wish) (Asking asked) out before asks follows = (asks ∙ before.0, entered_on s wish call.front call.outcome xs out before.1 before.2 follows)
  enter_on s call put xs (Some wish) Greeting out before asks follows = absurd before
  enter_on s call put xs (Some wish) Reading out before asks follows = absurd before
  enter_on s call put xs (Some wish) (Refusing code flags) out before asks follows = absurd before
  enter_on s call put xs (Some wish) (Saying bytes) out before asks follows = absurd before
  enter_on s call put xs (Some wish) (Committing brief) out before asks follows = absurd before
  enter_on s call put xs (Some wish) Polling out before asks follows = absurd before
  enter_on s call put xs (Some wish) (Leaving reason) out before asks follows = absurd before
  enter_on s call put xs (Some wish) (Over reason) out before asks follows = absurd before
  enter_on s call put xs None Reading out before asks follows = absurd asks
  enter_on s call put xs None (Over reason) out before asks follows = absurd asks
  enter_on s call put xs None Greeting out before asks follows = absurd before
  enter_on s call put xs None (Refusing code flags) out before asks follows = absurd before
  enter_on s call put xs None (Saying bytes) out before asks follows = absurd before
  enter_on s call put xs None (Asking asked) out before asks follows = absurd before
  enter_on s call put xs None (Committing brief) out before asks follows = absurd before
  enter_on s call put xs None Polling out before asks follows = absurd before
  enter_on s call put xs None (Leaving reason) out before asks follows = absurd before

  -- a step that isn't a call ends the session, or goes on with it
  over_now : (s : LineState) (reason : SessionEnd) → StandsBefore role s → s.pool.stage ≡ Reading → StageBefore role s.pool.talk.flags s.next (end_stage s.pool.entered reason)
  over_now s reason before reading =
      over_before role s.pool.talk.flags s.next (reading_before role s.pool.talk.flags s.next s.pool.stage reading before.stage).0 s.pool.entered reason before.out

  enters_on : (s : LineState) (xs : List LineStep) → StandsBefore role s → Follows worker terms s xs t → EnterAndAsk role (calls_of xs)
  enters_on s [] before follows = tt
  enters_on s (Called call put ∷ xs) before follows = enter_on s call put xs s.next s.pool.stage before.out before.stage follows.0.requests follows.1
  enters_on s (Took bytes ∷ xs) before follows =
      enters_on (after_step terms s (Took bytes)) xs (record { out = before.out; role_is = before.role_is; stage = before.stage }) follows.1
  enters_on s (Heard line rest wish put ∷ xs) before follows =
      let at = reading_before role s.pool.talk.flags s.next s.pool.stage follows.0.reading before.stage in
      enters_on (after_step terms s (Heard line rest wish put)) xs
      (heard_before role (at_line terms s line rest) before.out before.role_is at.1 at.0 put.fault (line_reaction terms s.v1 line).after.channel
      (line_reaction terms s.v1 line).asks wish follows.0.asks follows.0.reading) follows.1
  enters_on s (Overran ∷ xs) before follows =
      enters_on (after_step terms s Overran) xs
      (record { out = before.out; role_is = before.role_is; stage = over_now s end.LineTooLong before follows.0.reading }) follows.1
  enters_on s (Idled ∷ xs) before follows =
      let at = reading_before role s.pool.talk.flags s.next s.pool.stage follows.0.waiting.reading before.stage in
      enters_on (after_step terms s Idled) xs
      (record { out = before.out; role_is = before.role_is; stage = idle_before role s.pool.talk.flags s.next at.0 s.pool.entered (s.pool.idles - 1) before.out at.1 }) follows.1
  enters_on s (Ended ∷ xs) before follows =
      enters_on (after_step terms s Ended) xs
      (record { out = before.out; role_is = before.role_is; stage = over_now s (input_end s.pool.unmet) before follows.0.waiting.reading }) follows.1
  enters_on s (Missed ∷ xs) before follows =
      enters_on (after_step terms s Missed) xs
      (record { out = before.out; role_is = before.role_is; stage = over_now s end.ReadFault before follows.0.waiting.reading }) follows.1
  enters_on s (Starved ∷ xs) before follows =
      enters_on (after_step terms s Starved) xs (record { out = before.out; role_is = before.role_is; stage = over_now s end.Memory before follows.0 }) follows.1
  enters_on s (Spent ∷ xs) before follows =
      enters_on (after_step terms s Spent) xs
      (record { out = before.out; role_is = before.role_is; stage = over_now s end.BytesOut before follows.0.0.reading }) follows.1

-- ---- from the first step on

pub lines_enter_and_ask : (worker : ℕ) (terms : Terms) (manner : Manner) (steps : List LineStep) (last : LineState) → Follows worker terms (new_line_state manner) steps last
    → EnterAndAsk manner.role (calls_of steps)
lines_enter_and_ask worker terms manner steps last follows =
    enters_on worker terms last manner.role (new_line_state manner) steps (record { out = refl; role_is = refl; stage = refl }) follows

-- all calls are of its worker
pub lines_of_worker : (worker : ℕ) (terms : Terms) (s t : LineState) (xs : List LineStep) → Follows worker terms s xs t
    → AllByRecursion (λ (c : PoolCall). c.worker ≡ worker) (calls_of xs)
lines_of_worker worker terms s t [] follows = tt
lines_of_worker worker terms s t (Called call put ∷ xs) follows = (follows.0.of_worker, lines_of_worker worker terms (after_step terms s (Called call put)) t xs follows.1)
lines_of_worker worker terms s t (Took bytes ∷ xs) follows = lines_of_worker worker terms (after_step terms s (Took bytes)) t xs follows.1
lines_of_worker worker terms s t (Heard line rest wish put ∷ xs) follows = lines_of_worker worker terms (after_step terms s (Heard line rest wish put)) t xs follows.1
lines_of_worker worker terms s t (Overran ∷ xs) follows = lines_of_worker worker terms (after_step terms s Overran) t xs follows.1
lines_of_worker worker terms s t (Idled ∷ xs) follows = lines_of_worker worker terms (after_step terms s Idled) t xs follows.1
lines_of_worker worker terms s t (Ended ∷ xs) follows = lines_of_worker worker terms (after_step terms s Ended) t xs follows.1
lines_of_worker worker terms s t (Missed ∷ xs) follows = lines_of_worker worker terms (after_step terms s Missed) t xs follows.1
lines_of_worker worker terms s t (Starved ∷ xs) follows = lines_of_worker worker terms (after_step terms s Starved) t xs follows.1
lines_of_worker worker terms s t (Spent ∷ xs) follows = lines_of_worker worker terms (after_step terms s Spent) t xs follows.1
