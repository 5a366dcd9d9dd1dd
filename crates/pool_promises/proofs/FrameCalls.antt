-- What a session of frames calls, and in which order: an Enter, and where that is answered with a session, what neither enters nor leaves, up to a Leave.
use Rattle.std.proofs.Common.{◌≡◌, ◌⊎◌, ℕ, ◌-◌, Bool, true, false, Option, None, Some, List, [], ◌∷◌, inl, inr, refl, ap, subst, sym, ◌∙◌, suc, zero}
use Rattle.std.proofs.Math.Dec.{eqb-suc-zero}
use Rattle.std.specs.Prelude.{if◌then◌else◌, is_none}
use Rattle.pool_base.specs.Calls.{Faulted, Outcome, Replied}
use Rattle.pool_io.specs.declared.sink.SinkFailed.{SinkFailed}
use Rattle.pool_io.specs.declared.sink.SinkFailed.TheVariants as sink
use Rattle.sv2_messages.specs.Messages.{Message}
use Rattle.pool_history.specs.declared.asking.Request.{Request}
use Rattle.pool_history.specs.declared.asking.Request.TheVariants as request
use Rattle.pool_history.specs.declared.events.Role.{Role}
use Rattle.pool_history.specs.declared.refusals.BookError.{BookError}
use Rattle.pool_history.specs.declared.replies.Reply.{Reply}
use Rattle.pool_history.specs.declared.replies.Reply.TheVariants as reply
use Rattle.pool_history.specs.Calls.{PoolCall}
use Rattle.pool_history.specs.Headers.{Briefing}
use Rattle.session_steps.specs.declared.about.About.{About}
use Rattle.session_steps.specs.declared.about.About.TheVariants as topic
use Rattle.session_steps.specs.declared.ends.SessionEnd.{SessionEnd}
use Rattle.session_steps.specs.declared.ends.SessionEnd.TheVariants as end
use Rattle.session_steps.specs.declared.manner.Manner.{Manner}
use Rattle.session_steps.specs.declared.meeting.SetupCode.{SetupCode}
use Rattle.session_steps.specs.declared.meeting.Step.{Step}
use Rattle.session_steps.specs.declared.meeting.Step.TheVariants as step
use Rattle.session_steps.specs.Asking.{Asks}
use Rattle.session_steps.specs.Meeting.{AsksNext, LeadsBy, Meets, SetsUp}
use Rattle.session_steps.specs.Setups.{Setup, Accepted, Refused, Unsuited, setup_in}
use Rattle.session_steps.specs.States.{State, Stage, Asking, Committing, Greeting, Leaving, Over, Polling, Reading, Refusing, Saying, Put, answered_stage, briefed_stage, end_stage, fault_end, hears, input_end, new_state, news_stage, next_stage, put_stage}
use Rattle.session_steps.specs.Steps as steps
use Rattle.session_steps.specs.Steps.{Books, CanCall, CanStarve, CanStep, Follows, Refuses, Says, SessionStep, after_asking, after_booking, after_call, after_news, after_step, calls_in, end_after, met_stage}
use Rattle.session_steps.specs.Talks.{Talk}
use Rattle.pool_promises.specs.Presence.{StayInside, moves_session}

-- ---- the order

-- none but the last enters or leaves
abbrev pub GoInside : List PoolCall → Type 0
GoInside [] = Unit {0}
GoInside (call ∷ later) = ((moves_session call.asked ≡ false) ⊎ (later ≡ [])) × GoInside later

pub go_inside : (calls : List PoolCall) → GoInside calls → StayInside calls
go_inside [] go = tt
go_inside (call ∷ []) go = tt
go_inside (call ∷ next ∷ later) go = (
  elim go.0 [
    | inl stays ↦ stays
    | inr none ↦ absurd cc
  ],
  go_inside (next ∷ later) go.1,
)

-- behind an Enter, by how it was answered
abbrev pub BehindFrameEnter : Outcome Reply BookError → List PoolCall → Type 0
BehindFrameEnter (Faulted cause) later = later ≡ []
BehindFrameEnter (Replied (reply.Entered session)) later = GoInside later
BehindFrameEnter (Replied (reply.PoolFull most)) later = later ≡ []
BehindFrameEnter (Replied _) later = Unit {0}

pub record IsFrameEnter (role : Role) (enter : PoolCall) (later : List PoolCall) : Type 0 where
  pub flags : ℕ
  pub asks : enter.asked ≡ request.Enter role flags
  pub behind : BehindFrameEnter enter.outcome later

abbrev pub EntersFirst : Role → List PoolCall → Type 0
EntersFirst role [] = Unit {0}
EntersFirst role (enter ∷ later) = IsFrameEnter role enter later

-- ---- stages of a session that has entered

abbrev StageInside : Stage → Type 0
StageInside Reading = Unit {0}
StageInside (Saying bytes) = Unit {0}
StageInside (Asking asked) = moves_session asked ≡ false
StageInside (Committing brief) = Unit {0}
StageInside Polling = Unit {0}
StageInside (Leaving reason) = Unit {0}
StageInside (Over reason) = Unit {0}
StageInside _ = ⊥

ended_inside : (entered : Bool) (reason : SessionEnd) → StageInside (end_stage entered reason)
ended_inside true reason = tt
ended_inside false reason = tt

next_inside : (entered : Bool) (idles : ℕ) → StageInside (next_stage entered idles)
next_inside entered zero = ended_inside entered end.IdleOut
next_inside entered (suc n) =
    subst (λ b. StageInside (if b then end_stage entered end.IdleOut else Reading)) (sym (eqb-suc-zero n)) tt

news_inside : (entered : Bool) (idles : ℕ) → StageInside (news_stage entered idles)
news_inside true idles = tt
news_inside false idles = next_inside false idles

put_inside : (failed : Option SinkFailed) (entered : Bool) (stage : Stage) → StageInside stage → StageInside (put_stage failed entered stage)
put_inside None entered stage inside = inside
put_inside (Some sink.Failed) entered stage inside = ended_inside entered end.WriteFault
put_inside (Some sink.Memory) entered stage inside = ended_inside entered end.Memory

briefed_inside : (about : About) (brief : Briefing) (stage : Stage) → StageInside stage → StageInside (briefed_stage about brief stage)
briefed_inside (topic.Share sub) brief stage inside = tt
briefed_inside topic.Nothing brief stage inside = inside
briefed_inside (topic.Opening request_id kind) brief stage inside = inside
briefed_inside (topic.Channel channel) brief stage inside = inside
briefed_inside (topic.Token request_id) brief stage inside = inside
briefed_inside (topic.OwnJob channel request_id) brief stage inside = inside
briefed_inside (topic.Declared request_id) brief stage inside = inside

answered_inside : (about : About) (entered : Bool) (idles : ℕ) (answer : Reply) → StageInside (answered_stage about entered idles answer)
answered_inside about entered idles (reply.PoolFull most) = ended_inside entered end.PoolFull
answered_inside about entered idles (reply.Brief brief) = briefed_inside about brief (news_stage entered idles) (news_inside entered idles)
answered_inside about entered idles _ = news_inside entered idles

-- it is set up, and stands at such a stage
record StandsInside (s : State) : Type 0 where
  flags : is_none s.talk.flags ≡ false
  stage : StageInside s.stage

-- ---- a session that is over calls nothing

not_reading : (stage : Stage) (reason : SessionEnd) → stage ≡ Over reason → stage ≡ Reading → ⊥
not_reading stage reason is reading = (let both : Over reason ≡ Reading = sym is ∙ reading in cc)

no_step : (worker : ℕ) (s : State) (reason : SessionEnd) → s.stage ≡ Over reason → (x : SessionStep) → CanStep worker s x → ⊥
no_step worker s reason is (steps.Greeted put) can = (let both : Over reason ≡ Greeting = sym is ∙ can.0 in cc)
no_step worker s reason is (steps.Took bytes) can = not_reading s.stage reason is can.can.waiting.reading
no_step worker s reason is (steps.Framed met) can = not_reading s.stage reason is can.reading
no_step worker s reason is (steps.Refused put) can = subst (λ stage. Refuses stage put) is can
no_step worker s reason is (steps.Said put) can = subst (λ stage. Says stage put) is can
no_step worker s reason is (steps.Overran len) can = not_reading s.stage reason is can.reading
no_step worker s reason is steps.Idled can = not_reading s.stage reason is can.waiting.reading
no_step worker s reason is steps.Ended can = not_reading s.stage reason is can.waiting.reading
no_step worker s reason is steps.Missed can = not_reading s.stage reason is can.waiting.reading
no_step worker s reason is steps.Starved can = subst CanStarve is can
no_step worker s reason is steps.Spent can = not_reading s.stage reason is can.0.reading
no_step worker s reason is (steps.Called call put) can = subst (λ stage. CanCall stage s call put) is can.1

pub over_ends : (worker : ℕ) (s t : State) (reason : SessionEnd) → s.stage ≡ Over reason → (xs : List SessionStep) → Follows worker s xs t → xs ≡ []
over_ends worker s t reason is [] follows = refl
over_ends worker s t reason is (x ∷ xs) follows = absurd (no_step worker s reason is x follows.0)

no_calls : (worker : ℕ) (s t : State) (reason : SessionEnd) → s.stage ≡ Over reason → (xs : List SessionStep) → Follows worker s xs t → calls_in xs ≡ []
no_calls worker s t reason is xs follows = ap calls_in (over_ends worker s t reason is xs follows)

-- ---- frames

-- what a frame of a session's work asks for neither enters nor leaves
asks_harmless : (message : Message) (asked : Request) (about : About) → Asks message asked about → moves_session asked ≡ false
asks_harmless message (request.Enter role flags) about asks = absurd asks
asks_harmless message request.Leave about asks = absurd asks
asks_harmless message _ about asks = refl

asks_next : (message : Message) (talk next : Talk) (asked : Request) → AsksNext message talk (step.Ask asked) next
    → (moves_session asked ≡ false) × (next.flags ≡ talk.flags)
asks_next message talk next asked asks =
    elim asks [
      | inl work ↦ (asks_harmless message asked work.0 work.1, ap (λ t. t.flags) work.2)
      | inr declared ↦ (ap moves_session declared.asked_is, ap (λ t. t.flags) declared.next_is)
    ]

module _ (talk next : Talk) (entered : Bool) where
  -- by the flags of the setup, which is over
  record MetInside (made : Step) : Type 0 where
    flags : next.flags ≡ talk.flags
    stage : StageInside (met_stage entered made)

  ask_inside : (flags : Option ℕ) (message : Message) (asked : Request) → is_none flags ≡ false → LeadsBy flags talk message (step.Ask asked) next
      → MetInside (step.Ask asked)
  ask_inside None message asked set leads = absurd cc
  ask_inside (Some flags) message asked set leads =
      let is = asks_next message talk next asked leads in record { flags = is.1; stage = is.0 }

  say_inside : (flags : Option ℕ) (message : Message) (bytes : List ℕ) → is_none flags ≡ false → LeadsBy flags talk message (step.Say bytes) next
      → MetInside (step.Say bytes)
  say_inside None message bytes set leads = absurd cc
  say_inside (Some flags) message bytes set leads = record { flags = ap (λ t. t.flags) leads.next_is; stage = tt }

  refuse_inside : (flags : Option ℕ) (message : Message) (code : SetupCode) (others : ℕ) → is_none flags ≡ false
      → LeadsBy flags talk message (step.RefuseSetup code others) next → MetInside (step.RefuseSetup code others)
  refuse_inside None message code others set leads = absurd cc
  refuse_inside (Some flags) message code others set leads = absurd leads

  bad_inside : (flags : Option ℕ) (message : Message) → is_none flags ≡ false → LeadsBy flags talk message step.BadSetup next → MetInside step.BadSetup
  bad_inside None message set leads = absurd cc
  bad_inside (Some flags) message set leads = absurd leads

met_inside : (s : State) (met : steps.Met) → is_none s.talk.flags ≡ false → (made : Step) → Meets s.talk met.frame made met.talk → MetInside s.talk met.talk s.entered made
met_inside s met set step.Ignore meets = record { flags = ap (λ t. t.flags) meets.1; stage = tt }
met_inside s met set (step.Ask asked) meets = ask_inside s.talk met.talk s.entered s.talk.flags meets.message asked set meets.leads
met_inside s met set (step.Say bytes) meets = say_inside s.talk met.talk s.entered s.talk.flags meets.message bytes set meets.leads
met_inside s met set (step.RefuseSetup code others) meets = refuse_inside s.talk met.talk s.entered s.talk.flags meets.message code others set meets.leads
met_inside s met set step.BadSetup meets = bad_inside s.talk met.talk s.entered s.talk.flags meets.message set meets.leads
met_inside s met set (step.BadMessage kind) meets = record { flags = ap (λ t. t.flags) meets.same; stage = ended_inside s.entered (end.BadMessage kind) }

-- ---- calls of a session that has entered

books_harmless : (about : About) (brief : Briefing) (asked : Request) → Books about brief asked → moves_session asked ≡ false
books_harmless (topic.Share sub) brief (request.Commit checked) books = refl
books_harmless (topic.Share sub) brief _ books = absurd books
books_harmless topic.Nothing brief asked books = absurd books
books_harmless (topic.Opening request_id kind) brief asked books = absurd books
books_harmless (topic.Channel channel) brief asked books = absurd books
books_harmless (topic.Token request_id) brief asked books = absurd books
books_harmless (topic.OwnJob channel request_id) brief asked books = absurd books
books_harmless (topic.Declared request_id) brief asked books = absurd books

module _ (s : State) (put : Put) (flags : is_none s.talk.flags ≡ false) where
  asking_inside : (front : ℕ) (outcome : Outcome Reply BookError) → StandsInside (after_asking s front outcome put)
  asking_inside front (Faulted cause) = record { flags = flags; stage = ended_inside s.entered (fault_end cause) }
  asking_inside front (Replied answer) =
      let h = hears s front answer in
      record {
        flags = flags;
        stage = put_inside put.fault h.entered (answered_stage h.talk.about h.entered h.idles answer) (answered_inside h.talk.about h.entered h.idles answer);
      }

  booking_inside : (outcome : Outcome Reply BookError) → StandsInside (after_booking s outcome put)
  booking_inside (Faulted cause) = record { flags = flags; stage = ended_inside s.entered (fault_end cause) }
  booking_inside (Replied answer) = record { flags = flags; stage = put_inside put.fault s.entered (news_stage s.entered s.idles) (news_inside s.entered s.idles) }

  told_inside : (outcome : Outcome Reply BookError) → StandsInside (after_news s outcome put)
  told_inside (Faulted cause) = record { flags = flags; stage = ended_inside s.entered (fault_end cause) }
  told_inside (Replied answer) = record { flags = flags; stage = put_inside put.fault s.entered (next_stage s.entered s.idles) (next_inside s.entered s.idles) }

module _ (worker : ℕ) (t : State) where
  module _ (s : State) (call : PoolCall) (put : Put) (xs : List SessionStep) (flags : is_none s.talk.flags ≡ false)
      (rest : (u : State) → StandsInside u → Follows worker u xs t → GoInside (calls_in xs)) where
    called_inside : (stage : Stage) → StageInside stage → CanCall stage s call put → Follows worker (after_call stage s call put) xs t → GoInside (call ∷ calls_in xs)
    called_inside (Asking asked) stands can follows =
        (inl (ap moves_session can.0 ∙ stands), rest (after_asking s call.front call.outcome put) (asking_inside s put flags call.front call.outcome) follows)
    called_inside (Committing brief) stands can follows =
        (inl (books_harmless s.talk.about brief call.asked can.0), rest (after_booking s call.outcome put) (booking_inside s put flags call.outcome) follows)
    called_inside Polling stands can follows =
        (inl (ap moves_session can.0), rest (after_news s call.outcome put) (told_inside s put flags call.outcome) follows)
    called_inside (Leaving reason) stands can follows =
        let none : calls_in xs ≡ [] = no_calls worker (after_call (Leaving reason) s call put) t (end_after reason call.outcome) refl xs follows in
        (inr none, subst GoInside (sym none) tt)
    called_inside Greeting stands can follows = absurd stands
    called_inside Reading stands can follows = absurd can
    called_inside (Refusing code others) stands can follows = absurd stands
    called_inside (Saying bytes) stands can follows = absurd can
    called_inside (Over reason) stands can follows = absurd can

  goes_on : (s : State) (xs : List SessionStep) → StandsInside s → Follows worker s xs t → GoInside (calls_in xs)
  goes_on s [] inside follows = tt
  goes_on s (steps.Called call put ∷ xs) inside follows =
      called_inside s call put xs inside.flags (λ u stands follows. goes_on u xs stands follows) s.stage inside.stage follows.0.1 follows.1
  goes_on s (steps.Framed met ∷ xs) inside follows =
      let is = met_inside s met inside.flags met.step follows.0.meets in
      goes_on (after_step s (steps.Framed met)) xs (record { flags = ap is_none is.flags ∙ inside.flags; stage = is.stage }) follows.1
  goes_on s (steps.Greeted put ∷ xs) inside follows =
      goes_on (after_step s (steps.Greeted put)) xs (record { flags = inside.flags; stage = put_inside put.fault s.entered Reading tt }) follows.1
  goes_on s (steps.Took bytes ∷ xs) inside follows = goes_on (after_step s (steps.Took bytes)) xs (record { flags = inside.flags; stage = inside.stage }) follows.1
  goes_on s (steps.Refused put ∷ xs) inside follows =
      goes_on (after_step s (steps.Refused put)) xs
      (record { flags = inside.flags; stage = put_inside put.fault s.entered (end_stage s.entered end.BadSetup) (ended_inside s.entered end.BadSetup) }) follows.1
  goes_on s (steps.Said put ∷ xs) inside follows =
      goes_on (after_step s (steps.Said put)) xs (record { flags = inside.flags; stage = put_inside put.fault s.entered Reading tt }) follows.1
  goes_on s (steps.Overran len ∷ xs) inside follows =
      goes_on (after_step s (steps.Overran len)) xs (record { flags = inside.flags; stage = ended_inside s.entered (end.TooLong len) }) follows.1
  goes_on s (steps.Idled ∷ xs) inside follows =
      goes_on (after_step s steps.Idled) xs (record { flags = inside.flags; stage = news_inside s.entered (s.idles - 1) }) follows.1
  goes_on s (steps.Ended ∷ xs) inside follows =
      goes_on (after_step s steps.Ended) xs (record { flags = inside.flags; stage = ended_inside s.entered (input_end s.unmet) }) follows.1
  goes_on s (steps.Missed ∷ xs) inside follows =
      goes_on (after_step s steps.Missed) xs (record { flags = inside.flags; stage = ended_inside s.entered end.ReadFault }) follows.1
  goes_on s (steps.Starved ∷ xs) inside follows =
      goes_on (after_step s steps.Starved) xs (record { flags = inside.flags; stage = ended_inside s.entered end.Memory }) follows.1
  goes_on s (steps.Spent ∷ xs) inside follows =
      goes_on (after_step s steps.Spent) xs (record { flags = inside.flags; stage = ended_inside s.entered end.BytesOut }) follows.1

-- ---- a session that has not

-- it isn't set up, or it asks to enter, or it is over
abbrev AsksEnter : Role → Request → Type 0
AsksEnter role (request.Enter entering flags) = entering ≡ role
AsksEnter role _ = ⊥

abbrev StageBefore : Role → Option ℕ → Stage → Type 0
StageBefore role flags Greeting = flags ≡ None
StageBefore role flags Reading = flags ≡ None
StageBefore role flags (Refusing code others) = Unit {0}
StageBefore role flags (Asking asked) = (is_none flags ≡ false) × AsksEnter role asked
StageBefore role flags (Over reason) = Unit {0}
StageBefore role flags _ = ⊥

record StandsBefore (role : Role) (s : State) : Type 0 where
  out : s.entered ≡ false
  role_is : s.talk.role ≡ role
  stage : StageBefore role s.talk.flags s.stage

ended_over : (entered : Bool) (reason : SessionEnd) → entered ≡ false → end_stage entered reason ≡ Over reason
ended_over true reason is = cc
ended_over false reason is = refl

module _ (role : Role) (flags : Option ℕ) where
  over_before : (entered : Bool) (reason : SessionEnd) → entered ≡ false → StageBefore role flags (end_stage entered reason)
  over_before entered reason is = subst (StageBefore role flags) (sym (ended_over entered reason is)) tt

  idle_before : (entered : Bool) (idles : ℕ) → entered ≡ false → flags ≡ None → StageBefore role flags (news_stage entered idles)
  idle_before true idles is unset = cc
  idle_before false zero is unset = tt
  idle_before false (suc n) is unset =
      subst (λ b. StageBefore role flags (if b then end_stage false end.IdleOut else Reading)) (sym (eqb-suc-zero n)) unset

  put_before : (failed : Option SinkFailed) (entered : Bool) (stage : Stage) → entered ≡ false → StageBefore role flags stage
      → StageBefore role flags (put_stage failed entered stage)
  put_before None entered stage is stands = stands
  put_before (Some sink.Failed) entered stage is stands = over_before entered end.WriteFault is
  put_before (Some sink.Memory) entered stage is stands = over_before entered end.Memory is

-- the first message of a session sets it up, or it doesn't
module _ (role : Role) (talk next : Talk) (own : talk.role ≡ role) (entered : Bool) (out : entered ≡ false) where
  record MetBefore (made : Step) : Type 0 where
    role_is : next.role ≡ role
    stage : StageBefore role next.flags (met_stage entered made)

  first_asks : (setup : Setup) (asked : Request) → SetsUp setup talk (step.Ask asked) next → MetBefore (step.Ask asked)
  first_asks (Accepted flags) asked sets =
      let made : step.Ask asked ≡ step.Ask (request.Enter talk.role flags) = sets.0 in
      let enters : asked ≡ request.Enter talk.role flags = cc in
      record {
        role_is = ap (λ t. t.role) sets.1 ∙ own;
        stage = (ap (λ t. is_none t.flags) sets.1, subst (AsksEnter role) (sym enters) own);
      }
  first_asks (Refused code flags) asked sets = let no : step.Ask asked ≡ step.RefuseSetup code flags = sets.0 in absurd cc
  first_asks Unsuited asked sets = let no : step.Ask asked ≡ step.BadSetup = sets.0 in absurd cc

  first_says : (setup : Setup) (bytes : List ℕ) → SetsUp setup talk (step.Say bytes) next → MetBefore (step.Say bytes)
  first_says (Accepted flags) bytes sets = let no : step.Say bytes ≡ step.Ask (request.Enter talk.role flags) = sets.0 in absurd cc
  first_says (Refused code flags) bytes sets = let no : step.Say bytes ≡ step.RefuseSetup code flags = sets.0 in absurd cc
  first_says Unsuited bytes sets = let no : step.Say bytes ≡ step.BadSetup = sets.0 in absurd cc

  first_role : (setup : Setup) (made : Step) → SetsUp setup talk made next → next.role ≡ role
  first_role (Accepted flags) made sets = ap (λ t. t.role) sets.1 ∙ own
  first_role (Refused code flags) made sets = ap (λ t. t.role) sets.1 ∙ own
  first_role Unsuited made sets = ap (λ t. t.role) sets.1 ∙ own

  leads_before : (flags : Option ℕ) (message : Message) (made : Step) → flags ≡ None → LeadsBy flags talk message made next → MetBefore made
  leads_before (Some flags) message made unset leads = absurd cc
  leads_before None message (step.Ask asked) unset leads = first_asks (setup_in talk.role talk.rolling message) asked leads
  leads_before None message (step.Say bytes) unset leads = first_says (setup_in talk.role talk.rolling message) bytes leads
  leads_before None message (step.RefuseSetup code others) unset leads =
      record { role_is = first_role (setup_in talk.role talk.rolling message) (step.RefuseSetup code others) leads; stage = tt }
  leads_before None message step.BadSetup unset leads =
      record { role_is = first_role (setup_in talk.role talk.rolling message) step.BadSetup leads; stage = over_before role next.flags entered end.BadSetup out }
  leads_before None message step.Ignore unset leads =
      record { role_is = first_role (setup_in talk.role talk.rolling message) step.Ignore leads; stage = ignored (setup_in talk.role talk.rolling message) leads } where
        ignored : (setup : Setup) → SetsUp setup talk step.Ignore next → next.flags ≡ None
        ignored (Accepted flags) sets = let no : step.Ignore ≡ step.Ask (request.Enter talk.role flags) = sets.0 in absurd cc
        ignored (Refused code flags) sets = let no : step.Ignore ≡ step.RefuseSetup code flags = sets.0 in absurd cc
        ignored Unsuited sets = let no : step.Ignore ≡ step.BadSetup = sets.0 in absurd cc
  leads_before None message (step.BadMessage kind) unset leads =
      record { role_is = first_role (setup_in talk.role talk.rolling message) (step.BadMessage kind) leads; stage = over_before role next.flags entered (end.BadMessage kind) out }

met_before : (role : Role) (s : State) (met : steps.Met) (own : s.talk.role ≡ role) (out : s.entered ≡ false) → s.talk.flags ≡ None → (made : Step)
    → Meets s.talk met.frame made met.talk → MetBefore role s.talk met.talk own s.entered out made
met_before role s met own out unset step.Ignore meets = record { role_is = ap (λ t. t.role) meets.1 ∙ own; stage = ap (λ t. t.flags) meets.1 ∙ unset }
met_before role s met own out unset (step.BadMessage kind) meets =
    record { role_is = ap (λ t. t.role) meets.same ∙ own; stage = over_before role met.talk.flags s.entered (end.BadMessage kind) out }
met_before role s met own out unset (step.Ask asked) meets = leads_before role s.talk met.talk own s.entered out s.talk.flags meets.message (step.Ask asked) unset meets.leads
met_before role s met own out unset (step.Say bytes) meets = leads_before role s.talk met.talk own s.entered out s.talk.flags meets.message (step.Say bytes) unset meets.leads
met_before role s met own out unset (step.RefuseSetup code others) meets =
    leads_before role s.talk met.talk own s.entered out s.talk.flags meets.message (step.RefuseSetup code others) unset meets.leads
met_before role s met own out unset step.BadSetup meets = leads_before role s.talk met.talk own s.entered out s.talk.flags meets.message step.BadSetup unset meets.leads

module _ (worker : ℕ) (t : State) (role : Role) where
  -- the Enter, and what follows on it
  entered_on : (s : State) (put : Put) (front : ℕ) (outcome : Outcome Reply BookError) (xs : List SessionStep) → s.entered ≡ false → is_none s.talk.flags ≡ false
      → Follows worker (after_asking s front outcome put) xs t → BehindFrameEnter outcome (calls_in xs)
  entered_on s put front (Faulted cause) xs out flags follows =
      no_calls worker (after_asking s front (Faulted cause) put) t (fault_end cause) (ended_over s.entered (fault_end cause) out) xs follows
  entered_on s put front (Replied (reply.Entered session)) xs out flags follows =
      goes_on worker t (after_asking s front (Replied (reply.Entered session)) put) xs (asking_inside s put flags front (Replied (reply.Entered session))) follows
  entered_on s put front (Replied (reply.PoolFull most)) xs out flags follows =
      full_ends put.fault follows where
        full_ends : (failed : Option SinkFailed)
            → Follows worker (after_asking s front (Replied (reply.PoolFull most)) (record put { fault = failed })) xs t → calls_in xs ≡ []
        full_ends None follows =
            no_calls worker (after_asking s front (Replied (reply.PoolFull most)) (record put { fault = None })) t end.PoolFull (ended_over s.entered end.PoolFull out) xs follows
        full_ends (Some sink.Failed) follows =
            no_calls worker (after_asking s front (Replied (reply.PoolFull most)) (record put { fault = Some sink.Failed })) t end.WriteFault
            (ended_over s.entered end.WriteFault out) xs follows
        full_ends (Some sink.Memory) follows =
            no_calls worker (after_asking s front (Replied (reply.PoolFull most)) (record put { fault = Some sink.Memory })) t end.Memory
            (ended_over s.entered end.Memory out) xs follows
  entered_on s put front (Replied _) xs out flags follows = tt

  enters_by : (asked : Request) → AsksEnter role asked → (call : PoolCall) (later : List PoolCall) → call.asked ≡ asked → BehindFrameEnter call.outcome later
      → IsFrameEnter role call later
  enters_by (request.Enter entering flags) asks call later is behind = record { flags = flags; asks = is ∙ ap (λ r. request.Enter r flags) asks; behind = behind }
  enters_by _ asks call later is behind = absurd asks

  enter_on : (s : State) (call : PoolCall) (put : Put) (xs : List SessionStep) (stage : Stage) → s.entered ≡ false → StageBefore role s.talk.flags stage
      → CanCall stage s call put → Follows worker (after_call stage s call put) xs t → IsFrameEnter role call (calls_in xs)
  enter_on s call put xs (Asking asked) out before can follows =
      enters_by asked before.1 call (calls_in xs) can.0 (entered_on s put call.front call.outcome xs out before.0 follows)
  enter_on s call put xs Greeting out before can follows = absurd can
  enter_on s call put xs Reading out before can follows = absurd can
  enter_on s call put xs (Refusing code others) out before can follows = absurd can
  enter_on s call put xs (Saying bytes) out before can follows = absurd can
  enter_on s call put xs (Committing brief) out before can follows = absurd before
  enter_on s call put xs Polling out before can follows = absurd before
  enter_on s call put xs (Leaving reason) out before can follows = absurd before
  enter_on s call put xs (Over reason) out before can follows = absurd can

  at_before : (s : State) (stage : Stage) → StandsBefore role s → s.stage ≡ stage → StageBefore role s.talk.flags stage
  at_before s stage before is = subst (StageBefore role s.talk.flags) is before.stage

  says_nothing : (flags : Option ℕ) (stage : Stage) (put : Put) → StageBefore role flags stage → Says stage put → ⊥
  says_nothing flags (Saying bytes) put before says = before
  says_nothing flags (Refusing code others) put before says = says
  says_nothing flags Greeting put before says = says
  says_nothing flags Reading put before says = says
  says_nothing flags (Asking asked) put before says = says
  says_nothing flags (Committing brief) put before says = says
  says_nothing flags Polling put before says = says
  says_nothing flags (Leaving reason) put before says = says
  says_nothing flags (Over reason) put before says = says

  enters_on : (s : State) (xs : List SessionStep) → StandsBefore role s → Follows worker s xs t → EntersFirst role (calls_in xs)
  enters_on s [] before follows = tt
  enters_on s (steps.Called call put ∷ xs) before follows = enter_on s call put xs s.stage before.out before.stage follows.0.1 follows.1
  enters_on s (steps.Framed met ∷ xs) before follows =
      let is = met_before role s met before.role_is before.out (at_before s Reading before follows.0.reading) met.step follows.0.meets in
      enters_on (after_step s (steps.Framed met)) xs (record { out = before.out; role_is = is.role_is; stage = is.stage }) follows.1
  enters_on s (steps.Greeted put ∷ xs) before follows =
      enters_on (after_step s (steps.Greeted put)) xs
      (record {
        out = before.out;
        role_is = before.role_is;
        stage = put_before role s.talk.flags put.fault s.entered Reading before.out (at_before s Greeting before follows.0.0);
      }) follows.1
  enters_on s (steps.Took bytes ∷ xs) before follows =
      enters_on (after_step s (steps.Took bytes)) xs (record { out = before.out; role_is = before.role_is; stage = before.stage }) follows.1
  enters_on s (steps.Refused put ∷ xs) before follows =
      enters_on (after_step s (steps.Refused put)) xs
      (record {
        out = before.out;
        role_is = before.role_is;
        stage =
            put_before role s.talk.flags put.fault s.entered (end_stage s.entered end.BadSetup) before.out
            (over_before role s.talk.flags s.entered end.BadSetup before.out);
      }) follows.1
  enters_on s (steps.Said put ∷ xs) before follows = absurd (says_nothing s.talk.flags s.stage put before.stage follows.0)
  enters_on s (steps.Overran len ∷ xs) before follows =
      enters_on (after_step s (steps.Overran len)) xs
      (record { out = before.out; role_is = before.role_is; stage = over_before role s.talk.flags s.entered (end.TooLong len) before.out }) follows.1
  enters_on s (steps.Idled ∷ xs) before follows =
      enters_on (after_step s steps.Idled) xs
      (record {
        out = before.out;
        role_is = before.role_is;
        stage = idle_before role s.talk.flags s.entered (s.idles - 1) before.out (at_before s Reading before follows.0.waiting.reading);
      }) follows.1
  enters_on s (steps.Ended ∷ xs) before follows =
      enters_on (after_step s steps.Ended) xs
      (record { out = before.out; role_is = before.role_is; stage = over_before role s.talk.flags s.entered (input_end s.unmet) before.out }) follows.1
  enters_on s (steps.Missed ∷ xs) before follows =
      enters_on (after_step s steps.Missed) xs
      (record { out = before.out; role_is = before.role_is; stage = over_before role s.talk.flags s.entered end.ReadFault before.out }) follows.1
  enters_on s (steps.Starved ∷ xs) before follows =
      enters_on (after_step s steps.Starved) xs
      (record { out = before.out; role_is = before.role_is; stage = over_before role s.talk.flags s.entered end.Memory before.out }) follows.1
  enters_on s (steps.Spent ∷ xs) before follows =
      enters_on (after_step s steps.Spent) xs
      (record { out = before.out; role_is = before.role_is; stage = over_before role s.talk.flags s.entered end.BytesOut before.out }) follows.1

-- a session of frames enters first, and then stays inside
pub frames_enter_first : (worker : ℕ) (manner : Manner) (xs : List SessionStep) (last : State) → Follows worker (new_state manner) xs last
    → EntersFirst manner.role (calls_in xs)
frames_enter_first worker manner xs last follows =
    enters_on worker last manner.role (new_state manner) xs (record { out = refl; role_is = refl; stage = refl }) follows
