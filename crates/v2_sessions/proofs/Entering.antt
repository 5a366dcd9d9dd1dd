-- A session asks to enter first, and never again.
use Rattle.std.proofs.Common.{◌≡◌, ℕ, ◌-◌, Bool, true, false, List, [], ◌∷◌, ◌++◌, Option, None, Some, inl, inr, refl, sym, ap, subst, ◌∙◌, append_assoc, append-nil, suc, zero}
use Rattle.std.proofs.Math.Dec.{eqb-suc-zero}
use Rattle.std.specs.List.{AllByRecursion}
use Rattle.std.specs.Prelude.{if◌then◌else◌, is_none}
use Rattle.pool_base.specs.Calls.{Outcome, Replied, Faulted}
use Rattle.pool_io.specs.declared.sink.SinkFailed.{SinkFailed}
use Rattle.pool_io.specs.declared.sink.SinkFailed.TheVariants as sink
use Rattle.sv2_messages.specs.Messages.{Message}
use Rattle.pool_history.specs.declared.asking.Request.{Request}
use Rattle.pool_history.specs.declared.asking.Request.TheVariants as request
use Rattle.pool_history.specs.declared.refusals.BookError.{BookError}
use Rattle.pool_history.specs.declared.replies.Reply.{Reply}
use Rattle.pool_history.specs.declared.replies.Reply.TheVariants as reply
use Rattle.pool_history.specs.Calls.{PoolCall}
use Rattle.pool_history.specs.Headers.{Briefing}
use Rattle.sv2_frames.specs.Framing.{FrameValue}
use Rattle.session_steps.specs.declared.about.About.{About}
use Rattle.session_steps.specs.declared.about.About.TheVariants as topic
use Rattle.session_steps.specs.declared.ends.SessionEnd.{SessionEnd}
use Rattle.session_steps.specs.declared.ends.SessionEnd.TheVariants as end
use Rattle.session_steps.specs.declared.meeting.Step.{Step}
use Rattle.session_steps.specs.declared.meeting.Step.TheVariants as step
use Rattle.session_steps.specs.Asking.{Asks}
use Rattle.session_steps.specs.Meeting.{AsksNext, LeadsBy, Meets, SetsUp}
use Rattle.session_steps.specs.Setups.{Setup, Accepted, Refused, Unsuited, setup_in}
use Rattle.session_steps.specs.States.{State, Stage, Asking, Committing, Greeting, Leaving, Over, Polling, Reading, Refusing, Saying, Put, answered_stage, briefed_stage, end_stage, fault_end, hears, input_end, new_state, news_stage, next_stage, put_stage}
use Rattle.session_steps.specs.Steps as steps
use Rattle.session_steps.specs.Steps.{Books, CanCall, CanStep, Follows, Says, SessionStep, after_asking, after_booking, after_call, after_news, after_step, call_in, calls_in, met_stage}
use Rattle.session_steps.specs.Talks.{Talk}
use Rattle.v2_sessions.specs.Ends.{EntersFirst, is_enter}
use Rattle.v2_sessions.specs.Laws.{EntersComeFirst}

-- before the first call: the setup isn't done, or what it asks for is to be asked
abbrev StageBefore : Option ℕ → Stage → Type 0
StageBefore flags Greeting = flags ≡ None
StageBefore flags Reading = flags ≡ None
StageBefore flags (Refusing code refused) = Unit {0}
StageBefore flags (Saying bytes) = ⊥
StageBefore flags (Asking asked) = (is_enter asked ≡ true) × (is_none flags ≡ false)
StageBefore flags (Committing brief) = ⊥
StageBefore flags Polling = ⊥
StageBefore flags (Leaving reason) = ⊥
StageBefore flags (Over reason) = Unit {0}

-- behind it: nothing asks to enter
abbrev pub StageBehind : Stage → Type 0
StageBehind (Asking asked) = is_enter asked ≡ false
StageBehind _ = Unit {0}

-- where a session stands in its calls
abbrev StandsInCalls : List PoolCall → State → Type 0
StandsInCalls [] s = (s.entered ≡ false) × StageBefore s.talk.flags s.stage
StandsInCalls (call ∷ calls) s = EntersFirst (call ∷ calls) × (is_none s.talk.flags ≡ false) × StageBehind s.stage

-- before the first call
module _ (flags : Option ℕ) where
  ended_before : (entered : Bool) (reason : SessionEnd) → entered ≡ false → StageBefore flags (end_stage entered reason)
  ended_before true reason is = cc
  ended_before false reason is = tt

  put_before : (failed : Option SinkFailed) (entered : Bool) (stage : Stage) → entered ≡ false → StageBefore flags stage → StageBefore flags (put_stage failed entered stage)
  put_before None entered stage is before = before
  put_before (Some sink.Failed) entered stage is before = ended_before entered end.WriteFault is
  put_before (Some sink.Memory) entered stage is before = ended_before entered end.Memory is

  news_before : (entered : Bool) (idles : ℕ) → entered ≡ false → flags ≡ None → StageBefore flags (news_stage entered idles)
  news_before true idles is none = cc
  news_before false zero is none = tt
  news_before false (suc n) is none =
      subst (λ b. StageBefore flags (if b then end_stage false end.IdleOut else Reading)) (sym (eqb-suc-zero n)) none

-- and behind it
pub ended_behind : (entered : Bool) (reason : SessionEnd) → StageBehind (end_stage entered reason)
ended_behind true reason = tt
ended_behind false reason = tt

pub put_behind : (failed : Option SinkFailed) (entered : Bool) (stage : Stage) → StageBehind stage → StageBehind (put_stage failed entered stage)
put_behind None entered stage behind = behind
put_behind (Some sink.Failed) entered stage behind = ended_behind entered end.WriteFault
put_behind (Some sink.Memory) entered stage behind = ended_behind entered end.Memory

next_behind : (entered : Bool) (idles : ℕ) → StageBehind (next_stage entered idles)
next_behind entered zero = ended_behind entered end.IdleOut
next_behind entered (suc n) =
    subst (λ b. StageBehind (if b then end_stage entered end.IdleOut else Reading)) (sym (eqb-suc-zero n)) tt

pub news_behind : (entered : Bool) (idles : ℕ) → StageBehind (news_stage entered idles)
news_behind true idles = tt
news_behind false idles = next_behind false idles

briefed_behind : (about : About) (brief : Briefing) (stage : Stage) → StageBehind stage → StageBehind (briefed_stage about brief stage)
briefed_behind (topic.Share sub) brief stage behind = tt
briefed_behind topic.Nothing brief stage behind = behind
briefed_behind (topic.Opening request_id kind) brief stage behind = behind
briefed_behind (topic.Channel channel) brief stage behind = behind
briefed_behind (topic.Token request_id) brief stage behind = behind
briefed_behind (topic.OwnJob channel request_id) brief stage behind = behind
briefed_behind (topic.Declared request_id) brief stage behind = behind

answered_behind : (about : About) (entered : Bool) (idles : ℕ) (answer : Reply) → StageBehind (answered_stage about entered idles answer)
answered_behind about entered idles (reply.PoolFull most) = ended_behind entered end.PoolFull
answered_behind about entered idles (reply.Brief brief) = briefed_behind about brief (news_stage entered idles) (news_behind entered idles)
answered_behind about entered idles _ = news_behind entered idles

-- what a call leaves
pub record StaysBehind (old new : State) : Type 0 where
  pub flags : new.talk.flags ≡ old.talk.flags
  pub stage : StageBehind new.stage

pub asking_behind : (s : State) (front : ℕ) (outcome : Outcome Reply BookError) (put : Put) → StaysBehind s (after_asking s front outcome put)
asking_behind s front (Faulted cause) put = record { flags = refl; stage = ended_behind s.entered (fault_end cause) }
asking_behind s front (Replied answer) put =
    let h = hears s front answer in
    record {
      flags = refl;
      stage = put_behind put.fault h.entered (answered_stage h.talk.about h.entered h.idles answer) (answered_behind h.talk.about h.entered h.idles answer);
    }

pub booking_behind : (s : State) (outcome : Outcome Reply BookError) (put : Put) → StaysBehind s (after_booking s outcome put)
booking_behind s (Faulted cause) put = record { flags = refl; stage = ended_behind s.entered (fault_end cause) }
booking_behind s (Replied answer) put =
    record { flags = refl; stage = put_behind put.fault s.entered (news_stage s.entered s.idles) (news_behind s.entered s.idles) }

pub told_behind : (s : State) (outcome : Outcome Reply BookError) (put : Put) → StaysBehind s (after_news s outcome put)
told_behind s (Faulted cause) put = record { flags = refl; stage = ended_behind s.entered (fault_end cause) }
told_behind s (Replied answer) put =
    record { flags = refl; stage = put_behind put.fault s.entered (next_stage s.entered s.idles) (next_behind s.entered s.idles) }

call_behind : (stage : Stage) (s : State) (call : PoolCall) (put : Put) → CanCall stage s call put → StaysBehind s (after_call stage s call put)
call_behind (Asking asked) s call put can = asking_behind s call.front call.outcome put
call_behind (Committing brief) s call put can = booking_behind s call.outcome put
call_behind Polling s call put can = told_behind s call.outcome put
call_behind (Leaving reason) s call put can = record { flags = refl; stage = tt }
call_behind Greeting s call put can = absurd can
call_behind Reading s call put can = absurd can
call_behind (Refusing code flags) s call put can = absurd can
call_behind (Saying bytes) s call put can = absurd can
call_behind (Over reason) s call put can = absurd can

-- what a stage asks, before the first call and behind it
asks_first : (flags : Option ℕ) (stage : Stage) (s : State) (call : PoolCall) (put : Put) → CanCall stage s call put → StageBefore flags stage
    → (is_enter call.asked ≡ true) × (is_none flags ≡ false)
asks_first flags (Asking asked) s call put can before = (ap is_enter can.0 ∙ before.0, before.1)
asks_first flags (Committing brief) s call put can before = absurd before
asks_first flags Polling s call put can before = absurd before
asks_first flags (Leaving reason) s call put can before = absurd before
asks_first flags Greeting s call put can before = absurd can
asks_first flags Reading s call put can before = absurd can
asks_first flags (Refusing code refused) s call put can before = absurd can
asks_first flags (Saying bytes) s call put can before = absurd can
asks_first flags (Over reason) s call put can before = absurd can

pub books_none : (about : About) (brief : Briefing) (asked : Request) → Books about brief asked → is_enter asked ≡ false
books_none (topic.Share sub) brief (request.Enter role flags) books = absurd books
books_none (topic.Share sub) brief (request.Commit checked) books = refl
books_none (topic.Share sub) brief _ books = refl
books_none topic.Nothing brief asked books = absurd books
books_none (topic.Opening request_id kind) brief asked books = absurd books
books_none (topic.Channel channel) brief asked books = absurd books
books_none (topic.Token request_id) brief asked books = absurd books
books_none (topic.OwnJob channel request_id) brief asked books = absurd books
books_none (topic.Declared request_id) brief asked books = absurd books

asks_later : (stage : Stage) (s : State) (call : PoolCall) (put : Put) → CanCall stage s call put → StageBehind stage → is_enter call.asked ≡ false
asks_later (Asking asked) s call put can behind = ap is_enter can.0 ∙ behind
asks_later (Committing brief) s call put can behind = books_none s.talk.about brief call.asked can.0
asks_later Polling s call put can behind = ap is_enter can.0
asks_later (Leaving reason) s call put can behind = ap is_enter can.0
asks_later Greeting s call put can behind = absurd can
asks_later Reading s call put can behind = absurd can
asks_later (Refusing code flags) s call put can behind = absurd can
asks_later (Saying bytes) s call put can behind = absurd can
asks_later (Over reason) s call put can behind = absurd can

-- what a frame asks for
asks_none : (message : Message) (asked : Request) (about : About) → Asks message asked about → is_enter asked ≡ false
asks_none message (request.Enter role flags) about asks = absurd asks
asks_none message _ about asks = refl

-- the first message sets up, or it asks for nothing
sets_up : (setup : Setup) (talk next : Talk) (asked : Request) → SetsUp setup talk (step.Ask asked) next → (is_enter asked ≡ true) × (is_none next.flags ≡ false)
sets_up (Accepted flags) talk next asked sets =
    let same : step.Ask asked ≡ step.Ask (request.Enter talk.role flags) = sets.0 in
    let is : asked ≡ request.Enter talk.role flags = cc in
    (ap is_enter is, ap (λ t. is_none t.flags) sets.1)
sets_up (Refused code flags) talk next asked sets = (let no = sets.0 in cc)
sets_up Unsuited talk next asked sets = (let no = sets.0 in cc)

says_nothing : (setup : Setup) (talk next : Talk) (bytes : List ℕ) → SetsUp setup talk (step.Say bytes) next → ⊥
says_nothing (Accepted flags) talk next bytes sets = (let no = sets.0 in cc)
says_nothing (Refused code flags) talk next bytes sets = (let no = sets.0 in cc)
says_nothing Unsuited talk next bytes sets = (let no = sets.0 in cc)

leads_none : (flags : Option ℕ) (talk next : Talk) (message : Message) (made : Step) → flags ≡ None → LeadsBy flags talk message made next
    → SetsUp (setup_in talk.role talk.rolling message) talk made next
leads_none None talk next message made is leads = leads
leads_none (Some flags) talk next message made is leads = cc

met_before : (talk next : Talk) (frame : FrameValue) (made : Step) (entered : Bool) → entered ≡ false → talk.flags ≡ None → Meets talk frame made next
    → StageBefore next.flags (met_stage entered made)
met_before talk next frame step.Ignore entered is none meets = ap (λ t. t.flags) meets.1 ∙ none
met_before talk next frame (step.Ask asked) entered is none meets =
    sets_up (setup_in talk.role talk.rolling meets.message) talk next asked (leads_none talk.flags talk next meets.message (step.Ask asked) none meets.leads)
met_before talk next frame (step.Say bytes) entered is none meets =
    says_nothing (setup_in talk.role talk.rolling meets.message) talk next bytes (leads_none talk.flags talk next meets.message (step.Say bytes) none meets.leads)
met_before talk next frame (step.RefuseSetup code flags) entered is none meets = tt
met_before talk next frame step.BadSetup entered is none meets = ended_before next.flags entered end.BadSetup is
met_before talk next frame (step.BadMessage kind) entered is none meets = ended_before next.flags entered (end.BadMessage kind) is

record IsBehind (next : Talk) (reached : Stage) : Type 0 where
  flags : is_none next.flags ≡ false
  stage : StageBehind reached

some_flags : (said : Option ℕ) (flags : ℕ) → said ≡ Some flags → is_none said ≡ false
some_flags said flags is = rw is refl

met_behind : (flags : Option ℕ) (talk next : Talk) (frame : FrameValue) (made : Step) (entered : Bool) → talk.flags ≡ flags → is_none flags ≡ false → Meets talk frame made next
    → IsBehind next (met_stage entered made)
met_behind None talk next frame made entered is some meets = cc
met_behind (Some flags) talk next frame step.Ignore entered is some meets = record { flags = some_flags next.flags flags (ap (λ t. t.flags) meets.1 ∙ is); stage = tt }
met_behind (Some flags) talk next frame (step.Ask asked) entered is some meets =
    let leads : AsksNext meets.message talk (step.Ask asked) next = subst (λ f. LeadsBy f talk meets.message (step.Ask asked) next) is meets.leads in
    elim leads [
      | inl work ↦ record { flags = some_flags next.flags flags (ap (λ t. t.flags) work.2 ∙ is); stage = asks_none meets.message asked work.0 work.1 }
      | inr declared ↦ record { flags = some_flags next.flags flags (ap (λ t. t.flags) declared.next_is ∙ is); stage = ap is_enter declared.asked_is }
    ]
met_behind (Some flags) talk next frame (step.Say bytes) entered is some meets =
    let says : AsksNext meets.message talk (step.Say bytes) next = subst (λ f. LeadsBy f talk meets.message (step.Say bytes) next) is meets.leads in
    record { flags = some_flags next.flags flags (ap (λ t. t.flags) says.next_is ∙ is); stage = tt }
met_behind (Some flags) talk next frame (step.RefuseSetup code more) entered is some meets = absurd (rw is at meets.leads)
met_behind (Some flags) talk next frame step.BadSetup entered is some meets = absurd (rw is at meets.leads)
met_behind (Some flags) talk next frame (step.BadMessage kind) entered is some meets =
    record { flags = some_flags next.flags flags (ap (λ t. t.flags) meets.same ∙ is); stage = ended_behind entered (end.BadMessage kind) }

pub all_more : (calls : List PoolCall) (call : PoolCall) → AllByRecursion (λ later. is_enter later.asked ≡ false) calls → is_enter call.asked ≡ false
    → AllByRecursion (λ later. is_enter later.asked ≡ false) (calls ++ call ∷ [])
all_more [] call all one = (one, tt)
all_more (c ∷ calls) call all one = (all.0, all_more calls call all.1 one)

-- nothing is said before the first call
said_before : (flags : Option ℕ) (stage : Stage) (put : Put) → Says stage put → StageBefore flags stage → ⊥
said_before flags (Saying bytes) put says before = before
said_before flags (Refusing code more) put says before = says
said_before flags Greeting put says before = says
said_before flags Reading put says before = says
said_before flags (Asking asked) put says before = says
said_before flags (Committing brief) put says before = says
said_before flags Polling put says before = says
said_before flags (Leaving reason) put says before = says
said_before flags (Over reason) put says before = says

module _ (worker : ℕ) (s : State) where
  -- a stage that reads or greets
  before_at : (stage : Stage) → s.stage ≡ stage → StageBefore s.talk.flags s.stage → StageBefore s.talk.flags stage
  before_at stage is before = subst (StageBefore s.talk.flags) is before

  step_before : (x : SessionStep) → CanStep worker s x → StandsInCalls [] s → StandsInCalls (call_in x) (after_step s x)
  step_before (steps.Greeted put) can (out, before) =
      (out, put_before s.talk.flags put.fault s.entered Reading out (before_at Greeting can.0 before))
  step_before (steps.Took bytes) can (out, before) = (out, before)
  step_before (steps.Framed met) can (out, before) =
      (out, met_before s.talk met.talk met.frame met.step s.entered out (before_at Reading can.reading before) can.meets)
  step_before (steps.Refused put) can (out, before) =
      (out, put_before s.talk.flags put.fault s.entered (end_stage s.entered end.BadSetup) out (ended_before s.talk.flags s.entered end.BadSetup out))
  step_before (steps.Said put) can (out, before) = absurd (said_before s.talk.flags s.stage put can before)
  step_before (steps.Overran len) can (out, before) = (out, ended_before s.talk.flags s.entered (end.TooLong len) out)
  step_before steps.Idled can (out, before) =
      (out, news_before s.talk.flags s.entered (s.idles - 1) out (before_at Reading can.waiting.reading before))
  step_before steps.Ended can (out, before) = (out, ended_before s.talk.flags s.entered (input_end s.unmet) out)
  step_before steps.Missed can (out, before) = (out, ended_before s.talk.flags s.entered end.ReadFault out)
  step_before steps.Starved can (out, before) = (out, ended_before s.talk.flags s.entered end.Memory out)
  step_before steps.Spent can (out, before) = (out, ended_before s.talk.flags s.entered end.BytesOut out)
  step_before (steps.Called call put) can (out, before) =
      let asks = asks_first s.talk.flags s.stage s call put can.1 before in
      let stays = call_behind s.stage s call put can.1 in
      ((asks.0, tt), ap is_none stays.flags ∙ asks.1, stays.stage)

  step_behind : (c : PoolCall) (cs : List PoolCall) (x : SessionStep) → CanStep worker s x → StandsInCalls (c ∷ cs) s → StandsInCalls ((c ∷ cs) ++ call_in x) (after_step s x)
  step_behind c cs (steps.Called call put) can (first, flags, behind) =
      let stays = call_behind s.stage s call put can.1 in
      ((first.0, all_more cs call first.1 (asks_later s.stage s call put can.1 behind)), ap is_none stays.flags ∙ flags, stays.stage)
  step_behind c cs (steps.Greeted put) can (first, flags, behind) = rw (append-nil cs) (first, flags, put_behind put.fault s.entered Reading tt)
  step_behind c cs (steps.Took bytes) can (first, flags, behind) = rw (append-nil cs) (first, flags, behind)
  step_behind c cs (steps.Framed met) can (first, flags, behind) =
      let next = met_behind s.talk.flags s.talk met.talk met.frame met.step s.entered refl flags can.meets in
      rw (append-nil cs) (first, next.flags, next.stage)
  step_behind c cs (steps.Refused put) can (first, flags, behind) =
      rw (append-nil cs) (first, flags, put_behind put.fault s.entered (end_stage s.entered end.BadSetup) (ended_behind s.entered end.BadSetup))
  step_behind c cs (steps.Said put) can (first, flags, behind) = rw (append-nil cs) (first, flags, put_behind put.fault s.entered Reading tt)
  step_behind c cs (steps.Overran len) can (first, flags, behind) = rw (append-nil cs) (first, flags, ended_behind s.entered (end.TooLong len))
  step_behind c cs steps.Idled can (first, flags, behind) = rw (append-nil cs) (first, flags, news_behind s.entered (s.idles - 1))
  step_behind c cs steps.Ended can (first, flags, behind) = rw (append-nil cs) (first, flags, ended_behind s.entered (input_end s.unmet))
  step_behind c cs steps.Missed can (first, flags, behind) = rw (append-nil cs) (first, flags, ended_behind s.entered end.ReadFault)
  step_behind c cs steps.Starved can (first, flags, behind) = rw (append-nil cs) (first, flags, ended_behind s.entered end.Memory)
  step_behind c cs steps.Spent can (first, flags, behind) = rw (append-nil cs) (first, flags, ended_behind s.entered end.BytesOut)

step_enters : (worker : ℕ) (s : State) (calls : List PoolCall) (x : SessionStep) → CanStep worker s x → StandsInCalls calls s → StandsInCalls (calls ++ call_in x) (after_step s x)
step_enters worker s [] x can enters = step_before worker s x can enters
step_enters worker s (c ∷ cs) x can enters = step_behind worker s c cs x can enters

enters_on : (worker : ℕ) (s t : State) (calls : List PoolCall) (xs : List SessionStep) → StandsInCalls calls s → Follows worker s xs t → StandsInCalls (calls ++ calls_in xs) t
enters_on worker s t calls [] enters follows = rw (follows, append-nil calls) enters
enters_on worker s t calls (x ∷ xs) enters follows =
    subst (λ l. StandsInCalls l t) (append_assoc calls (call_in x) (calls_in xs))
    (enters_on worker (after_step s x) t (calls ++ call_in x) xs (step_enters worker s calls x follows.0 enters) follows.1)

first_enters : (calls : List PoolCall) (s : State) → StandsInCalls calls s → EntersFirst calls
first_enters [] s enters = tt
first_enters (call ∷ calls) s enters = enters.0

pub enters_first : EntersComeFirst
enters_first worker manner xs last follows =
    first_enters (calls_in xs) last (enters_on worker (new_state manner) last [] xs (refl, refl) follows)
