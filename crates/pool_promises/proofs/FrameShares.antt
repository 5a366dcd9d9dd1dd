-- The shares that a session of frames met are those that it answered, in their order.
use Rattle.std.proofs.Common.{◌≡◌, ◌⊎◌, ℕ, ◌-◌, Bool, true, false, Option, None, Some, List, [], ◌∷◌, ◌++◌, inl, inr, refl, ap, subst, sym, ◌∙◌, suc, zero, append_assoc, append-nil}
use Rattle.std.proofs.Math.Dec.{eqb-suc-zero}
use Rattle.std.specs.Prelude.{if◌then◌else◌}
use Rattle.std.specs.List.{AllByRecursion}
use Rattle.pool_base.specs.Calls.{Faulted, Outcome, Replied}
use Rattle.pool_io.specs.declared.sink.SinkFailed.{SinkFailed}
use Rattle.pool_io.specs.declared.sink.SinkFailed.TheVariants as sink
use Rattle.sv2_messages.specs.Messages.{Message}
use Rattle.pool_history.specs.declared.asking.Request.{Request}
use Rattle.pool_history.specs.declared.asking.Request.TheVariants as request
use Rattle.pool_history.specs.declared.refusals.BookError.{BookError}
use Rattle.pool_history.specs.declared.replies.Reply.{Reply}
use Rattle.pool_history.specs.declared.replies.Reply.TheVariants as reply
use Rattle.pool_history.specs.declared.shares.Submission.{Submission}
use Rattle.pool_history.specs.Calls.{PoolCall}
use Rattle.pool_history.specs.Headers.{Briefing}
use Rattle.job_declaration.specs.declared.asked.Asked.{Asked}
use Rattle.job_declaration.specs.declared.asked.Asked.TheVariants as asks
use Rattle.session_steps.specs.declared.about.About.{About}
use Rattle.session_steps.specs.declared.about.About.TheVariants as topic
use Rattle.session_steps.specs.declared.ends.SessionEnd.{SessionEnd}
use Rattle.session_steps.specs.declared.ends.SessionEnd.TheVariants as end
use Rattle.session_steps.specs.declared.manner.Manner.{Manner}
use Rattle.session_steps.specs.declared.meeting.Step.{Step}
use Rattle.session_steps.specs.declared.meeting.Step.TheVariants as step
use Rattle.session_steps.specs.Asking.{Asks}
use Rattle.session_steps.specs.Meeting.{AsksNext, LeadsBy, Meets, SetsUp, about_asked}
use Rattle.session_steps.specs.Setups.{Setup, Accepted, Refused, Unsuited, setup_in}
use Rattle.session_steps.specs.States.{State, Stage, Asking, Committing, Greeting, Leaving, Over, Polling, Reading, Refusing, Saying, Put, IsPutOf, answered_stage, briefed_stage, end_stage, fault_end, hears, input_end, new_state, news_stage, next_stage, put_stage}
use Rattle.session_steps.specs.Steps as steps
use Rattle.session_steps.specs.Steps.{Books, CanCall, CanStep, Follows, PutsAnswer, PutsHeard, SessionStep, after_asking, after_booking, after_call, after_news, after_step, bytes_of_frames, calls_in, end_after, met_stage}
use Rattle.session_steps.specs.Talks.{Talk}
use Rattle.pool_promises.specs.Shares.{AnswersShareCall, IsShareReply, PutsShare, share_answered, share_asked, share_frames, shares_answered_in, shares_in}
use Rattle.session_steps.specs.Answers.{credit_frames, share_error_frames}
use Rattle.pool_history.specs.Codes.{share_code}
use Rattle.pool_history.specs.declared.refusals.Failed.{Failed}
use Rattle.pool_promises.proofs.Ordering.{IsEnding, ended_ending, ending_step}
use Rattle.pool_promises.proofs.Stages.{IsQuiet, answered_quiet, booking_quiet, ended_quiet, put_quiet, told_quiet}

-- ---- what a session owes at a stage

-- the share that it asked about last
abbrev share_of_about : About → List Submission
share_of_about (topic.Share sub) = sub ∷ []
share_of_about _ = []

-- a share that is to be briefed or booked
abbrev owed_at : Stage → About → List Submission
owed_at (Asking asked) about = share_asked (step.Ask asked)
owed_at (Committing brief) about = share_of_about about
owed_at _ about = []

abbrev owed : State → List Submission
owed s = owed_at s.stage s.talk.about

-- what is asked for is what the answer will be about
abbrev AsksAbout : Request → About → Type 0
AsksAbout (request.Brief sub) about = about ≡ topic.Share sub
AsksAbout (request.Commit checked) about = ⊥
AsksAbout _ about = share_of_about about ≡ []

abbrev FitsAt : Stage → About → Type 0
FitsAt (Asking asked) about = AsksAbout asked about
FitsAt _ about = Unit {0}

-- the stages that no frame asked for
abbrev pub IsPlain : Stage → Type 0
IsPlain (Asking asked) = ⊥
IsPlain (Committing brief) = ⊥
IsPlain _ = Unit {0}

plain_owes : (stage : Stage) (about : About) → IsPlain stage → owed_at stage about ≡ []
plain_owes (Asking asked) about plain = absurd plain
plain_owes (Committing brief) about plain = absurd plain
plain_owes _ about plain = refl

plain_fits : (stage : Stage) (about : About) → IsPlain stage → FitsAt stage about
plain_fits (Asking asked) about plain = absurd plain
plain_fits _ about plain = tt

pub ended_plain : (entered : Bool) (reason : SessionEnd) → IsPlain (end_stage entered reason)
ended_plain true reason = tt
ended_plain false reason = tt

pub next_plain : (entered : Bool) (idles : ℕ) → IsPlain (next_stage entered idles)
next_plain entered zero = ended_plain entered end.IdleOut
next_plain entered (suc n) =
    subst (λ b. IsPlain (if b then end_stage entered end.IdleOut else Reading)) (sym (eqb-suc-zero n)) tt

pub news_plain : (entered : Bool) (idles : ℕ) → IsPlain (news_stage entered idles)
news_plain true idles = tt
news_plain false idles = next_plain false idles

pub put_plain : (failed : Option SinkFailed) (entered : Bool) (stage : Stage) → IsPlain stage → IsPlain (put_stage failed entered stage)
put_plain None entered stage plain = plain
put_plain (Some sink.Failed) entered stage plain = ended_plain entered end.WriteFault
put_plain (Some sink.Memory) entered stage plain = ended_plain entered end.Memory

-- ---- what a frame asks for

asks_about : (message : Message) (asked : Request) (about : About) → Asks message asked about → AsksAbout asked about
asks_about message (request.Brief sub) about asks = asks.about_it
asks_about message (request.Template template) about asks = ap share_of_about asks.1
asks_about message (request.Tip tip) about asks = ap share_of_about asks.1
asks_about message (request.Open ask) about asks = ap share_of_about asks.about_it
asks_about message (request.Update channel target) about asks = ap share_of_about asks.about_it
asks_about message (request.Close channel) about asks = ap share_of_about asks.about_it
asks_about message (request.Grant identity path) about asks = ap share_of_about asks.about_it
asks_about message (request.Custom custom) about asks = ap share_of_about asks.about_it
asks_about message (request.Enter role flags) about asks = absurd asks
asks_about message request.Leave about asks = absurd asks
asks_about message (request.Name channel identity) about asks = absurd asks
asks_about message (request.Commit checked) about asks = absurd asks
asks_about message (request.Poll from) about asks = absurd asks

declared_about : (asked : Asked) → share_of_about (about_asked asked) ≡ []
declared_about (asks.Declared request_id) = refl
declared_about (asks.Token identity) = refl
declared_about asks.Nothing = refl

next_about : (message : Message) (talk next : Talk) (asked : Request) → AsksNext message talk (step.Ask asked) next → AsksAbout asked next.about
next_about message talk next asked asks =
    elim asks [
      | inl work ↦ subst (AsksAbout asked) (sym (ap (λ t. t.about) work.2)) (asks_about message asked work.0 work.1)
      | inr declared ↦ subst (λ a. AsksAbout a next.about) (sym declared.asked_is) (ap (λ t. share_of_about t.about) declared.next_is ∙ declared_about _)
    ]

first_about : (talk next : Talk) (setup : Setup) (asked : Request) → SetsUp setup talk (step.Ask asked) next → AsksAbout asked next.about
first_about talk next (Accepted flags) asked sets =
    let made : step.Ask asked ≡ step.Ask (request.Enter talk.role flags) = sets.0 in
    let enters : asked ≡ request.Enter talk.role flags = cc in
    subst (λ a. AsksAbout a next.about) (sym enters) (ap (λ t. share_of_about t.about) sets.1)
first_about talk next (Refused code flags) asked sets = let no : step.Ask asked ≡ step.RefuseSetup code flags = sets.0 in absurd cc
first_about talk next Unsuited asked sets = let no : step.Ask asked ≡ step.BadSetup = sets.0 in absurd cc

led_about : (flags : Option ℕ) (talk next : Talk) (message : Message) (asked : Request) → LeadsBy flags talk message (step.Ask asked) next → AsksAbout asked next.about
led_about None talk next message asked leads = first_about talk next (setup_in talk.role talk.rolling message) asked leads
led_about (Some flags) talk next message asked leads = next_about message talk next asked leads

-- the role stays
first_role : (talk next : Talk) (setup : Setup) (made : Step) → SetsUp setup talk made next → next.role ≡ talk.role
first_role talk next (Accepted flags) made sets = ap (λ t. t.role) sets.1
first_role talk next (Refused code flags) made sets = ap (λ t. t.role) sets.1
first_role talk next Unsuited made sets = ap (λ t. t.role) sets.1

next_role : (talk next : Talk) (message : Message) (made : Step) → AsksNext message talk made next → next.role ≡ talk.role
next_role talk next message (step.Ask asked) asks =
    elim asks [
      | inl work ↦ ap (λ t. t.role) work.2
      | inr declared ↦ ap (λ t. t.role) declared.next_is
    ]
next_role talk next message (step.Say bytes) says = ap (λ t. t.role) says.next_is
next_role talk next message _ none = absurd none

pub led_role : (talk next : Talk) (flags : Option ℕ) (message : Message) (made : Step) → LeadsBy flags talk message made next → next.role ≡ talk.role
led_role talk next None message made leads = first_role talk next (setup_in talk.role talk.rolling message) made leads
led_role talk next (Some flags) message made leads = next_role talk next message made leads

-- a session owes the share of the frame that it met
record MetOwes (made : Step) (entered : Bool) (about : About) : Type 0 where
  fits : FitsAt (met_stage entered made) about
  owes : share_asked made ≡ owed_at (met_stage entered made) about

met_owes : (s : State) (met : steps.Met) (made : Step) → Meets s.talk met.frame made met.talk → MetOwes made s.entered met.talk.about
met_owes s met step.Ignore meets = record { fits = tt; owes = refl }
met_owes s met (step.Ask asked) meets = record { fits = led_about s.talk.flags s.talk met.talk meets.message asked meets.leads; owes = refl }
met_owes s met (step.Say bytes) meets = record { fits = tt; owes = refl }
met_owes s met (step.RefuseSetup code others) meets = record { fits = tt; owes = refl }
met_owes s met step.BadSetup meets =
    let plain = ended_plain s.entered end.BadSetup in
    record {
      fits = plain_fits (end_stage s.entered end.BadSetup) met.talk.about plain;
      owes = sym (plain_owes (end_stage s.entered end.BadSetup) met.talk.about plain);
    }
met_owes s met (step.BadMessage kind) meets =
    let plain = ended_plain s.entered (end.BadMessage kind) in
    record {
      fits = plain_fits (end_stage s.entered (end.BadMessage kind)) met.talk.about plain;
      owes = sym (plain_owes (end_stage s.entered (end.BadMessage kind)) met.talk.about plain);
    }

-- ---- a session that ends meets no frame any more

module _ (worker : ℕ) (t : State) (reading : t.stage ≡ Reading) where
  never_reads : (s : State) (xs : List SessionStep) → IsEnding s.stage → Follows worker s xs t → ⊥
  never_reads s [] ending follows = subst IsEnding (sym (ap (λ (u : State). u.stage) follows) ∙ reading) ending
  never_reads s (x ∷ xs) ending follows = never_reads (after_step s x) xs (ending_step worker s x ending follows.0).1 follows.1

-- ---- a call

-- the session ends, or owes what it owed but for what was answered
abbrev Balances : List Submission → List Submission → State → Type 0
Balances before answered after = IsEnding after.stage ⊎ (before ≡ answered ++ owed after)

briefed_plain : (about : About) (brief : Briefing) (stage : Stage) → share_of_about about ≡ [] → IsPlain stage → IsPlain (briefed_stage about brief stage)
briefed_plain (topic.Share sub) brief stage none plain = absurd cc
briefed_plain topic.Nothing brief stage none plain = plain
briefed_plain (topic.Opening request_id kind) brief stage none plain = plain
briefed_plain (topic.Channel channel) brief stage none plain = plain
briefed_plain (topic.Token request_id) brief stage none plain = plain
briefed_plain (topic.OwnJob channel request_id) brief stage none plain = plain
briefed_plain (topic.Declared request_id) brief stage none plain = plain

answered_plain : (about : About) (entered : Bool) (idles : ℕ) (answer : Reply) → share_of_about about ≡ [] → IsPlain (answered_stage about entered idles answer)
answered_plain about entered idles (reply.PoolFull most) none = ended_plain entered end.PoolFull
answered_plain about entered idles (reply.Brief brief) none = briefed_plain about brief (news_stage entered idles) none (news_plain entered idles)
answered_plain about entered idles _ none = news_plain entered idles

-- what is owed behind a reply that was put
module _ (about : About) (entered : Bool) (idles : ℕ) where
  abbrev OwesBehind : Request → Reply → Type 0
  OwesBehind asked answer =
      share_asked (step.Ask asked) ≡ share_answered asked (Replied answer) ++ owed_at (answered_stage about entered idles answer) about

  other_owes : (asked : Request) (answer : Reply) → share_of_about about ≡ [] → share_asked (step.Ask asked) ≡ [] → share_answered asked (Replied answer) ≡ []
      → OwesBehind asked answer
  other_owes asked answer none asks answers =
      asks ∙ sym (ap (λ l. l ++ owed_at (answered_stage about entered idles answer) about) answers
      ∙ plain_owes (answered_stage about entered idles answer) about (answered_plain about entered idles answer none))

  brief_owes : (sub : Submission) (answer : Reply) → about ≡ topic.Share sub → IsShareReply (request.Brief sub) (Replied answer) → OwesBehind (request.Brief sub) answer
  brief_owes sub (reply.Brief brief) is fits =
      subst (λ a. sub ∷ [] ≡ owed_at (briefed_stage a brief (news_stage entered idles)) a) (sym is) refl
  brief_owes sub (reply.Refused failed) is fits =
      ap (λ l. sub ∷ l) (sym (plain_owes (news_stage entered idles) about (news_plain entered idles)))
  brief_owes sub _ is fits = absurd fits

  asked_owes : (asked : Request) (answer : Reply) → AsksAbout asked about → IsShareReply asked (Replied answer) → OwesBehind asked answer
  asked_owes (request.Brief sub) answer is fits = brief_owes sub answer is fits
  asked_owes (request.Commit checked) answer is fits = absurd is
  asked_owes (request.Enter role flags) answer is fits = other_owes (request.Enter role flags) answer is refl refl
  asked_owes request.Leave answer is fits = other_owes request.Leave answer is refl refl
  asked_owes (request.Template template) answer is fits = other_owes (request.Template template) answer is refl refl
  asked_owes (request.Tip tip) answer is fits = other_owes (request.Tip tip) answer is refl refl
  asked_owes (request.Open ask) answer is fits = other_owes (request.Open ask) answer is refl refl
  asked_owes (request.Name channel identity) answer is fits = other_owes (request.Name channel identity) answer is refl refl
  asked_owes (request.Update channel target) answer is fits = other_owes (request.Update channel target) answer is refl refl
  asked_owes (request.Close channel) answer is fits = other_owes (request.Close channel) answer is refl refl
  asked_owes (request.Grant identity path) answer is fits = other_owes (request.Grant identity path) answer is refl refl
  asked_owes (request.Custom custom) answer is fits = other_owes (request.Custom custom) answer is refl refl
  asked_owes (request.Poll from) answer is fits = other_owes (request.Poll from) answer is refl refl

module _ (s : State) (put : Put) where
  asking_balances : (asked : Request) (front : ℕ) (outcome : Outcome Reply BookError) → AsksAbout asked s.talk.about → IsShareReply asked outcome
      → Balances (share_asked (step.Ask asked)) (share_answered asked outcome) (after_asking s front outcome put)
  asking_balances asked front (Faulted cause) is fits = inl (ended_ending s.entered (fault_end cause))
  asking_balances asked front (Replied answer) is fits = put_balances put.fault where
    h : State
    h = hears s front answer

    put_balances : (failed : Option SinkFailed)
        → IsEnding (put_stage failed h.entered (answered_stage h.talk.about h.entered h.idles answer))
        ⊎ (share_asked (step.Ask asked)
        ≡ share_answered asked (Replied answer) ++ owed_at (put_stage failed h.entered (answered_stage h.talk.about h.entered h.idles answer)) h.talk.about)
    put_balances None = inr (asked_owes s.talk.about h.entered h.idles asked answer is fits)
    put_balances (Some sink.Failed) = inl (ended_ending h.entered end.WriteFault)
    put_balances (Some sink.Memory) = inl (ended_ending h.entered end.Memory)

  booked_owes : (sub : Submission) (checked_sub : Submission) → checked_sub ≡ sub → (failed : Option SinkFailed)
      → IsEnding (put_stage failed s.entered (news_stage s.entered s.idles))
      ⊎ (sub ∷ [] ≡ checked_sub ∷ owed_at (put_stage failed s.entered (news_stage s.entered s.idles)) s.talk.about)
  booked_owes sub checked_sub is None =
      inr (ap (λ e. e ∷ []) (sym is) ∙ ap (λ l. checked_sub ∷ l) (sym (plain_owes (news_stage s.entered s.idles) s.talk.about (news_plain s.entered s.idles))))
  booked_owes sub checked_sub is (Some sink.Failed) = inl (ended_ending s.entered end.WriteFault)
  booked_owes sub checked_sub is (Some sink.Memory) = inl (ended_ending s.entered end.Memory)

  booking_balances : (about : About) (brief : Briefing) (asked : Request) (outcome : Outcome Reply BookError) → Books about brief asked → IsShareReply asked outcome
      → Balances (share_of_about about) (share_answered asked outcome) (after_booking s outcome put)
  booking_balances about brief asked (Faulted cause) books fits = inl (ended_ending s.entered (fault_end cause))
  booking_balances (topic.Share sub) brief (request.Commit checked) (Replied (reply.Credited work)) books fits = booked_owes sub checked.sub books.1 put.fault
  booking_balances (topic.Share sub) brief (request.Commit checked) (Replied (reply.Refused failed)) books fits = booked_owes sub checked.sub books.1 put.fault
  booking_balances (topic.Share sub) brief (request.Commit checked) (Replied _) books fits = absurd fits
  booking_balances (topic.Share sub) brief _ (Replied answer) books fits = absurd books
  booking_balances topic.Nothing brief asked (Replied answer) books fits = absurd books
  booking_balances (topic.Opening request_id kind) brief asked (Replied answer) books fits = absurd books
  booking_balances (topic.Channel channel) brief asked (Replied answer) books fits = absurd books
  booking_balances (topic.Token request_id) brief asked (Replied answer) books fits = absurd books
  booking_balances (topic.OwnJob channel request_id) brief asked (Replied answer) books fits = absurd books
  booking_balances (topic.Declared request_id) brief asked (Replied answer) books fits = absurd books

  news_plainly : (outcome : Outcome Reply BookError) → IsPlain (after_news s outcome put).stage
  news_plainly (Faulted cause) = ended_plain s.entered (fault_end cause)
  news_plainly (Replied answer) = put_plain put.fault s.entered (next_stage s.entered s.idles) (next_plain s.entered s.idles)

  call_balances : (stage : Stage) (call : PoolCall) → FitsAt stage s.talk.about → CanCall stage s call put → AnswersShareCall call
      → Balances (owed_at stage s.talk.about) (share_answered call.asked call.outcome) (after_call stage s call put)
  call_balances (Asking asked) call is can fits =
      subst (λ a. Balances (share_asked (step.Ask asked)) (share_answered a call.outcome) (after_asking s call.front call.outcome put)) (sym can.0)
      (asking_balances asked call.front call.outcome is (subst (λ a. IsShareReply a call.outcome) can.0 fits))
  call_balances (Committing brief) call is can fits = booking_balances s.talk.about brief call.asked call.outcome can.0 fits
  call_balances Polling call is can fits =
      inr (subst (λ a. [] ≡ share_answered a call.outcome ++ owed (after_news s call.outcome put)) (sym can.0)
      (sym (plain_owes (after_news s call.outcome put).stage (after_news s call.outcome put).talk.about (news_plainly call.outcome))))
  call_balances (Leaving reason) call is can fits = inl tt
  call_balances Greeting call is can fits = absurd can
  call_balances Reading call is can fits = absurd can
  call_balances (Refusing code flags) call is can fits = absurd can
  call_balances (Saying bytes) call is can fits = absurd can
  call_balances (Over reason) call is can fits = absurd can

quiet_fits : (stage : Stage) (about : About) → IsQuiet stage → FitsAt stage about
quiet_fits (Asking asked) about quiet = absurd quiet
quiet_fits _ about quiet = tt

asking_quiet : (s : State) (front : ℕ) (outcome : Outcome Reply BookError) (put : Put) → IsQuiet (after_asking s front outcome put).stage
asking_quiet s front (Faulted cause) put = ended_quiet s.entered (fault_end cause)
asking_quiet s front (Replied answer) put =
    let h = hears s front answer in
    put_quiet put.fault h.entered (answered_stage h.talk.about h.entered h.idles answer) (answered_quiet h.talk.about h.entered h.idles answer)

called_quiet : (stage : Stage) (s : State) (call : PoolCall) (put : Put) → CanCall stage s call put → IsQuiet (after_call stage s call put).stage
called_quiet (Asking asked) s call put can = asking_quiet s call.front call.outcome put
called_quiet (Committing brief) s call put can = (booking_quiet s call.outcome put).stage
called_quiet Polling s call put can = (told_quiet s call.outcome put).stage
called_quiet (Leaving reason) s call put can = tt
called_quiet Greeting s call put can = absurd can
called_quiet Reading s call put can = absurd can
called_quiet (Refusing code flags) s call put can = absurd can
called_quiet (Saying bytes) s call put can = absurd can
called_quiet (Over reason) s call put can = absurd can

-- ---- all steps

-- what is asked for fits what the answer will be about, behind each step
step_fits : (worker : ℕ) (s : State) (x : SessionStep) → FitsAt s.stage s.talk.about → CanStep worker s x → FitsAt (after_step s x).stage (after_step s x).talk.about
step_fits worker s (steps.Called call put) fits can =
    quiet_fits (after_call s.stage s call put).stage (after_call s.stage s call put).talk.about (called_quiet s.stage s call put can.1)
step_fits worker s (steps.Framed met) fits can = (met_owes s met met.step can.meets).fits
step_fits worker s (steps.Greeted put) fits can =
    plain_fits (put_stage put.fault s.entered Reading) s.talk.about (put_plain put.fault s.entered Reading tt)
step_fits worker s (steps.Took bytes) fits can = fits
step_fits worker s (steps.Refused put) fits can =
    plain_fits (put_stage put.fault s.entered (end_stage s.entered end.BadSetup)) s.talk.about
    (put_plain put.fault s.entered (end_stage s.entered end.BadSetup) (ended_plain s.entered end.BadSetup))
step_fits worker s (steps.Said put) fits can =
    plain_fits (put_stage put.fault s.entered Reading) s.talk.about (put_plain put.fault s.entered Reading tt)
step_fits worker s (steps.Overran len) fits can =
    plain_fits (end_stage s.entered (end.TooLong len)) s.talk.about (ended_plain s.entered (end.TooLong len))
step_fits worker s steps.Idled fits can =
    plain_fits (news_stage s.entered (s.idles - 1)) s.talk.about (news_plain s.entered (s.idles - 1))
step_fits worker s steps.Ended fits can =
    plain_fits (end_stage s.entered (input_end s.unmet)) s.talk.about (ended_plain s.entered (input_end s.unmet))
step_fits worker s steps.Missed fits can = plain_fits (end_stage s.entered end.ReadFault) s.talk.about (ended_plain s.entered end.ReadFault)
step_fits worker s steps.Starved fits can = plain_fits (end_stage s.entered end.Memory) s.talk.about (ended_plain s.entered end.Memory)
step_fits worker s steps.Spent fits can = plain_fits (end_stage s.entered end.BytesOut) s.talk.about (ended_plain s.entered end.BytesOut)

refused_owes : (stage : Stage) (about : About) (put : Put) → steps.Refuses stage put → owed_at stage about ≡ []
refused_owes (Asking asked) about put refuses = absurd refuses
refused_owes (Committing brief) about put refuses = absurd refuses
refused_owes _ about put refuses = refl

said_owes : (stage : Stage) (about : About) (put : Put) → steps.Says stage put → owed_at stage about ≡ []
said_owes (Asking asked) about put says = absurd says
said_owes (Committing brief) about put says = absurd says
said_owes _ about put says = refl

starved_owes : (stage : Stage) (about : About) → steps.CanStarve stage → owed_at stage about ≡ []
starved_owes (Asking asked) about starves = absurd starves
starved_owes (Committing brief) about starves = absurd starves
starved_owes _ about starves = refl

module _ (worker : ℕ) (t : State) (reading : t.stage ≡ Reading) where
  at_owes : (s : State) (stage : Stage) → IsPlain stage → s.stage ≡ stage → owed s ≡ []
  at_owes s stage plain is = ap (λ a. owed_at a s.talk.about) is ∙ plain_owes stage s.talk.about plain

  -- a step that calls for nothing leaves a session that owes nothing
  plainly : (s : State) (x : SessionStep) (xs : List SessionStep) → owed s ≡ [] → IsPlain (after_step s x).stage
      → owed (after_step s x) ++ shares_in xs ≡ shares_answered_in xs → owed s ++ shares_in xs ≡ shares_answered_in xs
  plainly s x xs before plain rest =
      ap (λ l. l ++ shares_in xs) (before ∙ sym (plain_owes (after_step s x).stage (after_step s x).talk.about plain)) ∙ rest

  balances : (s : State) (xs : List SessionStep) → FitsAt s.stage s.talk.about → AllByRecursion AnswersShareCall (calls_in xs) → Follows worker s xs t
      → owed s ++ shares_in xs ≡ shares_answered_in xs
  balances s [] fits replied follows =
      append-nil (owed s) ∙ at_owes s Reading tt (sym (ap (λ (u : State). u.stage) follows) ∙ reading)
  balances s (steps.Called call put ∷ xs) fits replied follows =
      let u = after_step s (steps.Called call put) in
      let answered = share_answered call.asked call.outcome in
      let rest : owed u ++ shares_in xs ≡ shares_answered_in xs =
      balances u xs (step_fits worker s (steps.Called call put) fits follows.0) replied.1 follows.1 in
      elim (call_balances s put s.stage call fits follows.0.1 replied.0) [
        | inl ending ↦ absurd (never_reads worker t reading u xs ending follows.1)
        | inr is ↦ ap (λ l. l ++ shares_in xs) is ∙ append_assoc answered (owed u) (shares_in xs) ∙ ap (λ l. answered ++ l) rest
      ]
  balances s (steps.Framed met ∷ xs) fits replied follows =
      let u = after_step s (steps.Framed met) in
      let is = met_owes s met met.step follows.0.meets in
      ap (λ l. l ++ (share_asked met.step ++ shares_in xs)) (at_owes s Reading tt follows.0.reading) ∙ ap (λ l. l ++ shares_in xs) is.owes
      ∙ balances u xs is.fits replied follows.1
  balances s (steps.Took bytes ∷ xs) fits replied follows = balances (after_step s (steps.Took bytes)) xs fits replied follows.1
  balances s (steps.Greeted put ∷ xs) fits replied follows =
      plainly s (steps.Greeted put) xs (at_owes s Greeting tt follows.0.0) (put_plain put.fault s.entered Reading tt)
      (balances (after_step s (steps.Greeted put)) xs (step_fits worker s (steps.Greeted put) fits follows.0) replied follows.1)
  balances s (steps.Refused put ∷ xs) fits replied follows =
      plainly s (steps.Refused put) xs (refused_owes s.stage s.talk.about put follows.0)
      (put_plain put.fault s.entered (end_stage s.entered end.BadSetup) (ended_plain s.entered end.BadSetup))
      (balances (after_step s (steps.Refused put)) xs (step_fits worker s (steps.Refused put) fits follows.0) replied follows.1)
  balances s (steps.Said put ∷ xs) fits replied follows =
      plainly s (steps.Said put) xs (said_owes s.stage s.talk.about put follows.0) (put_plain put.fault s.entered Reading tt)
      (balances (after_step s (steps.Said put)) xs (step_fits worker s (steps.Said put) fits follows.0) replied follows.1)
  balances s (steps.Overran len ∷ xs) fits replied follows =
      plainly s (steps.Overran len) xs (at_owes s Reading tt follows.0.reading) (ended_plain s.entered (end.TooLong len))
      (balances (after_step s (steps.Overran len)) xs (step_fits worker s (steps.Overran len) fits follows.0) replied follows.1)
  balances s (steps.Idled ∷ xs) fits replied follows =
      plainly s steps.Idled xs (at_owes s Reading tt follows.0.waiting.reading) (news_plain s.entered (s.idles - 1))
      (balances (after_step s steps.Idled) xs (step_fits worker s steps.Idled fits follows.0) replied follows.1)
  balances s (steps.Ended ∷ xs) fits replied follows =
      plainly s steps.Ended xs (at_owes s Reading tt follows.0.waiting.reading) (ended_plain s.entered (input_end s.unmet))
      (balances (after_step s steps.Ended) xs (step_fits worker s steps.Ended fits follows.0) replied follows.1)
  balances s (steps.Missed ∷ xs) fits replied follows =
      plainly s steps.Missed xs (at_owes s Reading tt follows.0.waiting.reading) (ended_plain s.entered end.ReadFault)
      (balances (after_step s steps.Missed) xs (step_fits worker s steps.Missed fits follows.0) replied follows.1)
  balances s (steps.Starved ∷ xs) fits replied follows =
      plainly s steps.Starved xs (starved_owes s.stage s.talk.about follows.0) (ended_plain s.entered end.Memory)
      (balances (after_step s steps.Starved) xs (step_fits worker s steps.Starved fits follows.0) replied follows.1)
  balances s (steps.Spent ∷ xs) fits replied follows =
      plainly s steps.Spent xs (at_owes s Reading tt follows.0.0.reading) (ended_plain s.entered end.BytesOut)
      (balances (after_step s steps.Spent) xs (step_fits worker s steps.Spent fits follows.0) replied follows.1)

-- ---- what is put

module _ (talk : Talk) (put : Put) (sub : Submission) where
  abbrev PutsFrames : Outcome Reply BookError → Type 0
  PutsFrames outcome = IsPutOf (bytes_of_frames (share_frames sub outcome)) put

  refused_puts : (told : Submission) (failed : Failed) → talk.about ≡ topic.Share told → told ≡ sub → PutsAnswer talk (Replied (reply.Refused failed)) put
      → PutsFrames (Replied (reply.Refused failed))
  refused_puts told failed about is puts =
      subst (λ a. IsPutOf (bytes_of_frames (share_error_frames a (share_code failed) ++ [])) put) (about ∙ ap topic.Share is) puts

  credited_puts : (told : Submission) (work : ℕ) → talk.about ≡ topic.Share told → told ≡ sub → PutsAnswer talk (Replied (reply.Credited work)) put
      → PutsFrames (Replied (reply.Credited work))
  credited_puts told work about is puts =
      subst (λ a. IsPutOf (bytes_of_frames (credit_frames a work ++ [])) put) (about ∙ ap topic.Share is) puts

  asked_puts : (asked : Request) (outcome : Outcome Reply BookError) → AsksAbout asked talk.about → PutsHeard talk outcome put
      → share_answered asked outcome ≡ sub ∷ [] → PutsFrames outcome
  asked_puts (request.Brief told) (Replied (reply.Refused failed)) about puts is = refused_puts told failed about (let same : told ≡ sub = cc in same) puts
  asked_puts (request.Commit checked) outcome about puts is = absurd about
  asked_puts _ _ about puts is = absurd cc

  books_puts : (about : About) (brief : Briefing) (asked : Request) (outcome : Outcome Reply BookError) → talk.about ≡ about → Books about brief asked
      → PutsAnswer talk outcome put → share_answered asked outcome ≡ sub ∷ [] → PutsFrames outcome
  books_puts (topic.Share told) brief (request.Commit checked) (Replied (reply.Credited work)) about books puts is =
      credited_puts told work about (let same : checked.sub ≡ sub = cc in sym books.1 ∙ same) puts
  books_puts (topic.Share told) brief (request.Commit checked) (Replied (reply.Refused failed)) about books puts is =
      refused_puts told failed about (let same : checked.sub ≡ sub = cc in sym books.1 ∙ same) puts
  books_puts (topic.Share told) brief (request.Commit checked) _ about books puts is = absurd cc
  books_puts (topic.Share told) brief _ outcome about books puts is = absurd books
  books_puts topic.Nothing brief asked outcome about books puts is = absurd books
  books_puts (topic.Opening request_id kind) brief asked outcome about books puts is = absurd books
  books_puts (topic.Channel channel) brief asked outcome about books puts is = absurd books
  books_puts (topic.Token request_id) brief asked outcome about books puts is = absurd books
  books_puts (topic.OwnJob channel request_id) brief asked outcome about books puts is = absurd books
  books_puts (topic.Declared request_id) brief asked outcome about books puts is = absurd books

call_puts : (stage : Stage) (s : State) (call : PoolCall) (put : Put) → FitsAt stage s.talk.about → CanCall stage s call put → PutsShare (steps.Called call put)
call_puts (Asking asked) s call put fits can sub is =
    asked_puts s.talk put sub asked call.outcome fits can.1 (ap (λ a. share_answered a call.outcome) (sym can.0) ∙ is)
call_puts (Committing brief) s call put fits can sub is = books_puts s.talk put sub s.talk.about brief call.asked call.outcome refl can.0 can.1 is
call_puts Polling s call put fits can sub is =
    let none : [] ≡ sub ∷ [] = ap (λ a. share_answered a call.outcome) (sym can.0) ∙ is in absurd cc
call_puts (Leaving reason) s call put fits can sub is =
    let none : [] ≡ sub ∷ [] = ap (λ a. share_answered a call.outcome) (sym can.0) ∙ is in absurd cc
call_puts Greeting s call put fits can sub is = absurd can
call_puts Reading s call put fits can sub is = absurd can
call_puts (Refusing code flags) s call put fits can sub is = absurd can
call_puts (Saying bytes) s call put fits can sub is = absurd can
call_puts (Over reason) s call put fits can sub is = absurd can

step_puts : (worker : ℕ) (s : State) (x : SessionStep) → FitsAt s.stage s.talk.about → CanStep worker s x → PutsShare x
step_puts worker s (steps.Called call put) fits can = call_puts s.stage s call put fits can.1
step_puts worker s _ fits can = tt

all_put : (worker : ℕ) (s t : State) (xs : List SessionStep) → FitsAt s.stage s.talk.about → Follows worker s xs t → AllByRecursion PutsShare xs
all_put worker s t [] fits follows = tt
all_put worker s t (x ∷ xs) fits follows =
    (step_puts worker s x fits follows.0, all_put worker (after_step s x) t xs (step_fits worker s x fits follows.0) follows.1)

-- ---- from the beginning

pub shares_are_answered : (worker : ℕ) (manner : Manner) (xs : List SessionStep) (t : State) → Follows worker (new_state manner) xs t
    → AllByRecursion AnswersShareCall (calls_in xs) → t.stage ≡ Reading → shares_in xs ≡ shares_answered_in xs
shares_are_answered worker manner xs t follows replied reading = balances worker t reading (new_state manner) xs tt replied follows

pub shares_are_put : (worker : ℕ) (manner : Manner) (xs : List SessionStep) (t : State) → Follows worker (new_state manner) xs t → AllByRecursion PutsShare xs
shares_are_put worker manner xs t follows = all_put worker (new_state manner) t xs tt follows
