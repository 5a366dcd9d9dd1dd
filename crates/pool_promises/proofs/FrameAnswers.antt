-- Each share of a session of frames is answered.
use Rattle.std.proofs.Common.{◌≡◌, ℕ, ◌-◌, Bool, true, false, Option, Some, List, [], ◌∷◌, ◌++◌, take, inl, inr, refl, ap, subst, sym, ◌∙◌}
use Rattle.std.proofs.lemmas.Grind.{flat_map-append}
use Rattle.std.specs.Prelude.{is_none}
use Rattle.std.specs.List.{AllByRecursion}
use Rattle.pool_base.specs.Calls.{Faulted, IsOutcome, Outcome, Replied}
use Rattle.sv2_frames.specs.Framing.{FrameValue}
use Rattle.pool_history.specs.declared.asking.Request.{Request}
use Rattle.pool_history.specs.declared.asking.Request.TheVariants as request
use Rattle.pool_history.specs.declared.events.Event.{Event}
use Rattle.pool_history.specs.declared.events.Role.{Role}
use Rattle.pool_history.specs.declared.refusals.BookError.{BookError}
use Rattle.pool_history.specs.declared.replies.Reply.{Reply}
use Rattle.pool_history.specs.declared.replies.Reply.TheVariants as reply
use Rattle.pool_history.specs.declared.settings.Rules.{Rules}
use Rattle.pool_history.specs.declared.shares.Checked.{Checked}
use Rattle.pool_history.specs.declared.shares.Submission.{Submission}
use Rattle.pool_history.specs.Answering.{Answer, Effect, step}
use Rattle.pool_history.specs.Calls.{IsGoodPoolCall, PoolCall, wants_memory}
use Rattle.pool_history.specs.Sessions.{mines, past_of, rules_of}
use Rattle.history_laws.specs.Serving.{Enters}
use Rattle.session_steps.specs.declared.ends.SessionEnd.TheVariants as end
use Rattle.session_steps.specs.declared.manner.Manner.{Manner}
use Rattle.session_steps.specs.declared.meeting.Step.{Step}
use Rattle.session_steps.specs.declared.meeting.Step.TheVariants as step
use Rattle.session_steps.specs.Meeting.{Meets}
use Rattle.session_steps.specs.States.{State, Stage, Asking, Committing, Greeting, Leaving, Over, Polling, Reading, Refusing, Saying, Put, end_stage, fault_end, input_end, new_state, news_stage, next_stage, put_stage}
use Rattle.session_steps.specs.Steps as frames
use Rattle.session_steps.specs.Steps.{CanCall, CanStep, Follows, SessionStep, after_asking, after_booking, after_call, after_news, after_step, call_in, calls_in, met_stage}
use Rattle.session_steps.specs.Talks.{Talk}
use Rattle.v1_sessions.specs.Laws.{IsAnswered, IsAnsweredBy, IsReplyTo}
use Rattle.pool_sessions.specs.Calling.{StandInTurn}
use Rattle.pool_promises.specs.Presence.{FindsPresent, MakeHistory, entrance_by}
use Rattle.pool_promises.specs.Shares.{AnswersShareCall, AnswersShares, FrameSessionsAreAnswered, IsShareReply}
use Rattle.pool_promises.proofs.Lists.{all_parts}
use Rattle.pool_promises.proofs.Present.{rules_at_fronts, stay-present}
use Rattle.pool_promises.proofs.Calling.{AsksInside}
use Rattle.pool_promises.proofs.Replying.{call_answered, enter_answered, replies_in, step_present}
use Rattle.pool_promises.proofs.DeclaredPresent.{IsPresent, IsSettled, StandsAsking, StandsAt}
use Rattle.pool_promises.proofs.DeclaredStepping.{Stands, StandsThere, events_behind, step_stands}
use Rattle.pool_promises.proofs.DeclaredAnswers.{first_turn}
use Rattle.pool_promises.proofs.FrameCalls.{BehindFrameEnter, EntersFirst, frames_enter_first, go_inside}
use Rattle.pool_promises.proofs.FrameShares.{IsPlain, ended_plain, led_role, news_plain, next_plain, put_plain, shares_are_answered, shares_are_put}

-- ---- whose calls they are

pub frames_of_worker : (worker : ℕ) (s t : State) (xs : List SessionStep) → frames.Follows worker s xs t → AllByRecursion (λ (c : PoolCall). c.worker ≡ worker) (frames.calls_in xs)
frames_of_worker worker s t [] follows = tt
frames_of_worker worker s t (frames.Called call put ∷ xs) follows = (follows.0.0, frames_of_worker worker (frames.after_step s (frames.Called call put)) t xs follows.1)
frames_of_worker worker s t (frames.Greeted put ∷ xs) follows = frames_of_worker worker (frames.after_step s (frames.Greeted put)) t xs follows.1
frames_of_worker worker s t (frames.Took bytes ∷ xs) follows = frames_of_worker worker (frames.after_step s (frames.Took bytes)) t xs follows.1
frames_of_worker worker s t (frames.Framed met ∷ xs) follows = frames_of_worker worker (frames.after_step s (frames.Framed met)) t xs follows.1
frames_of_worker worker s t (frames.Refused put ∷ xs) follows = frames_of_worker worker (frames.after_step s (frames.Refused put)) t xs follows.1
frames_of_worker worker s t (frames.Said put ∷ xs) follows = frames_of_worker worker (frames.after_step s (frames.Said put)) t xs follows.1
frames_of_worker worker s t (frames.Overran len ∷ xs) follows = frames_of_worker worker (frames.after_step s (frames.Overran len)) t xs follows.1
frames_of_worker worker s t (frames.Idled ∷ xs) follows = frames_of_worker worker (frames.after_step s frames.Idled) t xs follows.1
frames_of_worker worker s t (frames.Ended ∷ xs) follows = frames_of_worker worker (frames.after_step s frames.Ended) t xs follows.1
frames_of_worker worker s t (frames.Missed ∷ xs) follows = frames_of_worker worker (frames.after_step s frames.Missed) t xs follows.1
frames_of_worker worker s t (frames.Starved ∷ xs) follows = frames_of_worker worker (frames.after_step s frames.Starved) t xs follows.1
frames_of_worker worker s t (frames.Spent ∷ xs) follows = frames_of_worker worker (frames.after_step s frames.Spent) t xs follows.1

-- ---- one call

brief_fits : (sub : Submission) (outcome : Outcome Reply BookError) → IsAnsweredBy (request.Brief sub) outcome → IsShareReply (request.Brief sub) outcome
brief_fits sub (Faulted cause) is = tt
brief_fits sub (Replied (reply.Brief brief)) is = tt
brief_fits sub (Replied (reply.Refused failed)) is = tt
brief_fits sub (Replied _) is = is

commit_fits : (checked : Checked) (outcome : Outcome Reply BookError) → IsAnsweredBy (request.Commit checked) outcome → IsShareReply (request.Commit checked) outcome
commit_fits checked (Faulted cause) is = tt
commit_fits checked (Replied (reply.Credited work)) is = tt
commit_fits checked (Replied (reply.Refused failed)) is = tt
commit_fits checked (Replied _) is = is

-- that of a present session is answered by a reply to it
module _ (history : List Event) (role : Role) (flags session : ℕ) (may : mines role ≡ true) (call : PoolCall) (good : IsGoodPoolCall history call)
    (finds : FindsPresent history call.worker role flags session call) where
  asked_fits : (asked : Request) → call.asked ≡ asked → IsShareReply asked call.outcome
  asked_fits (request.Brief sub) is =
      brief_fits sub call.outcome
      (subst (λ a. IsAnsweredBy a call.outcome) is
      (call_answered history call good role flags session [] may finds (subst (λ a. AsksInside a []) (sym is) tt)))
  asked_fits (request.Commit checked) is =
      commit_fits checked call.outcome
      (subst (λ a. IsAnsweredBy a call.outcome) is
      (call_answered history call good role flags session [] may finds (subst (λ a. AsksInside a []) (sym is) tt)))
  asked_fits _ is = tt

calls_fit : (history : List Event) (worker : ℕ) (role : Role) (flags session : ℕ) → mines role ≡ true → (calls : List PoolCall)
    → AllByRecursion (FindsPresent history worker role flags session) calls → AllByRecursion (IsGoodPoolCall history) calls
    → AllByRecursion (λ (c : PoolCall). c.worker ≡ worker) calls → AllByRecursion AnswersShareCall calls
calls_fit history worker role flags session may [] finds good own = tt
calls_fit history worker role flags session may (call ∷ calls) finds good own = (
  asked_fits history role flags session may call good.0 (subst (λ w. FindsPresent history w role flags session call) (sym own.0) finds.0) call.asked refl,
  calls_fit history worker role flags session may calls finds.1 good.1 own.1,
)

-- ---- the calls of a session, among all

module _ (start history : List Event) (least most worker : ℕ) (earlier later others : List PoolCall) (role : Role) (rules : Rules) (are : rules_of (past_of start) ≡ Some rules)
    (may : mines role ≡ true) where
  -- what holds of all calls holds of those in a row
  in_a_row : (P : PoolCall → Type 0) (calls : List PoolCall) → AllByRecursion P ((earlier ++ (calls ++ later)) ++ others) → AllByRecursion P calls
  in_a_row P calls h =
      (all_parts P calls later (all_parts P earlier (calls ++ later) (all_parts P (earlier ++ (calls ++ later)) others h).0).1).0

  -- those behind the Enter, by how that was answered
  behind_fit : (enter : PoolCall) (calls : List PoolCall) (flags : ℕ) → MakeHistory start history least most worker (earlier ++ ((enter ∷ calls) ++ later)) others
      → enter.worker ≡ worker → AllByRecursion (λ (c : PoolCall). c.worker ≡ worker) calls → enter.asked ≡ request.Enter role flags
      → AllByRecursion (IsGoodPoolCall history) calls → (o : Outcome Reply BookError) → enter.outcome ≡ o → IsAnsweredBy (request.Enter role flags) o → BehindFrameEnter o calls
      → AllByRecursion AnswersShareCall calls
  behind_fit enter calls flags make own_enter own asked good (Faulted cause) is answered behind = subst (AllByRecursion AnswersShareCall) (sym behind) tt
  behind_fit enter calls flags make own_enter own asked good (Replied (reply.PoolFull full)) is answered behind = subst (AllByRecursion AnswersShareCall) (sym behind) tt
  behind_fit enter calls flags make own_enter own asked good (Replied (reply.Entered session)) is answered behind =
      let enters : Enters enter role flags session = record { asked = asked; entered = is } in
      let finds : AllByRecursion (FindsPresent history enter.worker role flags session) calls =
      stay-present start history least most earlier calls later others enter role flags session
      (subst (λ w. MakeHistory start history least most w (earlier ++ enter ∷ (calls ++ later)) others) (sym own_enter) make) enters (go_inside calls behind) in
      calls_fit history worker role flags session may calls
      (subst (λ w. AllByRecursion (FindsPresent history w role flags session) calls) own_enter finds) good own
  behind_fit enter calls flags make own_enter own asked good (Replied _) is answered behind = absurd answered

  all_fit : (calls : List PoolCall) → EntersFirst role calls → AllByRecursion (λ (c : PoolCall). c.worker ≡ worker) calls
      → MakeHistory start history least most worker (earlier ++ (calls ++ later)) others → AllByRecursion AnswersShareCall calls
  all_fit [] order own make = tt
  all_fit (enter ∷ calls) order own make =
      let good = in_a_row (IsGoodPoolCall history) (enter ∷ calls) make.good in
      let ruled = in_a_row (λ (c : PoolCall). rules_of (past_of (take c.front history)) ≡ Some rules) (enter ∷ calls)
      (rules_at_fronts start history least most ((earlier ++ ((enter ∷ calls) ++ later)) ++ others) rules make.parted are) in
      let answered : IsAnswered enter = enter_answered history enter good.0 role order.flags rules ruled.0 order.asks in (
        subst (λ asked. IsShareReply asked enter.outcome) (sym order.asks) tt,
        behind_fit enter calls order.flags make own.0 own.1 order.asks good.1 enter.outcome refl
            (subst (λ asked. IsAnsweredBy asked enter.outcome) order.asks answered) order.behind,
      )

-- ---- so each share is answered

answers_shares : (worker : ℕ) (manner : Manner) (steps : List SessionStep) (last : State) → Follows worker (new_state manner) steps last
    → AllByRecursion AnswersShareCall (calls_in steps) → AnswersShares worker manner steps
answers_shares worker manner steps last follows calls = record {
  calls = calls;
  shares = λ front back reached parts so reading.
      shares_are_answered worker manner front reached so
      (all_parts AnswersShareCall (calls_in front) (calls_in back)
      (subst (AllByRecursion AnswersShareCall) (ap calls_in parts ∙ flat_map-append call_in front back) calls)).0 reading;
  puts = shares_are_put worker manner steps last follows;
}

pub frames_answered : FrameSessionsAreAnswered
frames_answered start history least most worker earlier later others manner steps last rules are may follows make =
    answers_shares worker manner steps last follows
    (all_fit start history least most worker earlier later others manner.role rules are may (calls_in steps)
    (frames_enter_first worker manner steps last follows) (frames_of_worker worker (new_state manner) last steps follows) make)

-- ---- a session whose calls stand each at all that those before it left

module _ (worker : ℕ) (events : List Event) (role : Role) (flags : Option ℕ) (entered : Bool) (may : mines role ≡ true) (there : IsPresent worker events role flags entered) where
  -- what a present session may ask is answered by a reply to it
  present_replies : (asked : Request) → AsksInside asked [] → IsReplyTo asked (step (past_of events) worker asked).reply
  present_replies asked asks =
      subst (λ (made : Effect). IsReplyTo asked made.reply)
      (sym (step_present (past_of events) worker there.session there.rules (entrance_by there.rules worker role there.with')
      there.inside.are_rules there.inside.there there.inside.is_entered may asked [] asks))
      (replies_in there.rules (past_of events) there.session asked [] asks)

  module _ (call : PoolCall) (own : call.worker ≡ worker) where
    present_answers : (asked : Request) → AsksInside asked [] → call.asked ≡ asked → (outcome : Outcome Reply BookError)
        → IsOutcome Answer wants_memory events call outcome → IsAnsweredBy asked outcome
    present_answers asked asks is (Faulted cause) outcome = tt
    present_answers asked asks is (Replied answer) outcome =
        let here : answer ≡ (step (past_of events) worker asked).reply =
        outcome.reply_is ∙ ap (λ w. (step (past_of events) w call.asked).reply) own ∙ ap (λ a. (step (past_of events) worker a).reply) is in
        subst (IsReplyTo asked) (sym here) (present_replies asked asks)

    present_fits : (asked : Request) → call.asked ≡ asked → IsOutcome Answer wants_memory events call call.outcome → IsShareReply asked call.outcome
    present_fits (request.Brief sub) is outcome = brief_fits sub call.outcome (present_answers (request.Brief sub) tt is call.outcome outcome)
    present_fits (request.Commit checked) is outcome = commit_fits checked call.outcome (present_answers (request.Commit checked) tt is call.outcome outcome)
    present_fits _ is outcome = tt

-- a share is booked of who is set up
abbrev SetUpAt : Stage → Option ℕ → Type 0
SetUpAt (Committing brief) flags = is_none flags ≡ false
SetUpAt _ flags = Unit {0}

plain_set_up : (stage : Stage) (flags : Option ℕ) → IsPlain stage → SetUpAt stage flags
plain_set_up (Committing brief) flags plain = absurd plain
plain_set_up _ flags plain = tt

known_set_up : (stage : Stage) (flags : Option ℕ) → is_none flags ≡ false → SetUpAt stage flags
known_set_up (Committing brief) flags known = known
known_set_up _ flags known = tt

module _ (worker : ℕ) (events : List Event) (role : Role) (flags : Option ℕ) (entered : Bool) where
  asking_known : (asked : Request) → StandsAsking worker events role flags entered asked → is_none flags ≡ false
  asking_known (request.Enter entering with') stands = ap is_none stands.1
  asking_known (request.Grant identity (Some path)) stands = ap is_none stands.0.flags_are
  asking_known asked stands = ap is_none stands.0.flags_are

  settled_present : is_none flags ≡ false → IsSettled worker events role flags entered → IsPresent worker events role flags entered
  settled_present known settled =
      elim settled [
        | inl none ↦ let no : is_none flags ≡ true = ap is_none none in absurd cc
        | inr there ↦ there
      ]

  -- who asks about a share is present
  asks_present : (asked : Request) → StandsAsking worker events role flags entered asked → (mines role ≡ true) → (call : PoolCall) → call.worker ≡ worker
      → call.asked ≡ asked → IsOutcome Answer wants_memory events call call.outcome → IsShareReply asked call.outcome
  asks_present (request.Brief sub) stands may call own is outcome = present_fits worker events role flags entered may stands.0 call own (request.Brief sub) is outcome
  asks_present (request.Commit checked) stands may call own is outcome =
      present_fits worker events role flags entered may stands.0 call own (request.Commit checked) is outcome
  asks_present _ stands may call own is outcome = tt

call_fits : (worker : ℕ) (events : List Event) (s : State) (stage : Stage) (call : PoolCall) (put : Put) → mines s.talk.role ≡ true → SetUpAt stage s.talk.flags
    → StandsAt worker events s.talk.role s.talk.flags s.entered stage → call.worker ≡ worker → CanCall stage s call put
    → IsOutcome Answer wants_memory events call call.outcome → AnswersShareCall call
call_fits worker events s (Asking asked) call put may known stands own can outcome =
    subst (λ a. IsShareReply a call.outcome) (sym can.0)
    (asks_present worker events s.talk.role s.talk.flags s.entered asked stands may call own can.0 outcome)
call_fits worker events s (Committing brief) call put may known stands own can outcome =
    present_fits worker events s.talk.role s.talk.flags s.entered may
    (settled_present worker events s.talk.role s.talk.flags s.entered known stands) call own call.asked refl outcome
call_fits worker events s Polling call put may known stands own can outcome = subst (λ a. IsShareReply a call.outcome) (sym can.0) tt
call_fits worker events s (Leaving reason) call put may known stands own can outcome = subst (λ a. IsShareReply a call.outcome) (sym can.0) tt
call_fits worker events s Greeting call put may known stands own can outcome = absurd can
call_fits worker events s Reading call put may known stands own can outcome = absurd can
call_fits worker events s (Refusing code flags) call put may known stands own can outcome = absurd can
call_fits worker events s (Saying bytes) call put may known stands own can outcome = absurd can
call_fits worker events s (Over reason) call put may known stands own can outcome = absurd can

-- ---- its steps

met_role : (talk next : Talk) (frame : FrameValue) (made : Step) → Meets talk frame made next → next.role ≡ talk.role
met_role talk next frame step.Ignore meets = ap (λ t. t.role) meets.1
met_role talk next frame (step.BadMessage kind) meets = ap (λ t. t.role) meets.same
met_role talk next frame (step.Ask asked) meets = led_role talk next talk.flags meets.message (step.Ask asked) meets.leads
met_role talk next frame (step.Say bytes) meets = led_role talk next talk.flags meets.message (step.Say bytes) meets.leads
met_role talk next frame (step.RefuseSetup code flags) meets = led_role talk next talk.flags meets.message (step.RefuseSetup code flags) meets.leads
met_role talk next frame step.BadSetup meets = led_role talk next talk.flags meets.message step.BadSetup meets.leads

called_role : (stage : Stage) (s : State) (call : PoolCall) (put : Put) → (after_call stage s call put).talk.role ≡ s.talk.role
called_role (Asking asked) s call put = asked_role call.outcome where
  asked_role : (outcome : Outcome Reply BookError) → (after_asking s call.front outcome put).talk.role ≡ s.talk.role
  asked_role (Faulted cause) = refl
  asked_role (Replied answer) = refl
called_role (Committing brief) s call put = booked_role call.outcome where
  booked_role : (outcome : Outcome Reply BookError) → (after_booking s outcome put).talk.role ≡ s.talk.role
  booked_role (Faulted cause) = refl
  booked_role (Replied answer) = refl
called_role Polling s call put = told_role call.outcome where
  told_role : (outcome : Outcome Reply BookError) → (after_news s outcome put).talk.role ≡ s.talk.role
  told_role (Faulted cause) = refl
  told_role (Replied answer) = refl
called_role _ s call put = refl

met_known : (entered : Bool) (made : Step) (flags : Option ℕ) → SetUpAt (met_stage entered made) flags
met_known entered step.Ignore flags = tt
met_known entered (step.Ask asked) flags = tt
met_known entered (step.Say bytes) flags = tt
met_known entered (step.RefuseSetup code others) flags = tt
met_known entered step.BadSetup flags = plain_set_up (end_stage entered end.BadSetup) flags (ended_plain entered end.BadSetup)
met_known entered (step.BadMessage kind) flags = plain_set_up (end_stage entered (end.BadMessage kind)) flags (ended_plain entered (end.BadMessage kind))

called_known : (worker : ℕ) (events : List Event) (s : State) (stage : Stage) (call : PoolCall) (put : Put)
    → StandsAt worker events s.talk.role s.talk.flags s.entered stage → SetUpAt stage s.talk.flags → CanCall stage s call put
    → SetUpAt (after_call stage s call put).stage (after_call stage s call put).talk.flags
called_known worker events s (Asking asked) call put stands known can =
    asked_known call.outcome (asking_known worker events s.talk.role s.talk.flags s.entered asked stands) where
      asked_known : (outcome : Outcome Reply BookError) → is_none s.talk.flags ≡ false
          → SetUpAt (after_asking s call.front outcome put).stage (after_asking s call.front outcome put).talk.flags
      asked_known (Faulted cause) some = plain_set_up (end_stage s.entered (fault_end cause)) s.talk.flags (ended_plain s.entered (fault_end cause))
      asked_known (Replied answer) some = known_set_up (after_asking s call.front (Replied answer) put).stage s.talk.flags some
called_known worker events s (Committing brief) call put stands known can = booked_known call.outcome where
  booked_known : (outcome : Outcome Reply BookError) → SetUpAt (after_booking s outcome put).stage (after_booking s outcome put).talk.flags
  booked_known (Faulted cause) = plain_set_up (end_stage s.entered (fault_end cause)) s.talk.flags (ended_plain s.entered (fault_end cause))
  booked_known (Replied answer) =
      plain_set_up (put_stage put.fault s.entered (news_stage s.entered s.idles)) s.talk.flags
      (put_plain put.fault s.entered (news_stage s.entered s.idles) (news_plain s.entered s.idles))
called_known worker events s Polling call put stands known can = told_known call.outcome where
  told_known : (outcome : Outcome Reply BookError) → SetUpAt (after_news s outcome put).stage (after_news s outcome put).talk.flags
  told_known (Faulted cause) = plain_set_up (end_stage s.entered (fault_end cause)) s.talk.flags (ended_plain s.entered (fault_end cause))
  told_known (Replied answer) =
      plain_set_up (put_stage put.fault s.entered (next_stage s.entered s.idles)) s.talk.flags
      (put_plain put.fault s.entered (next_stage s.entered s.idles) (next_plain s.entered s.idles))
called_known worker events s (Leaving reason) call put stands known can = tt
called_known worker events s Greeting call put stands known can = absurd can
called_known worker events s Reading call put stands known can = absurd can
called_known worker events s (Refusing code flags) call put stands known can = absurd can
called_known worker events s (Saying bytes) call put stands known can = absurd can
called_known worker events s (Over reason) call put stands known can = absurd can

-- who mines, is set up where a share is booked, and stands on the history
record MinesThere (worker : ℕ) (events : List Event) (s : State) : Type 0 where
  may : mines s.talk.role ≡ true
  known : SetUpAt s.stage s.talk.flags
  stands : Stands worker events s

step_mines : (worker : ℕ) (events : List Event) (s : State) (x : SessionStep) → MinesThere worker events s → CanStep worker s x → StandsThere events x
    → MinesThere worker (events_behind events x) (after_step s x)
step_mines worker events s x there can is = record {
  may = role_on x can;
  known = known_on x can;
  stands = step_stands worker events s there.stands x can is;
}
  where
    role_on : (x : SessionStep) → CanStep worker s x → mines (after_step s x).talk.role ≡ true
    role_on (frames.Called call put) can = ap mines (called_role s.stage s call put) ∙ there.may
    role_on (frames.Framed met) can = ap mines (met_role s.talk met.talk met.frame met.step can.meets) ∙ there.may
    role_on _ can = there.may

    known_on : (x : SessionStep) → CanStep worker s x → SetUpAt (after_step s x).stage (after_step s x).talk.flags
    known_on (frames.Called call put) can = called_known worker events s s.stage call put there.stands.at there.known can.1
    known_on (frames.Framed met) can = met_known s.entered met.step met.talk.flags
    known_on (frames.Greeted put) can = plain_set_up (put_stage put.fault s.entered Reading) s.talk.flags (put_plain put.fault s.entered Reading tt)
    known_on (frames.Took bytes) can = there.known
    known_on (frames.Refused put) can =
        plain_set_up (put_stage put.fault s.entered (end_stage s.entered end.BadSetup)) s.talk.flags
        (put_plain put.fault s.entered (end_stage s.entered end.BadSetup) (ended_plain s.entered end.BadSetup))
    known_on (frames.Said put) can = plain_set_up (put_stage put.fault s.entered Reading) s.talk.flags (put_plain put.fault s.entered Reading tt)
    known_on (frames.Overran len) can = plain_set_up (end_stage s.entered (end.TooLong len)) s.talk.flags (ended_plain s.entered (end.TooLong len))
    known_on frames.Idled can = plain_set_up (news_stage s.entered (s.idles - 1)) s.talk.flags (news_plain s.entered (s.idles - 1))
    known_on frames.Ended can = plain_set_up (end_stage s.entered (input_end s.unmet)) s.talk.flags (ended_plain s.entered (input_end s.unmet))
    known_on frames.Missed can = plain_set_up (end_stage s.entered end.ReadFault) s.talk.flags (ended_plain s.entered end.ReadFault)
    known_on frames.Starved can = plain_set_up (end_stage s.entered end.Memory) s.talk.flags (ended_plain s.entered end.Memory)
    known_on frames.Spent can = plain_set_up (end_stage s.entered end.BytesOut) s.talk.flags (ended_plain s.entered end.BytesOut)

module _ (worker : ℕ) (t : State) where
  fit_in_turn : (events : List Event) (s : State) (xs : List SessionStep) → MinesThere worker events s → Follows worker s xs t
      → StandInTurn events (calls_in xs) → AllByRecursion AnswersShareCall (calls_in xs)
  fit_in_turn events s [] there follows turns = tt
  fit_in_turn events s (frames.Called call put ∷ xs) there follows turns =
      let turn = first_turn events (frames.Called call put) xs turns in (
        call_fits worker events s s.stage call put there.may there.known there.stands.at follows.0.0 follows.0.1 turn.0,
        fit_in_turn (events ++ call.added) (after_step s (frames.Called call put)) xs
            (step_mines worker events s (frames.Called call put) there follows.0 turn.0) follows.1 turn.1,
      )
  fit_in_turn events s (frames.Greeted put ∷ xs) there follows turns =
      let turn = first_turn events (frames.Greeted put) xs turns in
      fit_in_turn events (after_step s (frames.Greeted put)) xs (step_mines worker events s (frames.Greeted put) there follows.0 turn.0) follows.1 turn.1
  fit_in_turn events s (frames.Took bytes ∷ xs) there follows turns =
      let turn = first_turn events (frames.Took bytes) xs turns in
      fit_in_turn events (after_step s (frames.Took bytes)) xs (step_mines worker events s (frames.Took bytes) there follows.0 turn.0) follows.1 turn.1
  fit_in_turn events s (frames.Framed met ∷ xs) there follows turns =
      let turn = first_turn events (frames.Framed met) xs turns in
      fit_in_turn events (after_step s (frames.Framed met)) xs (step_mines worker events s (frames.Framed met) there follows.0 turn.0) follows.1 turn.1
  fit_in_turn events s (frames.Refused put ∷ xs) there follows turns =
      let turn = first_turn events (frames.Refused put) xs turns in
      fit_in_turn events (after_step s (frames.Refused put)) xs (step_mines worker events s (frames.Refused put) there follows.0 turn.0) follows.1 turn.1
  fit_in_turn events s (frames.Said put ∷ xs) there follows turns =
      let turn = first_turn events (frames.Said put) xs turns in
      fit_in_turn events (after_step s (frames.Said put)) xs (step_mines worker events s (frames.Said put) there follows.0 turn.0) follows.1 turn.1
  fit_in_turn events s (frames.Overran len ∷ xs) there follows turns =
      let turn = first_turn events (frames.Overran len) xs turns in
      fit_in_turn events (after_step s (frames.Overran len)) xs (step_mines worker events s (frames.Overran len) there follows.0 turn.0) follows.1 turn.1
  fit_in_turn events s (frames.Idled ∷ xs) there follows turns =
      let turn = first_turn events frames.Idled xs turns in
      fit_in_turn events (after_step s frames.Idled) xs (step_mines worker events s frames.Idled there follows.0 turn.0) follows.1 turn.1
  fit_in_turn events s (frames.Ended ∷ xs) there follows turns =
      let turn = first_turn events frames.Ended xs turns in
      fit_in_turn events (after_step s frames.Ended) xs (step_mines worker events s frames.Ended there follows.0 turn.0) follows.1 turn.1
  fit_in_turn events s (frames.Missed ∷ xs) there follows turns =
      let turn = first_turn events frames.Missed xs turns in
      fit_in_turn events (after_step s frames.Missed) xs (step_mines worker events s frames.Missed there follows.0 turn.0) follows.1 turn.1
  fit_in_turn events s (frames.Starved ∷ xs) there follows turns =
      let turn = first_turn events frames.Starved xs turns in
      fit_in_turn events (after_step s frames.Starved) xs (step_mines worker events s frames.Starved there follows.0 turn.0) follows.1 turn.1
  fit_in_turn events s (frames.Spent ∷ xs) there follows turns =
      let turn = first_turn events frames.Spent xs turns in
      fit_in_turn events (after_step s frames.Spent) xs (step_mines worker events s frames.Spent there follows.0 turn.0) follows.1 turn.1

pub in_turn_answered : (worker : ℕ) (manner : Manner) (from : List Event) (rules : Rules) (steps : List SessionStep) (last : State) → mines manner.role ≡ true
    → rules_of (past_of from) ≡ Some rules → Follows worker (new_state manner) steps last → StandInTurn from (calls_in steps)
    → AnswersShares worker manner steps
in_turn_answered worker manner from rules steps last may are follows turns =
    answers_shares worker manner steps last follows
    (fit_in_turn worker last from (new_state manner) steps
    (record { may = may; known = tt; stands = record { rules = rules; are_rules = are; at = inl refl } }) follows turns)
