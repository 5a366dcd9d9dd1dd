-- Each step of a session leaves it set up and present, or neither.
use Rattle.std.proofs.Common.{◌≡◌, ℕ, ◌-◌, Bool, true, false, Option, Some, List, ◌++◌, inr, refl, sym, ap, subst, ◌∙◌}
use Rattle.std.proofs.lemmas.Bool.{cond_both}
use Rattle.std.specs.Prelude.{bit_and, nat_lt}
use Rattle.pool_base.specs.Calls.{IsOutcome, Outcome, Replied, Faulted}
use Rattle.pool_history.specs.declared.asking.Request.{Request}
use Rattle.pool_history.specs.declared.asking.Request.TheVariants as request
use Rattle.pool_history.specs.declared.events.Event.{Event}
use Rattle.pool_history.specs.declared.events.Event.TheVariants as event
use Rattle.pool_history.specs.declared.events.Role.{Role}
use Rattle.pool_history.specs.declared.refusals.BookError.{BookError}
use Rattle.pool_history.specs.declared.replies.Reply.{Reply}
use Rattle.pool_history.specs.declared.replies.Reply.TheVariants as reply
use Rattle.pool_history.specs.declared.settings.Rules.{Rules}
use Rattle.pool_history.specs.Answering.{Answer, Effect, step, step_under, with_event, without_event}
use Rattle.pool_history.specs.Calls.{PoolCall, wants_memory}
use Rattle.pool_history.specs.Headers.{Briefing}
use Rattle.pool_history.specs.Legal.{allowed_flags}
use Rattle.pool_history.specs.Refusing.{most_enters}
use Rattle.pool_history.specs.Sessions.{enters, past_of, rules_of}
use Rattle.history_laws.proofs.Legalities.{past-one}
use Rattle.pool_promises.specs.Presence.{moves_session}
use Rattle.pool_promises.proofs.Stepping.{Begins, enter_begins}
use Rattle.session_steps.specs.declared.about.About.{About}
use Rattle.session_steps.specs.declared.about.About.TheVariants as topic
use Rattle.session_steps.specs.declared.ends.SessionEnd.{SessionEnd}
use Rattle.session_steps.specs.declared.ends.SessionEnd.TheVariants as end
use Rattle.session_steps.specs.States.{State, Stage, Asking, Committing, Greeting, Leaving, Over, Polling, Reading, Refusing, Saying, Put, answered_stage, end_stage, entered_after, fault_end, hears, input_end, news_stage, next_stage, put_stage}
use Rattle.session_steps.specs.Steps as steps
use Rattle.session_steps.specs.Steps.{Books, CanCall, CanStep, Says, SessionStep, after_asking, after_booking, after_call, after_news, after_step, ended_by}
use Rattle.pool_promises.proofs.Stages.{answered_quiet, news_quiet, next_quiet}
use Rattle.pool_promises.proofs.DeclaredPresent.{IsPresent, IsSettled, StandsAsking, StandsAt, ended_at, put_at, rules_on, present_on, settled_at, settled_on}
use Rattle.pool_promises.proofs.Meeting.{met_stands}

-- where a session of a worker stands on a history
pub record Stands (worker : ℕ) (events : List Event) (s : State) : Type 0 where
  pub rules : Rules
  pub are_rules : rules_of (past_of events) ≡ Some rules
  pub at : StandsAt worker events s.talk.role s.talk.flags s.entered s.stage

-- the history behind a step, and what is known of the step's call
abbrev pub events_behind : List Event → SessionStep → List Event
events_behind events (steps.Called call put) = events ++ call.added
events_behind events _ = events

abbrev pub StandsThere : List Event → SessionStep → Type 0
StandsThere events (steps.Called call put) = IsOutcome Answer wants_memory events call call.outcome
StandsThere events _ = Unit {0}

-- ---- an Enter

abbrev IsOfEnter : Reply → Type 0
IsOfEnter (reply.Entered session) = Unit {0}
IsOfEnter (reply.PoolFull most) = Unit {0}
IsOfEnter _ = ⊥

module _ (worker : ℕ) (events : List Event) (role : Role) (flags : ℕ) (rules : Rules)
    (are : rules_of (past_of events) ≡ Some rules) where
  enter_replied : IsOfEnter (step (past_of events) worker (request.Enter role flags)).reply
  enter_replied =
      let past = past_of events in
      subst (λ o. IsOfEnter (step_under o past worker (request.Enter role flags)).reply) (sym are)
      (cond_both (nat_lt (enters past) most_enters)
      (with_event (event.Enter worker role (bit_and flags (allowed_flags rules))) (reply.Entered (enters past)))
      (without_event (reply.PoolFull most_enters)) (λ (made : Effect). IsOfEnter made.reply) (λ few. tt) (λ full. tt))

  module _ (added : List Event) (about : About) (entered : Bool) (idles : ℕ) where
    begun_at : (session : ℕ) → Answer events worker (request.Enter role flags) added (reply.Entered session)
        → IsPresent worker (events ++ added) role (Some flags) true
    begun_at session is =
        let begins : Begins (past_of events) worker role flags session (step (past_of events) worker (request.Enter role flags)).event =
        enter_begins (past_of events) worker role flags session (sym is.reply_is) in
        record {
          with' = flags;
          flags_are = refl;
          entered_is = refl;
          session = session;
          rules = begins.rules;
          inside = rw (is.events_are, begins.made_is, past-one events begins.event) begins.inside;
        }

    answered_enter : (answer : Reply) → Answer events worker (request.Enter role flags) added answer → IsOfEnter answer
        → StandsAt worker (events ++ added) role (Some flags) (entered_after entered answer)
        (answered_stage about (entered_after entered answer) idles answer)
    answered_enter (reply.Entered session) is fits = inr (begun_at session is)
    answered_enter (reply.PoolFull most) is fits =
        ended_at worker (events ++ added) role (Some flags) entered entered end.PoolFull
    answered_enter _ is fits = absurd fits

    pub entered_at : (answer : Reply) → Answer events worker (request.Enter role flags) added answer
        → StandsAt worker (events ++ added) role (Some flags) (entered_after entered answer)
        (answered_stage about (entered_after entered answer) idles answer)
    entered_at answer is = answered_enter answer is (subst IsOfEnter (sym is.reply_is) enter_replied)

-- ---- another request

books_harmless : (about : About) (brief : Briefing) (asked : Request) → Books about brief asked → moves_session asked ≡ false
books_harmless (topic.Share sub) brief (request.Commit checked) books = refl
books_harmless (topic.Share sub) brief _ books = absurd books
books_harmless topic.Nothing brief asked books = absurd books
books_harmless (topic.Opening request_id kind) brief asked books = absurd books
books_harmless (topic.Channel channel) brief asked books = absurd books
books_harmless (topic.Token request_id) brief asked books = absurd books
books_harmless (topic.OwnJob channel request_id) brief asked books = absurd books
books_harmless (topic.Declared request_id) brief asked books = absurd books

entered_stays : (entered : Bool) (answer : Reply) → entered ≡ true → entered_after entered answer ≡ true
entered_stays entered (reply.Entered session) is = refl
entered_stays entered _ is = is

module _ (worker : ℕ) (events : List Event) (call : PoolCall) (own : call.worker ≡ worker) where
  module _ (role : Role) (flags : Option ℕ) (entered : Bool) (about : About) (idles : ℕ) (answer : Reply)
      (is : IsOutcome Answer wants_memory events call (Replied answer)) where
    heard_at : (asked : Request) → call.asked ≡ asked → moves_session asked ≡ false
        → IsPresent worker events role flags entered
        → StandsAt worker (events ++ call.added) role flags (entered_after entered answer)
        (answered_stage about (entered_after entered answer) idles answer)
    heard_at asked asked_is harmless there =
        let on = present_on worker events call own (ap moves_session asked_is ∙ harmless) role flags entered (Replied answer) is there in
        settled_at worker (events ++ call.added) role flags (entered_after entered answer)
        (answered_stage about (entered_after entered answer) idles answer)
        (answered_quiet about (entered_after entered answer) idles answer)
        (inr (record {
          with' = on.with';
          flags_are = on.flags_are;
          entered_is = entered_stays entered answer on.entered_is;
          session = on.session;
          rules = on.rules;
          inside = on.inside;
        }))

    asked_at : (asked : Request) → call.asked ≡ asked → (rules : Rules) → rules_of (past_of events) ≡ Some rules
        → StandsAsking worker events role flags entered asked
        → StandsAt worker (events ++ call.added) role flags (entered_after entered answer)
        (answered_stage about (entered_after entered answer) idles answer)
    asked_at (request.Enter entering with') asked_is rules are stands =
        let answered : Answer events worker (request.Enter role with') call.added answer =
        subst (λ r. Answer events worker (request.Enter r with') call.added answer) stands.0
        (subst (λ a. Answer events worker a call.added answer) asked_is
        (subst (λ w. Answer events w call.asked call.added answer) own is)) in
        subst (λ f. StandsAt worker (events ++ call.added) role f (entered_after entered answer)
        (answered_stage about (entered_after entered answer) idles answer)) (sym stands.1)
        (entered_at worker events role with' rules are call.added about entered idles answer answered)
    asked_at (request.Grant identity (Some path)) asked_is rules are stands =
        heard_at (request.Grant identity (Some path)) asked_is refl stands.0
    asked_at asked asked_is rules are stands = heard_at asked asked_is stands.1 stands.0

  module _ (s : State) (put : Put) (rules : Rules) (are : rules_of (past_of events) ≡ Some rules) where
    -- at a stage where the session's talk stays
    abbrev At : Stage → Type 0
    At stage = StandsAt worker (events ++ call.added) s.talk.role s.talk.flags s.entered stage

    stands_by : (t : State) → (outcome : Outcome Reply BookError) → IsOutcome Answer wants_memory events call outcome
        → StandsAt worker (events ++ call.added) t.talk.role t.talk.flags t.entered t.stage
        → Stands worker (events ++ call.added) t
    stands_by t outcome is at =
        record { rules = rules; are_rules = rules_on worker events call own outcome is rules are; at = at }

    asking : (asked : Request) (outcome : Outcome Reply BookError) → IsOutcome Answer wants_memory events call outcome
        → call.asked ≡ asked → StandsAsking worker events s.talk.role s.talk.flags s.entered asked
        → Stands worker (events ++ call.added) (after_asking s call.front outcome put)
    asking asked (Faulted cause) is asked_is stands =
        stands_by (after_asking s call.front (Faulted cause) put) (Faulted cause) is
        (ended_at worker (events ++ call.added) s.talk.role s.talk.flags s.entered s.entered (fault_end cause))
    asking asked (Replied answer) is asked_is stands =
        let h = hears s call.front answer in
        stands_by (after_asking s call.front (Replied answer) put) (Replied answer) is
        (put_at worker (events ++ call.added) s.talk.role s.talk.flags h.entered put.fault h.entered
        (answered_stage h.talk.about h.entered h.idles answer)
        (asked_at s.talk.role s.talk.flags s.entered h.talk.about h.idles answer is asked asked_is rules are stands))

    -- bookings and polls
    module _ (harmless : moves_session call.asked ≡ false)
        (settled : IsSettled worker events s.talk.role s.talk.flags s.entered) where
      on : (outcome : Outcome Reply BookError) → IsOutcome Answer wants_memory events call outcome
          → IsSettled worker (events ++ call.added) s.talk.role s.talk.flags s.entered
      on outcome is = settled_on worker events call own harmless s.talk.role s.talk.flags s.entered outcome is settled

      booking : (outcome : Outcome Reply BookError) → IsOutcome Answer wants_memory events call outcome
          → Stands worker (events ++ call.added) (after_booking s outcome put)
      booking (Faulted cause) is =
          stands_by (after_booking s (Faulted cause) put) (Faulted cause) is
          (ended_at worker (events ++ call.added) s.talk.role s.talk.flags s.entered s.entered (fault_end cause))
      booking (Replied answer) is =
          stands_by (after_booking s (Replied answer) put) (Replied answer) is
          (put_at worker (events ++ call.added) s.talk.role s.talk.flags s.entered put.fault s.entered
          (news_stage s.entered s.idles)
          (settled_at worker (events ++ call.added) s.talk.role s.talk.flags s.entered (news_stage s.entered s.idles)
          (news_quiet s.entered s.idles) (on (Replied answer) is)))

      polling : (outcome : Outcome Reply BookError) → IsOutcome Answer wants_memory events call outcome
          → Stands worker (events ++ call.added) (after_news s outcome put)
      polling (Faulted cause) is =
          stands_by (after_news s (Faulted cause) put) (Faulted cause) is
          (ended_at worker (events ++ call.added) s.talk.role s.talk.flags s.entered s.entered (fault_end cause))
      polling (Replied answer) is =
          stands_by (after_news s (Replied answer) put) (Replied answer) is
          (put_at worker (events ++ call.added) s.talk.role s.talk.flags s.entered put.fault s.entered
          (next_stage s.entered s.idles)
          (settled_at worker (events ++ call.added) s.talk.role s.talk.flags s.entered (next_stage s.entered s.idles)
          (next_quiet s.entered s.idles) (on (Replied answer) is)))

    called : (stage : Stage) → CanCall stage s call put
        → StandsAt worker events s.talk.role s.talk.flags s.entered stage
        → IsOutcome Answer wants_memory events call call.outcome
        → Stands worker (events ++ call.added) (after_call stage s call put)
    called (Asking asked) can stands is = asking asked call.outcome is can.0 stands
    called (Committing brief) can stands is =
        booking (books_harmless s.talk.about brief call.asked can.0) stands call.outcome is
    called Polling can stands is = polling (ap moves_session can.0) stands call.outcome is
    called (Leaving reason) can stands is =
        stands_by (after_call (Leaving reason) s call put) call.outcome is tt
    called Greeting can stands is = absurd can
    called Reading can stands is = absurd can
    called (Refusing code flags) can stands is = absurd can
    called (Saying bytes) can stands is = absurd can
    called (Over reason) can stands is = absurd can

-- ---- any step

module _ (worker : ℕ) (events : List Event) (s : State) (stands : Stands worker events s) where
  abbrev AtEnd : Stage → Type 0
  AtEnd stage = StandsAt worker events s.talk.role s.talk.flags s.entered stage

  stays_by : (t : State) → StandsAt worker events t.talk.role t.talk.flags t.entered t.stage → Stands worker events t
  stays_by t at = record { rules = stands.rules; are_rules = stands.are_rules; at = at }

  over_by : (t : State) (reason : SessionEnd) → t ≡ ended_by reason s → Stands worker events t
  over_by t reason is =
      rw is (stays_by (ended_by reason s) (ended_at worker events s.talk.role s.talk.flags s.entered s.entered reason))

  settled : (stage : Stage) → s.stage ≡ stage → AtEnd stage
  settled stage is = subst AtEnd is stands.at

  put_on : (put : Put) → IsSettled worker events s.talk.role s.talk.flags s.entered
      → AtEnd (put_stage put.fault s.entered Reading)
  put_on put there = put_at worker events s.talk.role s.talk.flags s.entered put.fault s.entered Reading there

  said : (stage : Stage) (put : Put) → Says stage put → AtEnd stage → AtEnd (put_stage put.fault s.entered Reading)
  said (Saying bytes) put says there = put_on put there
  said (Refusing code flags) put says there = absurd says
  said Greeting put says there = absurd says
  said Reading put says there = absurd says
  said (Asking asked) put says there = absurd says
  said (Committing brief) put says there = absurd says
  said Polling put says there = absurd says
  said (Leaving reason) put says there = absurd says
  said (Over reason) put says there = absurd says

  pub step_stands : (x : SessionStep) → CanStep worker s x → StandsThere events x
      → Stands worker (events_behind events x) (after_step s x)
  step_stands (steps.Called call put) can is =
      called worker events call can.0 s put stands.rules stands.are_rules s.stage can.1 stands.at is
  step_stands (steps.Framed met) can is =
      stays_by (after_step s (steps.Framed met))
      (met_stands worker events s.talk met.talk s.entered met.frame met.step (settled Reading can.reading) can.meets)
  step_stands (steps.Greeted put) can is =
      stays_by (after_step s (steps.Greeted put)) (put_on put (settled Greeting can.0))
  step_stands (steps.Took bytes) can is = stays_by (after_step s (steps.Took bytes)) stands.at
  step_stands (steps.Refused put) can is =
      stays_by (after_step s (steps.Refused put))
      (put_at worker events s.talk.role s.talk.flags s.entered put.fault s.entered (end_stage s.entered end.BadSetup)
      (ended_at worker events s.talk.role s.talk.flags s.entered s.entered end.BadSetup))
  step_stands (steps.Said put) can is =
      stays_by (after_step s (steps.Said put)) (said s.stage put can stands.at)
  step_stands (steps.Overran len) can is = over_by (after_step s (steps.Overran len)) (end.TooLong len) refl
  step_stands steps.Idled can is =
      stays_by (after_step s steps.Idled)
      (settled_at worker events s.talk.role s.talk.flags s.entered (news_stage s.entered (s.idles - 1))
      (news_quiet s.entered (s.idles - 1)) (settled Reading can.waiting.reading))
  step_stands steps.Ended can is = over_by (after_step s steps.Ended) (input_end s.unmet) refl
  step_stands steps.Missed can is = over_by (after_step s steps.Missed) end.ReadFault refl
  step_stands steps.Starved can is = over_by (after_step s steps.Starved) end.Memory refl
  step_stands steps.Spent can is = over_by (after_step s steps.Spent) end.BytesOut refl
