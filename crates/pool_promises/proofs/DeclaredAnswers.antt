-- Each declaration that has a Grant asked for is answered by the next step.
use Rattle.std.proofs.Common.{◌≡◌, ℕ, true, Some, List, [], ◌∷◌, ◌++◌, inl, refl, sym, ap, subst, ◌∙◌, append_assoc}
use Rattle.pool_base.specs.Calls.{IsOutcome, Outcome, Replied, Faulted}
use Rattle.pool_history.specs.declared.asking.Request.{Request}
use Rattle.pool_history.specs.declared.asking.Request.TheVariants as request
use Rattle.pool_history.specs.declared.events.Event.{Event}
use Rattle.pool_history.specs.declared.refusals.BookError.{BookError}
use Rattle.pool_history.specs.declared.replies.Reply.{Reply}
use Rattle.pool_history.specs.declared.replies.Reply.TheVariants as reply
use Rattle.pool_history.specs.Answering.{Answer, step}
use Rattle.pool_history.specs.Calls.{PoolCall, wants_memory}
use Rattle.pool_history.specs.Sessions.{past_of}
use Rattle.session_steps.specs.declared.ends.SessionEnd.{SessionEnd}
use Rattle.session_steps.specs.declared.manner.Manner.{Manner}
use Rattle.session_steps.specs.States.{State, Asking, Greeting, Over, Reading, Put, new_state}
use Rattle.session_steps.specs.Steps as steps
use Rattle.session_steps.specs.Steps.{CanCall, CanStarve, CanStep, Follows, Met, PutsHeard, Refuses, Says, SessionStep, after_step, calls_in, met_stage}
use Rattle.session_steps.specs.Taken.{brings_own_jobs}
use Rattle.pool_promises.specs.Answers.{IsAnsweredByRules, answers_grant}
use Rattle.pool_promises.specs.Declaring.{DeclaredGrantsAreAnswered}
use Rattle.pool_sessions.specs.Calling.{StandInTurn}
use Rattle.pool_promises.specs.Declared.{AnswersGrant, AnswersNext, is_of_grant}
use Rattle.pool_promises.specs.DeclaredLedgers.{DeclarationsAreAnswered}
use Rattle.pool_promises.proofs.DeclaredPresent.{IsPresent, StandsAt}
use Rattle.pool_promises.proofs.Granting.{grant_replied}
use Rattle.pool_promises.proofs.DeclaredStepping.{Stands, StandsThere, events_behind, step_stands}

-- ---- the steps of a session, and the history that each finds

-- what is known of the first of these steps, and of the others
pub first_turn : (events : List Event) (x : SessionStep) (later : List SessionStep) → StandInTurn events (calls_in (x ∷ later))
    → StandsThere events x × StandInTurn (events_behind events x) (calls_in later)
first_turn events (steps.Called call put) later turns = (turns.1, turns.2)
first_turn events (steps.Greeted put) later turns = (tt, turns)
first_turn events (steps.Took bytes) later turns = (tt, turns)
first_turn events (steps.Framed met) later turns = (tt, turns)
first_turn events (steps.Refused put) later turns = (tt, turns)
first_turn events (steps.Said put) later turns = (tt, turns)
first_turn events (steps.Overran len) later turns = (tt, turns)
first_turn events steps.Idled later turns = (tt, turns)
first_turn events steps.Ended later turns = (tt, turns)
first_turn events steps.Missed later turns = (tt, turns)
first_turn events steps.Starved later turns = (tt, turns)
first_turn events steps.Spent later turns = (tt, turns)

-- a state at which these steps are to come
record Comes (worker : ℕ) (later : List SessionStep) (last : State) : Type 0 where
  events : List Event
  s : State
  stands : Stands worker events s
  follows : Follows worker s later last
  turns : StandInTurn events (calls_in later)

comes_on : (worker : ℕ) (before later : List SessionStep) (last : State) → Comes worker (before ++ later) last → Comes worker later last
comes_on worker [] later last comes = comes
comes_on worker (x ∷ before) later last comes =
    let turn = first_turn comes.events x (before ++ later) comes.turns in
    comes_on worker before later last
    (record {
      events = events_behind comes.events x;
      s = after_step comes.s x;
      stands = step_stands worker comes.events comes.s comes.stands x comes.follows.0 turn.0;
      follows = comes.follows.1;
      turns = turn.1;
    })

-- ---- the step that asks

module _ (grants : DeclaredGrantsAreAnswered) (worker : ℕ) (manner : Manner) (all : List SessionStep) (last : State)
    (takes : manner.declares ≡ true) (follows : Follows worker (new_state manner) all last)
    (identity : List ℕ) (path : List (List ℕ)) where
  abbrev asked : Request
  asked = request.Grant identity (Some path)

  module _ (before others : List SessionStep) (call : PoolCall) (put : Put)
      (parts : all ≡ before ++ steps.Called call put ∷ others) (asked_is : call.asked ≡ asked) where
    replied : (answer : Reply) → call.outcome ≡ Replied answer → is_of_grant answer ≡ true
        → IsAnsweredByRules before answer put
    replied answer is fits =
        grants worker manner before others call put last identity path answer takes
        (subst (λ l. Follows worker (new_state manner) l last) parts follows) asked_is is (of_grant answer fits)
      where
        of_grant : (answer : Reply) → is_of_grant answer ≡ true → answers_grant answer ≡ true
        of_grant (reply.Granted number script) fits = refl
        of_grant (reply.GrantRefused error) fits = refl
        of_grant _ fits = absurd cc

    answered : (events : List Event) (s : State) → call.worker ≡ worker
        → IsPresent worker events s.talk.role s.talk.flags s.entered × (brings_own_jobs s.talk.role s.talk.flags ≡ true)
        → PutsHeard s.talk call.outcome put
        → (outcome : Outcome Reply BookError) → call.outcome ≡ outcome → IsOutcome Answer wants_memory events call outcome
        → AnswersGrant before outcome put
    answered events s own there puts (Faulted cause) is found =
        subst (λ o. PutsHeard s.talk o put) is puts
    answered events s own there puts (Replied answer) is found =
        let step_is : answer ≡ (step (past_of events) worker asked).reply =
        subst (λ a. answer ≡ (step (past_of events) worker a).reply) asked_is
        (subst (λ w. answer ≡ (step (past_of events) w call.asked).reply) own found.reply_is) in
        let fits : is_of_grant answer ≡ true =
        ap is_of_grant step_is
        ∙ grant_replied worker events s.talk.role s.talk.flags s.entered identity path there.0 there.1 in
        (fits, replied answer is fits)

  -- the stage at which it asks: nothing but the call may come
  module _ (before : List SessionStep) (events : List Event) (s : State) (stands : Stands worker events s)
      (stage_is : s.stage ≡ Asking asked) (reason : SessionEnd) (over : last.stage ≡ Over reason) where
    not_over : s ≡ last → {X : Type 0} → X
    not_over is = let no : Asking asked ≡ Over reason = sym stage_is ∙ ap (λ (t : State). t.stage) is ∙ over in absurd cc

    next_answers : (later : List SessionStep) → all ≡ before ++ later → Follows worker s later last
        → StandInTurn events (calls_in later) → AnswersNext before identity path later
    next_answers [] parts comes turns = not_over (sym comes)
    next_answers (steps.Called call put ∷ others) parts comes turns =
        let can : CanCall (Asking asked) s call put = subst (λ g. CanCall g s call put) stage_is comes.0.1 in
        let at : StandsAt worker events s.talk.role s.talk.flags s.entered (Asking asked) =
        subst (λ g. StandsAt worker events s.talk.role s.talk.flags s.entered g) stage_is stands.at in
        record {
          call = call;
          put = put;
          others = others;
          next = refl;
          asked_is = can.0;
          answered = answered before others call put parts can.0 events s comes.0.0 at can.1 call.outcome refl turns.1;
        }
    next_answers (steps.Greeted put ∷ others) parts comes turns =
        let no : Asking asked ≡ Greeting = sym stage_is ∙ comes.0.0 in absurd cc
    next_answers (steps.Took bytes ∷ others) parts comes turns =
        let no : Asking asked ≡ Reading = sym stage_is ∙ comes.0.can.waiting.reading in absurd cc
    next_answers (steps.Framed met ∷ others) parts comes turns =
        let no : Asking asked ≡ Reading = sym stage_is ∙ comes.0.reading in absurd cc
    next_answers (steps.Refused put ∷ others) parts comes turns =
        absurd (subst (λ g. Refuses g put) stage_is comes.0)
    next_answers (steps.Said put ∷ others) parts comes turns = absurd (subst (λ g. Says g put) stage_is comes.0)
    next_answers (steps.Overran len ∷ others) parts comes turns =
        let no : Asking asked ≡ Reading = sym stage_is ∙ comes.0.reading in absurd cc
    next_answers (steps.Idled ∷ others) parts comes turns =
        let no : Asking asked ≡ Reading = sym stage_is ∙ comes.0.waiting.reading in absurd cc
    next_answers (steps.Ended ∷ others) parts comes turns =
        let no : Asking asked ≡ Reading = sym stage_is ∙ comes.0.waiting.reading in absurd cc
    next_answers (steps.Missed ∷ others) parts comes turns =
        let no : Asking asked ≡ Reading = sym stage_is ∙ comes.0.waiting.reading in absurd cc
    next_answers (steps.Starved ∷ others) parts comes turns = absurd (subst CanStarve stage_is comes.0)
    next_answers (steps.Spent ∷ others) parts comes turns =
        let no : Asking asked ≡ Reading = sym stage_is ∙ comes.0.0.reading in absurd cc

-- ---- the law

pub grants_answered : DeclaredGrantsAreAnswered → DeclarationsAreAnswered
grants_answered grants worker manner from all last reason rules takes are follows over turns before later met identity path parts made_is =
    let comes : Comes worker (steps.Framed met ∷ later) last =
    comes_on worker before (steps.Framed met ∷ later) last
    (record {
      events = from;
      s = new_state manner;
      stands = record { rules = rules; are_rules = are; at = inl refl };
      follows = subst (λ l. Follows worker (new_state manner) l last) parts follows;
      turns = subst (λ l. StandInTurn from (calls_in l)) parts turns;
    }) in
    let s = after_step comes.s (steps.Framed met) in
    next_answers grants worker manner all last takes follows identity path (before ++ steps.Framed met ∷ []) comes.events s
    (step_stands worker comes.events comes.s comes.stands (steps.Framed met) comes.follows.0 tt)
    (ap (met_stage comes.s.entered) made_is) reason over later
    (parts ∙ sym (append_assoc before (steps.Framed met ∷ []) later)) comes.follows.1 comes.turns
