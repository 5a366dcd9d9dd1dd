-- After any steps a session knows of declarations what the rules make of its moves, and a Grant that it
-- is to ask for a path was asked for by the frame that it met last.
use Rattle.std.proofs.Common.{◌≡◌, ℕ, ◌-◌, Bool, true, false, Option, None, Some, List, [], ◌∷◌, ◌++◌, inl, inr, refl, sym, ap, ap₂, subst, ◌∙◌, append_assoc, append-nil}
use Rattle.pool_base.specs.Calls.{Outcome, Replied, Faulted}
use Rattle.sv2_messages.specs.Messages.{Message}
use Rattle.pool_history.specs.declared.asking.Request.{Request}
use Rattle.pool_history.specs.declared.asking.Request.TheVariants as request
use Rattle.pool_history.specs.declared.refusals.BookError.{BookError}
use Rattle.pool_history.specs.declared.replies.Reply.{Reply}
use Rattle.pool_history.specs.Calls.{PoolCall}
use Rattle.job_declaration.specs.declared.asked.Asked.TheVariants as asks
use Rattle.job_declaration.specs.Declaring as declaring
use Rattle.job_declaration.specs.Declaring.{AsksGrant, reaction}
use Rattle.job_declaration.specs.Moves.{DeclareMove, Heard, declared_answer, state_after}
use Rattle.session_steps.specs.declared.manner.Manner.{Manner}
use Rattle.session_steps.specs.declared.about.About.{About}
use Rattle.session_steps.specs.declared.about.About.TheVariants as topic
use Rattle.session_steps.specs.declared.ends.SessionEnd.TheVariants as end
use Rattle.session_steps.specs.declared.meeting.Step.{Step}
use Rattle.session_steps.specs.declared.meeting.Step.TheVariants as step
use Rattle.session_steps.specs.Asking.{Asks}
use Rattle.session_steps.specs.Meeting.{AsksDeclared, AsksNext, Brings, LeadsBy, Meets, SetsUp, about_asked}
use Rattle.session_steps.specs.Setups.{Setup, Accepted, Refused, Unsuited, setup_in}
use Rattle.session_steps.specs.States.{State, Stage, Asking, Committing, Greeting, Leaving, Over, Polling, Reading, Refusing, Saying, Put, answered_stage, end_stage, fault_end, hears, input_end, new_state, put_stage}
use Rattle.session_steps.specs.Steps as steps
use Rattle.session_steps.specs.Steps.{CanCall, CanStep, Follows, SessionStep, after_asking, after_call, after_step, met_stage}
use Rattle.session_steps.specs.Talks.{Talk}
use Rattle.session_steps.proofs.Streams.{step_declares}
use Rattle.pool_promises.specs.Moves.{HaveMoves, TellsMoves, is_heard, moves_after}
use Rattle.pool_promises.specs.Paths.{IsAskedByRules}
use Rattle.pool_promises.proofs.Accepting.{accepts}
use Rattle.pool_promises.proofs.Stages.{IsQuiet, StaysQuiet, answered_quiet, booking_quiet, books_unheard, ended_quiet, news_quiet, put_quiet, told_quiet}
use Rattle.pool_promises.proofs.Telling.{meets_tells}

-- ---- stages

-- a Grant of a path is to be asked for, for a declaration that the frame before has brought
pub record AsksForDeclaration (done : List SessionStep) (talk : Talk) (identity : List ℕ)
    (path : List (List ℕ)) : Type 0 where
  pub request_id : ℕ
  pub about_it : talk.about ≡ topic.Declared request_id
  pub asked_it : talk.declarations.asked ≡ asks.Declared request_id
  pub by_rules : IsAskedByRules done identity path

-- what is to be asked for a frame
abbrev pub StandsAsked : List SessionStep → Talk → Request → Type 0
StandsAsked done talk (request.Grant identity (Some path)) = AsksForDeclaration done talk identity path
StandsAsked done talk (request.Commit checked) = ⊥
StandsAsked done talk (request.Poll from) = ⊥
StandsAsked done talk request.Leave = ⊥
StandsAsked done talk (request.Name channel identity) = ⊥
StandsAsked done talk _ = Unit {0}

abbrev pub StandsAt : List SessionStep → Talk → Stage → Type 0
StandsAt done talk (Asking asked) = StandsAsked done talk asked
StandsAt done talk _ = Unit {0}

quiet_stands : (done : List SessionStep) (talk : Talk) (stage : Stage) → IsQuiet stage → StandsAt done talk stage
quiet_stands done talk (Asking asked) quiet = absurd quiet
quiet_stands done talk _ quiet = tt

heard_asked : (done : List SessionStep) (talk : Talk) (asked : Request) → StandsAsked done talk asked → is_heard asked ≡ true
heard_asked done talk (request.Commit checked) stands = absurd stands
heard_asked done talk (request.Poll from) stands = absurd stands
heard_asked done talk request.Leave stands = absurd stands
heard_asked done talk (request.Name channel identity) stands = absurd stands
heard_asked done talk _ stands = refl

-- ---- frames

no_path : {X : Type 0} (path : List (List ℕ)) → Some path ≡ None → X
no_path path is = absurd cc

-- a request of a session's work fixes no path
work_stands : (done : List SessionStep) (talk : Talk) (message : Message) (asked : Request) (about : About)
    → Asks message asked about → StandsAsked done talk asked
work_stands done talk message (request.Grant identity (Some path)) about asked_for = no_path path asked_for.any_path
work_stands done talk message (request.Commit checked) about asked_for = absurd asked_for
work_stands done talk message (request.Poll from) about asked_for = absurd asked_for
work_stands done talk message request.Leave about asked_for = absurd asked_for
work_stands done talk message (request.Name channel identity) about asked_for = absurd asked_for
work_stands done talk message _ about asked_for = tt

-- and that of a declaration one by the rules
module _ (done : List SessionStep) (met : steps.Met) (past : List DeclareMove) (moves : HaveMoves [] done past)
    (talk next : Talk) (known : talk.declarations ≡ state_after past) where
  abbrev behind : List SessionStep
  behind = done ++ steps.Framed met ∷ []

  declared_stands : (message : Message) (asked : Request) → Brings met.frame message → AsksDeclared message talk asked next
      → StandsAsked behind next asked
  declared_stands message asked brought declared =
      let answer : declared_answer past message ≡ AsksGrant declared.identity declared.path =
      sym (ap (λ state. (reaction state message).answer) known) ∙ declared.answer in
      let accepted = accepts past message declared.identity declared.path answer in
      let asked_it : (reaction talk.declarations message).after.asked ≡ asks.Declared accepted.request_id =
      ap (λ state. (reaction state message).after.asked) known ∙ accepted.asked_is in
      subst (λ a. StandsAsked behind next a) (sym declared.asked_is)
      (record {
        request_id = accepted.request_id;
        about_it = ap (λ t. t.about) declared.next_is ∙ ap about_asked asked_it;
        asked_it = ap (λ t. t.declarations.asked) declared.next_is ∙ asked_it;
        by_rules = record {
          earlier = done;
          met = met;
          parts = refl;
          past = past;
          moves = moves;
          message = message;
          brought = brought;
          answer = answer;
        };
      })

  set_up_stands : (setup : Setup) (asked : Request) → SetsUp setup talk (step.Ask asked) next → StandsAsked behind next asked
  set_up_stands (Accepted flags) asked sets =
      let made : step.Ask asked ≡ step.Ask (request.Enter talk.role flags) = sets.0 in
      let enters : request.Enter talk.role flags ≡ asked = cc in
      subst (λ a. StandsAsked behind next a) enters tt
  set_up_stands (Refused code flags) asked sets =
      let no : step.Ask asked ≡ step.RefuseSetup code flags = sets.0 in absurd cc
  set_up_stands Unsuited asked sets = let no : step.Ask asked ≡ step.BadSetup = sets.0 in absurd cc

  next_stands : (message : Message) (asked : Request) → Brings met.frame message → AsksNext message talk (step.Ask asked) next
      → StandsAsked behind next asked
  next_stands message asked brought asked_for =
      elim asked_for [
        | inl work ↦ work_stands behind next message asked work.0 work.1
        | inr declared ↦ declared_stands message asked brought declared
      ]

  leads_stands : (flags : Option ℕ) (message : Message) (asked : Request) → Brings met.frame message
      → LeadsBy flags talk message (step.Ask asked) next → StandsAsked behind next asked
  leads_stands None message asked brought leads = set_up_stands (setup_in talk.role talk.rolling message) asked leads
  leads_stands (Some flags) message asked brought leads = next_stands message asked brought leads

  met_stands : (made : Step) (entered : Bool) → Meets talk met.frame made next → StandsAt behind next (met_stage entered made)
  met_stands (step.Ask asked) entered meets = leads_stands talk.flags meets.message asked meets.brought meets.leads
  met_stands step.Ignore entered meets = tt
  met_stands (step.Say bytes) entered meets = tt
  met_stands (step.RefuseSetup code flags) entered meets = tt
  met_stands step.BadSetup entered meets =
      quiet_stands behind next (end_stage entered end.BadSetup) (ended_quiet entered end.BadSetup)
  met_stands (step.BadMessage kind) entered meets =
      quiet_stands behind next (end_stage entered (end.BadMessage kind)) (ended_quiet entered (end.BadMessage kind))

-- ---- steps

-- where a session stands that takes declarations, after these steps
pub record StandsDeclaring (done : List SessionStep) (s : State) : Type 0 where
  pub takes : s.talk.declares ≡ true
  pub past : List DeclareMove
  pub moves : HaveMoves [] done past
  pub knows : s.talk.declarations ≡ state_after past
  pub stage : StandsAt done s.talk s.stage

more_moves : (start : List DeclareMove) (done : List SessionStep) (past now : List DeclareMove) (x : SessionStep)
    → HaveMoves start done past → TellsMoves past x now → HaveMoves start (done ++ x ∷ []) now
more_moves start [] past now x have tells = (now, subst (λ p. TellsMoves p x now) have tells, refl)
more_moves start (y ∷ done) past now x have tells =
    (have.0, have.1, more_moves have.0 done past now x have.2 tells)

module _ (done : List SessionStep) (s : State) (stands : StandsDeclaring done s) where
  quiet : (x : SessionStep) (t : State) → TellsMoves stands.past x stands.past → StaysQuiet s t
      → StandsDeclaring (done ++ x ∷ []) t
  quiet x t tells stays =
      record {
        takes = ap (λ talk. talk.declares) stays.talk ∙ stands.takes;
        past = stands.past;
        moves = more_moves [] done stands.past stands.past x stands.moves tells;
        knows = ap (λ talk. talk.declarations) stays.talk ∙ stands.knows;
        stage = quiet_stands (done ++ x ∷ []) t.talk t.stage stays.stage;
      }

  framed : (worker : ℕ) (met : steps.Met) → CanStep worker s (steps.Framed met)
      → StandsDeclaring (done ++ steps.Framed met ∷ []) (after_step s (steps.Framed met))
  framed worker met can =
      let told = meets_tells stands.past s.talk met.talk met.frame stands.takes stands.knows met.step can.meets in
      record {
        takes = step_declares worker s (steps.Framed met) can ∙ stands.takes;
        past = told.now;
        moves = more_moves [] done stands.past told.now (steps.Framed met) stands.moves told.tells;
        knows = told.knows;
        stage = met_stands done met stands.past stands.moves s.talk met.talk stands.knows met.step s.entered can.meets;
      }

  -- a call for a frame
  module _ (call : PoolCall) (put : Put) where
    asking : (outcome : Outcome Reply BookError) → is_heard call.asked ≡ true → call.outcome ≡ outcome
        → StandsDeclaring (done ++ steps.Called call put ∷ []) (after_asking s call.front outcome put)
    asking (Faulted cause) heard is =
        quiet (steps.Called call put) (after_asking s call.front (Faulted cause) put)
        (sym (ap₂ (λ h o. moves_after h o stands.past) heard is))
        (record { talk = refl; stage = ended_quiet s.entered (fault_end cause) })
    asking (Replied answer) heard is =
        let h = hears s call.front answer in
        let x = steps.Called call put in
        let now = Heard answer ∷ stands.past in
        let reached = put_stage put.fault h.entered (answered_stage h.talk.about h.entered h.idles answer) in
        record {
          takes = stands.takes;
          past = now;
          moves = more_moves [] done stands.past now x stands.moves
              (sym (ap₂ (λ h o. moves_after h o stands.past) heard is));
          knows = ap (λ state. declaring.heard state answer) stands.knows;
          stage = quiet_stands (done ++ x ∷ []) h.talk reached
              (put_quiet put.fault h.entered (answered_stage h.talk.about h.entered h.idles answer)
              (answered_quiet h.talk.about h.entered h.idles answer));
        }

    -- another call
    unheard : (t : State) → is_heard call.asked ≡ false → StaysQuiet s t
        → StandsDeclaring (done ++ steps.Called call put ∷ []) t
    unheard t not_heard stays =
        quiet (steps.Called call put) t (sym (ap (λ h. moves_after h call.outcome stands.past) not_heard)) stays

    called : (stage : Stage) → CanCall stage s call put → StandsAt done s.talk stage
        → StandsDeclaring (done ++ steps.Called call put ∷ []) (after_call stage s call put)
    called (Asking asked) can at = asking call.outcome (ap is_heard can.0 ∙ heard_asked done s.talk asked at) refl
    called (Committing brief) can at =
        unheard (after_call (Committing brief) s call put) (books_unheard s.talk.about brief call.asked can.0)
        (booking_quiet s call.outcome put)
    called Polling can at =
        unheard (after_call Polling s call put) (ap is_heard can.0) (told_quiet s call.outcome put)
    called (Leaving reason) can at =
        unheard (after_call (Leaving reason) s call put) (ap is_heard can.0) (record { talk = refl; stage = tt })
    called Greeting can at = absurd can
    called Reading can at = absurd can
    called (Refusing code flags) can at = absurd can
    called (Saying bytes) can at = absurd can
    called (Over reason) can at = absurd can

  step_stands : (worker : ℕ) (x : SessionStep) → CanStep worker s x → StandsDeclaring (done ++ x ∷ []) (after_step s x)
  step_stands worker (steps.Framed met) can = framed worker met can
  step_stands worker (steps.Called call put) can = called call put s.stage can.1 stands.stage
  step_stands worker (steps.Greeted put) can =
      quiet (steps.Greeted put) (after_step s (steps.Greeted put)) refl
      (record { talk = refl; stage = put_quiet put.fault s.entered Reading tt })
  step_stands worker (steps.Took bytes) can =
      quiet (steps.Took bytes) (after_step s (steps.Took bytes)) refl
      (record { talk = refl; stage = subst IsQuiet (sym can.can.waiting.reading) tt })
  step_stands worker (steps.Refused put) can =
      quiet (steps.Refused put) (after_step s (steps.Refused put)) refl
      (record {
        talk = refl;
        stage = put_quiet put.fault s.entered (end_stage s.entered end.BadSetup) (ended_quiet s.entered end.BadSetup);
      })
  step_stands worker (steps.Said put) can =
      quiet (steps.Said put) (after_step s (steps.Said put)) refl
      (record { talk = refl; stage = put_quiet put.fault s.entered Reading tt })
  step_stands worker (steps.Overran len) can =
      quiet (steps.Overran len) (after_step s (steps.Overran len)) refl
      (record { talk = refl; stage = ended_quiet s.entered (end.TooLong len) })
  step_stands worker steps.Idled can =
      quiet steps.Idled (after_step s steps.Idled) refl
      (record { talk = refl; stage = news_quiet s.entered (s.idles - 1) })
  step_stands worker steps.Ended can =
      quiet steps.Ended (after_step s steps.Ended) refl
      (record { talk = refl; stage = ended_quiet s.entered (input_end s.unmet) })
  step_stands worker steps.Missed can =
      quiet steps.Missed (after_step s steps.Missed) refl
      (record { talk = refl; stage = ended_quiet s.entered end.ReadFault })
  step_stands worker steps.Starved can =
      quiet steps.Starved (after_step s steps.Starved) refl
      (record { talk = refl; stage = ended_quiet s.entered end.Memory })
  step_stands worker steps.Spent can =
      quiet steps.Spent (after_step s steps.Spent) refl
      (record { talk = refl; stage = ended_quiet s.entered end.BytesOut })

stands_on : (worker : ℕ) (done : List SessionStep) (s t : State) (xs : List SessionStep) → StandsDeclaring done s
    → Follows worker s xs t → StandsDeclaring (done ++ xs) t
stands_on worker done s t [] stands follows = rw (follows, append-nil done) stands
stands_on worker done s t (x ∷ xs) stands follows =
    subst (λ l. StandsDeclaring l t) (append_assoc done (x ∷ []) xs)
    (stands_on worker (done ++ x ∷ []) (after_step s x) t xs (step_stands done s stands worker x follows.0) follows.1)

-- ---- a step of a session

-- a state to which steps lead, and at which this one may come
pub record ComesAfter (worker : ℕ) (first : State) (before : List SessionStep) (x : SessionStep) :
    Type 0 where
  pub s : State
  pub follows : Follows worker first before s
  pub can : CanStep worker s x

comes_after : (worker : ℕ) (first last : State) (before later : List SessionStep) (x : SessionStep)
    → Follows worker first (before ++ x ∷ later) last → ComesAfter worker first before x
comes_after worker first last [] later x follows = record { s = first; follows = refl; can = follows.0 }
comes_after worker first last (y ∷ before) later x follows =
    let rest = comes_after worker (after_step first y) last before later x follows.1 in
    record { s = rest.s; follows = (follows.0, rest.follows); can = rest.can }

-- with what holds there
pub record StandsBefore (worker : ℕ) (manner : Manner) (before : List SessionStep) (x : SessionStep) :
    Type 0 where
  pub s : State
  pub follows : Follows worker (new_state manner) before s
  pub can : CanStep worker s x
  pub stands : StandsDeclaring before s

pub stands_before : (worker : ℕ) (manner : Manner) (before later : List SessionStep) (x : SessionStep) (last : State)
    → manner.declares ≡ true → Follows worker (new_state manner) (before ++ x ∷ later) last
    → StandsBefore worker manner before x
stands_before worker manner before later x last takes follows =
    let comes = comes_after worker (new_state manner) last before later x follows in
    let begins : StandsDeclaring [] (new_state manner) =
    record { takes = takes; past = []; moves = refl; knows = refl; stage = tt } in
    record {
      s = comes.s;
      follows = comes.follows;
      can = comes.can;
      stands = stands_on worker [] (new_state manner) comes.s before begins comes.follows;
    }
