-- Frames of declarations, and replies to Grants for them, are answered by the rules.
use Rattle.std.proofs.Common.{◌≡◌, ℕ, true, false, Option, None, Some, List, [], ◌++◌, inl, inr, refl, sym, ap, subst, ◌∙◌}
use Rattle.std.proofs.lemmas.Bool.{false≢true}
use Rattle.sv2_frames.specs.Framing.{FrameValue}
use Rattle.sv2_messages.specs.Messages.{Message}
use Rattle.pool_history.specs.declared.asking.Request.{Request}
use Rattle.pool_history.specs.declared.asking.Request.TheVariants as request
use Rattle.pool_history.specs.declared.replies.Reply.{Reply}
use Rattle.pool_history.specs.declared.replies.Reply.TheVariants as reply
use Rattle.pool_history.specs.Calls.{PoolCall}
use Rattle.job_declaration.specs.declared.asked.Asked.{Asked}
use Rattle.job_declaration.specs.declared.asked.Asked.TheVariants as asks
use Rattle.job_declaration.specs.Declaring.{Answer, Says, AsksGrant, reaction, reply_frames}
use Rattle.job_declaration.specs.Moves.{DeclareMove, declared_answer, state_after}
use Rattle.session_steps.specs.declared.about.About.TheVariants as topic
use Rattle.session_steps.specs.declared.meeting.Step.{Step}
use Rattle.session_steps.specs.declared.meeting.Step.TheVariants as step
use Rattle.session_steps.specs.Answers.{answer_frames, grant_error_frames, token_frames}
use Rattle.session_steps.specs.Meeting.{AsksNext, AsksWork, Brings, LeadsBy, Meets}
use Rattle.session_steps.specs.States.{State, Stage, Asking, Committing, Greeting, Leaving, Over, Polling, Reading, Refusing, Saying, Put, IsPutOf}
use Rattle.session_steps.specs.Steps as steps
use Rattle.session_steps.specs.Steps.{CanCall, PutsHeard, SessionStep, bytes_of_frames}
use Rattle.session_steps.specs.Taken.{is_declared_kind, is_taken}
use Rattle.session_steps.specs.Talks.{Talk, heard}
use Rattle.pool_promises.specs.Answers.{AnswersBy, AnswersDeclared, AnswersMessage, answers_grant}
use Rattle.pool_promises.specs.Declaring.{DeclarationsAreByRules, DeclaredGrantsAreAnswered}
use Rattle.pool_promises.specs.Moves.{is_heard}
use Rattle.pool_promises.proofs.Undeclared.{asks_undeclared, no_setup}
use Rattle.pool_promises.proofs.Stages.{books_unheard}
use Rattle.pool_promises.proofs.Standing.{AsksForDeclaration, StandsAsked, StandsAt, stands_before}

-- ---- frames

module _ (past : List DeclareMove) (talk next : Talk) (frame : FrameValue)
    (known : talk.declarations ≡ state_after past) (is : is_declared_kind frame.kind ≡ true) where
  -- what is led to is led to behind the setup
  led_behind : (flags : Option ℕ) (message : Message) (made : Step) → talk.flags ≡ flags → is_taken talk frame ≡ true
      → LeadsBy flags talk message made next → AsksNext message talk made next
  led_behind None message made none taken leads = absurd (no_setup talk frame none taken is)
  led_behind (Some flags) message made some taken leads = leads

  no_work : (message : Message) (asked : Request) → Brings frame message → AsksWork message talk asked next → ⊥
  no_work message asked brought work =
      false≢true (sym (asks_undeclared message asked work.0 work.1) ∙ ap is_declared_kind brought.same_kind ∙ is)

  answered : (message : Message) (answer : Answer) (made : Step) → is_taken talk frame ≡ true → Brings frame message
      → (reaction talk.declarations message).answer ≡ answer → AnswersBy answer made → AnswersMessage talk past frame made
  answered message answer made taken brought answer_is answers =
      let by_rules : answer ≡ declared_answer past message =
      sym answer_is ∙ ap (λ state. (reaction state message).answer) known in
      record {
        taken = taken;
        message = message;
        brought = brought;
        answers = subst (λ a. AnswersBy a made) by_rules answers;
      }

  next_answers : (message : Message) (made : Step) → is_taken talk frame ≡ true → Brings frame message
      → AsksNext message talk made next → AnswersMessage talk past frame made
  next_answers message (step.Ask asked) taken brought asked_for =
      elim asked_for [
        | inl work ↦ absurd (no_work message asked brought work)
        | inr declared ↦
            answered message (AsksGrant declared.identity declared.path) (step.Ask asked) taken brought declared.answer
            (ap step.Ask declared.asked_is)
      ]
  next_answers message (step.Say bytes) taken brought says =
      answered message (Says says.frames) (step.Say bytes) taken brought says.answer (ap step.Say says.said)
  next_answers message step.Ignore taken brought leads = absurd leads
  next_answers message (step.RefuseSetup code flags) taken brought leads = absurd leads
  next_answers message step.BadSetup taken brought leads = absurd leads
  next_answers message (step.BadMessage kind) taken brought leads = absurd leads

  meets_answers : (made : Step) → Meets talk frame made next → AnswersDeclared talk past frame made
  meets_answers step.Ignore meets = meets.0
  meets_answers (step.BadMessage kind) meets = record { taken = meets.taken; none = meets.none }
  meets_answers (step.Ask asked) meets =
      next_answers meets.message (step.Ask asked) meets.taken meets.brought
      (led_behind talk.flags meets.message (step.Ask asked) refl meets.taken meets.leads)
  meets_answers (step.Say bytes) meets =
      next_answers meets.message (step.Say bytes) meets.taken meets.brought
      (led_behind talk.flags meets.message (step.Say bytes) refl meets.taken meets.leads)
  meets_answers (step.RefuseSetup code flags) meets =
      next_answers meets.message (step.RefuseSetup code flags) meets.taken meets.brought
      (led_behind talk.flags meets.message (step.RefuseSetup code flags) refl meets.taken meets.leads)
  meets_answers step.BadSetup meets =
      next_answers meets.message step.BadSetup meets.taken meets.brought
      (led_behind talk.flags meets.message step.BadSetup refl meets.taken meets.leads)

pub by_rules : DeclarationsAreByRules
by_rules worker manner before later met last takes follows =
    let at = stands_before worker manner before later (steps.Framed met) last takes follows in
    record {
      past = at.stands.past;
      moves = at.stands.moves;
      s = at.s;
      follows = at.follows;
      knows = at.stands.knows;
      answers = λ is. meets_answers at.stands.past at.s.talk met.talk met.frame at.stands.knows is met.step at.can.meets;
    }

-- ---- replies

unheard_grant : (asked : Request) (identity : List ℕ) (path : List (List ℕ)) → is_heard asked ≡ false
    → asked ≡ request.Grant identity (Some path) → ⊥
unheard_grant asked identity path unheard is = false≢true (sym unheard ∙ ap is_heard is)

-- a Grant of a path is called for a declaration alone
pub grant_called : (done : List SessionStep) (s : State) (call : PoolCall) (put : Put) (identity : List ℕ) (path : List (List ℕ))
    → call.asked ≡ request.Grant identity (Some path) → (stage : Stage) → CanCall stage s call put → StandsAt done s.talk stage
    → AsksForDeclaration done s.talk identity path × PutsHeard s.talk call.outcome put
grant_called done s call put identity path is (Asking asked) can at =
    (subst (λ a. StandsAsked done s.talk a) (sym can.0 ∙ is) at, can.1)
grant_called done s call put identity path is (Committing brief) can at =
    absurd (unheard_grant call.asked identity path (books_unheard s.talk.about brief call.asked can.0) is)
grant_called done s call put identity path is Polling can at =
    absurd (unheard_grant call.asked identity path (ap is_heard can.0) is)
grant_called done s call put identity path is (Leaving reason) can at =
    absurd (unheard_grant call.asked identity path (ap is_heard can.0) is)
grant_called done s call put identity path is Greeting can at = absurd can
grant_called done s call put identity path is Reading can at = absurd can
grant_called done s call put identity path is (Refusing code flags) can at = absurd can
grant_called done s call put identity path is (Saying bytes) can at = absurd can
grant_called done s call put identity path is (Over reason) can at = absurd can

-- the session's frames are those of the rules
declared_frames : (talk : Talk) (asked : Asked) (request_id : ℕ) (answer : Reply) → answers_grant answer ≡ true
    → talk.about ≡ topic.Declared request_id → asked ≡ asks.Declared request_id
    → answer_frames talk answer ≡ reply_frames asked answer
declared_frames talk asked request_id (reply.Granted number script) grants about_it asked_it =
    ap (λ about. token_frames about number script ++ []) about_it
    ∙ sym (ap (λ a. reply_frames a (reply.Granted number script)) asked_it)
declared_frames talk asked request_id (reply.GrantRefused error) grants about_it asked_it =
    ap (λ about. grant_error_frames about ++ []) about_it
    ∙ sym (ap (λ a. reply_frames a (reply.GrantRefused error)) asked_it)
declared_frames talk asked request_id reply.NoSession grants about_it asked_it =
    sym (ap (λ a. reply_frames a reply.NoSession) asked_it)
declared_frames talk asked request_id _ grants about_it asked_it = absurd (false≢true grants)

pub grants_answered : DeclaredGrantsAreAnswered
grants_answered worker manner before later call put last identity path answer takes follows is outcome_is grants =
    let at = stands_before worker manner before later (steps.Called call put) last takes follows in
    let asked_for = grant_called before at.s call put identity path is at.s.stage at.can.1 at.stands.stage in
    let asked_is : (state_after at.stands.past).asked ≡ asks.Declared asked_for.0.request_id =
    sym (ap (λ state. state.asked) at.stands.knows) ∙ asked_for.0.asked_it in
    let frames : answer_frames (heard at.s.talk answer) answer ≡ reply_frames (state_after at.stands.past).asked answer =
    declared_frames (heard at.s.talk answer) (state_after at.stands.past).asked asked_for.0.request_id answer grants
    asked_for.0.about_it asked_is in
    let puts : IsPutOf (bytes_of_frames (answer_frames (heard at.s.talk answer) answer)) put =
    subst (λ o. PutsHeard at.s.talk o put) outcome_is asked_for.1 in
    record {
      past = at.stands.past;
      moves = at.stands.moves;
      request_id = asked_for.0.request_id;
      asked_is = asked_is;
      put_is = subst (λ f. IsPutOf (bytes_of_frames f) put) frames puts;
    }
