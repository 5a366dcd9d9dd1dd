-- What a caller asks behind the call that entered its session finds it entered.
use Rattle.std.proofs.Common.{◌≡◌, ℕ, Option, None, Some, List, [], ◌∷◌, ◌++◌, take, refl, ap, subst, sym, ◌∙◌, append_assoc}
use Rattle.std.proofs.lemmas.Bool.{cond_both}
use Rattle.std.specs.Prelude.{bit_and, nat_lt}
use Rattle.std.specs.List.{AllByRecursion}
use Rattle.std.specs.Option.{option_to_list}
use Rattle.pool_base.proofs.Behind.{all-map, callers-go_on}
use Rattle.pool_base.specs.Standing.{StandInOrder, StandsBehind}
use Rattle.pool_history.specs.declared.asking.Request.TheVariants as request
use Rattle.pool_history.specs.declared.events.Event.{Event}
use Rattle.pool_history.specs.declared.events.Event.TheVariants as event
use Rattle.pool_history.specs.declared.events.Role.{Role}
use Rattle.pool_history.specs.declared.replies.Reply.{Reply}
use Rattle.pool_history.specs.declared.replies.Reply.TheVariants as reply
use Rattle.pool_history.specs.declared.settings.Rules.{Rules}
use Rattle.pool_history.specs.Answering.{Answer, Effect, with_event, step_under, without_event}
use Rattle.pool_history.specs.Calls.{IsGoodPoolCall, PoolCall}
use Rattle.pool_history.specs.Legal.{allowed_flags}
use Rattle.pool_history.specs.Refusing.{most_enters}
use Rattle.pool_history.specs.Sessions.{enters, past_of, rules_of}
use Rattle.history_laws.specs.Serving.{Enters, FindsEntered, SessionsAskBehindTheirEnter}
use Rattle.history_laws.proofs.CallsServed.{calls-answered}
use Rattle.history_laws.proofs.Entrances.{none-some, some-same}

-- the session that a reply says was entered
abbrev said : Reply → Option ℕ
said (reply.Entered session) = Some session
said reply.NoSession = None
said (reply.PoolFull most) = None
said answer = None

-- a step that answers so made the Enter of that session, with the flags that the rules allow
record MadeEnter (past : List Event) (o : Option Rules) (worker : ℕ) (role : Role) (flags session : ℕ) (step : Effect) : Type 0 where
  rules : Rules
  are_rules : o ≡ Some rules
  event_is : step.event ≡ Some (event.Enter worker role (bit_and flags (allowed_flags rules)))
  number : enters past ≡ session

step-made : (past : List Event) (worker : ℕ) (role : Role) (flags session : ℕ) (o : Option Rules)
    → (step_under o past worker (request.Enter role flags)).reply ≡ reply.Entered session
    → MadeEnter past o worker role flags session (step_under o past worker (request.Enter role flags))
step-made past worker role flags session None is =
    let no : ◌≡◌ {A = Option ℕ} None (Some session) = ap said is in
    absurd (none-some no)
step-made past worker role flags session (Some rules) was =
    cond_both (nat_lt (enters past) most_enters) (with_event (event.Enter worker role (bit_and flags (allowed_flags rules))) (reply.Entered (enters past)))
    (without_event (reply.PoolFull most_enters)) (λ s. s.reply ≡ reply.Entered session → MadeEnter past (Some rules) worker role flags session s)
    (λ few is. record { rules = rules; are_rules = refl; event_is = refl; number = some-same (ap said is) })
    (λ full is. absurd (none-some (ap said is))) was

-- the call that entered a session added its Enter
record AddedEnter (history : List Event) (enter : PoolCall) (role : Role) (flags session : ℕ) : Type 0 where
  rules : Rules
  are_rules : rules_of (past_of (take enter.front history)) ≡ Some rules
  added : enter.added ≡ event.Enter enter.worker role (bit_and flags (allowed_flags rules)) ∷ []
  number : enters (past_of (take enter.front history)) ≡ session

entered-it : (history : List Event) (enter : PoolCall) (role : Role) (flags session : ℕ) → IsGoodPoolCall history enter → Enters enter role flags session
    → AddedEnter history enter role flags session
entered-it history enter role flags session g e =
    let before : List Event = take enter.front history in
    let a : Answer before enter.worker (request.Enter role flags) enter.added (reply.Entered session) =
    subst (λ asked. Answer before enter.worker asked enter.added (reply.Entered session)) e.asked
    (calls-answered history enter (reply.Entered session) g e.entered) in
    let m : MadeEnter (past_of before) (rules_of (past_of before)) enter.worker role flags session (step_under (rules_of (past_of before)) (past_of before) enter.worker (request.Enter role flags)) =
    step-made (past_of before) enter.worker role flags session (rules_of (past_of before)) (sym a.reply_is) in
    record { rules = m.rules; are_rules = m.are_rules; added = a.events_are ∙ ap option_to_list m.event_is; number = m.number }

finds-it : (history : List Event) (enter : PoolCall) (role : Role) (flags session : ℕ) → AddedEnter history enter role flags session
    → (call : PoolCall) → StandsBehind history enter call → FindsEntered history (take enter.front history) enter.worker role flags session call
finds-it history enter role flags session made call s = record {
  rules = made.rules;
  are_rules = made.are_rules;
  has_entered = record {
    before = take enter.front history;
    after = s.between;
    parts = s.behind ∙ ap (λ l. (take enter.front history ++ l) ++ s.between) made.added
        ∙ append_assoc (take enter.front history) (event.Enter enter.worker role (bit_and flags (allowed_flags made.rules)) ∷ []) s.between;
    number = made.number;
  };
}

-- the calls behind one of a caller's
behind-it : (history : List Event) (earlier later : List PoolCall) (call : PoolCall) → StandInOrder history (earlier ++ call ∷ later)
    → AllByRecursion (StandsBehind history call) later
behind-it history [] later call h = h.0
behind-it history (first ∷ earlier) later call h = behind-it history earlier later call h.1

pub sessions-behind : SessionsAskBehindTheirEnter
sessions-behind start history least most known now earlier later others enter role flags session parted rising g e =
    all-map (StandsBehind history enter) (FindsEntered history (take enter.front history) enter.worker role flags session)
    (finds-it history enter role flags session (entered-it history enter role flags session g e)) later
    (behind-it history earlier later enter (callers-go_on start history least most known now (earlier ++ enter ∷ later) others parted rising))
