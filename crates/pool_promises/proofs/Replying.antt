-- What is replied to a session that is present, and to its Enter.
use Rattle.std.proofs.Common.{◌≡◌, ℕ, true, Option, None, Some, Result, Ok, Err, List, [], ◌∷◌, take, refl, ap, subst, sym, ◌∙◌}
use Rattle.std.proofs.Math.Dec.{eqb}
use Rattle.std.proofs.lemmas.Bool.{cond_both}
use Rattle.std.specs.List.{AllByRecursion}
use Rattle.std.specs.Prelude.{bit_and, if◌then◌else◌, nat_lt}
use Rattle.pool_base.specs.Calls.{Faulted, Outcome, Replied}
use Rattle.pool_history.specs.declared.asking.OpenAsk.{OpenAsk}
use Rattle.pool_history.specs.declared.asking.Request.{Request}
use Rattle.pool_history.specs.declared.asking.Request.TheVariants as request
use Rattle.pool_history.specs.declared.events.Event.{Event}
use Rattle.pool_history.specs.declared.events.Event.TheVariants as event
use Rattle.pool_history.specs.declared.events.Role.{Role}
use Rattle.pool_history.specs.declared.refusals.BookError.{BookError}
use Rattle.pool_history.specs.declared.refusals.Failed.{Failed}
use Rattle.pool_history.specs.declared.refusals.NameError.{NameError}
use Rattle.pool_history.specs.declared.refusals.OpenError.{OpenError}
use Rattle.pool_history.specs.declared.refusals.UpdateError.{UpdateError}
use Rattle.pool_history.specs.declared.replies.Reply.{Reply}
use Rattle.pool_history.specs.declared.replies.Reply.TheVariants as reply
use Rattle.pool_history.specs.declared.settings.Rules.{Rules}
use Rattle.pool_history.specs.declared.shares.Checked.{Checked}
use Rattle.pool_history.specs.declared.shares.Submission.{Submission}
use Rattle.pool_history.specs.Accounts.{account_of, is_empty}
use Rattle.pool_history.specs.Answering.{Effect, briefing, classing, committing, crediting, naming, opening, permits, step, step_as, step_by, step_for, step_in, step_under, unless_refused, with_event, with_found, without_event}
use Rattle.pool_history.specs.Calls.{IsGoodPoolCall, PoolCall}
use Rattle.pool_history.specs.Channels.{OpenChannel, present_class}
use Rattle.pool_history.specs.Crediting.{last_failed}
use Rattle.pool_history.specs.Judging.{Admitted, admission, share_of}
use Rattle.pool_history.specs.Legal.{allowed_flags}
use Rattle.pool_history.specs.Refusing.{class_for, most_enters, nameable, openable, own_channel, updatable}
use Rattle.pool_history.specs.Sessions.{Entrance, enters, entrance, mines, past_of, present, rules_of}
use Rattle.history_laws.proofs.CallsServed.{calls-answered}
use Rattle.v1_sessions.specs.Laws.{IsAnswered, IsAnsweredBy, IsReplyTo}
use Rattle.pool_promises.specs.Presence.{FindsPresent, entrance_by}
use Rattle.pool_promises.proofs.Calling.{AskInside, AsksInside}

-- ---- a request of a session that mines

module _ (rules : Rules) (past : List Event) (session : ℕ) where
  replies_open : (ask : OpenAsk) (found : Result (List ℕ) OpenError) → IsReplyTo (request.Open ask) (with_found reply.OpenRefused (opening rules past session ask) found).reply
  replies_open ask (Err refusal) = tt
  replies_open ask (Ok lead) = tt

  replies_name : (channel : ℕ) (identity : List ℕ) (found : Result OpenChannel NameError)
      → IsReplyTo (request.Name channel identity) (with_found reply.NameRefused (naming session channel (account_of identity)) found).reply
  replies_name channel identity (Err refusal) = tt
  replies_name channel identity (Ok there) =
      cond_both (is_empty there.account) (with_event (event.Name session channel (account_of identity)) reply.Named) (without_event reply.Named)
      (λ (s : Effect). IsReplyTo (request.Name channel identity) s.reply) (λ empty. tt) (λ has. tt)

  replies_update : (channel : ℕ) (target : List ℕ) (found : Result OpenChannel UpdateError)
      → IsReplyTo (request.Update channel target) (with_found reply.UpdateRefused (classing session channel (class_for rules target)) found).reply
  replies_update channel target (Err refusal) = tt
  replies_update channel target (Ok there) =
      cond_both (eqb (class_for rules target) (present_class there)) (without_event (reply.Target channel (class_for rules target)))
      (with_event (event.Class session channel (class_for rules target)) (reply.Target channel (class_for rules target)))
      (λ (s : Effect). IsReplyTo (request.Update channel target) s.reply) (λ same. tt) (λ other. tt)

  replies_brief : (sub : Submission) (found : Result Admitted Failed) → IsReplyTo (request.Brief sub) (briefing rules found).reply
  replies_brief sub (Err failed) = tt
  replies_brief sub (Ok with) = tt

  replies_last : (checked : Checked) (failed : Option Failed) (made : Effect) → IsReplyTo (request.Commit checked) made.reply
      → IsReplyTo (request.Commit checked) (unless_refused reply.Refused failed made).reply
  replies_last checked None made is = is
  replies_last checked (Some failed) made is = tt

  replies_commit : (checked : Checked) (found : Result Admitted Failed) → IsReplyTo (request.Commit checked) (committing rules past session (share_of checked.sub) found).reply
  replies_commit checked (Err failed) = tt
  replies_commit checked (Ok with) =
      replies_last checked (last_failed rules past (share_of checked.sub) (Ok with)) (crediting session (share_of checked.sub) with) tt

  pub replies_in : (asked : Request) (later : List PoolCall) → AsksInside asked later → IsReplyTo asked (step_in rules past session asked).reply
  replies_in (request.Open ask) later asks = replies_open ask (openable rules past session ask)
  replies_in (request.Name channel identity) later asks = replies_name channel identity (nameable rules (account_of identity) (own_channel past session channel))
  replies_in (request.Update channel target) later asks = replies_update channel target (updatable target (own_channel past session channel))
  replies_in (request.Brief sub) later asks = replies_brief sub (admission rules past session (share_of sub))
  replies_in (request.Commit checked) later asks = replies_commit checked (admission rules past session (share_of checked.sub))
  replies_in (request.Poll from) later asks = tt
  replies_in request.Leave later asks = tt
  replies_in _ later asks = absurd asks

  -- it may ask all of these
  may_ask : (entered : Entrance) → mines entered.role ≡ true → (asked : Request) (later : List PoolCall) → AsksInside asked later → permits asked entered ≡ true
  may_ask entered may (request.Open ask) later asks = may
  may_ask entered may (request.Name channel identity) later asks = may
  may_ask entered may (request.Update channel target) later asks = may
  may_ask entered may (request.Brief sub) later asks = may
  may_ask entered may (request.Commit checked) later asks = may
  may_ask entered may (request.Poll from) later asks = refl
  may_ask entered may request.Leave later asks = refl
  may_ask entered may _ later asks = absurd asks

  -- and none of them is an Enter
  step_of_present : (worker : ℕ) (asked : Request) (later : List PoolCall) → AsksInside asked later → step_by rules past worker asked ≡ step_for rules past asked (present past worker)
  step_of_present worker (request.Enter role flags) later asks = absurd asks
  step_of_present worker asked later asks = refl

pub step_present : (past : List Event) (worker session : ℕ) (rules : Rules) (entered : Entrance) → rules_of past ≡ Some rules → present past worker ≡ Some session
    → entrance past session ≡ Some entered → mines entered.role ≡ true → (asked : Request) (later : List PoolCall) → AsksInside asked later
    → step past worker asked ≡ step_in rules past session asked
step_present past worker session rules entered are there is may asked later asks =
    ap (λ o. step_under o past worker asked) are ∙ step_of_present rules past session worker asked later asks ∙ ap (step_for rules past asked) there
    ∙ ap (step_as rules past asked session) is
    ∙ ap (λ b. if b then step_in rules past session asked else without_event reply.NoSession) (may_ask rules past session entered may asked later asks)

-- ---- a call of it

module _ (history : List Event) (call : PoolCall) (good : IsGoodPoolCall history call) where
  -- what is replied is a reply to it where the answer of the history is one
  is_answered : IsReplyTo call.asked (step (past_of (take call.front history)) call.worker call.asked).reply → (o : Outcome Reply BookError) → call.outcome ≡ o
      → IsAnsweredBy call.asked o
  is_answered fits (Faulted cause) is = tt
  is_answered fits (Replied answer) is = subst (IsReplyTo call.asked) (sym (calls-answered history call answer good is).reply_is) fits

  pub call_answered : (role : Role) (flags session : ℕ) (later : List PoolCall) → mines role ≡ true → FindsPresent history call.worker role flags session call
      → AsksInside call.asked later → IsAnswered call
  call_answered role flags session later may finds asks =
      is_answered
      (subst (λ (s : Effect). IsReplyTo call.asked s.reply)
      (sym (step_present (past_of (take call.front history)) call.worker session finds.rules (entrance_by finds.rules call.worker role flags)
      finds.are_rules finds.present_is finds.entrance_is may call.asked later asks))
      (replies_in finds.rules (past_of (take call.front history)) session call.asked later asks)) call.outcome refl

  enter_under : (past : List Event) (worker : ℕ) (role : Role) (flags : ℕ) (rules : Rules) (o : Option Rules) → o ≡ Some rules
      → IsReplyTo (request.Enter role flags) (step_under o past worker (request.Enter role flags)).reply
  enter_under past worker role flags rules None are = cc
  enter_under past worker role flags rules (Some under) are =
      cond_both (nat_lt (enters past) most_enters) (with_event (event.Enter worker role (bit_and flags (allowed_flags under))) (reply.Entered (enters past)))
      (without_event (reply.PoolFull most_enters)) (λ (s : Effect). IsReplyTo (request.Enter role flags) s.reply) (λ few. tt) (λ full. tt)

  -- so is an Enter, where there are rules
  pub enter_answered : (role : Role) (flags : ℕ) (rules : Rules) → rules_of (past_of (take call.front history)) ≡ Some rules → call.asked ≡ request.Enter role flags
      → IsAnswered call
  enter_answered role flags rules are asks =
      is_answered
      (subst (λ asked. IsReplyTo asked (step (past_of (take call.front history)) call.worker asked).reply) (sym asks)
      (enter_under (past_of (take call.front history)) call.worker role flags rules (rules_of (past_of (take call.front history))) are)) call.outcome refl

-- all that a session calls behind its Enter
pub calls_answered : (history : List Event) (worker : ℕ) (role : Role) (flags session : ℕ) → mines role ≡ true → (calls : List PoolCall) → AskInside calls
    → AllByRecursion (FindsPresent history worker role flags session) calls → AllByRecursion (IsGoodPoolCall history) calls
    → AllByRecursion (λ (c : PoolCall). c.worker ≡ worker) calls → AllByRecursion IsAnswered calls
calls_answered history worker role flags session may [] asks finds good own = tt
calls_answered history worker role flags session may (call ∷ calls) asks finds good own = (
  call_answered history call good.0 role flags session calls may (subst (λ w. FindsPresent history w role flags session call) (sym own.0) finds.0) asks.0,
  calls_answered history worker role flags session may calls asks.1 finds.1 good.1 own.1,
)
