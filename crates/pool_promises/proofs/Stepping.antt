-- What an answer does to a session of another worker, and what it does to its own.
use Rattle.std.proofs.Common.{◌≡◌, ℕ, true, false, cond, Option, None, Some, Result, Ok, Err, List, [], ◌∷◌, refl, ap, sym, ◌∙◌, true≢false}
use Rattle.std.proofs.Math.Dec.{eqb}
use Rattle.std.proofs.lemmas.Bool.{cond_both, eq-eqb, ne_eqb}
use Rattle.std.specs.Prelude.{bit_and, nat_lt}
use Rattle.pool_history.specs.declared.asking.Request.{Request}
use Rattle.pool_history.specs.declared.asking.Request.TheVariants as request
use Rattle.pool_history.specs.declared.events.Event.{Event}
use Rattle.pool_history.specs.declared.events.Event.TheVariants as event
use Rattle.pool_history.specs.declared.events.Role.{Role}
use Rattle.pool_history.specs.declared.refusals.Failed.{Failed}
use Rattle.pool_history.specs.declared.replies.Reply.TheVariants as reply
use Rattle.pool_history.specs.declared.settings.Rules.{Rules}
use Rattle.pool_history.specs.Accounts.{account_of, is_empty}
use Rattle.pool_history.specs.Answering.{briefing, classing, closing, committing, crediting, granting, naming, opening, permits, step, step_as, step_by, step_for, step_in, step_under, with_event, without_event}
use Rattle.pool_history.specs.Channels.{OpenChannel, present_class}
use Rattle.pool_history.specs.Crediting.{last_failed}
use Rattle.pool_history.specs.Judging.{Admitted, Share, admission, share_of}
use Rattle.pool_history.specs.Legal.{allowed_flags}
use Rattle.pool_history.specs.Refusing.{class_for, custom_refusal, grant_refusal, most_enters, nameable, openable, own_channel, template_refusal, tippable, updatable}
use Rattle.pool_history.specs.Sessions.{Entrance, enters, entrance, present, rules_of}
use Rattle.history_laws.proofs.Answering.{found-event, unless-event}
use Rattle.history_laws.proofs.Entrances.{IsEnteredBy, present-entered, some-same}
use Rattle.pool_promises.specs.Presence.{entrance_by, moves_session}
use Rattle.pool_promises.proofs.Staying.{EndsNone, IsInside, rules_stay}

-- ---- what a request of a present session adds

module _ (worker session : ℕ) where
  abbrev EndsIt : Option Event → Type 0
  EndsIt made = EndsNone worker session made

  naming_ends : (own id : ℕ) (account : List ℕ) (channel : OpenChannel) → EndsIt (naming own id account channel).event
  naming_ends own id account channel =
      cond_both (is_empty channel.account) (with_event (event.Name own id account) reply.Named) (without_event reply.Named) (λ s. EndsIt s.event)
      (λ empty. refl) (λ has. tt)

  classing_ends : (own id class : ℕ) (channel : OpenChannel) → EndsIt (classing own id class channel).event
  classing_ends own id class channel =
      cond_both (eqb class (present_class channel)) (without_event (reply.Target id class)) (with_event (event.Class own id class) (reply.Target id class)) (λ s. EndsIt s.event)
      (λ same. tt) (λ other. refl)

  closing_ends : (own id : ℕ) (found : Option OpenChannel) → EndsIt (closing own id found).event
  closing_ends own id None = tt
  closing_ends own id (Some channel) = refl

  briefing_ends : (rules : Rules) (found : Result Admitted Failed) → EndsIt (briefing rules found).event
  briefing_ends rules (Err failed) = tt
  briefing_ends rules (Ok with) = tt

  committing_ends : (rules : Rules) (past : List Event) (own : ℕ) (share : Share) (found : Result Admitted Failed) → EndsIt (committing rules past own share found).event
  committing_ends rules past own share (Err failed) = tt
  committing_ends rules past own share (Ok with) =
      unless-event EndsIt reply.Refused (last_failed rules past share (Ok with)) (crediting own share with) tt (λ none. refl)

  granting_ends : (rules : Rules) (past : List Event) (own : ℕ) (account : List ℕ) (path : Option (List (List ℕ))) → EndsIt (granting rules past own account path).event
  granting_ends rules past own account None = unless-event EndsIt reply.GrantRefused (grant_refusal rules past account []) _ tt (λ none. refl)
  granting_ends rules past own account (Some path) = unless-event EndsIt reply.GrantRefused (grant_refusal rules past account path) _ tt (λ none. refl)

  step_in_ends : (rules : Rules) (past : List Event) (own : ℕ) (asked : Request) → (moves_session asked ≡ true → session ≡ own → ⊥) → EndsIt (step_in rules past own asked).event
  step_in_ends rules past own (request.Enter role flags) other = tt
  step_in_ends rules past own request.Leave other = ne_eqb session own (other refl)
  step_in_ends rules past own (request.Template template) other =
      unless-event EndsIt reply.TemplateRefused (template_refusal rules.pool_script past template) _ tt (λ none. refl)
  step_in_ends rules past own (request.Tip tip) other = found-event EndsIt reply.TemplateRefused _ (tippable past tip) tt (λ job is. refl)
  step_in_ends rules past own (request.Open ask) other =
      found-event EndsIt reply.OpenRefused (opening rules past own ask) (openable rules past own ask) tt (λ lead is. refl)
  step_in_ends rules past own (request.Name channel identity) other =
      found-event EndsIt reply.NameRefused (naming own channel (account_of identity)) (nameable rules (account_of identity) (own_channel past own channel)) tt
      (λ found is. naming_ends own channel (account_of identity) found)
  step_in_ends rules past own (request.Update channel target) other =
      found-event EndsIt reply.UpdateRefused (classing own channel (class_for rules target)) (updatable target (own_channel past own channel)) tt
      (λ found is. classing_ends own channel (class_for rules target) found)
  step_in_ends rules past own (request.Close channel) other = closing_ends own channel (own_channel past own channel)
  step_in_ends rules past own (request.Brief sub) other = briefing_ends rules (admission rules past own (share_of sub))
  step_in_ends rules past own (request.Commit checked) other =
      committing_ends rules past own (share_of checked.sub) (admission rules past own (share_of checked.sub))
  step_in_ends rules past own (request.Poll from) other = tt
  step_in_ends rules past own (request.Grant identity path) other = granting_ends rules past own (account_of identity) path
  step_in_ends rules past own (request.Custom custom) other =
      unless-event EndsIt reply.CustomRefused (custom_refusal rules.pool_script past own custom) _ tt (λ none. refl)

  step_as_ends : (rules : Rules) (past : List Event) (asked : Request) (own : ℕ) (o : Option Entrance) → (moves_session asked ≡ true → session ≡ own → ⊥)
      → EndsIt (step_as rules past asked own o).event
  step_as_ends rules past asked own None other = tt
  step_as_ends rules past asked own (Some as') other =
      cond_both (permits asked as') (step_in rules past own asked) (without_event reply.NoSession) (λ s. EndsIt s.event)
      (λ may. step_in_ends rules past own asked other) (λ not. tt)

  step_for_ends : (rules : Rules) (past : List Event) (asked : Request) (o : Option ℕ) → ((own : ℕ) → o ≡ Some own → moves_session asked ≡ true → session ≡ own → ⊥)
      → EndsIt (step_for rules past asked o).event
  step_for_ends rules past asked None other = tt
  step_for_ends rules past asked (Some own) other = step_as_ends rules past asked own (entrance past own) (other own refl)

-- ---- what any answer adds

-- a request of the session's own worker doesn't begin or end one
abbrev pub IsHarmless : ℕ → ℕ → Request → Type 0
IsHarmless own worker asked = worker ≡ own → moves_session asked ≡ false

-- two workers have two sessions
own_session : {rules : Rules} {entered : Entrance} {session : ℕ} (past : List Event) (worker other : ℕ) → IsInside rules entered session past → present past worker ≡ Some other
    → session ≡ other → worker ≡ entered.worker
own_session {entered = entered} {session = session} past worker other inside there same =
    let by : IsEnteredBy past worker other = present-entered past worker other there in
    let one : entered ≡ by.entrance_is = some-same (sym inside.is_entered ∙ ap (entrance past) same ∙ by.entered) in
    sym (ap (λ (e : Entrance). e.worker) one ∙ by.by)

module _ {rules : Rules} {entered : Entrance} {session : ℕ} (past : List Event) (inside : IsInside rules entered session past) (worker : ℕ) where
  others_end : (asked : Request) → IsHarmless entered.worker worker asked → (own : ℕ) → present past worker ≡ Some own → moves_session asked ≡ true → session ≡ own → ⊥
  others_end asked harmless own there moves same = true≢false (sym moves ∙ harmless (own_session past worker own inside there same))

  by_ends : (under : Rules) (asked : Request) → IsHarmless entered.worker worker asked → EndsNone entered.worker session (step_by under past worker asked).event
  by_ends under (request.Enter role flags) harmless =
      cond_both (nat_lt (enters past) most_enters) (with_event (event.Enter worker role (bit_and flags (allowed_flags under))) (reply.Entered (enters past)))
      (without_event (reply.PoolFull most_enters)) (λ s. EndsNone entered.worker session s.event)
      (λ few. ne_eqb worker entered.worker (λ same. true≢false (harmless same))) (λ full. tt)
  by_ends under asked harmless =
      step_for_ends entered.worker session under past asked (present past worker) (λ own there. others_end asked harmless own there)

  under_ends : (o : Option Rules) (asked : Request) → IsHarmless entered.worker worker asked → EndsNone entered.worker session (step_under o past worker asked).event
  under_ends None asked harmless = tt
  under_ends (Some under) asked harmless = by_ends under asked harmless

  pub step_ends : (asked : Request) → IsHarmless entered.worker worker asked → EndsNone entered.worker session (step past worker asked).event
  step_ends asked harmless = under_ends (rules_of past) asked harmless

-- ---- what an Enter adds

-- an Enter that is answered with its session begins it
pub record Begins (past : List Event) (worker : ℕ) (role : Role) (flags session : ℕ) (made : Option Event) : Type 0 where
  pub rules : Rules
  pub event : Event
  pub made_is : made ≡ Some event
  pub inside : IsInside rules (entrance_by rules worker role flags) session (event ∷ past)

entered_begins : (past : List Event) (rules : Rules) (worker : ℕ) (role : Role) (flags session : ℕ) → rules_of past ≡ Some rules → enters past ≡ session
    → Begins past worker role flags session (Some (event.Enter worker role (bit_and flags (allowed_flags rules))))
entered_begins past rules worker role flags session are is = record {
  rules = rules;
  event = event.Enter worker role (bit_and flags (allowed_flags rules));
  made_is = refl;
  inside = record {
    are_rules = rules_stay (event.Enter worker role (bit_and flags (allowed_flags rules))) past rules are;
    there = ap (λ b. cond b (Some (enters past)) (present past worker)) (eq-eqb worker worker refl) ∙ ap Some is;
    is_entered = ap (λ b. cond b (Some (entrance_by rules worker role flags)) (entrance past session)) (eq-eqb (enters past) session is);
  };
}

under_begins : (past : List Event) (worker : ℕ) (role : Role) (flags session : ℕ) (o : Option Rules) → rules_of past ≡ o
    → (step_under o past worker (request.Enter role flags)).reply ≡ reply.Entered session
    → Begins past worker role flags session (step_under o past worker (request.Enter role flags)).event
under_begins past worker role flags session None are is = cc
under_begins past worker role flags session (Some rules) are was =
    cond_both (nat_lt (enters past) most_enters) (with_event (event.Enter worker role (bit_and flags (allowed_flags rules))) (reply.Entered (enters past)))
    (without_event (reply.PoolFull most_enters)) (λ s. s.reply ≡ reply.Entered session → Begins past worker role flags session s.event)
    (λ few is. entered_begins past rules worker role flags session are (let same : enters past ≡ session = cc in same)) (λ full is. cc) was

pub enter_begins : (past : List Event) (worker : ℕ) (role : Role) (flags session : ℕ) → (step past worker (request.Enter role flags)).reply ≡ reply.Entered session
    → Begins past worker role flags session (step past worker (request.Enter role flags)).event
enter_begins past worker role flags session is = under_begins past worker role flags session (rules_of past) refl is
