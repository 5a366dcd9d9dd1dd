-- An event that fixes a path comes of a Grant of this path.
use Rattle.std.proofs.Common.{ℕ, ◌+◌, length, true, false, Option, None, Some, Result, Ok, Err, List, [], refl, sym, subst}
use Rattle.std.proofs.lemmas.Bool.{cond_both}
use Rattle.std.specs.List.{AllByRecursion}
use Rattle.std.specs.Option.{option_to_list}
use Rattle.std.specs.Prelude.{bit_and, nat_eq, nat_lt}
use Rattle.pool_history.specs.declared.asking.Request.{Request}
use Rattle.pool_history.specs.declared.asking.Request.TheVariants as request
use Rattle.pool_history.specs.declared.events.Event.{Event}
use Rattle.pool_history.specs.declared.events.Event.TheVariants as event
use Rattle.pool_history.specs.declared.refusals.Failed.{Failed}
use Rattle.pool_history.specs.declared.replies.Reply.{Reply}
use Rattle.pool_history.specs.declared.replies.Reply.TheVariants as reply
use Rattle.pool_history.specs.declared.settings.Rules.{Rules}
use Rattle.pool_history.specs.Accounts.{account_of, is_empty}
use Rattle.pool_history.specs.Answering.{Effect, briefing, classing, closing, committing, crediting, naming, opening, permits, step, step_as, step_by, step_for, step_in, step_under, unless_refused, with_event, with_found, without_event}
use Rattle.pool_history.specs.Channels.{OpenChannel, present_class}
use Rattle.pool_history.specs.Crediting.{last_failed}
use Rattle.pool_history.specs.Jobs.{jobs_of}
use Rattle.pool_history.specs.Judging.{Admitted, Share, admission, share_of}
use Rattle.pool_history.specs.Legal.{allowed_flags}
use Rattle.pool_history.specs.Refusing.{class_for, custom_refusal, grant_refusal, most_enters, nameable, openable, own_channel, template_refusal, tippable, updatable}
use Rattle.pool_history.specs.Sessions.{Entrance, entrance, enters, grants, past_of, present, rules_of}
use Rattle.pool_promises.specs.Declaring.{FixedPathsAreAskedFor}
use Rattle.pool_promises.specs.Paths.{FixesAskedPath}

-- the event, if there is one
abbrev FixesIfAny : Request → Option Event → Type 0
FixesIfAny asked None = Unit {0}
FixesIfAny asked (Some made) = FixesAskedPath asked made

module _ (asked : Request) where
  refused_fixes : {X : Type 0} (refuse : X → Reply) (refusal : Option X) (made : Effect) → FixesIfAny asked made.event
      → FixesIfAny asked (unless_refused refuse refusal made).event
  refused_fixes refuse None made fixes = fixes
  refused_fixes refuse (Some x) made fixes = tt

  found_fixes : {X C : Type 0} (refuse : C → Reply) (make : X → Effect) (found : Result X C)
      → ((x : X) → FixesIfAny asked (make x).event) → FixesIfAny asked (with_found refuse make found).event
  found_fixes refuse make (Ok x) fixes = fixes x
  found_fixes refuse make (Err error) fixes = tt

  closing_fixes : (session id : ℕ) (channel : Option OpenChannel) → FixesIfAny asked (closing session id channel).event
  closing_fixes session id None = tt
  closing_fixes session id (Some channel) = tt

  briefing_fixes : (rules : Rules) (found : Result Admitted Failed) → FixesIfAny asked (briefing rules found).event
  briefing_fixes rules (Ok with) = tt
  briefing_fixes rules (Err failed) = tt

  committing_fixes : (rules : Rules) (past : List Event) (session : ℕ) (share : Share) (found : Result Admitted Failed)
      → FixesIfAny asked (committing rules past session share found).event
  committing_fixes rules past session share (Err failed) = tt
  committing_fixes rules past session share (Ok with) =
      refused_fixes reply.Refused (last_failed rules past share (Ok with)) (crediting session share with) tt

  naming_fixes : (session id : ℕ) (account : List ℕ) (channel : OpenChannel) → FixesIfAny asked (naming session id account channel).event
  naming_fixes session id account channel =
      cond_both (is_empty channel.account) (with_event (event.Name session id account) reply.Named) (without_event reply.Named)
      (λ made. FixesIfAny asked made.event) (λ empty. tt) (λ some. tt)

  classing_fixes : (session id class : ℕ) (channel : OpenChannel) → FixesIfAny asked (classing session id class channel).event
  classing_fixes session id class channel =
      cond_both (nat_eq class (present_class channel)) (without_event (reply.Target id class))
      (with_event (event.Class session id class) (reply.Target id class))
      (λ made. FixesIfAny asked made.event) (λ same. tt) (λ other. tt)

step_in_fixes : (rules : Rules) (past : List Event) (session : ℕ) (asked : Request)
    → FixesIfAny asked (step_in rules past session asked).event
step_in_fixes rules past session (request.Enter role flags) = tt
step_in_fixes rules past session request.Leave = tt
step_in_fixes rules past session (request.Template template) =
    refused_fixes (request.Template template) reply.TemplateRefused (template_refusal rules.pool_script past template)
    (with_event (event.Template session template) (reply.Job (length (jobs_of past).all + 1))) tt
step_in_fixes rules past session (request.Tip tip) =
    found_fixes (request.Tip tip) reply.TemplateRefused (λ job. with_event (event.Tip session tip) (reply.Job job.number))
    (tippable past tip) (λ job. tt)
step_in_fixes rules past session (request.Open ask) =
    found_fixes (request.Open ask) reply.OpenRefused (opening rules past session ask) (openable rules past session ask) (λ lead. tt)
step_in_fixes rules past session (request.Name id identity) =
    found_fixes (request.Name id identity) reply.NameRefused (naming session id (account_of identity))
    (nameable rules (account_of identity) (own_channel past session id))
    (naming_fixes (request.Name id identity) session id (account_of identity))
step_in_fixes rules past session (request.Update id target) =
    found_fixes (request.Update id target) reply.UpdateRefused (classing session id (class_for rules target))
    (updatable target (own_channel past session id))
    (classing_fixes (request.Update id target) session id (class_for rules target))
step_in_fixes rules past session (request.Close id) =
    closing_fixes (request.Close id) session id (own_channel past session id)
step_in_fixes rules past session (request.Brief sub) =
    briefing_fixes (request.Brief sub) rules (admission rules past session (share_of sub))
step_in_fixes rules past session (request.Commit checked) =
    committing_fixes (request.Commit checked) rules past session (share_of checked.sub)
    (admission rules past session (share_of checked.sub))
step_in_fixes rules past session (request.Poll from) = tt
step_in_fixes rules past session (request.Grant identity None) =
    refused_fixes (request.Grant identity None) reply.GrantRefused (grant_refusal rules past (account_of identity) [])
    (with_event (event.Grant session (account_of identity) false []) (reply.Granted (grants past + 1) rules.pool_script)) tt
step_in_fixes rules past session (request.Grant identity (Some path)) =
    refused_fixes (request.Grant identity (Some path)) reply.GrantRefused (grant_refusal rules past (account_of identity) path)
    (with_event (event.Grant session (account_of identity) true path) (reply.Granted (grants past + 1) rules.pool_script))
    (record { identity = identity; asked_is = refl; account_is = refl })
step_in_fixes rules past session (request.Custom custom) =
    refused_fixes (request.Custom custom) reply.CustomRefused (custom_refusal rules.pool_script past session custom)
    (with_event (event.Custom session custom) (reply.CustomJob (length (jobs_of past).all + 1))) tt

-- any request
step_as_fixes : (rules : Rules) (past : List Event) (asked : Request) (session : ℕ) (entered : Option Entrance)
    → FixesIfAny asked (step_as rules past asked session entered).event
step_as_fixes rules past asked session None = tt
step_as_fixes rules past asked session (Some entered) =
    cond_both (permits asked entered) (step_in rules past session asked) (without_event reply.NoSession)
    (λ made. FixesIfAny asked made.event) (λ may. step_in_fixes rules past session asked) (λ may_not. tt)

step_for_fixes : (rules : Rules) (past : List Event) (asked : Request) (session : Option ℕ)
    → FixesIfAny asked (step_for rules past asked session).event
step_for_fixes rules past asked None = tt
step_for_fixes rules past asked (Some session) = step_as_fixes rules past asked session (entrance past session)

step_by_fixes : (rules : Rules) (past : List Event) (worker : ℕ) (asked : Request)
    → FixesIfAny asked (step_by rules past worker asked).event
step_by_fixes rules past worker (request.Enter role flags) =
    cond_both (nat_lt (enters past) most_enters)
    (with_event (event.Enter worker role (bit_and flags (allowed_flags rules))) (reply.Entered (enters past)))
    (without_event (reply.PoolFull most_enters))
    (λ made. FixesIfAny (request.Enter role flags) made.event) (λ few. tt) (λ full. tt)
step_by_fixes rules past worker asked = step_for_fixes rules past asked (present past worker)

step_fixes : (rules : Option Rules) (past : List Event) (worker : ℕ) (asked : Request)
    → FixesIfAny asked (step_under rules past worker asked).event
step_fixes None past worker asked = tt
step_fixes (Some rules) past worker asked = step_by_fixes rules past worker asked

listed_fixes : (asked : Request) (made : Option Event) → FixesIfAny asked made
    → AllByRecursion (FixesAskedPath asked) (option_to_list made)
listed_fixes asked None fixes = tt
listed_fixes asked (Some made) fixes = (fixes, tt)

pub paths_asked_for : FixedPathsAreAskedFor
paths_asked_for history worker asked events answer answers =
    subst (AllByRecursion (FixesAskedPath asked)) (sym answers.events_are)
    (listed_fixes asked (step (past_of history) worker asked).event
    (step_fixes (rules_of (past_of history)) (past_of history) worker asked))
