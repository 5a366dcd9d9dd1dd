-- The replies to requests on a legal history are of the types that keep them.
use Rattle.std.proofs.Common.{◌≡◌, ℕ, ◌+◌, ◌≤◌, Bool, true, false, Option, None, Some, Result, Ok, Err, List, [], length, min, refl, subst, sym}
use Rattle.std.proofs.lemmas.Bool.{and_parts, cond_both, leb-true, ltb-true}
use Rattle.std.specs.Prelude.{bit_and, nat_eq, nat_le, nat_lt}
use Rattle.pool_history.specs.declared.asking.OpenAsk.{OpenAsk}
use Rattle.pool_history.specs.declared.asking.Request.{Request}
use Rattle.pool_history.specs.declared.asking.Request.TheVariants as request
use Rattle.pool_history.specs.declared.events.Event.{Event}
use Rattle.pool_history.specs.declared.events.Event.TheVariants as event
use Rattle.pool_history.specs.declared.refusals.Failed.{Failed}
use Rattle.pool_history.specs.declared.replies.Reply.{Reply}
use Rattle.pool_history.specs.declared.replies.Reply.TheVariants as reply
use Rattle.pool_history.specs.declared.settings.Rules.{Rules}
use Rattle.pool_history.specs.Accounts.{account_of, is_empty}
use Rattle.pool_history.specs.Answering.{Effect, briefing, classing, closing, committing, crediting, granting, with_event, naming, opening, permits, step_as, step_by, step_for, step_in, step_under, without_event, unless_refused, with_found}
use Rattle.pool_history.specs.Channels.{OpenChannel, present_class}
use Rattle.pool_history.specs.Crediting.{last_failed}
use Rattle.pool_history.specs.Jobs.{jobs_of}
use Rattle.pool_history.specs.Judging.{Admitted, Share, admission, share_of}
use Rattle.pool_history.specs.Legal.{LegalPast, allowed_flags, is_just, is_lead_length}
use Rattle.pool_history.specs.Refusing.{class_for, class_of_target, custom_refusal, grant_refusal, held_leads, lead_for, most_enters, nameable, openable, own_channel, template_refusal, tippable, updatable}
use Rattle.pool_history.specs.Sessions.{Entrance, enters, entrance, grants, past_of, present, rules_of}
use Rattle.pool_history.specs.Spaces.{lowest}
use Rattle.history_laws.specs.Fitting.{AnswersFit, ReplyFits, ScriptFits, custom_wants_memory, job_wants_memory, name_wants_memory, open_wants_memory}
use Rattle.history_laws.proofs.MemoryFree.{Free, custom-free, free-err, name-free, open-free, template-free, tip-free}
use Rattle.history_laws.proofs.Answering.{IsOpen, lead-next, was-openable, was-updatable}
use Rattle.history_laws.proofs.ChannelsFit.{briefing-lead, lead-few, open-has_lead}
use Rattle.history_laws.proofs.Crediting.{admission-booked, booked-channel}
use Rattle.history_laws.proofs.NotesFit.{news-fit}
use Rattle.history_laws.proofs.Ranges.{class-fits, least-range, legal-rules, script-range}

-- a request that isn't refused, and one that is
pub unless-reply : {X : Type 0} (P : Reply → Type 0) (refuse : X → Reply) (r : Option X) (made : Effect) → ((x : X) → P (refuse x)) → (r ≡ None → P made.reply)
    → P (unless_refused refuse r made).reply
unless-reply P refuse None made refused made-fits = made-fits refl
unless-reply P refuse (Some x) made refused made-fits = refused x

-- the same of a refusal that isn't a lack of memory
pub unless-free_reply : {X : Type 0} (P : Reply → Type 0) (wants : X → Bool) (refuse : X → Reply) (r : Option X) (made : Effect) → Free wants r
    → ((x : X) → wants x ≡ false → P (refuse x)) → P made.reply → P (unless_refused refuse r made).reply
unless-free_reply P wants refuse None made free refused made-fits = made-fits
unless-free_reply P wants refuse (Some x) made free refused made-fits = refused x free

-- what was found, or a refusal
pub found-reply : {X C : Type 0} (P : Reply → Type 0) (refuse : C → Reply) (make : X → Effect) (r : Result X C) → ((e : C) → r ≡ Err e → P (refuse e))
    → ((x : X) → r ≡ Ok x → P (make x).reply) → P (with_found refuse make r).reply
found-reply P refuse make (Err e) refused some = refused e refl
found-reply P refuse make (Ok x) refused some = some x refl

-- a class that an opening or an update gives
pub class-few : (rules : Rules) (past : List Event) (target : List ℕ) → LegalPast past → rules_of past ≡ Some rules → class_of_target target ≤ 60
    → class_for rules target ≤ 60
class-few rules past target l are few =
    leb-true (class_for rules target) 60
    (and_parts (nat_le rules.least_class (class_for rules target)) (nat_le (class_for rules target) 60)
    (class-fits rules target (least-range rules (legal-rules past rules l are)) few)).1

pub opening-fits : (rules : Rules) (past : List Event) (session : ℕ) (ask : OpenAsk) → LegalPast past → rules_of past ≡ Some rules → IsOpen rules past session ask
    → (lead : List ℕ) → lead_for past ask ≡ Some lead → ReplyFits (opening rules past session ask lead).reply
opening-fits rules past session ask l are is lead found =
    let few : (1 ≤ length lead) × (length lead ≤ 4) =
    lead-few ask.kind lead
    (and_parts (is_lead_length ask.kind (length lead)) (is_just lead (lowest (length lead) (held_leads past))) (lead-next past ask lead is.size found)).0 in
    record { class = class-few rules past ask.max_target l are is.class; some = few.0; most = few.1 }

pub classing-fits : (rules : Rules) (past : List Event) (session id : ℕ) (target : List ℕ) → LegalPast past → rules_of past ≡ Some rules
    → (c : OpenChannel) → class_of_target target ≤ 60 → ReplyFits (classing session id (class_for rules target) c).reply
classing-fits rules past session id target l are c target_few =
    let class : ℕ = class_for rules target in
    let few : class ≤ 60 =
    class-few rules past target l are target_few in
    cond_both (nat_eq class (present_class c)) (without_event (reply.Target id class)) (with_event (event.Class session id class) (reply.Target id class)) (λ s. ReplyFits s.reply)
    (λ same. few) (λ other. few)

pub naming-fits : (session id : ℕ) (account : List ℕ) (c : OpenChannel) → ReplyFits (naming session id account c).reply
naming-fits session id account c =
    cond_both (is_empty c.account) (with_event (event.Name session id account) reply.Named) (without_event reply.Named) (λ s. ReplyFits s.reply) (λ t. tt) (λ f. tt)

pub closing-fits : (session id : ℕ) (o : Option OpenChannel) → ReplyFits (closing session id o).reply
closing-fits session id None = tt
closing-fits session id (Some c) = tt

pub briefing-fits : (rules : Rules) (past : List Event) (session : ℕ) (share : Share) → LegalPast past → (r : Result Admitted Failed)
    → admission rules past session share ≡ r → ReplyFits (briefing rules r).reply
briefing-fits rules past session share l (Err code) is = tt
briefing-fits rules past session share l (Ok with) is =
    briefing-lead with.channel.kind with.channel.lead
    (open-has_lead past share.channel with.channel l (booked-channel past share.channel share.job with (admission-booked rules past session share with is)))

pub committing-fits : (rules : Rules) (past : List Event) (session : ℕ) (share : Share) (r : Result Admitted Failed)
    → ReplyFits (committing rules past session share r).reply
committing-fits rules past session share (Err code) = tt
committing-fits rules past session share (Ok with) =
    unless-reply ReplyFits reply.Refused (last_failed rules past share (Ok with)) (crediting session share with) (λ x. tt) (λ n. tt)

pub granting-fits : (rules : Rules) (past : List Event) (session : ℕ) (account : List ℕ) (path : Option (List (List ℕ))) → LegalPast past
    → rules_of past ≡ Some rules → ReplyFits (granting rules past session account path).reply
granting-fits rules past session account path l are = by_path path where
  fits : ScriptFits rules.pool_script
  fits = let r : (1 ≤ length rules.pool_script) × (length rules.pool_script ≤ 100) = script-range rules (legal-rules past rules l are) in
      record { some = r.0; short = r.1 }

  by_path : (path : Option (List (List ℕ))) → ReplyFits (granting rules past session account path).reply
  by_path None =
      unless-reply ReplyFits reply.GrantRefused (grant_refusal rules past account [])
      (with_event (event.Grant session account false []) (reply.Granted (grants past + 1) rules.pool_script)) (λ x. tt) (λ n. fits)
  by_path (Some path) =
      unless-reply ReplyFits reply.GrantRefused (grant_refusal rules past account path)
      (with_event (event.Grant session account true path) (reply.Granted (grants past + 1) rules.pool_script)) (λ x. tt) (λ n. fits)

-- a permitted request
pub step_in-fits : (rules : Rules) (past : List Event) (session : ℕ) (asked : Request) → LegalPast past → rules_of past ≡ Some rules
    → ReplyFits (step_in rules past session asked).reply
step_in-fits rules past session (request.Enter role flags) l are = tt
step_in-fits rules past session request.Leave l are = tt
step_in-fits rules past session (request.Template template) l are =
    unless-free_reply ReplyFits job_wants_memory reply.TemplateRefused (template_refusal rules.pool_script past template)
    (with_event (event.Template session template) (reply.Job (length (jobs_of past).all + 1))) (template-free rules.pool_script past template) (λ x free. free) tt
step_in-fits rules past session (request.Tip tip) l are =
    found-reply ReplyFits reply.TemplateRefused (λ job. with_event (event.Tip session tip) (reply.Job job.number)) (tippable past tip)
    (λ e is. free-err job_wants_memory (tippable past tip) e (tip-free past tip) is) (λ job is. tt)
step_in-fits rules past session (request.Open ask) l are =
    found-reply ReplyFits reply.OpenRefused (opening rules past session ask) (openable rules past session ask)
    (λ e is. free-err open_wants_memory (openable rules past session ask) e (open-free rules past session ask) is)
    (λ lead is. let w = was-openable rules past session ask lead is in opening-fits rules past session ask l are w.is lead w.lead_is)
step_in-fits rules past session (request.Name id identity) l are =
    found-reply ReplyFits reply.NameRefused (naming session id (account_of identity)) (nameable rules (account_of identity) (own_channel past session id))
    (λ e is. free-err name_wants_memory (nameable rules (account_of identity) (own_channel past session id)) e
    (name-free rules (account_of identity) (own_channel past session id)) is)
    (λ c is. naming-fits session id (account_of identity) c)
step_in-fits rules past session (request.Update id target) l are =
    found-reply ReplyFits reply.UpdateRefused (classing session id (class_for rules target)) (updatable target (own_channel past session id)) (λ e is. tt)
    (λ c is. classing-fits rules past session id target l are c (was-updatable target (own_channel past session id) c is).1)
step_in-fits rules past session (request.Close id) l are = closing-fits session id (own_channel past session id)
step_in-fits rules past session (request.Brief sub) l are =
    briefing-fits rules past session (share_of sub) l (admission rules past session (share_of sub)) refl
step_in-fits rules past session (request.Commit checked) l are =
    committing-fits rules past session (share_of checked.sub) (admission rules past session (share_of checked.sub))
step_in-fits rules past session (request.Poll from) l are = news-fit (min from (length past)) past session l
step_in-fits rules past session (request.Grant identity path) l are = granting-fits rules past session (account_of identity) path l are
step_in-fits rules past session (request.Custom custom) l are =
    unless-free_reply ReplyFits custom_wants_memory reply.CustomRefused (custom_refusal rules.pool_script past session custom)
    (with_event (event.Custom session custom) (reply.CustomJob (length (jobs_of past).all + 1))) (custom-free rules.pool_script past session custom) (λ x free. free) tt

pub step_for-fits : (rules : Rules) (past : List Event) (asked : Request) → LegalPast past → rules_of past ≡ Some rules → (o : Option ℕ)
    → ReplyFits (step_for rules past asked o).reply
step_for-fits rules past asked l are None = tt
step_for-fits rules past asked l are (Some session) = by_entrance (entrance past session) where
  by_entrance : (o : Option Entrance) → ReplyFits (step_as rules past asked session o).reply
  by_entrance None = tt
  by_entrance (Some entered) =
      cond_both (permits asked entered) (step_in rules past session asked) (without_event reply.NoSession) (λ s. ReplyFits s.reply)
      (λ t. step_in-fits rules past session asked l are) (λ f. tt)

pub step_by-fits : (rules : Rules) (past : List Event) (worker : ℕ) (asked : Request) → LegalPast past → rules_of past ≡ Some rules
    → ReplyFits (step_by rules past worker asked).reply
step_by-fits rules past worker (request.Enter role flags) l are =
    cond_both (nat_lt (enters past) most_enters) (with_event (event.Enter worker role (bit_and flags (allowed_flags rules))) (reply.Entered (enters past)))
    (without_event (reply.PoolFull most_enters)) (λ s. ReplyFits s.reply) (λ few. ltb-true (enters past) most_enters few) (λ full. tt)
step_by-fits rules past worker asked l are = step_for-fits rules past asked l are (present past worker)

pub step-fits : (past : List Event) (worker : ℕ) (asked : Request) → LegalPast past → (o : Option Rules) → rules_of past ≡ o
    → ReplyFits (step_under o past worker asked).reply
step-fits past worker asked l None are = tt
step-fits past worker asked l (Some rules) are = step_by-fits rules past worker asked l are

pub answers-fit : AnswersFit
answers-fit h worker asked events answer l a = subst ReplyFits (sym a.reply_is) (step-fits (past_of h) worker asked l (rules_of (past_of h)) refl)
