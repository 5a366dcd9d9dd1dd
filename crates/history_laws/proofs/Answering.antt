-- What answers do to a legal history.
use Rattle.std.proofs.Common.{nat_le, ◌≡◌, ◌^◌, ℕ, ◌+◌, ◌≤◌, Bool, true, false, ◌&&◌, not, Option, None, Some, Result, Ok, Err, List, [], ◌∷◌, ◌++◌, length, refl, ap, subst, sym, ◌∙◌}
use Rattle.std.proofs.lemmas.Bool.{and_from, and_parts, cond_both, eq-eqb, false≢true, not_from_false, leb-true, not-true}
use Rattle.std.proofs.lemmas.Nat.{and_assoc}
use Rattle.std.specs.Int.Bits.{and_self}
use Rattle.std.proofs.lemmas.List.{append-nil}
use Rattle.std.specs.Prelude.{bit_and, is_some, nat_eq, nat_lt}
use Rattle.std.specs.Option.{option_to_list}
use Rattle.pool_history.specs.declared.asking.OpenAsk.{OpenAsk}
use Rattle.pool_history.specs.declared.asking.Request.{Request}
use Rattle.pool_history.specs.declared.asking.Request.TheVariants as request
use Rattle.pool_history.specs.declared.causes.Cause.{Cause}
use Rattle.pool_history.specs.declared.causes.Cause.TheVariants as cause
use Rattle.pool_history.specs.declared.events.Event.{Event}
use Rattle.pool_history.specs.declared.events.Event.TheVariants as event
use Rattle.pool_history.specs.declared.events.Kind.{Kind}
use Rattle.pool_history.specs.declared.events.Kind.TheVariants as kind
use Rattle.pool_history.specs.declared.events.Role.{Role}
use Rattle.pool_history.specs.declared.refusals.Failed.{Failed}
use Rattle.pool_history.specs.declared.refusals.Failed.TheVariants as failed
use Rattle.pool_history.specs.declared.refusals.NameError.{NameError}
use Rattle.pool_history.specs.declared.refusals.NameError.TheVariants as name
use Rattle.pool_history.specs.declared.refusals.OpenError.{OpenError}
use Rattle.pool_history.specs.declared.refusals.OpenError.TheVariants as open_error
use Rattle.pool_history.specs.declared.refusals.UpdateError.TheVariants as update
use Rattle.pool_history.specs.declared.replies.Reply.{Reply}
use Rattle.pool_history.specs.declared.replies.Reply.TheVariants as reply
use Rattle.pool_history.specs.declared.settings.Rules.{Rules}
use Rattle.pool_history.specs.Accounts.{account_of, is_empty, is_known}
use Rattle.pool_history.specs.Answering.{Effect, account_for, classing, closing, committing, crediting, entering, with_event, naming, opening, permits, step, step_as, step_by, step_for, step_in, step_under, without_event, unless_refused, briefing, granting, with_found}
use Rattle.pool_history.specs.Channels.{OpenChannel, present_class, channel_in, channels_of}
use Rattle.pool_history.specs.Crediting.{first_failed, last_failed}
use Rattle.pool_history.specs.Judging.{Admitted, Share, admission, share_of, agree, has_account, is_standard, serves}
use Rattle.pool_history.specs.Conditions.{or_code, first_false, found, provided, unless_refusal}
use Rattle.pool_history.specs.Legal.{Legal, LegalPast, allowed_flags, are_acceptable, cause_by, cause_in, cause_of, custom_cause, failed_as, may_feed, grant_cause, is_class, is_next_lead, is_opening_account, may_become, may_get, may_mine, refused_as, may_select_work, within, may_anything, is_just, is_lead_length, is_nameless, is_standard_in, unfound_as}
use Rattle.pool_history.specs.Refusing.{class_for, class_of_target, custom_refusal, grant_refusal, has_other, has_too_many, held_leads, lead_for, lead_length, may_open, most_enters, own_channel, template_refusal, open_count, openable, nameable, updatable, tippable, open_conditions, lead_unless}
use Rattle.pool_history.specs.Sessions.{Entrance, enters, entrance, past_of, present, rules_of, grants, opens}
use Rattle.pool_history.specs.Spaces.{lowest}
use Rattle.history_laws.specs.Answered.{AnswersKeepLegality}
use Rattle.history_laws.proofs.Entrances.{none-some, within-holds}
use Rattle.history_laws.proofs.Holding.{bytes_eq-self, first_free-length}
use Rattle.history_laws.proofs.Legalities.{one_more_legal, some-none}
use Rattle.history_laws.proofs.Ranges.{class-fits, lead-fits, least-range, legal-rules}
use Rattle.history_laws.proofs.Served.{HasItsAccount, own-served}
use Rattle.pool_base.specs.Results.{◌>>=◌}
use Rattle.pool_history.specs.Jobs.{jobs_of}

-- an event, if there is one, has no cause by the rules
abbrev pub NoCause : Rules → List Event → Option Event → Type 0
NoCause rules past None = Unit {0}
NoCause rules past (Some e) = cause_by rules past e ≡ None

-- a request that isn't refused
pub unless-event : {X : Type 0} (P : Option Event → Type 0) (refuse : X → Reply) (r : Option X) (made : Effect) → P None → (r ≡ None → P made.event)
    → P (unless_refused refuse r made).event
unless-event P refuse None made none event = event refl
unless-event P refuse (Some x) made none event = none

-- a worker's present session in a legal past, and what it was entered with
pub record Present (rules : Rules) (past : List Event) (worker session : ℕ) (entered : Entrance) : Type 0 where
  pub legal : LegalPast past
  pub are_rules : rules_of past ≡ Some rules
  pub there : present past worker ≡ Some session
  pub is_entered : entrance past session ≡ Some entered

-- a permitted event of it
pub permitted : {rules : Rules} {past : List Event} {worker session : ℕ} {entered : Entrance} (may : Entrance → Bool) (next : Option Cause)
    → Present rules past worker session entered → may entered ≡ true → within may past session next ≡ next
permitted {past = past} {worker = worker} {session = session} {entered = entered} may next p m =
    within-holds may past worker session entered next p.there p.is_entered m

-- a provided condition
pub provided-so : (b : Bool) (code : Cause) (next : Option Cause) → b ≡ true → or_code b code next ≡ next
provided-so b code next h = ap (λ t. or_code t code next) h

-- a condition whose code isn't told holds
pub code-none : {C : Type 0} (b : Bool) (code : C) (next : Option C) → or_code b code next ≡ None → (b ≡ true) × (next ≡ None)
code-none true code next n = (refl, n)
code-none false code next n = absurd (some-none n)

-- results
pub err-not_ok : {X C : Type 0} {e : C} {y : X} → ◌≡◌ {A = Result X C} (Err e) (Ok y) → ⊥
err-not_ok h = cc

pub ok-ok : {X C : Type 0} {x y : X} → ◌≡◌ {A = Result X C} (Ok x) (Ok y) → x ≡ y
ok-ok h = cc

pub was-found : {X C : Type 0} (code : C) (o : Option X) (x : X) → found code o ≡ Ok x → o ≡ Some x
was-found code None x h = absurd (err-not_ok h)
was-found code (Some y) x h = ap Some (ok-ok h)

-- what a fact of events says of an effect with what was found
pub found-event : {X C : Type 0} (P : Option Event → Type 0) (refuse : C → Reply) (make : X → Effect) (r : Result X C) → P None
    → ((x : X) → r ≡ Ok x → P (make x).event) → P (with_found refuse make r).event
found-event P refuse make (Err refusal) none some = none
found-event P refuse make (Ok x) none some = some x refl

-- why an opening isn't refused
pub record IsOpen (rules : Rules) (past : List Event) (session : ℕ) (ask : OpenAsk) : Type 0 where
  pub account : may_open rules ask.kind (account_of ask.identity) ≡ true
  pub class : class_of_target ask.max_target ≤ 60
  pub size : ask.min_size ≤ 11
  pub few : has_too_many past session ≡ false

pub open-conditions : (rules : Rules) (past : List Event) (session : ℕ) (ask : OpenAsk) → first_false (open_conditions rules past session ask) None ≡ None
    → IsOpen rules past session ask
open-conditions rules past session ask n =
    let fourth : Option OpenError =
    or_code (not (has_too_many past session)) (open_error.TooManyChannels (open_count past session) (opens past)) None in
    let third : Option OpenError = or_code (nat_le ask.min_size 11) (open_error.SizeTooLarge ask.min_size) fourth in
    let second : Option OpenError =
    or_code (nat_le (class_of_target ask.max_target) 60) (open_error.TargetOutOfRange (class_of_target ask.max_target)) third in
    let a = code-none (may_open rules ask.kind (account_of ask.identity)) open_error.UnknownUser second n in
    let b = code-none (nat_le (class_of_target ask.max_target) 60) (open_error.TargetOutOfRange (class_of_target ask.max_target)) third a.1 in
    let c = code-none (nat_le ask.min_size 11) (open_error.SizeTooLarge ask.min_size) fourth b.1 in
    let d = code-none (not (has_too_many past session)) (open_error.TooManyChannels (open_count past session) (opens past)) None c.1 in
    record {
      account = a.0;
      class = leb-true (class_of_target ask.max_target) 60 b.0;
      size = leb-true ask.min_size 11 c.0;
      few = not-true (has_too_many past session) d.0;
    }

-- what an opening that isn't refused was found to have
pub record WasOpenable (rules : Rules) (past : List Event) (session : ℕ) (ask : OpenAsk) (lead : List ℕ) : Type 0 where
  pub is : IsOpen rules past session ask
  pub lead_is : lead_for past ask ≡ Some lead

pub was-openable : (rules : Rules) (past : List Event) (session : ℕ) (ask : OpenAsk) (lead : List ℕ) → openable rules past session ask ≡ Ok lead
    → WasOpenable rules past session ask lead
was-openable rules past session ask lead = by (first_false (open_conditions rules past session ask) None) refl where
  by : (o : Option OpenError) → first_false (open_conditions rules past session ask) None ≡ o → lead_unless o (lead_for past ask) ≡ Ok lead
      → WasOpenable rules past session ask lead
  by (Some refusal) is h = absurd (err-not_ok h)
  by None is h = record { is = open-conditions rules past session ask is; lead_is = was-found open_error.NoSpace (lead_for past ask) lead h }

-- so of a channel that is named, and of one whose class is set
pub was-nameable : (rules : Rules) (account : List ℕ) (o : Option OpenChannel) (c : OpenChannel) → nameable rules account o ≡ Ok c
    → (o ≡ Some c) × (is_known rules account ≡ true)
was-nameable rules account None c h = absurd (err-not_ok h)
was-nameable rules account (Some d) c h = by (first_false ((is_known rules account, name.UnknownUser) ∷ (not (has_other account d), name.OtherAccount) ∷ []) None) refl h where
  by : (o : Option NameError) → first_false ((is_known rules account, name.UnknownUser) ∷ (not (has_other account d), name.OtherAccount) ∷ []) None ≡ o
      → unless_refusal o d ≡ Ok c → (◌≡◌ {A = Option OpenChannel} (Some d) (Some c)) × (is_known rules account ≡ true)
  by (Some refusal) is g = absurd (err-not_ok g)
  by None is g = (ap Some (ok-ok g), (code-none (is_known rules account) name.UnknownUser (or_code (not (has_other account d)) name.OtherAccount None) is).0)

pub was-updatable : (target : List ℕ) (o : Option OpenChannel) (c : OpenChannel) → updatable target o ≡ Ok c → (o ≡ Some c) × (class_of_target target ≤ 60)
was-updatable target None c h = absurd (err-not_ok h)
was-updatable target (Some d) c h = by (nat_le (class_of_target target) 60) refl h where
  by : (b : Bool) → nat_le (class_of_target target) 60 ≡ b → provided b (update.TargetOutOfRange (class_of_target target)) d ≡ Ok c
      → (◌≡◌ {A = Option OpenChannel} (Some d) (Some c)) × (class_of_target target ≤ 60)
  by true is g = (ap Some (ok-ok g), leb-true (class_of_target target) 60 is)
  by false is g = absurd (err-not_ok g)

-- the account that an opening says
pub account-said : (rules : Rules) (k : Kind) (identity : List ℕ) → may_open rules k (account_of identity) ≡ true
    → is_opening_account rules k (account_for k identity) ≡ true
account-said rules kind.Standard identity h = h
account-said rules kind.Extended identity h = h
account-said rules kind.V1 identity h = refl

-- the lead that it gets is the next one
pub lead-next : (past : List Event) (ask : OpenAsk) (lead : List ℕ) → ask.min_size ≤ 11 → lead_for past ask ≡ Some lead → is_next_lead past ask.kind lead ≡ true
lead-next past ask lead size found =
    let len : ℕ = lead_length ask.kind ask.min_size in
    let long : length lead ≡ len = first_free-length len (held_leads past) 0 (256 ^ len) lead found in
    and_from (is_lead_length ask.kind (length lead))
    (is_just lead (lowest (length lead) (held_leads past)))
    (ap (is_lead_length ask.kind) long ∙ lead-fits ask.kind ask.min_size size)
    (ap (λ n. is_just lead (lowest n (held_leads past))) long
    ∙ ap (is_just lead) found ∙ bytes_eq-self lead)

-- a channel is opened
pub open-legal : (rules : Rules) (past : List Event) (worker session : ℕ) (entered : Entrance) (ask : OpenAsk) → Present rules past worker session entered
    → may_mine entered ≡ true → IsOpen rules past session ask → (lead : List ℕ) → lead_for past ask ≡ Some lead
    → NoCause rules past (opening rules past session ask lead).event
open-legal rules past worker session entered ask p may is lead found =
    let least : rules.least_class ≤ 60 = least-range rules (legal-rules past rules p.legal p.are_rules) in
    permitted may_mine
    (or_code (is_opening_account rules ask.kind (account_for ask.kind ask.identity)) cause.UnknownUser
    (or_code (is_class rules (class_for rules ask.max_target)) cause.BadClass
    (or_code (not (has_too_many past session)) cause.TooManyChannels
    (or_code (is_next_lead past ask.kind lead) cause.BadLead None)))) p may
    ∙ provided-so (is_opening_account rules ask.kind (account_for ask.kind ask.identity)) cause.UnknownUser
    (or_code (is_class rules (class_for rules ask.max_target)) cause.BadClass
    (or_code (not (has_too_many past session)) cause.TooManyChannels
    (or_code (is_next_lead past ask.kind lead) cause.BadLead None))) (account-said rules ask.kind ask.identity is.account)
    ∙ provided-so (is_class rules (class_for rules ask.max_target)) cause.BadClass
    (or_code (not (has_too_many past session)) cause.TooManyChannels
    (or_code (is_next_lead past ask.kind lead) cause.BadLead None)) (class-fits rules ask.max_target least is.class)
    ∙ provided-so (not (has_too_many past session)) cause.TooManyChannels
    (or_code (is_next_lead past ask.kind lead) cause.BadLead None) (not_from_false (has_too_many past session) is.few)
    ∙ provided-so (is_next_lead past ask.kind lead) cause.BadLead None (lead-next past ask lead is.size found)

-- a channel gets its account
pub nameless : (c : OpenChannel) → HasItsAccount c → is_empty c.account ≡ true → is_nameless c.kind c.account ≡ true
nameless c s e = ap (λ k. is_nameless k c.account) (s e) ∙ e

pub name-legal : (rules : Rules) (past : List Event) (worker session : ℕ) (entered : Entrance) (id : ℕ) (account : List ℕ)
    → Present rules past worker session entered → may_mine entered ≡ true → (c : OpenChannel) → own_channel past session id ≡ Some c
    → is_known rules account ≡ true → NoCause rules past (naming session id account c).event
name-legal rules past worker session entered id account p may c found known =
    cond_both (is_empty c.account) (with_event (event.Name session id account) reply.Named) (without_event reply.Named) (λ s. NoCause rules past s.event)
    (λ empty.
    permitted may_mine (or_code (may_get rules account (own_channel past session id)) cause.BadName None) p may
    ∙ ap (λ o. or_code (may_get rules account o) cause.BadName None) found
    ∙ provided-so (is_nameless c.kind c.account && is_known rules account) cause.BadName None
    (and_from (is_nameless c.kind c.account) (is_known rules account)
    (nameless c (own-served past session id c p.legal found) empty) known))
    (λ has. tt)

-- a channel gets its class
pub class-legal : (rules : Rules) (past : List Event) (worker session : ℕ) (entered : Entrance) (id : ℕ) (target : List ℕ)
    → Present rules past worker session entered → may_mine entered ≡ true → (c : OpenChannel) → own_channel past session id ≡ Some c
    → class_of_target target ≤ 60 → NoCause rules past (classing session id (class_for rules target) c).event
class-legal rules past worker session entered id target p may c found few =
    let class : ℕ = class_for rules target in
    let least : rules.least_class ≤ 60 = least-range rules (legal-rules past rules p.legal p.are_rules) in
    cond_both (nat_eq class (present_class c)) (without_event (reply.Target id class)) (with_event (event.Class session id class) (reply.Target id class))
    (λ s. NoCause rules past s.event)
    (λ same. tt)
    (λ other.
    permitted may_mine (or_code (may_become rules class (own_channel past session id)) cause.BadClass None) p may
    ∙ ap (λ o. or_code (may_become rules class o) cause.BadClass None) found
    ∙ provided-so (is_class rules class && not (nat_eq class (present_class c))) cause.BadClass None
    (and_from (is_class rules class) (not (nat_eq class (present_class c))) (class-fits rules target least few)
    (not_from_false (nat_eq class (present_class c)) other)))

-- a channel is closed
pub close-legal : (rules : Rules) (past : List Event) (worker session : ℕ) (entered : Entrance) (id : ℕ) → Present rules past worker session entered
    → may_mine entered ≡ true → (o : Option OpenChannel) → own_channel past session id ≡ o → NoCause rules past (closing session id o).event
close-legal rules past worker session entered id p may None found = tt
close-legal rules past worker session entered id p may (Some c) found =
    permitted may_mine (or_code (is_some (own_channel past session id)) cause.NotOpen None) p may
    ∙ ap (λ o. or_code (is_some o) cause.NotOpen None) found

-- a share is booked: it is standard exactly where its channel is
pub channel-agrees : (a b : Bool) → agree a b ≡ true → a ≡ b
channel-agrees true true h = refl
channel-agrees true false h = absurd (false≢true h)
channel-agrees false true h = absurd (false≢true h)
channel-agrees false false h = refl

-- two steps of judging that went well
pub first-ok : {X Y : Type 0} (r : Result X Failed) (f : X → Result Y Failed) (y : Y) → (r >>= f) ≡ Ok y
    → (x : X) × (r ≡ Ok x) × (f x ≡ Ok y)
first-ok (Ok x) f y h = (x, refl, h)
first-ok (Err e) f y h = absurd (err-ok h) where
  err-ok : {X : Type 0} {e : Failed} {y : X} → ◌≡◌ {A = Result X Failed} (Err e) (Ok y) → ⊥
  err-ok h = cc

pub found-some : {X : Type 0} (code : Failed) (o : Option X) (x : X) → found code o ≡ Ok x → o ≡ Some x
found-some code None x h = absurd (err-ok h) where
  err-ok : {X : Type 0} {e : Failed} {y : X} → ◌≡◌ {A = Result X Failed} (Err e) (Ok y) → ⊥
  err-ok h = cc
found-some code (Some y) x h = cc

pub provided-ok : {X : Type 0} (b : Bool) (code : Failed) (x y : X) → provided b code x ≡ Ok y → (b ≡ true) × (x ≡ y)
provided-ok true code x y h = (refl, cc)
provided-ok false code x y h = absurd (err-ok h) where
  err-ok : {X : Type 0} {e : Failed} {y : X} → ◌≡◌ {A = Result X Failed} (Err e) (Ok y) → ⊥
  err-ok h = cc

-- the channel of an admitted share
pub record HasChannel (past : List Event) (session : ℕ) (share : Share) : Type 0 where
  pub channel : OpenChannel
  pub is_open : channel_in (channels_of past) share.channel ≡ Some channel
  pub serves : serves session share channel ≡ true

pub admission-channel : (rules : Rules) (past : List Event) (session : ℕ) (share : Share) (with : Admitted) → admission rules past session share ≡ Ok with
    → HasChannel past session share
admission-channel rules past session share with h =
    let o : Option OpenChannel = channel_in (channels_of past) share.channel in
    let a = first-ok (found failed.Channel o) _ with h in
    let b = first-ok (provided (serves session share a.0) failed.Channel a.0) _ with a.2 in
    record {
      channel = a.0;
      is_open = found-some failed.Channel o a.0 a.1;
      serves = (provided-ok (serves session share a.0) failed.Channel a.0 b.0 b.1).0;
    }

-- so it counts as standard where its channel does
pub standard-agrees : (past : List Event) (session : ℕ) (share : Share) → HasChannel past session share
    → is_standard_in (channel_in (channels_of past) share.channel) ≡ share.is_standard
standard-agrees past session share c =
    ap is_standard_in c.is_open
    ∙ channel-agrees (is_standard c.channel.kind) share.is_standard
    (and_parts (nat_eq c.channel.session session && has_account c.channel)
    (agree (is_standard c.channel.kind) share.is_standard) c.serves).1

pub commit-legal : (rules : Rules) (past : List Event) (worker session : ℕ) (entered : Entrance) (share : Share) → Present rules past worker session entered
    → may_mine entered ≡ true → (r : Result Admitted Failed) → admission rules past session share ≡ r → NoCause rules past (committing rules past session share r).event
commit-legal rules past worker session entered share p may (Err code) is = tt
commit-legal rules past worker session entered share p may (Ok with) is =
    let b : Bool = is_standard_in (channel_in (channels_of past) share.channel) in
    unless-event (NoCause rules past) reply.Refused (last_failed rules past share (Ok with)) (crediting session share with) tt
    (λ n.
    permitted may_mine (failed_as (first_failed rules past session (record share { is_standard = b }))) p may
    ∙ ap (λ t. failed_as (first_failed rules past session (record share { is_standard = t })))
    (standard-agrees past session share (admission-channel rules past session share with is))
    ∙ ap (λ r. failed_as (last_failed rules past share r)) is ∙ ap failed_as n)

-- a token is granted
pub grant-legal : (rules : Rules) (past : List Event) (worker session : ℕ) (entered : Entrance) (account : List ℕ) (path : Option (List (List ℕ)))
    → Present rules past worker session entered → may_select_work entered ≡ true
    → NoCause rules past (granting rules past session account path).event
grant-legal rules past worker session entered account None p may =
    unless-event (NoCause rules past) reply.GrantRefused (grant_refusal rules past account [])
    (with_event (event.Grant session account false []) (reply.Granted (grants past + 1) rules.pool_script)) tt
    (λ n. permitted may_select_work (grant_cause (grant_refusal rules past account [])) p may ∙ ap grant_cause n)
grant-legal rules past worker session entered account (Some path) p may =
    unless-event (NoCause rules past) reply.GrantRefused (grant_refusal rules past account path)
    (with_event (event.Grant session account true path) (reply.Granted (grants past + 1) rules.pool_script)) tt
    (λ n. permitted may_select_work (grant_cause (grant_refusal rules past account path)) p may ∙ ap grant_cause n)

-- a permitted request of a present session
pub step_in-legal : (rules : Rules) (past : List Event) (worker session : ℕ) (entered : Entrance) (asked : Request) → Present rules past worker session entered
    → permits asked entered ≡ true → NoCause rules past (step_in rules past session asked).event
step_in-legal rules past worker session entered (request.Enter role flags) p may = tt
step_in-legal rules past worker session entered request.Leave p may = permitted may_anything None p refl
step_in-legal rules past worker session entered (request.Template template) p may =
    unless-event (NoCause rules past) reply.TemplateRefused (template_refusal rules.pool_script past template)
    (with_event (event.Template session template) (reply.Job (length (jobs_of past).all + 1))) tt
    (λ n. permitted may_feed (refused_as cause.BadTemplate (template_refusal rules.pool_script past template)) p may ∙ ap (refused_as cause.BadTemplate) n)
step_in-legal rules past worker session entered (request.Tip tip) p may =
    found-event (NoCause rules past) reply.TemplateRefused (λ job. with_event (event.Tip session tip) (reply.Job job.number)) (tippable past tip) tt
    (λ job is. permitted may_feed (unfound_as cause.BadTip (tippable past tip)) p may ∙ ap (unfound_as cause.BadTip) is)
step_in-legal rules past worker session entered (request.Open ask) p may =
    found-event (NoCause rules past) reply.OpenRefused (opening rules past session ask) (openable rules past session ask) tt
    (λ lead is. let w = was-openable rules past session ask lead is in open-legal rules past worker session entered ask p may w.is lead w.lead_is)
step_in-legal rules past worker session entered (request.Name id identity) p may =
    found-event (NoCause rules past) reply.NameRefused (naming session id (account_of identity))
    (nameable rules (account_of identity) (own_channel past session id)) tt
    (λ c is. let w = was-nameable rules (account_of identity) (own_channel past session id) c is in
    name-legal rules past worker session entered id (account_of identity) p may c w.0 w.1)
step_in-legal rules past worker session entered (request.Update id target) p may =
    found-event (NoCause rules past) reply.UpdateRefused (classing session id (class_for rules target)) (updatable target (own_channel past session id)) tt
    (λ c is. let w = was-updatable target (own_channel past session id) c is in
    class-legal rules past worker session entered id target p may c w.0 w.1)
step_in-legal rules past worker session entered (request.Close id) p may =
    close-legal rules past worker session entered id p may (own_channel past session id) refl
step_in-legal rules past worker session entered (request.Brief sub) p may = no_event (admission rules past session (share_of sub)) where
  no_event : (r : Result Admitted Failed) → NoCause rules past (briefing rules r).event
  no_event (Ok with) = tt
  no_event (Err code) = tt
step_in-legal rules past worker session entered (request.Commit checked) p may =
    commit-legal rules past worker session entered (share_of checked.sub) p may (admission rules past session (share_of checked.sub)) refl
step_in-legal rules past worker session entered (request.Poll from) p may = tt
step_in-legal rules past worker session entered (request.Grant identity path) p may =
    grant-legal rules past worker session entered (account_of identity) path p may
step_in-legal rules past worker session entered (request.Custom custom) p may =
    unless-event (NoCause rules past) reply.CustomRefused (custom_refusal rules.pool_script past session custom)
    (with_event (event.Custom session custom) (reply.CustomJob (length (jobs_of past).all + 1))) tt
    (λ n. permitted may_select_work (custom_cause (custom_refusal rules.pool_script past session custom)) p may ∙ ap custom_cause n)

-- a request of a session that was entered so, and of a worker's present session
pub step_as-legal : (rules : Rules) (past : List Event) (worker session : ℕ) (asked : Request) → LegalPast past → rules_of past ≡ Some rules
    → present past worker ≡ Some session → (o : Option Entrance) → entrance past session ≡ o → NoCause rules past (step_as rules past asked session o).event
step_as-legal rules past worker session asked l are there None is = tt
step_as-legal rules past worker session asked l are there (Some entered) is =
    cond_both (permits asked entered) (step_in rules past session asked) (without_event reply.NoSession) (λ s. NoCause rules past s.event)
    (λ may. step_in-legal rules past worker session entered asked (record { legal = l; are_rules = are; there = there; is_entered = is }) may)
    (λ no_leave. tt)

pub step_for-legal : (rules : Rules) (past : List Event) (worker : ℕ) (asked : Request) → LegalPast past → rules_of past ≡ Some rules
    → (o : Option ℕ) → present past worker ≡ o → NoCause rules past (step_for rules past asked o).event
step_for-legal rules past worker asked l are None is = tt
step_for-legal rules past worker asked l are (Some session) is =
    step_as-legal rules past worker session asked l are is (entrance past session) refl

-- a session begins
pub masked-twice : (flags mask : ℕ) → nat_eq (bit_and (bit_and flags mask) mask) (bit_and flags mask) ≡ true
masked-twice flags mask = eq-eqb (bit_and (bit_and flags mask) mask) (bit_and flags mask) (and_assoc mask flags mask ∙ ap (bit_and flags) (and_self mask))

pub enter-legal : (rules : Rules) (past : List Event) (worker : ℕ) (role : Role) (flags : ℕ) → NoCause rules past (entering rules past worker role flags).event
enter-legal rules past worker role flags =
    cond_both (nat_lt (enters past) most_enters)
    (with_event (event.Enter worker role (bit_and flags (allowed_flags rules))) (reply.Entered (enters past))) (without_event (reply.PoolFull most_enters))
    (λ s. NoCause rules past s.event)
    (λ few.
    provided-so (nat_lt (enters past) most_enters) cause.PoolFull
    (or_code (are_acceptable rules (bit_and flags (allowed_flags rules))) cause.BadFlags None) few
    ∙ provided-so (are_acceptable rules (bit_and flags (allowed_flags rules))) cause.BadFlags None (masked-twice flags (allowed_flags rules)))
    (λ full. tt)

pub step_by-legal : (rules : Rules) (past : List Event) (worker : ℕ) (asked : Request) → LegalPast past → rules_of past ≡ Some rules
    → NoCause rules past (step_by rules past worker asked).event
step_by-legal rules past worker (request.Enter role flags) l are = enter-legal rules past worker role flags
step_by-legal rules past worker asked l are = step_for-legal rules past worker asked l are (present past worker) refl

-- the event of a step has no cause
abbrev pub Uncaused : List Event → Option Event → Type 0
Uncaused past None = Unit {0}
Uncaused past (Some e) = cause_of past e ≡ None

pub cause-ruled : (past : List Event) (rules : Rules) (o : Option Event) → rules_of past ≡ Some rules → NoCause rules past o → Uncaused past o
cause-ruled past rules None are n = tt
cause-ruled [] rules (Some e) are n = absurd (none-some are)
cause-ruled (p ∷ past) rules (Some e) are n = ap (λ r. cause_in r (p ∷ past) e) are ∙ n

pub step_under-legal : (past : List Event) (worker : ℕ) (asked : Request) → LegalPast past → (o : Option Rules) → rules_of past ≡ o
    → Uncaused past (step_under o past worker asked).event
step_under-legal past worker asked l None are = tt
step_under-legal past worker asked l (Some rules) are =
    cause-ruled past rules (step_by rules past worker asked).event are (step_by-legal rules past worker asked l are)

pub legal-with : (h : List Event) (o : Option Event) → Legal h → Uncaused (past_of h) o → Legal (h ++ option_to_list o)
legal-with h None l u = subst Legal (sym (append-nil h)) l
legal-with h (Some e) l u = (one_more_legal h e).1 (l, u)

pub answers-legal : AnswersKeepLegality
answers-legal h worker asked events answer l a =
    subst (λ es. Legal (h ++ es)) (sym a.events_are)
    (legal-with h (step (past_of h) worker asked).event l (step_under-legal (past_of h) worker asked l (rules_of (past_of h)) refl))
