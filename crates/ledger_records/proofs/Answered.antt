-- What answers add to a legal history with a ledger can be kept.
use Rattle.std.proofs.Common.{◌≡◌, ℕ, ◌+◌, ◌<◌, ◌≤◌, ◌^◌, Bool, true, false, ◌||◌, cond, not, is_some, Option, None, Some, Result, Ok, Err, List, [], ◌∷◌, ◌++◌, length, max, refl, subst, sym, arith, length-take-le}
use Rattle.std.proofs.lemmas.Bool.{cond_both, leb-true, ltb-false, ltb-true}
use Rattle.std.proofs.lemmas.Nat.{and_le_l}
use Rattle.std.proofs.lemmas.Slice.Eq.{bytes_eq-Decides}
use Rattle.std.proofs.lemmas.Str.{IsUtf8-nil}
use Rattle.std.specs.Prelude.{bit_and, nat_le, nat_lt, take}
use Rattle.std.specs.List.{AllByRecursion}
use Rattle.std.specs.Option.{option_to_list}
use Rattle.std.specs.Str.{bytes_eq}
use Rattle.coinbase.specs.Coin.{template_assembly, outputs_said, template_parts, with_reward, within_length}
use Rattle.coinbase.specs.Custom.{custom_assembly, paying_outputs, some_outputs, with_total, without_foreign}
use Rattle.coinbase.specs.Parts.{Parts, whole_len}
use Rattle.pool_base.specs.Results.{◌>>=◌}
use Rattle.coinbase.specs.declared.error.AssemblyError.{AssemblyError}
use Rattle.coinbase.specs.declared.error.OutputsError.{OutputsError}
use Rattle.coinbase.specs.declared.error.OutputsError.TheVariants as outputs_error
use Rattle.coinbase.specs.declared.error.AssemblyError.TheVariants as assembly_error
use Rattle.pool_history.specs.declared.asking.OpenAsk.{OpenAsk}
use Rattle.pool_history.specs.declared.asking.Request.{Request}
use Rattle.pool_history.specs.declared.asking.Request.TheVariants as request
use Rattle.pool_history.specs.declared.events.Event.{Event}
use Rattle.pool_history.specs.declared.events.Event.TheVariants as event
use Rattle.pool_history.specs.declared.events.Kind.{Kind}
use Rattle.pool_history.specs.declared.events.Kind.TheVariants as kind
use Rattle.pool_history.specs.declared.events.Role.{Role}
use Rattle.pool_history.specs.declared.refusals.CustomError.TheVariants as custom
use Rattle.pool_history.specs.declared.refusals.Failed.{Failed}
use Rattle.pool_history.specs.declared.refusals.GrantError.TheVariants as grant
use Rattle.pool_history.specs.declared.refusals.JobError.TheVariants as job
use Rattle.pool_history.specs.declared.replies.Reply.TheVariants as reply
use Rattle.pool_history.specs.declared.settings.Rules.{Rules}
use Rattle.pool_history.specs.declared.shares.Submission.{Submission}
use Rattle.pool_history.specs.declared.templates.CustomData.{CustomData}
use Rattle.pool_history.specs.declared.templates.TemplateData.{TemplateData}
use Rattle.pool_history.specs.declared.templates.TipData.{TipData}
use Rattle.pool_history.specs.Accounts.{account_of, is_empty, is_known}
use Rattle.pool_history.specs.Answering.{account_for, briefing, classing, closing, committing, crediting, entering, granting, with_event, naming, opening, permits, step, step_as, step_by, step_for, step_in, step_under, without_event}
use Rattle.pool_history.specs.Channels.{OpenChannel, present_class}
use Rattle.pool_history.specs.Crediting.{last_failed}
use Rattle.pool_history.specs.Jobs.{Job, jobs_of}
use Rattle.pool_history.specs.Judging.{Admitted, admission, custom_terms, share_of, template_terms}
use Rattle.pool_history.specs.Legal.{LegalPast, allowed_flags}
use Rattle.pool_history.specs.Refusing.{Granted, class_for, class_of_target, coinbase_refusal, custom_refusal, grant_of, grant_refusal, granted_to, is_bad_path, is_extended, is_other_tip, is_spent, is_template_known, lead_for, lead_length, held_leads, may_open, most_enters, most_entries, most_grants, most_templates, on_channel, outputs_refusal, over_tip, own_channel, template_refusal, token_of, unspent, with_token, openable, nameable, updatable, tippable}
use Rattle.pool_history.specs.Sessions.{Entrance, enters, entrance, grants, past_of, present, rules_of, templates}
use Rattle.history_laws.proofs.Answering.{IsOpen, answers-legal, unless-event, found-event, was-openable, was-nameable, was-updatable}
use Rattle.history_laws.proofs.Causes.{provided-both}
use Rattle.history_laws.proofs.Counted.{entered-most}
use Rattle.history_laws.proofs.Crediting.{kept-both}
use Rattle.history_laws.proofs.Entrances.{entrance-below, none-some}
use Rattle.history_laws.proofs.Holding.{first_free-length}
use Rattle.history_laws.proofs.Legalities.{some-none}
use Rattle.history_laws.proofs.Ranges.{least-range, legal-rules}
use Rattle.ledger_records.specs.Keeping.{AnswersCanBeKept}
use Rattle.ledger_records.specs.OneLedger.{AllCanBeKept}
use Rattle.ledger_records.specs.Requests.{IsPath, IsSubmission, IsWellFormedRequest}
use Rattle.ledger_records.specs.WellFormed.{AreHashes, CanBeKept, IsCustom, IsTemplate, IsTip, IsU32}
use Rattle.ledger_records.proofs.Sizes.{IsSpelled, credit-short, custom-short, grant-short, known-spelled, name-short, open-short, suffix-holds, template-short, tip-short, whole-holds}

-- an event can be kept, where there is one
abbrev pub MayKeep : Option Event → Type 0
MayKeep None = Unit {0}
MayKeep (Some e) = CanBeKept e

-- the number of a session has 32 bits
session-fits : (past : List Event) (session : ℕ) (entered : Entrance) → LegalPast past → entrance past session ≡ Some entered → IsU32 session
session-fits past session entered l is = below (enters past) session (entrance-below past session entered is) (entered-most past l) where
  below : (m n : ℕ) → n < m → m ≤ 2 ^ 22 → n < 2 ^ 32
  below m n h k = omega (arith, h, k)

-- a result that isn't an error
err-ok : {X E : Type 0} {e : E} {x : X} → ◌≡◌ {A = Result X E} (Err e) (Ok x) → ⊥
err-ok h = cc

cond-ok : {X E : Type 0} (b : Bool) (e : E) (r : Result X E) (x : X) → cond b (Err e) r ≡ Ok x → (b ≡ false) × (r ≡ Ok x)
cond-ok true e r x h = absurd (err-ok h)
cond-ok false e r x h = (refl, h)

cond-kept : {X E : Type 0} (b : Bool) (e : E) (r : Result X E) (x : X) → cond b r (Err e) ≡ Ok x → (b ≡ true) × (r ≡ Ok x)
cond-kept true e r x h = (refl, h)
cond-kept false e r x h = absurd (err-ok h)

first-ok : {X Y E : Type 0} (r : Result X E) (f : X → Result Y E) (y : Y) → (r >>= f) ≡ Ok y → (x : X) × (r ≡ Ok x) × (f x ≡ Ok y)
first-ok (Ok x) f y h = (x, refl, h)
first-ok (Err e) f y h = absurd (err-ok h)

ok-same : {X E : Type 0} {x y : X} → ◌≡◌ {A = Result X E} (Ok x) (Ok y) → x ≡ y
ok-same h = cc

-- a template that isn't refused is short
record IsShortTemplate (template : TemplateData) : Type 0 where
  pub prefix : length template.coinbase_prefix ≤ 88
  pub outputs : length template.coinbase_tx_outputs ≤ 65535

coinbase-ok : (r : Result Parts AssemblyError) → coinbase_refusal r ≡ None → (parts : Parts) × (r ≡ Ok parts)
coinbase-ok (Ok parts) n = (parts, refl)
coinbase-ok (Err e) n = absurd (some-none n)

template-fits : (script : List ℕ) (template : TemplateData) (parts : Parts) → template_assembly (template_terms template) script ≡ Ok parts → IsShortTemplate template
template-fits script template parts is =
    let terms = template_terms template in
    let a = cond-ok (nat_lt 88 (length template.coinbase_prefix)) (assembly_error.ScriptTooLong (length template.coinbase_prefix))
    (outputs_said terms >>= λ outputs. with_reward terms script) parts is in
    let b = first-ok (outputs_said terms) (λ outputs. with_reward terms script) parts a.1 in
    let c = cond-kept (nat_lt template.coinbase_tx_value_remaining (2 ^ 40)) (assembly_error.RewardTooLarge template.coinbase_tx_value_remaining)
    (within_length (template_parts terms script)) parts b.2 in
    let d = cond-ok (nat_lt 65535 (whole_len (template_parts terms script))) (assembly_error.TooLong (whole_len (template_parts terms script))) (Ok (template_parts terms script)) parts c.1 in
    record {
      prefix = ltb-false 88 (length template.coinbase_prefix) a.0;
      outputs = within (length template.coinbase_tx_outputs) (length (template_parts terms script).suffix) (whole_len (template_parts terms script))
          (suffix-holds template.coinbase_tx_input_sequence (1 + template.coinbase_tx_outputs_count)
          (Rattle.coinbase.specs.Form.output_bytes (Rattle.coinbase.specs.Coin.pool_output template.coinbase_tx_value_remaining script))
          template.coinbase_tx_outputs template.coinbase_tx_locktime)
          (whole-holds (template_parts terms script).witness (template_parts terms script).prefix (template_parts terms script).suffix)
          (ltb-false 65535 (whole_len (template_parts terms script)) d.0);
    }
  where
    within : (a b c : ℕ) → a ≤ b → b ≤ c → c ≤ 65535 → a ≤ 65535
    within a b c h k l = omega (arith, h, k, l)

template-kept : (script : List ℕ) (past : List Event) (session : ℕ) (template : TemplateData) → IsU32 session → IsTemplate template
    → template_refusal script past template ≡ None → CanBeKept (event.Template session template)
template-kept script past session template s is n =
    let jobs : List Job = (jobs_of past).future ++ (jobs_of past).live in
    let a = provided-both (nat_lt (templates past) most_templates) (job.TooMany (templates past)) _ n in
    let b = provided-both (not (is_template_known jobs template.template_id)) (job.TemplateKnown template.template_id) _ a.1 in
    let c = provided-both (template.future_template || is_some (jobs_of past).tip) job.NoTip _ b.1 in
    let ok = coinbase-ok (template_assembly (template_terms template) script) c.1 in
    let short : IsShortTemplate template = template-fits script template ok.0 ok.1 in
    record {
      well_formed = record { session_fits = s; template_fits = is };
      has_record = record {
        fits = record { prefix = omega (arith, short.prefix); outputs = omega (arith, short.outputs); path = omega (arith, template.path_fits) };
        texts = tt;
        short = template-short session template short.prefix short.outputs is.merkle_path;
      };
    }

-- a tip
tip-kept : (session : ℕ) (tip : TipData) → IsU32 session → IsTip tip → CanBeKept (event.Tip session tip)
tip-kept session tip s is = record {
  well_formed = record { session_fits = s; tip_fits = is };
  has_record = record { fits = tt; texts = tt; short = tip-short session tip is.prev_hash is.target };
}

-- the account that an opening says
said-spelled : (rules : Rules) (k : Kind) (identity : List ℕ) → may_open rules k (account_of identity) ≡ true → IsSpelled (account_for k identity)
said-spelled rules kind.Standard identity h = known-spelled rules (account_of identity) h
said-spelled rules kind.Extended identity h = known-spelled rules (account_of identity) h
said-spelled rules kind.V1 identity h = record { short = omega arith; utf8 = IsUtf8-nil }

lead-few : (k : Kind) (size : ℕ) → lead_length k size ≤ 32
lead-few kind.Standard size = omega arith
lead-few kind.Extended size = omega arith
lead-few kind.V1 size = omega arith

-- the class that a target gets is small
class-small : (rules : Rules) (past : List Event) (target : List ℕ) → LegalPast past → rules_of past ≡ Some rules → class_of_target target ≤ 60
    → class_for rules target < 2 ^ 8
class-small rules past target l are few = small (class_of_target target) rules.least_class few (least-range rules (legal-rules past rules l are)) where
  small : (m n : ℕ) → m ≤ 60 → n ≤ 60 → max m n < 2 ^ 8
  small m n h k = omega (arith, h, k)

open-kept : (rules : Rules) (past : List Event) (session : ℕ) (ask : OpenAsk) → LegalPast past → rules_of past ≡ Some rules → IsU32 session
    → IsOpen rules past session ask → (lead : List ℕ) → lead_for past ask ≡ Some lead → MayKeep (opening rules past session ask lead).event
open-kept rules past session ask l are s is lead found =
    let len : ℕ = lead_length ask.kind ask.min_size in
    let account : IsSpelled (account_for ask.kind ask.identity) = said-spelled rules ask.kind ask.identity is.account in
    let short : length lead ≤ 32 =
    subst (λ n. n ≤ 32) (sym (first_free-length len (held_leads past) 0 (256 ^ len) lead found)) (lead-few ask.kind ask.min_size) in
    record {
      well_formed = record { session_fits = s; account_fits = omega (arith, account.short); class_fits = class-small rules past ask.max_target l are is.class };
      has_record = record {
        fits = short;
        texts = account.utf8;
        short = open-short session ask.kind (account_for ask.kind ask.identity) (class_for rules ask.max_target) lead account.short short;
      };
    }

-- a channel gets its account, and its class
name-kept : (rules : Rules) (session id : ℕ) (account : List ℕ) → IsU32 session → IsU32 id → (c : OpenChannel) → is_known rules account ≡ true
    → MayKeep (naming session id account c).event
name-kept rules session id account s i c is =
    let known : IsSpelled account = known-spelled rules account is in
    cond_both (is_empty c.account) (with_event (event.Name session id account) reply.Named) (without_event reply.Named) (λ step. MayKeep step.event)
    (λ empty. record {
      well_formed = record { session_fits = s; channel_fits = i; account_fits = omega (arith, known.short) };
      has_record = record { fits = tt; texts = known.utf8; short = name-short session id account known.short };
    })
    (λ has. tt)

class-kept : (rules : Rules) (past : List Event) (session id : ℕ) (target : List ℕ) → LegalPast past → rules_of past ≡ Some rules → IsU32 session → IsU32 id
    → (c : OpenChannel) → class_of_target target ≤ 60 → MayKeep (classing session id (class_for rules target) c).event
class-kept rules past session id target l are s i c few =
    let class : ℕ = class_for rules target in
    cond_both (Rattle.std.specs.Prelude.nat_eq class (present_class c)) (without_event (reply.Target id class)) (with_event (event.Class session id class) (reply.Target id class))
    (λ step. MayKeep step.event)
    (λ same. tt)
    (λ other. record {
      well_formed = record { session_fits = s; channel_fits = i; class_fits = class-small rules past target l are few };
      has_record = record { fits = tt; texts = tt; short = omega arith };
    })

close-kept : (session id : ℕ) → IsU32 session → IsU32 id → (o : Option OpenChannel) → MayKeep (closing session id o).event
close-kept session id s i None = tt
close-kept session id s i (Some c) = record {
  well_formed = record { session_fits = s; channel_fits = i };
  has_record = record { fits = tt; texts = tt; short = omega arith };
}

-- a share is booked
commit-kept : (rules : Rules) (past : List Event) (session : ℕ) (sub : Submission) → IsU32 session → IsSubmission sub → (r : Result Admitted Failed)
    → MayKeep (committing rules past session (share_of sub) r).event
commit-kept rules past session sub s is (Err code) = tt
commit-kept rules past session sub s is (Ok with) =
    let short : length (take sub.extranonce_len sub.extranonce) ≤ 32 =
    subst (λ n. n ≤ 32) (sym (length-take-le sub.extranonce_len sub.extranonce (whole is.extranonce sub.extranonce_fits))) sub.extranonce_fits in
    unless-event MayKeep reply.Refused (last_failed rules past (share_of sub) (Ok with)) (crediting session (share_of sub) with) tt
    (λ n. record {
      well_formed = record { session_fits = s; channel_fits = is.channel; job_fits = is.job; nonce_fits = is.nonce; ntime_fits = is.ntime; version_fits = is.version };
      has_record = record {
        fits = short;
        texts = tt;
        short = credit-short session sub.channel sub.job sub.nonce sub.ntime sub.version (take sub.extranonce_len sub.extranonce) short;
      };
    })
  where
    whole : {a b : ℕ} → b ≡ 32 → a ≤ 32 → a ≤ b
    whole h k = omega (arith, h, k)

-- a token is granted
record IsGranting (account : List ℕ) (path : List (List ℕ)) : Type 0 where
  pub spelled : IsSpelled account
  pub few : length path ≤ 255

grant-conditions : (rules : Rules) (past : List Event) (account : List ℕ) (path : List (List ℕ)) → grant_refusal rules past account path ≡ None
    → IsGranting account path
grant-conditions rules past account path n =
    let a = provided-both (is_known rules account) grant.UnknownUser _ n in
    let b = provided-both (nat_lt (grants past) most_grants) (grant.TooManyGrants (grants past)) _ a.1 in
    let c = provided-both (nat_le (length path) most_entries) (grant.PathTooLong (length path)) None b.1 in
    record { spelled = known-spelled rules account a.0; few = fewer (length path) (leb-true (length path) most_entries c.0) }
  where
    fewer : (n : ℕ) → n ≤ 32 → n ≤ 255
    fewer n h = omega (arith, h)

granted-kept : (session : ℕ) (account : List ℕ) (fixed : Bool) (path : List (List ℕ)) → IsU32 session → AreHashes path → (fixed ≡ false → path ≡ [])
    → IsGranting account path → CanBeKept (event.Grant session account fixed path)
granted-kept session account fixed path s p none is = record {
  well_formed = record { session_fits = s; account_fits = omega (arith, is.spelled.short); path_fits = p };
  has_record = record {
    fits = record { none = none; short = omega (arith, is.few) };
    texts = is.spelled.utf8;
    short = grant-short session account fixed path is.spelled.short is.few p;
  };
}

grant-kept : (rules : Rules) (past : List Event) (session : ℕ) (account : List ℕ) (path : Option (List (List ℕ))) → IsU32 session → IsPath path
    → MayKeep (granting rules past session account path).event
grant-kept rules past session account None s p =
    unless-event MayKeep reply.GrantRefused (grant_refusal rules past account [])
    (with_event (event.Grant session account false []) (reply.Granted (grants past + 1) rules.pool_script)) tt
    (λ n. granted-kept session account false [] s tt (λ f. refl) (grant-conditions rules past account [] n))
grant-kept rules past session account (Some path) s p =
    unless-event MayKeep reply.GrantRefused (grant_refusal rules past account path)
    (with_event (event.Grant session account true path) (reply.Granted (grants past + 1) rules.pool_script)) tt
    (λ n. granted-kept session account true path s p (λ f. absurd (Rattle.std.proofs.lemmas.Bool.false≢true (sym f))) (grant-conditions rules past account path n))

-- a token that was granted has eight bytes
token-length : (past : List Event) (token : List ℕ) (g : Granted) → grant_of past token ≡ Some g → length token ≤ 8
token-length [] token g is = absurd (none-some is)
token-length (event.Grant session account fixed path ∷ older) token g is =
    cond_both (bytes_eq token (token_of (grants older + 1))) (Some (record { account = account; fixed = fixed; path = path })) (grant_of older token)
    (λ o. o ≡ Some g → length token ≤ 8)
    (λ same found. subst (λ t. length t ≤ 8) (sym ((bytes_eq-Decides token (token_of (grants older + 1))).0 same)) (eight (grants older + 1)))
    (λ other found. token-length older token g found) is
  where
    eight : (n : ℕ) → length (token_of n) ≤ 8
    eight n = omega arith
token-length (e ∷ older) token g is = token-length older token g is

to-some : (account : List ℕ) (o : Option Granted) (g : Granted) → granted_to account o ≡ Some g → (h : Granted) × (o ≡ Some h)
to-some account None g is = absurd (none-some is)
to-some account (Some h) g is = (h, refl)

unspent-length : (past : List Event) (token : List ℕ) (c : OpenChannel) (g : Granted) → unspent past token c ≡ Some g → length token ≤ 8
unspent-length past token c g is =
    cond_both (is_spent past token) None (granted_to c.account (grant_of past token)) (λ o. o ≡ Some g → length token ≤ 8)
    (λ spent found. absurd (none-some found))
    (λ fresh found. by (to-some c.account (grant_of past token) g found)) is
  where
    by : (h : Granted) × (grant_of past token ≡ Some h) → length token ≤ 8
    by h = token-length past token h.0 h.1

-- a miner's own job that isn't refused is short
record IsShortCustom (custom : CustomData) : Type 0 where
  pub token : length custom.token ≤ 8
  pub prefix : length custom.coinbase_prefix ≤ 88
  pub outputs : length custom.coinbase_tx_outputs ≤ 1024

outputs-ok : (r : Result (Parts × ℕ) OutputsError) → outputs_refusal r ≡ None → (x : Parts × ℕ) × (r ≡ Ok x)
outputs-ok (Ok x) n = (x, refl)
outputs-ok (Err e) n = absurd (some-none n)

custom-fits : (script : List ℕ) (offer : CustomData) → length offer.token ≤ 8 → outputs_refusal (custom_assembly (custom_terms offer) script) ≡ None
    → IsShortCustom offer
custom-fits script offer t n =
    let terms = custom_terms offer in
    let ok = outputs-ok (custom_assembly terms script) n in
    let a = cond-ok (nat_lt 88 (length offer.coinbase_prefix)) (outputs_error.ScriptTooLong (length offer.coinbase_prefix))
    (paying_outputs terms script >>= λ outputs. with_total terms outputs) ok.0 ok.1 in
    let b = first-ok (paying_outputs terms script) (λ outputs. with_total terms outputs) ok.0 a.1 in
    let c = cond-ok (nat_lt 1024 (length offer.coinbase_tx_outputs)) (outputs_error.TooLong (length offer.coinbase_tx_outputs))
    (some_outputs (Rattle.coinbase.specs.Outputs.outputs_of offer.coinbase_tx_outputs)
    >>= λ outputs. without_foreign (Rattle.std.specs.Prelude.position (Rattle.coinbase.specs.Custom.is_foreign script) outputs) outputs) b.0 b.1 in
    record { token = t; prefix = ltb-false 88 (length offer.coinbase_prefix) a.0; outputs = ltb-false 1024 (length offer.coinbase_tx_outputs) c.0 }

over-tip : (script : List ℕ) (g : Granted) (offer : CustomData) (o : Option TipData) → length offer.token ≤ 8 → over_tip script g offer o ≡ None → IsShortCustom offer
over-tip script g offer None t n = absurd (some-none n)
over-tip script g offer (Some tip) t n =
    let a = provided-both (not (is_other_tip tip offer)) custom.StaleTip _ n in
    let b = provided-both (nat_le tip.header_timestamp offer.min_ntime) (custom.EarlyTime tip.header_timestamp) _ a.1 in
    let c = provided-both (not (is_bad_path g offer.merkle_path)) (custom.BadPath (length offer.merkle_path)) _ b.1 in
    custom-fits script offer t c.1

with-token : (script : List ℕ) (past : List Event) (offer : CustomData) (c : OpenChannel) (o : Option Granted) → unspent past offer.token c ≡ o
    → with_token script past offer o ≡ None → IsShortCustom offer
with-token script past offer c None is n = absurd (some-none n)
with-token script past offer c (Some g) is n = over-tip script g offer (jobs_of past).tip (unspent-length past offer.token c g is) n

on-channel : (script : List ℕ) (past : List Event) (offer : CustomData) (o : Option OpenChannel) → on_channel script past offer o ≡ None → IsShortCustom offer
on-channel script past offer None n = absurd (some-none n)
on-channel script past offer (Some c) n =
    with-token script past offer c (unspent past offer.token c) refl
    (kept-both (is_extended c.kind) (with_token script past offer (unspent past offer.token c)) custom.NotOpen n).1

custom-kept : (script : List ℕ) (past : List Event) (session : ℕ) (offer : CustomData) → IsU32 session → IsCustom offer
    → custom_refusal script past session offer ≡ None → CanBeKept (event.Custom session offer)
custom-kept script past session offer s is n =
    let short : IsShortCustom offer = on-channel script past offer (own_channel past session offer.channel_id) n in
    record {
      well_formed = record { session_fits = s; custom_fits = is };
      has_record = record {
        fits = record {
          token = omega (arith, short.token);
          prefix = omega (arith, short.prefix);
          outputs = omega (arith, short.outputs);
          path = omega (arith, offer.path_fits);
        };
        texts = tt;
        short = custom-short session offer short.token is.prev_hash short.prefix short.outputs is.merkle_path;
      };
    }

-- a permitted request of a session
step_in-kept : (rules : Rules) (past : List Event) (session : ℕ) (asked : Request) → LegalPast past → rules_of past ≡ Some rules → IsU32 session
    → IsWellFormedRequest asked → MayKeep (step_in rules past session asked).event
step_in-kept rules past session (request.Enter role flags) l are s w = tt
step_in-kept rules past session request.Leave l are s w =
    record { well_formed = s; has_record = record { fits = tt; texts = tt; short = omega arith } }
step_in-kept rules past session (request.Template template) l are s w =
    unless-event MayKeep reply.TemplateRefused (template_refusal rules.pool_script past template)
    (with_event (event.Template session template) (reply.Job (length (jobs_of past).all + 1))) tt
    (λ n. template-kept rules.pool_script past session template s w n)
step_in-kept rules past session (request.Tip tip) l are s w =
    found-event MayKeep reply.TemplateRefused (λ job. with_event (event.Tip session tip) (reply.Job job.number)) (tippable past tip) tt
    (λ job is. tip-kept session tip s w)
step_in-kept rules past session (request.Open ask) l are s w =
    found-event MayKeep reply.OpenRefused (opening rules past session ask) (openable rules past session ask) tt
    (λ lead is. let o = was-openable rules past session ask lead is in open-kept rules past session ask l are s o.is lead o.lead_is)
step_in-kept rules past session (request.Name id identity) l are s w =
    found-event MayKeep reply.NameRefused (naming session id (account_of identity)) (nameable rules (account_of identity) (own_channel past session id)) tt
    (λ c is. name-kept rules session id (account_of identity) s w.channel_fits c (was-nameable rules (account_of identity) (own_channel past session id) c is).1)
step_in-kept rules past session (request.Update id target) l are s w =
    found-event MayKeep reply.UpdateRefused (classing session id (class_for rules target)) (updatable target (own_channel past session id)) tt
    (λ c is. class-kept rules past session id target l are s w.channel_fits c (was-updatable target (own_channel past session id) c is).1)
step_in-kept rules past session (request.Close id) l are s w = close-kept session id s w (own_channel past session id)
step_in-kept rules past session (request.Brief sub) l are s w = no_event (admission rules past session (share_of sub)) where
  no_event : (r : Result Admitted Failed) → MayKeep (briefing rules r).event
  no_event (Ok with) = tt
  no_event (Err code) = tt
step_in-kept rules past session (request.Commit checked) l are s w =
    commit-kept rules past session checked.sub s w (admission rules past session (share_of checked.sub))
step_in-kept rules past session (request.Poll from) l are s w = tt
step_in-kept rules past session (request.Grant identity path) l are s w = grant-kept rules past session (account_of identity) path s w.path_fits
step_in-kept rules past session (request.Custom offer) l are s w =
    unless-event MayKeep reply.CustomRefused (custom_refusal rules.pool_script past session offer)
    (with_event (event.Custom session offer) (reply.CustomJob (length (jobs_of past).all + 1))) tt
    (λ n. custom-kept rules.pool_script past session offer s w n)

-- a request of a session that was entered so, and of a worker's present session
step_as-kept : (rules : Rules) (past : List Event) (session : ℕ) (asked : Request) → LegalPast past → rules_of past ≡ Some rules → IsWellFormedRequest asked
    → (o : Option Entrance) → entrance past session ≡ o → MayKeep (step_as rules past asked session o).event
step_as-kept rules past session asked l are w None is = tt
step_as-kept rules past session asked l are w (Some entered) is =
    cond_both (permits asked entered) (step_in rules past session asked) (without_event reply.NoSession) (λ step. MayKeep step.event)
    (λ may. step_in-kept rules past session asked l are (session-fits past session entered l is) w)
    (λ may_not. tt)

step_for-kept : (rules : Rules) (past : List Event) (asked : Request) → LegalPast past → rules_of past ≡ Some rules → IsWellFormedRequest asked
    → (o : Option ℕ) → MayKeep (step_for rules past asked o).event
step_for-kept rules past asked l are w None = tt
step_for-kept rules past asked l are w (Some session) = step_as-kept rules past session asked l are w (entrance past session) refl

-- a session begins
enter-kept : (rules : Rules) (past : List Event) (worker : ℕ) (role : Role) (flags : ℕ) → IsU32 worker → IsU32 flags
    → MayKeep (entering rules past worker role flags).event
enter-kept rules past worker role flags u f =
    cond_both (nat_lt (enters past) most_enters)
    (with_event (event.Enter worker role (bit_and flags (allowed_flags rules))) (reply.Entered (enters past))) (without_event (reply.PoolFull most_enters))
    (λ step. MayKeep step.event)
    (λ few. record {
      well_formed = record { worker_fits = u; flags_fit = below (bit_and flags (allowed_flags rules)) flags (and_le_l flags (allowed_flags rules)) f };
      has_record = record { fits = tt; texts = tt; short = omega arith };
    })
    (λ full. tt)
  where
    below : (m n : ℕ) → m ≤ n → n < 2 ^ 32 → m < 2 ^ 32
    below m n h k = omega (arith, h, k)

step_by-kept : (rules : Rules) (past : List Event) (worker : ℕ) (asked : Request) → LegalPast past → rules_of past ≡ Some rules → IsU32 worker
    → IsWellFormedRequest asked → MayKeep (step_by rules past worker asked).event
step_by-kept rules past worker (request.Enter role flags) l are u w = enter-kept rules past worker role flags u w
step_by-kept rules past worker asked l are u w = step_for-kept rules past asked l are w (present past worker)

step_under-kept : (past : List Event) (worker : ℕ) (asked : Request) → LegalPast past → IsU32 worker → IsWellFormedRequest asked
    → (o : Option Rules) → rules_of past ≡ o → MayKeep (step_under o past worker asked).event
step_under-kept past worker asked l u w None are = tt
step_under-kept past worker asked l u w (Some rules) are = step_by-kept rules past worker asked l are u w

one-kept : (o : Option Event) → MayKeep o → AllCanBeKept (option_to_list o)
one-kept None k = tt
one-kept (Some e) k = (k, tt)

all-append : (xs ys : List Event) → AllCanBeKept xs → AllCanBeKept ys → AllCanBeKept (xs ++ ys)
all-append [] ys p q = q
all-append (x ∷ xs) ys p q = (p.0, all-append xs ys p.1 q)

pub answers-kept : AnswersCanBeKept
answers-kept history worker asked events answer k u w a =
    let each : AllCanBeKept events =
    subst AllCanBeKept (sym a.events_are)
    (one-kept (step (past_of history) worker asked).event
    (step_under-kept (past_of history) worker asked k.legal u w (rules_of (past_of history)) refl)) in
    record {
      each = each;
      kept = record { legal = answers-legal history worker asked events answer k.legal a; has_ledger = all-append history events k.has_ledger each };
    }
