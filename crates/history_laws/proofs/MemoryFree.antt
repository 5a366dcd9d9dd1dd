-- No refusal in a reply is a lack of memory.
use Rattle.std.proofs.Common.{◌++◌, ◌≡◌, ℕ, ◌^◌, Bool, true, false, ◌||◌, not, is_some, Option, None, Some, Result, Ok, Err, List, [], ◌∷◌, length, refl, ap, sym, ◌∙◌}
use Rattle.std.proofs.lemmas.Bool.{cond_both}
use Rattle.std.specs.Prelude.{nat_eq, nat_le, nat_lt, position}
use Rattle.coinbase.specs.Coin.{Terms, counted_as, outputs_said, template_assembly, template_parts, with_reward, within_length}
use Rattle.coinbase.specs.Custom.{CustomTerms, custom_assembly, custom_parts, is_foreign, paying_outputs, some_outputs, total, with_total, without_foreign}
use Rattle.coinbase.specs.Outputs.{outputs_of}
use Rattle.coinbase.specs.Parts.{Parts, whole_len}
use Rattle.pool_base.specs.Results.{◌>>=◌}
use Rattle.coinbase.specs.declared.error.AssemblyError.{AssemblyError}
use Rattle.coinbase.specs.declared.error.AssemblyError.TheVariants as assembly
use Rattle.coinbase.specs.declared.error.OutputsError.{OutputsError}
use Rattle.coinbase.specs.declared.error.OutputsError.TheVariants as outputs_error
use Rattle.coinbase.specs.declared.tx.TxOut.{TxOut}
use Rattle.pool_history.specs.declared.asking.OpenAsk.{OpenAsk}
use Rattle.pool_history.specs.declared.events.Event.{Event}
use Rattle.pool_history.specs.declared.refusals.CustomError.TheVariants as custom
use Rattle.pool_history.specs.declared.refusals.JobError.TheVariants as job
use Rattle.pool_history.specs.declared.refusals.NameError.TheVariants as name
use Rattle.pool_history.specs.declared.refusals.OpenError.{OpenError}
use Rattle.pool_history.specs.declared.refusals.OpenError.TheVariants as open_error
use Rattle.pool_history.specs.declared.settings.Rules.{Rules}
use Rattle.pool_history.specs.declared.templates.CustomData.{CustomData}
use Rattle.pool_history.specs.declared.templates.TemplateData.{TemplateData}
use Rattle.pool_history.specs.declared.templates.TipData.{TipData}
use Rattle.pool_history.specs.Accounts.{account_of, is_known}
use Rattle.pool_history.specs.Channels.{OpenChannel}
use Rattle.pool_history.specs.Conditions.{first_false, found, or_code, unless_refusal}
use Rattle.pool_history.specs.Jobs.{Job, future_of, jobs_of}
use Rattle.pool_history.specs.Judging.{custom_terms, template_terms}
use Rattle.pool_history.specs.Refusing.{Granted, class_of_target, coinbase_refusal, custom_refusal, has_other, has_too_many, is_bad_path, is_extended, is_other_tip, is_template_known, lead_for, lead_unless, may_open, most_templates, nameable, on_channel, open_conditions, open_count, openable, outputs_refusal, over_tip, own_channel, template_refusal, tippable, unspent, with_token}
use Rattle.pool_history.specs.Sessions.{opens, templates}
use Rattle.history_laws.specs.Fitting.{assembly_wants_memory, custom_wants_memory, job_wants_memory, name_wants_memory, open_wants_memory, outputs_want_memory}
use Rattle.history_laws.proofs.Entrances.{none-some, some-same}

-- a refusal, if any, that isn't a lack of memory
abbrev pub Free : {C : Type 0} → (C → Bool) → Option C → Type 0
Free wants None = Unit {0}
Free wants (Some e) = wants e ≡ false

abbrev pub FreeResult : {X C : Type 0} → (C → Bool) → Result X C → Type 0
FreeResult wants (Ok x) = Unit {0}
FreeResult wants (Err e) = wants e ≡ false

pub free-some : {C : Type 0} (wants : C → Bool) (o : Option C) (e : C) → Free wants o → o ≡ Some e → wants e ≡ false
free-some wants None e f is = absurd (none-some is)
free-some wants (Some d) e f is = ap wants (sym (some-same is)) ∙ f

pub free-err : {X C : Type 0} (wants : C → Bool) (r : Result X C) (e : C) → FreeResult wants r → r ≡ Err e → wants e ≡ false
free-err wants (Ok x) e f is = absurd (ok-err is) where
  ok-err : {X C : Type 0} {x : X} {e : C} → ◌≡◌ {A = Result X C} (Ok x) (Err e) → ⊥
  ok-err is = cc
free-err wants (Err d) e f is = ap wants (sym (err-same is)) ∙ f where
  err-same : {X C : Type 0} {d e : C} → ◌≡◌ {A = Result X C} (Err d) (Err e) → d ≡ e
  err-same is = cc

bind-free : {X Y C : Type 0} (wants : C → Bool) (r : Result X C) (f : X → Result Y C) → FreeResult wants r → ((x : X) → FreeResult wants (f x))
    → FreeResult wants (r >>= f)
bind-free wants (Ok x) f first more = more x
bind-free wants (Err e) f first more = first

code-free : {C : Type 0} (wants : C → Bool) (b : Bool) (e : C) (next : Option C) → wants e ≡ false → Free wants next → Free wants (or_code b e next)
code-free wants true e next f n = n
code-free wants false e next f n = f

-- a template's coinbase
counted-free : (said : ℕ) (r : Result (List TxOut) ℕ) → FreeResult assembly_wants_memory (counted_as said r)
counted-free said (Err at) = refl
counted-free said (Ok outputs) =
    cond_both (nat_eq (length outputs) said) (Ok outputs) (Err (assembly.CountDiffers said (length outputs))) (FreeResult assembly_wants_memory) (λ t. tt) (λ f. refl)

length-free : (parts : Parts) → FreeResult assembly_wants_memory (within_length parts)
length-free parts =
    cond_both (nat_lt 65535 (whole_len parts)) (Err (assembly.TooLong (whole_len parts))) (Ok parts) (FreeResult assembly_wants_memory) (λ t. refl) (λ f. tt)

reward-free : (terms : Terms) (script : List ℕ) → FreeResult assembly_wants_memory (with_reward terms script)
reward-free terms script =
    cond_both (nat_lt terms.reward (2 ^ 40)) (within_length (template_parts terms script)) (Err (assembly.RewardTooLarge terms.reward))
    (FreeResult assembly_wants_memory) (λ t. length-free (template_parts terms script)) (λ f. refl)

assembly-free : (terms : Terms) (script : List ℕ) → FreeResult assembly_wants_memory (template_assembly terms script)
assembly-free terms script =
    cond_both (nat_lt 88 (length terms.prefix)) (Err (assembly.ScriptTooLong (length terms.prefix))) (outputs_said terms >>= λ outputs. with_reward terms script)
    (FreeResult assembly_wants_memory) (λ t. refl)
    (λ f. bind-free assembly_wants_memory (outputs_said terms) (λ outputs. with_reward terms script) (counted-free terms.outputs_count (outputs_of terms.outputs))
    (λ outputs. reward-free terms script))

coinbase-free : (r : Result Parts AssemblyError) → FreeResult assembly_wants_memory r → Free job_wants_memory (coinbase_refusal r)
coinbase-free (Ok parts) f = tt
coinbase-free (Err error) f = f

pub template-free : (script : List ℕ) (past : List Event) (template : TemplateData) → Free job_wants_memory (template_refusal script past template)
template-free script past template =
    let jobs : List Job = (jobs_of past).future ++ (jobs_of past).live in
    code-free job_wants_memory (nat_lt (templates past) most_templates) (job.TooMany (templates past)) _ refl
    (code-free job_wants_memory (not (is_template_known jobs template.template_id)) (job.TemplateKnown template.template_id) _ refl
    (code-free job_wants_memory (template.future_template || is_some (jobs_of past).tip) job.NoTip _ refl
    (coinbase-free (template_assembly (template_terms template) script) (assembly-free (template_terms template) script))))

-- a tip, an opening, a name
pub tip-free : (past : List Event) (tip : TipData) → FreeResult job_wants_memory (tippable past tip)
tip-free past tip = by (future_of (jobs_of past) tip.template_id) where
  by : (o : Option Job) → FreeResult job_wants_memory (found (job.UnknownTemplate tip.template_id) o)
  by None = refl
  by (Some job) = tt

lead-free : (o : Option OpenError) (lead : Option (List ℕ)) → Free open_wants_memory o → FreeResult open_wants_memory (lead_unless o lead)
lead-free (Some e) lead f = f
lead-free None None f = refl
lead-free None (Some lead) f = tt

pub open-free : (rules : Rules) (past : List Event) (session : ℕ) (ask : OpenAsk) → FreeResult open_wants_memory (openable rules past session ask)
open-free rules past session ask =
    let fourth : Option OpenError =
    or_code (not (has_too_many past session)) (open_error.TooManyChannels (open_count past session) (opens past)) None in
    let third : Option OpenError = or_code (nat_le ask.min_size 11) (open_error.SizeTooLarge ask.min_size) fourth in
    let second : Option OpenError =
    or_code (nat_le (class_of_target ask.max_target) 60) (open_error.TargetOutOfRange (class_of_target ask.max_target)) third in
    lead-free (first_false (open_conditions rules past session ask) None) (lead_for past ask)
    (code-free open_wants_memory (may_open rules ask.kind (account_of ask.identity)) open_error.UnknownUser second refl
    (code-free open_wants_memory (nat_le (class_of_target ask.max_target) 60) (open_error.TargetOutOfRange (class_of_target ask.max_target)) third refl
    (code-free open_wants_memory (nat_le ask.min_size 11) (open_error.SizeTooLarge ask.min_size) fourth refl
    (code-free open_wants_memory (not (has_too_many past session)) (open_error.TooManyChannels (open_count past session) (opens past)) None refl tt))))

unless-free : {X C : Type 0} (wants : C → Bool) (o : Option C) (x : X) → Free wants o → FreeResult wants (unless_refusal o x)
unless-free wants None x f = tt
unless-free wants (Some e) x f = f

pub name-free : (rules : Rules) (account : List ℕ) (o : Option OpenChannel) → FreeResult name_wants_memory (nameable rules account o)
name-free rules account None = refl
name-free rules account (Some c) =
    unless-free name_wants_memory (or_code (is_known rules account) name.UnknownUser (or_code (not (has_other account c)) name.OtherAccount None)) c
    (code-free name_wants_memory (is_known rules account) name.UnknownUser (or_code (not (has_other account c)) name.OtherAccount None) refl
    (code-free name_wants_memory (not (has_other account c)) name.OtherAccount None refl tt))

-- a miner's own job
some-free : (r : Result (List TxOut) ℕ) → FreeResult outputs_want_memory (some_outputs r)
some-free (Err at) = refl
some-free (Ok []) = refl
some-free (Ok (first ∷ others)) = tt

foreign-free : (o : Option ℕ) (outputs : List TxOut) → FreeResult outputs_want_memory (without_foreign o outputs)
foreign-free None outputs = tt
foreign-free (Some index) outputs = refl

paying-free : (terms : CustomTerms) (script : List ℕ) → FreeResult outputs_want_memory (paying_outputs terms script)
paying-free terms script =
    cond_both (nat_lt 1024 (length terms.outputs)) (Err (outputs_error.TooLong (length terms.outputs)))
    (some_outputs (outputs_of terms.outputs) >>= λ outputs. without_foreign (position (is_foreign script) outputs) outputs) (FreeResult outputs_want_memory)
    (λ t. refl)
    (λ f. bind-free outputs_want_memory (some_outputs (outputs_of terms.outputs)) (λ outputs. without_foreign (position (is_foreign script) outputs) outputs)
    (some-free (outputs_of terms.outputs)) (λ outputs. foreign-free (position (is_foreign script) outputs) outputs))

total-free : (terms : CustomTerms) (outputs : List TxOut) → FreeResult outputs_want_memory (with_total terms outputs)
total-free terms outputs =
    cond_both (nat_lt (total outputs) (2 ^ 40)) (Ok (custom_parts terms (length outputs), total outputs)) (Err (outputs_error.RewardTooLarge (total outputs)))
    (FreeResult outputs_want_memory) (λ t. tt) (λ f. refl)

custom_assembly-free : (terms : CustomTerms) (script : List ℕ) → FreeResult outputs_want_memory (custom_assembly terms script)
custom_assembly-free terms script =
    cond_both (nat_lt 88 (length terms.prefix)) (Err (outputs_error.ScriptTooLong (length terms.prefix))) (paying_outputs terms script >>= λ outputs. with_total terms outputs)
    (FreeResult outputs_want_memory) (λ t. refl)
    (λ f. bind-free outputs_want_memory (paying_outputs terms script) (λ outputs. with_total terms outputs) (paying-free terms script) (λ outputs. total-free terms outputs))

outputs-free : (r : Result (Parts × ℕ) OutputsError) → FreeResult outputs_want_memory r → Free custom_wants_memory (outputs_refusal r)
outputs-free (Ok x) f = tt
outputs-free (Err e) f = f

over-free : (script : List ℕ) (granted : Granted) (offer : CustomData) (o : Option TipData) → Free custom_wants_memory (over_tip script granted offer o)
over-free script granted offer None = refl
over-free script granted offer (Some tip) =
    code-free custom_wants_memory (not (is_other_tip tip offer)) custom.StaleTip _ refl
    (code-free custom_wants_memory (nat_le tip.header_timestamp offer.min_ntime) (custom.EarlyTime tip.header_timestamp) _ refl
    (code-free custom_wants_memory (not (is_bad_path granted offer.merkle_path)) (custom.BadPath (length offer.merkle_path)) _ refl
    (outputs-free (custom_assembly (custom_terms offer) script) (custom_assembly-free (custom_terms offer) script))))

token-free : (script : List ℕ) (past : List Event) (offer : CustomData) (o : Option Granted) → Free custom_wants_memory (with_token script past offer o)
token-free script past offer None = refl
token-free script past offer (Some granted) = over-free script granted offer (jobs_of past).tip

channel-free : (script : List ℕ) (past : List Event) (offer : CustomData) (o : Option OpenChannel) → Free custom_wants_memory (on_channel script past offer o)
channel-free script past offer None = refl
channel-free script past offer (Some c) =
    cond_both (is_extended c.kind) (with_token script past offer (unspent past offer.token c)) (Some custom.NotOpen) (Free custom_wants_memory)
    (λ t. token-free script past offer (unspent past offer.token c)) (λ f. refl)

pub custom-free : (script : List ℕ) (past : List Event) (session : ℕ) (offer : CustomData) → Free custom_wants_memory (custom_refusal script past session offer)
custom-free script past session offer = channel-free script past offer (own_channel past session offer.channel_id)
