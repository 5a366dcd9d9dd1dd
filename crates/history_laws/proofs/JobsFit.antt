-- What a legal history owes to its sessions can be told.
use Rattle.std.proofs.Common.{◌⊎◌, inl, inr, ◌≡◌, ℕ, ◌+◌, Bool, true, false, ◌||◌, not, is_some, Option, None, Some, Result, Ok, Err, List, [], ◌∷◌, ◌++◌, length, refl, ap, subst, sym, ◌∙◌, ◌<◌, ◌^◌}
use Rattle.std.proofs.lemmas.Bool.{cond_both}
use Rattle.std.specs.Prelude.{nat_le, nat_lt}
use Rattle.pool_history.specs.declared.causes.Cause.{Cause}
use Rattle.pool_history.specs.declared.causes.Cause.TheVariants as cause
use Rattle.pool_history.specs.declared.events.Event.{Event}
use Rattle.pool_history.specs.declared.events.Event.TheVariants as event
use Rattle.pool_history.specs.declared.refusals.JobError.TheVariants as job_error
use Rattle.pool_history.specs.declared.settings.Rules.{Rules}
use Rattle.pool_history.specs.declared.templates.CustomData.{CustomData}
use Rattle.pool_history.specs.declared.templates.TemplateData.{TemplateData}
use Rattle.pool_history.specs.declared.templates.TipData.{TipData}
use Rattle.coinbase.specs.Coin.{template_assembly, template_parts}
use Rattle.coinbase.specs.Parts.{Parts}
use Rattle.coinbase.specs.declared.error.AssemblyError.{AssemblyError}
use Rattle.pool_history.specs.Jobs.{FromMiner, FromTemplate, Job, Source, Standing, future_in, jobs_of, made_live, with_custom, with_template, with_tip, template_job, custom_job, live_at_once}
use Rattle.pool_history.specs.Judging.{custom_terms, outputs_in, template_terms}
use Rattle.pool_history.specs.Crediting.{reward_of}
use Rattle.pool_history.specs.Channels.{OpenChannel}
use Rattle.coinbase.specs.Custom.{custom_assembly, total}
use Rattle.coinbase.specs.declared.error.OutputsError.{OutputsError}
use Rattle.pool_history.specs.declared.refusals.CustomError.{CustomError}
use Rattle.pool_history.specs.declared.refusals.CustomError.TheVariants as custom_error
use Rattle.pool_history.specs.Legal.{LegalPast, cause_of, may_feed, refused_as, custom_cause, may_select_work}
use Rattle.pool_history.specs.Refusing.{coinbase_refusal, is_template_known, most_templates, template_refusal, Granted, custom_refusal, is_bad_path, is_extended, is_other_tip, on_channel, outputs_refusal, over_tip, own_channel, unspent, with_token}
use Rattle.pool_history.specs.Sessions.{past_of, rules_of, templates}
use Rattle.history_laws.proofs.Causes.{IsUncaused, provided-both, uncaused, within-next}
use Rattle.history_laws.specs.Limits.{IsPaidJob, OwnJobsAreRead}
use Rattle.history_laws.proofs.Coinbases.{PaysOutputs, PartsFit, assembled-fits, outputs-pay}
use Rattle.history_laws.proofs.Entrances.{none-some, some-same}
use Rattle.history_laws.proofs.Legalities.{none_caused, rules-older, some-none}
use Rattle.history_laws.proofs.Living.{In, WasFuture, in-end, in-last, in-left, in-sixteen, made-future}

-- a template's coinbase is short enough, and its reward small enough
abbrev pub TemplateFits : List ℕ → Source → Type 0
TemplateFits script (FromTemplate template) = PartsFit (template_parts (template_terms template) script) × (reward_of (FromTemplate template) < 2 ^ 40)
TemplateFits script (FromMiner custom) = ⊥

-- a miner's own outputs are read, and its reward is, too
abbrev pub IsMiners : List ℕ → Source → Type 0
IsMiners script (FromTemplate template) = ⊥
IsMiners script (FromMiner custom) = IsPaidJob script custom

-- so are those of all jobs that are future or live
pub record JobsFit (script : List ℕ) (s : Standing) : Type 0 where
  pub future : (j : Job) → In j s.future → TemplateFits script j.source
  pub live : (j : Job) → In j s.live → TemplateFits script j.source
  pub custom : (j : Job) → In j s.custom → IsMiners script j.source

-- what an accepted template says
pub coinbase-ok : (r : Result Parts AssemblyError) → coinbase_refusal r ≡ None → (parts : Parts) × (r ≡ Ok parts)
coinbase-ok (Ok parts) n = (parts, refl)
coinbase-ok (Err e) n = absurd (some-none n)

pub accepted-fits : (script : List ℕ) (past : List Event) (template : TemplateData) → template_refusal script past template ≡ None
    → TemplateFits script (FromTemplate template)
accepted-fits script past template n =
    let jobs : List Job = (jobs_of past).future ++ (jobs_of past).live in
    let a = provided-both (nat_lt (templates past) most_templates) (job_error.TooMany (templates past)) _ n in
    let b = provided-both (not (is_template_known jobs template.template_id)) (job_error.TemplateKnown template.template_id) _ a.1 in
    let c = provided-both (template.future_template || is_some (jobs_of past).tip) job_error.NoTip _ b.1 in
    let p : (parts : Parts) × (template_assembly (template_terms template) script ≡ Ok parts) = coinbase-ok (template_assembly (template_terms template) script) c.1 in
    assembled-fits (template_terms template) script p.0 p.1

pub refused-none : {X : Type 0} (code : Cause) (o : Option X) → refused_as code o ≡ None → o ≡ None
refused-none code None n = refl
refused-none code (Some x) n = absurd (some-none n)

pub legal-template : (past : List Event) (rules : Rules) (session : ℕ) (template : TemplateData) → rules_of past ≡ Some rules
    → cause_of past (event.Template session template) ≡ None → TemplateFits rules.pool_script (FromTemplate template)
legal-template past rules session template are n =
    let u : IsUncaused past (event.Template session template) = uncaused past (event.Template session template) refl n in
    let same : u.rules ≡ rules = some-same (sym u.are_rules ∙ are) in
    let none : template_refusal u.rules.pool_script past template ≡ None =
    refused-none cause.BadTemplate (template_refusal u.rules.pool_script past template)
    (within-next may_feed past session (refused_as cause.BadTemplate (template_refusal u.rules.pool_script past template)) u.none) in
    accepted-fits rules.pool_script past template (subst (λ r. template_refusal r.pool_script past template ≡ None) same none)

-- an accepted job of a miner's own
pub assembled-ok : (r : Result (Parts × ℕ) OutputsError) → outputs_refusal r ≡ None → (told : Parts × ℕ) × (r ≡ Ok told)
assembled-ok (Ok told) n = (told, refl)
assembled-ok (Err e) n = absurd (some-none n)

pub tip-pays : (script : List ℕ) (granted : Granted) (offer : CustomData) (o : Option TipData) → over_tip script granted offer o ≡ None
    → IsMiners script (FromMiner offer)
tip-pays script granted offer None n = absurd (some-none n)
tip-pays script granted offer (Some tip) n =
    let a = provided-both (not (is_other_tip tip offer)) custom_error.StaleTip _ n in
    let b = provided-both (nat_le tip.header_timestamp offer.min_ntime) (custom_error.EarlyTime tip.header_timestamp) _ a.1 in
    let c = provided-both (not (is_bad_path granted offer.merkle_path)) (custom_error.BadPath (length offer.merkle_path)) _ b.1 in
    let p : (told : Parts × ℕ) × (custom_assembly (custom_terms offer) script ≡ Ok told) =
    assembled-ok (custom_assembly (custom_terms offer) script) c.1 in
    let o : PaysOutputs offer.coinbase_tx_outputs p.0.1 = outputs-pay (custom_terms offer) script p.0 p.1 in
    record {
      outputs = o.outputs;
      read = o.read;
      some = o.some;
      parts = p.0.0;
      assembled = p.1 ∙ ap (λ n. Ok (p.0.0, n)) o.all;
      reward = ap (λ r. total (outputs_in r)) o.read;
      small = o.small;
    }

pub token-pays : (script : List ℕ) (past : List Event) (offer : CustomData) (o : Option Granted) → with_token script past offer o ≡ None → IsMiners script (FromMiner offer)
token-pays script past offer None n = absurd (some-none n)
token-pays script past offer (Some granted) n = tip-pays script granted offer (jobs_of past).tip n

pub channel-pays : (script : List ℕ) (past : List Event) (offer : CustomData) (o : Option OpenChannel) → on_channel script past offer o ≡ None → IsMiners script (FromMiner offer)
channel-pays script past offer None n = absurd (some-none n)
channel-pays script past offer (Some channel) n =
    cond_both (is_extended channel.kind) (with_token script past offer (unspent past offer.token channel)) (Some custom_error.NotOpen)
    (λ r. r ≡ None → IsMiners script (FromMiner offer)) (λ t with. token-pays script past offer (unspent past offer.token channel) with)
    (λ f none. absurd (some-none none)) n

pub custom-none : (o : Option CustomError) → custom_cause o ≡ None → o ≡ None
custom-none None n = refl
custom-none (Some custom_error.NotOpen) n = absurd (some-none n)
custom-none (Some custom_error.BadToken) n = absurd (some-none n)
custom-none (Some custom_error.StaleTip) n = absurd (some-none n)
custom-none (Some (custom_error.EarlyTime least)) n = absurd (some-none n)
custom-none (Some (custom_error.BadPath entries)) n = absurd (some-none n)
custom-none (Some (custom_error.Coinbase error)) n = absurd (some-none n)

pub legal-custom : (past : List Event) (rules : Rules) (session : ℕ) (offer : CustomData) → rules_of past ≡ Some rules
    → cause_of past (event.Custom session offer) ≡ None → IsMiners rules.pool_script (FromMiner offer)
legal-custom past rules session offer are n =
    let u : IsUncaused past (event.Custom session offer) = uncaused past (event.Custom session offer) refl n in
    let same : u.rules ≡ rules = some-same (sym u.are_rules ∙ are) in
    let none : custom_refusal u.rules.pool_script past session offer ≡ None =
    custom-none (custom_refusal u.rules.pool_script past session offer)
    (within-next may_select_work past session (custom_cause (custom_refusal u.rules.pool_script past session offer)) u.none) in
    subst (λ r. IsMiners r.pool_script (FromMiner offer)) same
    (channel-pays u.rules.pool_script past offer (own_channel past session offer.channel_id) none)

-- one more job
pub fits-template : (script : List ℕ) (s : Standing) (job : Job) (future : Bool) → TemplateFits script job.source → JobsFit script s
    → JobsFit script (with_template job future s)
fits-template script s job true h f = record {
  future = λ j i. of_end j (in-end j s.future job (in-last j 16 (s.future ++ job ∷ []) i));
  live = f.live;
  custom = f.custom;
} where
  of_end : (j : Job) → In j s.future ⊎ (j ≡ job) → TemplateFits script j.source
  of_end j (inl i) = f.future j i
  of_end j (inr e) = subst (λ x. TemplateFits script x.source) (sym e) h
fits-template script s job false h f = record {
  future = f.future;
  live = λ j i. of_end j (in-end j s.live (live_at_once job) (in-last j 64 (s.live ++ live_at_once job ∷ []) i));
  custom = f.custom;
} where
  of_end : (j : Job) → In j s.live ⊎ (j ≡ live_at_once job) → TemplateFits script j.source
  of_end j (inl i) = f.live j i
  of_end j (inr e) = subst (λ x. TemplateFits script x.source) (sym e) h

pub fits-tip : (script : List ℕ) (s : Standing) (tip : TipData) (at : ℕ) → JobsFit script s → JobsFit script (with_tip at tip s)
fits-tip script s tip at f = record {
  future = λ j i. elim i [ ];
  live = λ j i.
      let w : WasFuture s at j = made-future s at tip.template_id j (in-left j (made_live at (future_in s.future tip.template_id)) [] i) in
      subst (TemplateFits script) (sym w.source) (f.future w.job w.of_future);
  custom = λ j i. elim i [ ];
}

pub fits-custom : (script : List ℕ) (s : Standing) (job : Job) (channel : ℕ) → IsMiners script job.source → JobsFit script s → JobsFit script (with_custom job channel s)
fits-custom script s job channel h f = record {
  future = f.future;
  live = f.live;
  custom = λ j i. of_end j (in-end j s.custom (live_at_once job) (in-sixteen j channel (s.custom ++ live_at_once job ∷ []) i));
} where
  of_end : (j : Job) → In j s.custom ⊎ (j ≡ live_at_once job) → IsMiners script j.source
  of_end j (inl i) = f.custom j i
  of_end j (inr e) = subst (λ x. IsMiners script x.source) (sym e) h

pub jobs-fit : (past : List Event) (rules : Rules) → LegalPast past → rules_of past ≡ Some rules → JobsFit rules.pool_script (jobs_of past)
jobs-fit [] rules l are = absurd (none-some are)
jobs-fit (event.Start first ∷ []) rules l are = record { future = λ j i. elim i [ ]; live = λ j i. elim i [ ]; custom = λ j i. elim i [ ] }
jobs-fit (event.Start first ∷ x ∷ older) rules l are = jobs-fit (x ∷ older) rules l.0 (sym (rules-older (event.Start first) x older) ∙ are)
jobs-fit (event.Template session template ∷ older) rules l are =
    let s : Standing = jobs_of older in
    fits-template rules.pool_script s (template_job (length s.all + 1) (length older) session template)
    template.future_template (legal-template older rules session template are l.1) (jobs-fit older rules l.0 are)
jobs-fit (event.Tip session tip ∷ older) rules l are = fits-tip rules.pool_script (jobs_of older) tip (length older) (jobs-fit older rules l.0 are)
jobs-fit (event.Custom session custom ∷ older) rules l are =
    let s : Standing = jobs_of older in
    fits-custom rules.pool_script s (custom_job (length s.all + 1) (length older) custom) custom.channel_id (legal-custom older rules session custom are l.1)
    (jobs-fit older rules l.0 are)
jobs-fit (e ∷ older) rules l are = jobs-fit older rules l.0 are

pub own-jobs_read : OwnJobsAreRead
own-jobs_read before after session custom rules l are =
    legal-custom (past_of before) rules session custom are
    (none_caused (before ++ event.Custom session custom ∷ after) l before (event.Custom session custom) after refl)
