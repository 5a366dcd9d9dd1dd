-- The notes that a legal history owes fit their messages.
use Rattle.pool_history.specs.Conditions.{found, provided}
use Rattle.std.proofs.Common.{◌⊎◌, inl, inr, ◌≡◌, ℕ, ◌+◌, ◌<◌, ◌≤◌, ◌^◌, Bool, true, false, ◌&&◌, Option, None, Some, Ok, List, [], ◌∷◌, ◌++◌, length, map, refl, ap, subst, sym, ◌∙◌, arith, length-append}
use Rattle.std.proofs.Math.Dec.{eqb}
use Rattle.std.proofs.lemmas.Bool.{cond_both, eqb-true}
use Rattle.std.proofs.lemmas.List.{length-replicate}
use Rattle.std.specs.Prelude.{nat_eq, nat_le, replicate}
use Rattle.std.specs.List.{AllByRecursion, flat_map}
use Rattle.pool_history.specs.declared.events.Event.{Event}
use Rattle.pool_history.specs.declared.events.Event.TheVariants as event
use Rattle.pool_history.specs.declared.events.Kind.{Kind}
use Rattle.pool_history.specs.declared.events.Kind.TheVariants as kind
use Rattle.pool_history.specs.declared.refusals.Failed.TheVariants as failed
use Rattle.pool_history.specs.declared.settings.Rules.{Rules}
use Rattle.pool_history.specs.declared.templates.TipData.{TipData}
use Rattle.pool_history.specs.Channels.{OpenChannel, channel_in, channels_of}
use Rattle.pool_history.specs.Crediting.{booked_with, credit_share, is_block, found_list}
use Rattle.pool_history.specs.Headers.{extranonce_prefix, rolled_length}
use Rattle.pool_history.specs.Jobs.{FromMiner, FromTemplate, Job, Source, Standing, jobs_of, last_of, live_job, newest, with_template, template_job}
use Rattle.pool_history.specs.Judging.{Admitted, Share, admission, is_known_job, job_parts, serves, is_in_time, is_version}
use Rattle.pool_history.specs.Legal.{LegalPast, cause_of, is_lead_length}
use Rattle.pool_history.specs.News.{Audience, Group, Rolling, Single, alone, audience, job_note, live_ntime, news, opening_notes, owed_notes, owed_notes_by, present_notes, solution, solution_by, solution_notes, tip_note, tip_notes, told_of}
use Rattle.pool_history.specs.Sessions.{opens, rules_of}
use Rattle.pool_history.specs.Telling.{NoteFits}
use Rattle.history_laws.proofs.Answering.{first-ok, provided-ok}
use Rattle.history_laws.proofs.ChannelsFit.{lead-few, open-has_lead}
use Rattle.history_laws.proofs.Crediting.{IsGoodCredit, admission-booked, booked-channel, booked-found, good_credit, judged_share}
use Rattle.history_laws.proofs.Entrances.{none-some, some-same}
use Rattle.history_laws.proofs.JobsFit.{IsMiners, JobsFit, TemplateFits, jobs-fit, legal-template}
use Rattle.history_laws.proofs.Judged.{ok-same}
use Rattle.history_laws.proofs.Legalities.{rules-older}
use Rattle.history_laws.proofs.Living.{In, find-in, in-append}
use Rattle.coinbase.specs.Parts.{whole}

-- facts of each element of two lists, and of a mapped one
pub all-append : {X : Type 0} (P : X → Type 0) (xs ys : List X) → AllByRecursion P xs → AllByRecursion P ys → AllByRecursion P (xs ++ ys)
all-append P [] ys a b = b
all-append P (x ∷ xs) ys a b = (a.0, all-append P xs ys a.1 b)

pub all-mapped : {X Y : Type 0} (P : Y → Type 0) (f : X → Y) (xs : List X) → ((x : X) → In x xs → P (f x)) → AllByRecursion P (map f xs)
all-mapped P f [] h = tt
all-mapped P f (x ∷ xs) h = (h x (inl refl), all-mapped P f xs (λ y i. h y (inr i)))

-- the last of a list is in it
pub last-in : {X : Type 0} (xs : List X) (x : X) → last_of xs ≡ Some x → In x xs
last-in [] x is = absurd (none-some is)
last-in (y ∷ []) x is = inl (sym (some-same is))
last-in (y ∷ z ∷ xs) x is = inr (last-in (z ∷ xs) x is)

pub last-end : {X : Type 0} (xs : List X) (x : X) → last_of (xs ++ x ∷ []) ≡ Some x
last-end [] x = refl
last-end (y ∷ []) x = refl
last-end (y ∷ z ∷ xs) x = last-end (z ∷ xs) x

-- a template's job fits its messages
pub job_note-fits : (rules : Rules) (min_ntime : Option ℕ) (job : Job) (source : Source) (to : Audience) → job.source ≡ source
    → TemplateFits rules.pool_script source → NoteFits (job_note rules min_ntime job to)
job_note-fits rules min_ntime job source (Single channel) is f = tt
job_note-fits rules min_ntime job (FromTemplate template) (Rolling channel) is f =
    subst (λ s. NoteFits (job_note rules min_ntime (record job { source = s }) (Rolling channel))) (sym is)
    (record { path_fits = let h : length template.merkle_path ≤ 255 = template.path_fits in omega (arith, h); prefix_fits = f.0.prefix; suffix_fits = f.0.suffix })
job_note-fits rules min_ntime job (FromMiner custom) (Rolling channel) is f = elim f [ ]
job_note-fits rules min_ntime job (FromTemplate template) (Group group) is f =
    subst (λ s. NoteFits (job_note rules min_ntime (record job { source = s }) (Group group))) (sym is)
    (record { path_fits = let h : length template.merkle_path ≤ 255 = template.path_fits in omega (arith, h); prefix_fits = f.0.prefix; suffix_fits = f.0.suffix })
job_note-fits rules min_ntime job (FromMiner custom) (Group group) is f = elim f [ ]

-- an opening's news
pub present_notes-fit : (rules : Rules) (o : Option Job) (t : Option TipData) (to : Audience) → ((j : Job) → o ≡ Some j → TemplateFits rules.pool_script j.source)
    → AllByRecursion NoteFits (present_notes rules o t to)
present_notes-fit rules (Some job) (Some tip) to f = (job_note-fits rules None job job.source to refl (f job refl), (tt, tt))
present_notes-fit rules (Some job) None to f = tt
present_notes-fit rules None (Some tip) to f = tt
present_notes-fit rules None None to f = tt

pub opening_notes-fit : (rules : Rules) (s : Standing) (o : Option OpenChannel) → JobsFit rules.pool_script s → AllByRecursion NoteFits (opening_notes rules s o)
opening_notes-fit rules s None f = tt
opening_notes-fit rules s (Some channel) f =
    all-append NoteFits (present_notes rules (newest s) s.tip (alone channel)) (map (λ job. job_note rules None job (alone channel)) s.future)
    (present_notes-fit rules (newest s) s.tip (alone channel) (λ j is. f.live j (last-in s.live j is)))
    (all-mapped NoteFits (λ job. job_note rules None job (alone channel)) s.future
    (λ job i. job_note-fits rules None job job.source (alone channel) refl (f.future job i)))

-- a template's
pub told_of-fit : (rules : Rules) (min_ntime : Option ℕ) (to : List Audience) (o : Option Job) → ((j : Job) → o ≡ Some j → TemplateFits rules.pool_script j.source)
    → AllByRecursion NoteFits (told_of rules min_ntime to o)
told_of-fit rules min_ntime to None f = tt
told_of-fit rules min_ntime to (Some job) f =
    all-mapped NoteFits (job_note rules min_ntime job) to (λ a i. job_note-fits rules min_ntime job job.source a refl (f job refl))

-- a tip's
pub tip_notes-fit : (tip : TipData) (to : List Audience) (o : Option Job) → AllByRecursion NoteFits (tip_notes tip to o)
tip_notes-fit tip to None = tt
tip_notes-fit tip to (Some job) = all-mapped NoteFits (tip_note tip job) to (λ a i. tt)

-- an admitted share rolls what its channel lets it
pub admission-rolls : (rules : Rules) (past : List Event) (session : ℕ) (share : Share) (with : Admitted) → admission rules past session share ≡ Ok with
    → length share.extranonce ≡ rolled_length with.channel.kind with.channel.lead
admission-rolls rules past session share with h =
    let a = first-ok (found failed.Channel (channel_in (channels_of past) share.channel)) _ with h in
    let b = first-ok (provided (serves session share a.0) failed.Channel a.0) _ with a.2 in
    let c = first-ok (provided (nat_eq (length share.extranonce) (rolled_length b.0.kind b.0.lead)) failed.ExtranonceSize b.0) _ with b.2 in
    let d = first-ok (provided (is_known_job (jobs_of past) share) failed.Job b.0) _ with c.2 in
    let e = first-ok (found failed.Stale (live_job (jobs_of past) share.job)) _ with d.2 in
    let p = first-ok (found failed.Stale e.0.live_at) _ with e.2 in
    let f = first-ok (found failed.Stale (jobs_of past).tip) _ with p.2 in
    let g = first-ok (provided (is_version rules e.0.source share.version) failed.Version b.0) _ with f.2 in
    let k = first-ok (provided (is_in_time rules e.0.source f.0 share.ntime) failed.Ntime b.0) _ with g.2 in
    eqb-true (length share.extranonce) (rolled_length b.0.kind b.0.lead)
    (provided-ok (nat_eq (length share.extranonce) (rolled_length b.0.kind b.0.lead)) failed.ExtranonceSize b.0 c.0 c.1).0
    ∙ ap (λ w. rolled_length w.channel.kind w.channel.lead) (ok-same k.2)

-- its job is alive
pub booked-job : (past : List Event) (channel job : ℕ) (with : Admitted) → booked_with past channel job ≡ Some with → live_job (jobs_of past) job ≡ Some with.job
booked-job past channel job with h = (booked-found past channel job with h).job_is

-- twelve bytes of extranonce
pub twelve-bytes : (k : Kind) (lead extranonce : List ℕ) → is_lead_length k (length lead) ≡ true → length extranonce ≡ rolled_length k lead
    → length (extranonce_prefix k lead ++ extranonce) ≡ 12
twelve-bytes kind.Standard lead extranonce h rolls =
    let zeros : List ℕ = replicate 8 0 in
    let four : length lead ≡ 4 = eqb-true (length lead) 4 h in
    let eight : length zeros ≡ 8 = length-replicate {A = ℕ} 8 0 in
    let prefix : length (lead ++ zeros) ≡ length lead + length zeros = length-append lead zeros in
    let whole : length ((lead ++ zeros) ++ extranonce) ≡ length (lead ++ zeros) + length extranonce = length-append (lead ++ zeros) extranonce in
    omega (arith, four, eight, prefix, whole, rolls)
twelve-bytes kind.Extended lead extranonce h rolls =
    let few : (1 ≤ length lead) × (length lead ≤ 4) = lead-few kind.Extended lead h in
    let whole : length (lead ++ extranonce) ≡ length lead + length extranonce = length-append lead extranonce in
    let most : length lead ≤ 4 = few.1 in
    omega (arith, whole, most, rolls)
twelve-bytes kind.V1 lead extranonce h rolls =
    let few : (1 ≤ length lead) × (length lead ≤ 4) = lead-few kind.V1 lead h in
    let whole : length (lead ++ extranonce) ≡ length lead + length extranonce = length-append lead extranonce in
    let most : length lead ≤ 4 = few.1 in
    omega (arith, whole, most, rolls)

-- a job that is alive is a template's that fits, or a miner's
pub alive-fits : (script : List ℕ) (s : Standing) (job : Job) → JobsFit script s → In job (s.live ++ s.custom) → TemplateFits script job.source ⊎ IsMiners script job.source
alive-fits script s job f i = by_part (in-append job s.live s.custom i) where
  by_part : In job s.live ⊎ In job s.custom → TemplateFits script job.source ⊎ IsMiners script job.source
  by_part (inl i) = inl (f.live job i)
  by_part (inr i) = inr (f.custom job i)

-- a solution fits
pub solution-fits : (script : List ℕ) (session : ℕ) (share : Share) (with : Admitted) (source : Source)
    → TemplateFits script source ⊎ IsMiners script source → with.job.source ≡ source
    → length (extranonce_prefix with.channel.kind with.channel.lead ++ share.extranonce) ≡ 12 → AllByRecursion NoteFits (solution_by script session share with source)
solution-fits script session share with (FromMiner custom) f is twelve = tt
solution-fits script session share with (FromTemplate template) (inr m) is twelve = elim m [ ]
solution-fits script session share with (FromTemplate template) (inl f) is twelve =
    cond_both (nat_eq with.job.session session && is_block script with share) (solution script template.template_id share with ∷ []) [] (AllByRecursion NoteFits)
    (λ t. (
      subst (λ s. length (whole (job_parts s script) (extranonce_prefix with.channel.kind with.channel.lead ++ share.extranonce)) < 2 ^ 16)
          (sym is) (f.0.whole_fits (extranonce_prefix with.channel.kind with.channel.lead ++ share.extranonce) twelve),
      tt,
    ))
    (λ f. tt)

pub credit-fits : (rules : Rules) (past : List Event) (told session channel job nonce ntime version : ℕ) (extranonce : List ℕ) → LegalPast past
    → rules_of past ≡ Some rules → cause_of past (event.Credit session channel job nonce ntime version extranonce) ≡ None
    → AllByRecursion NoteFits (owed_notes_by rules (event.Credit session channel job nonce ntime version extranonce) past told)
credit-fits rules past told session channel job nonce ntime version extranonce l are n =
    let share : Share = judged_share past channel job nonce ntime version extranonce in
    let g : IsGoodCredit past session share = good_credit past session channel job nonce ntime version extranonce n in
    let with : Admitted = g.good.with in
    let is : booked_with past channel job ≡ Some with = admission-booked g.rules past session share with g.good.is_admitted in
    let lead : is_lead_length with.channel.kind (length with.channel.lead) ≡ true = open-has_lead past channel with.channel l (booked-channel past channel job with is) in
    let rolls : length extranonce ≡ rolled_length with.channel.kind with.channel.lead = admission-rolls g.rules past session share with g.good.is_admitted in
    let alive : In with.job ((jobs_of past).live ++ (jobs_of past).custom) =
    find-in (λ j. eqb j.number job) ((jobs_of past).live ++ (jobs_of past).custom) with.job (booked-job past channel job with is) in
    let fits : TemplateFits rules.pool_script with.job.source ⊎ IsMiners rules.pool_script with.job.source =
    alive-fits rules.pool_script (jobs_of past) with.job (jobs-fit past rules l are) alive in
    let credited : Share = credit_share with channel job nonce ntime version extranonce in
    subst (λ r. AllByRecursion NoteFits (flat_map (λ notes. notes)
    (found_list (λ w. solution_notes rules.pool_script told (credit_share w channel job nonce ntime version extranonce) w) r))) (sym is)
    (all-append NoteFits (solution_notes rules.pool_script told credited with) []
    (solution-fits rules.pool_script told credited with with.job.source fits refl
    (twelve-bytes with.channel.kind with.channel.lead extranonce lead rolls)) tt)

-- what is owed for an event
pub owed_notes_by-fits : (rules : Rules) (e : Event) (past : List Event) (told : ℕ) → LegalPast past → rules_of past ≡ Some rules → cause_of past e ≡ None
    → AllByRecursion NoteFits (owed_notes_by rules e past told)
owed_notes_by-fits rules (event.Open opening k account class lead) past told l are n =
    cond_both (nat_eq opening told)
    (opening_notes rules (jobs_of past) (channel_in (channels_of (event.Open opening k account class lead ∷ past)) (opens past + 1))) [] (AllByRecursion NoteFits)
    (λ t. opening_notes-fit rules (jobs_of past) (channel_in (channels_of (event.Open opening k account class lead ∷ past)) (opens past + 1)) (jobs-fit past rules l are))
    (λ f. tt)
owed_notes_by-fits rules (event.Template feed template) past told l are n =
    let job : Job = template_job (length (jobs_of past).all + 1) (length past) feed template in
    told_of-fit rules (live_ntime template.future_template (jobs_of past).tip) (audience past told)
    (last_of (jobs_of (event.Template feed template ∷ past)).all)
    (λ j is. subst (λ x. TemplateFits rules.pool_script x.source)
    (some-same (sym (all-of template.future_template) ∙ is)) (legal-template past rules feed template are n)) where
      all-of : (future : Bool) → last_of (with_template (template_job (length (jobs_of past).all + 1) (length past) feed template) future (jobs_of past)).all
          ≡ Some (template_job (length (jobs_of past).all + 1) (length past) feed template)
      all-of true = last-end (jobs_of past).all (template_job (length (jobs_of past).all + 1) (length past) feed template)
      all-of false = last-end (jobs_of past).all (template_job (length (jobs_of past).all + 1) (length past) feed template)
owed_notes_by-fits rules (event.Tip feed tip) past told l are n = tip_notes-fit tip (audience past told) (newest (jobs_of (event.Tip feed tip ∷ past)))
owed_notes_by-fits rules (event.Credit session channel job nonce ntime version extranonce) past told l are n =
    credit-fits rules past told session channel job nonce ntime version extranonce l are n
owed_notes_by-fits rules e past told l are n = tt

-- and by the rules of the history with it
pub owed_notes-fits : (o : Option Rules) (e : Event) (past : List Event) (told : ℕ) → rules_of (e ∷ past) ≡ o → LegalPast past → cause_of past e ≡ None
    → AllByRecursion NoteFits (owed_notes o e past told)
owed_notes-fits None e past told are l n = tt
owed_notes-fits (Some rules) (event.Start first) [] told are l n = tt
owed_notes-fits (Some rules) e [] told are l n = absurd (none-some are)
owed_notes-fits (Some rules) e (x ∷ past) told are l n = owed_notes_by-fits rules e (x ∷ past) told l (sym (rules-older e x past) ∙ are) n

-- all news
pub news-fit : (from : ℕ) (past : List Event) (told : ℕ) → LegalPast past → AllByRecursion NoteFits (news from past told)
news-fit from [] told l = tt
news-fit from (e ∷ past) told l =
    cond_both (nat_le from (length past)) (news from past told ++ owed_notes (rules_of (e ∷ past)) e past told) [] (AllByRecursion NoteFits)
    (λ t. all-append NoteFits (news from past told) (owed_notes (rules_of (e ∷ past)) e past told) (news-fit from past told l.0)
    (owed_notes-fits (rules_of (e ∷ past)) e past told refl l.0 l.1))
    (λ f. tt)
