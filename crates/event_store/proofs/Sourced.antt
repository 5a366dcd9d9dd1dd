-- What is kept of jobs and tips: where their events stand, and how the jobs stood.
use Rattle.std.proofs.Common.{◌⊎◌, inl, inr, ◌≡◌, ℕ, ◌+◌, ◌-◌, ◌≤◌, Bool, true, false, cond, Option, None, Some, List, [], ◌∷◌, ◌++◌, length, map, drop, reverse, refl, ap, subst, sym, ◌∙◌, arith}
use Rattle.std.proofs.Math.Dec.{eqb}
use Rattle.std.proofs.lemmas.List.{drop-append-le, drop-drop, drop-map, drop_all, length-drop, length-reverse}
use Rattle.std.specs.Prelude.{find, max, slice_get}
use Rattle.std.specs.Option.{option_map}
use Rattle.pool_history.specs.declared.events.Event.{Event}
use Rattle.pool_history.specs.declared.events.Event.TheVariants as event
use Rattle.pool_history.specs.declared.templates.CustomData.{CustomData}
use Rattle.pool_history.specs.declared.templates.TemplateData.{TemplateData}
use Rattle.pool_history.specs.declared.templates.TipData.{TipData}
use Rattle.pool_history.specs.Jobs.{FromMiner, FromTemplate, Job, Standing, custom_job, future_in, has_template, jobs_of, last, last_of, live_at_once, live_from, made_live, newest, template_job, with_custom, with_template, with_tip}
use Rattle.pool_history.specs.News.{live_ntime}
use Rattle.pool_history.proofs.PlacesOfJobs.{map-end}
use Rattle.history_laws.proofs.Legalities.{past-cons}
use Rattle.history_laws.proofs.Living.{In, find-in, in-end, in-last, in-sixteen, length-one}
use Rattle.history_laws.proofs.NotesFit.{last-end}
use Rattle.template_jobs.specs.HeldJobs.{template_id_of}
use Rattle.event_store.specs.declared.marks.FutureMark.{FutureMark}
use Rattle.event_store.specs.declared.marks.JobMark.{JobMark}
use Rattle.event_store.specs.declared.marks.JobPlace.{JobPlace}
use Rattle.event_store.specs.declared.marks.TipMark.{TipMark}
use Rattle.event_store.specs.Index.{IndexParts, futures_now, index_after, index_of, marked_ntime, with_came, with_job}
use Rattle.event_store.proofs.Changed.{get-end, get-front, map-length}
use Rattle.event_store.proofs.Later.{front-get, grows-step}

-- the events of a past, from the first on
abbrev pub events_of : List Event → List Event
events_of past = reverse past

pub event-stays : (e : Event) (past : List Event) (k : ℕ) (x : Event) → slice_get (events_of past) k ≡ Some x → slice_get (events_of (e ∷ past)) k ≡ Some x
event-stays e past k x is = ap (λ h. slice_get h k) (past-cons e past) ∙ get-front (events_of past) (e ∷ []) k x is

pub event-now : (e : Event) (past : List Event) → slice_get (events_of (e ∷ past)) (length past) ≡ Some e
event-now e past =
    ap (λ h. slice_get h (length past)) (past-cons e past) ∙ ap (slice_get (events_of past ++ e ∷ [])) (sym (length-reverse past)) ∙ get-end (events_of past) e []

pub event-later : (later past : List Event) (k : ℕ) (x : Event) → slice_get (events_of past) k ≡ Some x → slice_get (events_of (later ++ past)) k ≡ Some x
event-later [] past k x is = is
event-later (e ∷ later) past k x is = event-stays e (later ++ past) k x (event-later later past k x is)

-- a job has a mark by its number, which says its place
pub record HasJobMark (jobs : List JobMark) (job : Job) : Type 0 where
  pub mark : JobMark
  pub there : slice_get jobs (job.number - 1) ≡ Some mark
  pub at_is : mark.at ≡ job.at
  pub some : 1 ≤ job.number

-- a template's job, and a miner's own: its event stands at its place
pub record IsTemplates (past : List Event) (jobs : List JobMark) (job : Job) : Type 0 where
  pub template : TemplateData
  pub there : slice_get (events_of past) job.at ≡ Some (event.Template job.session template)
  pub source_is : job.source ≡ FromTemplate template
  pub marked : HasJobMark jobs job

pub record IsMiners (past : List Event) (jobs : List JobMark) (job : Job) : Type 0 where
  pub session : ℕ
  pub custom : CustomData
  pub there : slice_get (events_of past) job.at ≡ Some (event.Custom session custom)
  pub source_is : job.source ≡ FromMiner custom
  pub marked : HasJobMark jobs job

-- so are all jobs that are future or live
pub record KnowsJobs (past : List Event) (jobs : List JobMark) (s : Standing) : Type 0 where
  pub future : (j : Job) → In j s.future → IsTemplates past jobs j
  pub live : (j : Job) → In j s.live → IsTemplates past jobs j
  pub custom : (j : Job) → In j s.custom → IsMiners past jobs j

marked-live : (jobs : List JobMark) (place : ℕ) (job : Job) → HasJobMark jobs job → HasJobMark jobs (live_from place job)
marked-live jobs place job m = record { mark = m.mark; there = m.there; at_is = m.at_is; some = m.some }

templates-live : (past : List Event) (jobs : List JobMark) (place : ℕ) (job : Job) → IsTemplates past jobs job → IsTemplates past jobs (live_from place job)
templates-live past jobs place job t = record { template = t.template; there = t.there; source_is = t.source_is; marked = marked-live jobs place job t.marked }

miners-live : (past : List Event) (jobs : List JobMark) (place : ℕ) (job : Job) → IsMiners past jobs job → IsMiners past jobs (live_from place job)
miners-live past jobs place job m = record { session = m.session; custom = m.custom; there = m.there; source_is = m.source_is; marked = marked-live jobs place job m.marked }

-- one more event
marked-step : (e : Event) (n : ℕ) (index : IndexParts) (job : Job) → HasJobMark index.jobs job → HasJobMark (index_after n e index).jobs job
marked-step e n index job m = record {
  mark = m.mark;
  there = front-get index.jobs (index_after n e index).jobs (job.number - 1) m.mark (grows-step e n index).jobs m.there;
  at_is = m.at_is;
  some = m.some;
}

templates-step : (e : Event) (past : List Event) (job : Job) → IsTemplates past (index_of past).jobs job → IsTemplates (e ∷ past) (index_of (e ∷ past)).jobs job
templates-step e past job t = record {
  template = t.template;
  there = event-stays e past job.at _ t.there;
  source_is = t.source_is;
  marked = marked-step e (length past) (index_of past) job t.marked;
}

miners-step : (e : Event) (past : List Event) (job : Job) → IsMiners past (index_of past).jobs job → IsMiners (e ∷ past) (index_of (e ∷ past)).jobs job
miners-step e past job m = record {
  session = m.session;
  custom = m.custom;
  there = event-stays e past job.at _ m.there;
  source_is = m.source_is;
  marked = marked-step e (length past) (index_of past) job m.marked;
}

knows-step : (e : Event) (past : List Event) → KnowsJobs past (index_of past).jobs (jobs_of past) → KnowsJobs (e ∷ past) (index_of (e ∷ past)).jobs (jobs_of past)
knows-step e past k = record {
  future = λ j i. templates-step e past j (k.future j i);
  live = λ j i. templates-step e past j (k.live j i);
  custom = λ j i. miners-step e past j (k.custom j i);
}

-- the marks of jobs
pub all-of-template : (job : Job) (future : Bool) (s : Standing) → (with_template job future s).all ≡ s.all ++ job ∷ []
all-of-template job true s = refl
all-of-template job false s = refl

-- the job's mark stands at the end
pub came-jobs : (n : ℕ) (template : TemplateData) (index : IndexParts)
    → (with_came n template index).jobs
    ≡ index.jobs ++ record { number = length index.jobs + 1; at = n; min_ntime = marked_ntime template.future_template index.tip } ∷ []
came-jobs n template index = refl

pub jobs-length : (past : List Event) → length (index_of past).jobs ≡ length (jobs_of past).all
jobs-length [] = refl
jobs-length (event.Template session template ∷ older) =
    ap length (came-jobs (length older) template (index_of older)) ∙ length-one (index_of older).jobs _
    ∙ ap (λ n. n + 1) (jobs-length older)
    ∙ sym (ap length (all-of-template (template_job (length (jobs_of older).all + 1) (length older) session template) template.future_template (jobs_of older))
    ∙ length-one (jobs_of older).all _)
jobs-length (event.Custom session custom ∷ older) =
    length-one (index_of older).jobs _ ∙ ap (λ n. n + 1) (jobs-length older) ∙ sym (length-one (jobs_of older).all _)
jobs-length (e ∷ older) = jobs-length older

new-marked : (jobs after : List JobMark) (mark : JobMark) (job : Job) → after ≡ jobs ++ mark ∷ [] → job.number ≡ length jobs + 1 → mark.at ≡ job.at → HasJobMark after job
new-marked jobs after mark job is number at = record {
  mark = mark;
  there =
      let one : job.number - 1 ≡ length jobs = omega (arith, number) in
      ap (λ l. slice_get l (job.number - 1)) is ∙ ap (slice_get (jobs ++ mark ∷ [])) one ∙ get-end jobs mark [];
  at_is = at;
  some = omega (arith, number);
}

new-template : (past : List Event) (session : ℕ) (template : TemplateData)
    → IsTemplates (event.Template session template ∷ past) (index_of (event.Template session template ∷ past)).jobs
    (template_job (length (jobs_of past).all + 1) (length past) session template)
new-template past session template = record {
  template = template;
  there = event-now (event.Template session template) past;
  source_is = refl;
  marked = new-marked (index_of past).jobs _ _ (template_job (length (jobs_of past).all + 1) (length past) session template)
      (came-jobs (length past) template (index_of past)) (ap (λ n. n + 1) (sym (jobs-length past))) refl;
}

new-custom : (past : List Event) (session : ℕ) (custom : CustomData)
    → IsMiners (event.Custom session custom ∷ past) (index_of (event.Custom session custom ∷ past)).jobs (custom_job (length (jobs_of past).all + 1) (length past) custom)
new-custom past session custom = record {
  session = session;
  custom = custom;
  there = event-now (event.Custom session custom) past;
  source_is = refl;
  marked = new-marked (index_of past).jobs _ (record { number = length (index_of past).jobs + 1; at = length past; min_ntime = None })
      (custom_job (length (jobs_of past).all + 1) (length past) custom) refl (ap (λ n. n + 1) (sym (jobs-length past))) refl;
}

knows-template : (past : List Event) (jobs : List JobMark) (s : Standing) (job : Job) (future : Bool) → IsTemplates past jobs job → KnowsJobs past jobs s
    → KnowsJobs past jobs (with_template job future s)
knows-template past jobs s job true t k = record {
  future = λ j i. of_end j (in-end j s.future job (in-last j 16 (s.future ++ job ∷ []) i));
  live = k.live;
  custom = k.custom;
} where
  of_end : (j : Job) → In j s.future ⊎ (j ≡ job) → IsTemplates past jobs j
  of_end j (inl i) = k.future j i
  of_end j (inr e) = subst (IsTemplates past jobs) (sym e) t
knows-template past jobs s job false t k = record {
  future = k.future;
  live = λ j i. of_end j (in-end j s.live (live_at_once job) (in-last j 64 (s.live ++ live_at_once job ∷ []) i));
  custom = k.custom;
} where
  of_end : (j : Job) → In j s.live ⊎ (j ≡ live_at_once job) → IsTemplates past jobs j
  of_end j (inl i) = k.live j i
  of_end j (inr e) = subst (IsTemplates past jobs) (sym e) (templates-live past jobs job.at job t)

knows-tip : (past : List Event) (jobs : List JobMark) (s : Standing) (tip : TipData) (at : ℕ) → KnowsJobs past jobs s → KnowsJobs past jobs (with_tip at tip s)
knows-tip past jobs s tip at k = record {
  future = λ j i. elim i [ ];
  live = λ j i. made (future_in s.future tip.template_id) refl j i;
  custom = λ j i. elim i [ ];
} where
  made : (o : Option Job) → future_in s.future tip.template_id ≡ o → (j : Job) → In j (made_live at o) → IsTemplates past jobs j
  made None is j i = elim i [ ]
  made (Some f) is j (inl e) =
      subst (IsTemplates past jobs) (sym e)
      (templates-live past jobs at f (k.future f (find-in (λ job. has_template tip.template_id job.source) s.future f is)))
  made (Some f) is j (inr i) = elim i [ ]

knows-custom : (past : List Event) (jobs : List JobMark) (s : Standing) (job : Job) (channel : ℕ) → IsMiners past jobs job → KnowsJobs past jobs s
    → KnowsJobs past jobs (with_custom job channel s)
knows-custom past jobs s job channel m k = record {
  future = k.future;
  live = k.live;
  custom = λ j i. of_end j (in-end j s.custom (live_at_once job) (in-sixteen j channel (s.custom ++ live_at_once job ∷ []) i));
} where
  of_end : (j : Job) → In j s.custom ⊎ (j ≡ live_at_once job) → IsMiners past jobs j
  of_end j (inl i) = k.custom j i
  of_end j (inr e) = subst (IsMiners past jobs) (sym e) (miners-live past jobs job.at job m)

pub knows-jobs : (past : List Event) → KnowsJobs past (index_of past).jobs (jobs_of past)
knows-jobs [] = record { future = λ j i. elim i [ ]; live = λ j i. elim i [ ]; custom = λ j i. elim i [ ] }
knows-jobs (event.Template session template ∷ older) =
    let e : Event = event.Template session template in
    knows-template (e ∷ older) (index_of (e ∷ older)).jobs (jobs_of older) (template_job (length (jobs_of older).all + 1) (length older) session template)
    template.future_template (new-template older session template) (knows-step e older (knows-jobs older))
knows-jobs (event.Tip session tip ∷ older) =
    let e : Event = event.Tip session tip in
    knows-tip (e ∷ older) (index_of (e ∷ older)).jobs (jobs_of older) tip (length older) (knows-step e older (knows-jobs older))
knows-jobs (event.Custom session custom ∷ older) =
    let e : Event = event.Custom session custom in
    knows-custom (e ∷ older) (index_of (e ∷ older)).jobs (jobs_of older) (custom_job (length (jobs_of older).all + 1) (length older) custom)
    custom.channel_id (new-custom older session custom) (knows-step e older (knows-jobs older))
knows-jobs (e ∷ older) = knows-step e older (knows-jobs older)

-- the marks of the future templates
abbrev pub place_of : Job → JobPlace
place_of job = record { number = job.number; at = job.at }

abbrev pub future_mark : Job → FutureMark
future_mark job = record { job = place_of job; template_id = template_id_of job.source }

pub futures-within : (past : List Event) → (index_of past).first_future ≤ length (index_of past).futures
futures-within [] = omega arith
futures-within (event.Template session template ∷ older) = by (futures-within older) template.future_template where
  by : (index_of older).first_future ≤ length (index_of older).futures → (future : Bool)
      → cond future (max (index_of older).first_future ((length (index_of older).futures + 1) - 16)) (index_of older).first_future
      ≤ length (cond future ((index_of older).futures ++ record { job = record { number = length (index_of older).jobs + 1; at = length older }; template_id = template.template_id } ∷ [])
      (index_of older).futures)
  by few true =
      let one : length ((index_of older).futures ++ record { job = record { number = length (index_of older).jobs + 1; at = length older }; template_id = template.template_id } ∷ [])
      ≡ length (index_of older).futures + 1 =
      length-one (index_of older).futures _ in
      omega (arith, one, few)
  by few false = few
futures-within (event.Tip session tip ∷ older) = omega arith
futures-within (e ∷ older) = futures-within older

window : (first : ℕ) (xs : List FutureMark) (x : FutureMark) → first ≤ length xs
    → drop (length (drop first xs ++ x ∷ []) - 16) (drop first xs ++ x ∷ []) ≡ drop (max first ((length xs + 1) - 16)) (xs ++ x ∷ [])
window first xs x few =
    let one : length (drop first xs ++ x ∷ []) ≡ length (drop first xs) + 1 = length-one (drop first xs) x in
    let left : length (drop first xs) ≡ length xs - first = length-drop first xs in
    let sum : first + (length (drop first xs ++ x ∷ []) - 16) ≡ max first ((length xs + 1) - 16) = omega (arith, one, left, few) in
    ap (drop (length (drop first xs ++ x ∷ []) - 16)) (sym (drop-append-le first xs (x ∷ []) few))
    ∙ drop-drop (length (drop first xs ++ x ∷ []) - 16) first (xs ++ x ∷ [])
    ∙ ap (λ n. drop n (xs ++ x ∷ [])) sum

map-last : (f : Job → FutureMark) (xs : List Job) → map f (last 16 xs) ≡ drop (length (map f xs) - 16) (map f xs)
map-last f xs = sym (drop-map f (length xs - 16) xs) ∙ ap (λ n. drop (n - 16) (map f xs)) (sym (map-length f xs))

pub future-marks : (past : List Event) → map future_mark (jobs_of past).future ≡ futures_now (index_of past)
future-marks [] = refl
future-marks (event.Template session template ∷ older) = by (future-marks older) template.future_template where
  by : map future_mark (jobs_of older).future ≡ futures_now (index_of older) → (future : Bool)
      → map future_mark (with_template (template_job (length (jobs_of older).all + 1) (length older) session template) future (jobs_of older)).future
      ≡ futures_now (with_job future template.template_id (record { number = length (index_of older).jobs + 1; at = length older }) (index_of older))
  by rest true =
      let job : Job = template_job (length (jobs_of older).all + 1) (length older) session template in
      let new : FutureMark = record { job = record { number = length (index_of older).jobs + 1; at = length older }; template_id = template.template_id } in
      let joined : map future_mark ((jobs_of older).future ++ job ∷ []) ≡ drop (index_of older).first_future (index_of older).futures ++ new ∷ [] =
      map-end future_mark (jobs_of older).future job
      ∙ ap (λ n. map future_mark (jobs_of older).future ++ record { job = record { number = n + 1; at = length older }; template_id = template.template_id } ∷ [])
      (sym (jobs-length older))
      ∙ ap (λ l. l ++ new ∷ []) rest in
      map-last future_mark ((jobs_of older).future ++ job ∷ [])
      ∙ ap (λ l. drop (length l - 16) l) joined
      ∙ window (index_of older).first_future (index_of older).futures new (futures-within older)
  by rest false = rest
future-marks (event.Tip session tip ∷ older) = sym (drop_all (length (index_of older).futures) (index_of older).futures (omega arith))
future-marks (e ∷ older) = future-marks older

-- the newest live job
last-of-last : (xs : List Job) (x : Job) → last_of (last 64 (xs ++ x ∷ [])) ≡ Some x
last-of-last xs x =
    let one : length (xs ++ x ∷ []) ≡ length xs + 1 = length-one xs x in
    ap last_of (drop-append-le (length (xs ++ x ∷ []) - 64) xs (x ∷ []) (omega (arith, one)))
    ∙ last-end (drop (length (xs ++ x ∷ []) - 64) xs) x

found-mark : (id : ℕ) (past : List Event) (jobs : List JobMark) (xs : List Job) → ((j : Job) → In j xs → IsTemplates past jobs j)
    → option_map place_of (find (λ job. has_template id job.source) xs) ≡ option_map (λ mark. mark.job) (find (λ mark. eqb mark.template_id id) (map future_mark xs))
found-mark id past jobs [] h = refl
found-mark id past jobs (x ∷ xs) h =
    ap (λ b. option_map place_of (cond b (Some x) (find (λ job. has_template id job.source) xs))) same ∙ by (found-mark id past jobs xs (λ j i. h j (inr i))) (eqb (template_id_of x.source) id) where
      same : has_template id x.source ≡ eqb (template_id_of x.source) id
      same =
          let t : IsTemplates past jobs x = h x (inl refl) in
          ap (has_template id) t.source_is ∙ sym (ap (λ s. eqb (template_id_of s) id) t.source_is)

      by : option_map place_of (find (λ job. has_template id job.source) xs) ≡ option_map (λ mark. mark.job) (find (λ mark. eqb mark.template_id id) (map future_mark xs))
          → (b : Bool) → option_map place_of (cond b (Some x) (find (λ job. has_template id job.source) xs))
          ≡ option_map (λ mark. mark.job) (cond b (Some (future_mark x)) (find (λ mark. eqb mark.template_id id) (map future_mark xs)))
      by rest true = refl
      by rest false = rest

made-place : (at : ℕ) (o : Option Job) → option_map place_of (last_of (made_live at o)) ≡ option_map place_of o
made-place at None = refl
made-place at (Some job) = refl

pub newest-mark : (past : List Event) → option_map place_of (newest (jobs_of past)) ≡ (index_of past).live
newest-mark [] = refl
newest-mark (event.Template session template ∷ older) = by (newest-mark older) template.future_template where
  by : option_map place_of (newest (jobs_of older)) ≡ (index_of older).live → (future : Bool)
      → option_map place_of (newest (with_template (template_job (length (jobs_of older).all + 1) (length older) session template) future (jobs_of older)))
      ≡ cond future (index_of older).live (Some (record { number = length (index_of older).jobs + 1; at = length older }))
  by rest true = rest
  by rest false =
      ap (option_map place_of) (last-of-last (jobs_of older).live (live_at_once (template_job (length (jobs_of older).all + 1) (length older) session template)))
      ∙ ap (λ n. Some (record { number = n + 1; at = length older })) (sym (jobs-length older))
newest-mark (event.Tip session tip ∷ older) =
    made-place (length older) (future_in (jobs_of older).future tip.template_id)
    ∙ found-mark tip.template_id older (index_of older).jobs (jobs_of older).future (knows-jobs older).future
    ∙ ap (λ l. option_map (λ mark. mark.job) (find (λ mark. eqb mark.template_id tip.template_id) l)) (future-marks older)
newest-mark (e ∷ older) = newest-mark older

-- the tip's mark says where it stands, and its time
abbrev pub IsTipMark : List Event → Option TipMark → Option TipData → Type 0
IsTipMark past None None = Unit {0}
IsTipMark past None (Some tip) = ⊥
IsTipMark past (Some mark) None = ⊥
IsTipMark past (Some mark) (Some tip) =
    ((session : ℕ) × (slice_get (events_of past) mark.at ≡ Some (event.Tip session tip))) × (mark.ntime ≡ tip.header_timestamp)

tip-step : (e : Event) (past : List Event) (mark : Option TipMark) (tip : Option TipData) → IsTipMark past mark tip → IsTipMark (e ∷ past) mark tip
tip-step e past None None t = t
tip-step e past None (Some tip) t = t
tip-step e past (Some mark) None t = t
tip-step e past (Some mark) (Some tip) t = ((t.0.0, event-stays e past mark.at _ t.0.1), t.1)

pub tip-mark : (past : List Event) → IsTipMark past (index_of past).tip (jobs_of past).tip
tip-mark [] = tt
tip-mark (event.Template session template ∷ older) =
    by (tip-step (event.Template session template) older (index_of older).tip (jobs_of older).tip (tip-mark older)) template.future_template where
      by : IsTipMark (event.Template session template ∷ older) (index_of older).tip (jobs_of older).tip → (future : Bool)
          → IsTipMark (event.Template session template ∷ older) (index_of older).tip
          (with_template (template_job (length (jobs_of older).all + 1) (length older) session template) future (jobs_of older)).tip
      by rest true = rest
      by rest false = rest
tip-mark (event.Tip session tip ∷ older) = ((session, event-now (event.Tip session tip) older), refl)
tip-mark (e ∷ older) = tip-step e older (index_of older).tip (jobs_of older).tip (tip-mark older)

-- the least time of a template's job
pub ntime-mark : (past : List Event) (future : Bool) (mark : Option TipMark) (tip : Option TipData) → IsTipMark past mark tip
    → marked_ntime future mark ≡ live_ntime future tip
ntime-mark past true mark tip t = refl
ntime-mark past false None None t = refl
ntime-mark past false None (Some tip) t = elim t [ ]
ntime-mark past false (Some mark) None t = elim t [ ]
ntime-mark past false (Some mark) (Some tip) t = ap Some t.1
