-- The jobs by places are those of the recursion over the past.
use Rattle.std.proofs.Common.{◌≡◌, ℕ, ◌+◌, ◌-◌, ◌<◌, ◌≤◌, Bool, true, false, cond, not, Option, None, Some, List, [], ◌∷◌, ◌++◌, length, take, drop, reverse, refl, ap, subst, sym, ◌∙◌, arith, length-append, length-drop, append_assoc}
use Rattle.std.proofs.lemmas.List.{append-nil, drop-append-le, length-reverse, map-append, reverse-append, reverse-reverse, take-append-le}
use Rattle.std.proofs.Math.Seq.{drop-drop, take-append_seam}
use Rattle.std.proofs.lemmas.List.Elements.{filter-append}
use Rattle.std.proofs.lemmas.Bool.{eqb-false, eqb-true, le-ltb, lt-ltb, ltb-false, ltb-true, ne_eqb}
use Rattle.std.proofs.Math.Dec.{eqb}
use Rattle.std.specs.Prelude.{filter, map, nat_lt}
use Rattle.std.specs.Option.{option_map}
use Rattle.pool_history.specs.declared.events.Event.{Event}
use Rattle.pool_history.specs.declared.events.Event.TheVariants as event
use Rattle.pool_history.specs.declared.templates.CustomData.{CustomData}
use Rattle.pool_history.specs.declared.templates.TemplateData.{TemplateData}
use Rattle.pool_history.specs.declared.templates.TipData.{TipData}
use Rattle.pool_history.specs.ByPlaces.{AreJobsOf, JobsByPlaces, TipAt, future_jobs, is_future, is_late, is_ready, jobs_from, jobs_in, last_tip, late_jobs, live_jobs, own_jobs, tip_in, tip_job}
use Rattle.pool_history.specs.Jobs.{Job, Source, FromTemplate, FromMiner, Standing, at_most_sixteen, custom_job, future_in, is_own, jobs_of, last, live_at_once, made_live, template_job, with_custom, with_template, with_tip, without_first}
use Rattle.pool_history.specs.Sessions.{past_of}

-- one event more adds its own job, if it has one
pub jobs_from-snoc : (at number : ℕ) (h : List Event) (e : Event) (place next : ℕ) → place ≡ at + length h
    → next ≡ number + length (jobs_from at number h) → jobs_from at number (h ++ e ∷ []) ≡ jobs_from at number h ++ jobs_from place next (e ∷ [])
jobs_from-snoc at number [] e place next p q =
    let p' : place ≡ at = omega (arith, p) in
    let q' : next ≡ number = omega (arith, q) in
    rw (p', q') refl
jobs_from-snoc at number (event.Template session template ∷ more) e place next p q =
    ap (λ xs. template_job number at session template ∷ xs)
    (jobs_from-snoc (at + 1) (number + 1) more e place next (omega (arith, p)) (omega (arith, q)))
jobs_from-snoc at number (event.Custom session custom ∷ more) e place next p q =
    ap (λ xs. custom_job number at custom ∷ xs)
    (jobs_from-snoc (at + 1) (number + 1) more e place next (omega (arith, p)) (omega (arith, q)))
jobs_from-snoc at number (event ∷ more) e place next p q =
    jobs_from-snoc (at + 1) number more e place next (omega (arith, p)) q

-- one event more is the last tip, if it is one
pub last_tip-snoc : (at : ℕ) (before : Option TipAt) (h : List Event) (e : Event) (place : ℕ) → place ≡ at + length h
    → last_tip at before (h ++ e ∷ []) ≡ last_tip place (last_tip at before h) (e ∷ [])
last_tip-snoc at before [] e place p =
    let p' : place ≡ at = omega (arith, p) in
    rw p' refl
last_tip-snoc at before (event.Tip session tip ∷ more) e place p =
    last_tip-snoc (at + 1) (Some (record { at = at; tip = tip })) more e place (omega (arith, p))
last_tip-snoc at before (event ∷ more) e place p = last_tip-snoc (at + 1) before more e place (omega (arith, p))

-- a tip lies before a place
abbrev pub LiesBefore : Option TipAt → ℕ → Type 0
LiesBefore None place = Unit {0}
LiesBefore (Some tipped) place = tipped.at < place

pub lies_before-later : (t : Option TipAt) (m n : ℕ) → m ≤ n → LiesBefore t m → LiesBefore t n
lies_before-later None m n h l = tt
lies_before-later (Some tipped) m n h l = omega (arith, h, l)

-- the last tip lies in the history
pub last_tip-lies : (at : ℕ) (before : Option TipAt) (h : List Event) (end : ℕ) → end ≡ at + length h → LiesBefore before at
    → LiesBefore (last_tip at before h) end
last_tip-lies at before [] end p l = lies_before-later before at end (omega (arith, p)) l
last_tip-lies at before (event.Tip session tip ∷ more) end p l =
    last_tip-lies (at + 1) (Some (record { at = at; tip = tip })) more end (omega (arith, p)) (omega arith)
last_tip-lies at before (event ∷ more) end p l =
    last_tip-lies (at + 1) before more end (omega (arith, p)) (lies_before-later before at (at + 1) (omega arith) l)

-- no job lies after the end
pub none_late : (at number : ℕ) (h : List Event) (t : TipAt) → at + length h ≤ t.at → filter (is_late (Some t)) (jobs_from at number h) ≡ []
none_late at number [] t p = refl
none_late at number (event.Template session template ∷ more) t p =
    rw (le-ltb t.at at (omega (arith, p))) (none_late (at + 1) (number + 1) more t (omega (arith, p)))
none_late at number (event.Custom session custom ∷ more) t p =
    rw (le-ltb t.at at (omega (arith, p))) (none_late (at + 1) (number + 1) more t (omega (arith, p)))
none_late at number (event ∷ more) t p = none_late (at + 1) number more t (omega (arith, p))

-- a job at the end is late
pub is_late-end : (t : Option TipAt) (job : Job) → LiesBefore t job.at → is_late t job ≡ true
is_late-end None job l = refl
is_late-end (Some tipped) job l = lt-ltb tipped.at job.at l

-- the last so many of the last so many and one more
pub last-snoc : {X : Type 0} (n : ℕ) (xs : List X) (x : X) → last n (last n xs ++ x ∷ []) ≡ last n (xs ++ x ∷ [])
last-snoc n xs x =
    let k : ℕ = length xs - n in
    let joined : drop k xs ++ x ∷ [] ≡ drop k (xs ++ x ∷ []) = sym (drop-append-le k xs (x ∷ []) (omega arith)) in
    let twice : drop (length (drop k xs ++ x ∷ []) - n) (drop k (xs ++ x ∷ [])) ≡ drop (k + (length (drop k xs ++ x ∷ []) - n)) (xs ++ x ∷ []) =
    drop-drop (length (drop k xs ++ x ∷ []) - n) k (xs ++ x ∷ []) in
    let long : length (drop k xs ++ x ∷ []) ≡ length xs - k + 1 = rw (length-append (drop k xs) (x ∷ []), length-drop k xs) refl in
    let whole : length (xs ++ x ∷ []) ≡ length xs + 1 = length-append xs (x ∷ []) in
    let places : k + (length (drop k xs ++ x ∷ []) - n) ≡ length (xs ++ x ∷ []) - n = omega (arith, long, whole) in
    ap (λ ys. drop (length (drop k xs ++ x ∷ []) - n) ys) joined ∙ twice ∙ ap (λ i. drop i (xs ++ x ∷ [])) places

-- a kept or dropped element at the end
pub filter-kept : {X : Type 0} (p : X → Bool) (xs : List X) (x : X) → p x ≡ true → filter p (xs ++ x ∷ []) ≡ filter p xs ++ x ∷ []
filter-kept p xs x h = filter-append p xs (x ∷ []) ∙ ap (λ b. filter p xs ++ cond b (x ∷ []) []) h

pub filter-dropped : {X : Type 0} (p : X → Bool) (xs : List X) (x : X) → p x ≡ false → filter p (xs ++ x ∷ []) ≡ filter p xs
filter-dropped p xs x h = filter-append p xs (x ∷ []) ∙ ap (λ b. filter p xs ++ cond b (x ∷ []) []) h ∙ append-nil (filter p xs)

-- the last tip lies in the history
pub tip_in-lies : (h : List Event) → LiesBefore (tip_in h) (length h)
tip_in-lies h = last_tip-lies 0 None h (length h) (omega arith) tt

-- a later event changes no tip's job
pub tip_job-later : (h : List Event) (e : Event) (t : Option TipAt) → LiesBefore t (length h) → tip_job (h ++ e ∷ []) t ≡ tip_job h t
tip_job-later h e None l = refl
tip_job-later h e (Some tipped) l =
    ap (λ g. made_live tipped.at (future_in (future_jobs g) tipped.tip.template_id)) (take-append-le tipped.at h (e ∷ []) (omega (arith, l)))

-- an event that is no tip, and brings a job or none
pub record Joins (h : List Event) (e : Event) (job : Job) : Type 0 where
  pub tip : tip_in (h ++ e ∷ []) ≡ tip_in h
  pub jobs : jobs_in (h ++ e ∷ []) ≡ jobs_in h ++ job ∷ []
  pub at_end : job.at ≡ length h

-- its job is late
pub late_jobs-joined : (h : List Event) (e : Event) (job : Job) → Joins h e job → late_jobs (h ++ e ∷ []) ≡ late_jobs h ++ job ∷ []
late_jobs-joined h e job j =
    let lies : LiesBefore (tip_in h) job.at = rw j.at_end (tip_in-lies h) in
    ap (λ t. filter (is_late t) (jobs_in (h ++ e ∷ []))) j.tip ∙ ap (λ js. filter (is_late (tip_in h)) js) j.jobs
    ∙ filter-kept (is_late (tip_in h)) (jobs_in h) job (is_late-end (tip_in h) job lies)

-- one more at the end
pub map-end : {X Y : Type 0} (f : X → Y) (xs : List X) (x : X) → map f (xs ++ x ∷ []) ≡ map f xs ++ f x ∷ []
map-end f xs x = map-append f xs (x ∷ [])

-- the live jobs beside a job that isn't ready, and with one that is
pub live-beside : (h : List Event) (e : Event) (job : Job) → Joins h e job → is_ready job.source ≡ false → live_jobs (h ++ e ∷ []) ≡ live_jobs h
live-beside h e job j r =
    ap (λ t. last 64 (tip_job (h ++ e ∷ []) t ++ map live_at_once (filter (λ job. is_ready job.source) (late_jobs (h ++ e ∷ []))))) j.tip
    ∙ ap (λ ts. last 64 (ts ++ map live_at_once (filter (λ job. is_ready job.source) (late_jobs (h ++ e ∷ []))))) (tip_job-later h e (tip_in h) (tip_in-lies h))
    ∙ ap (λ l. last 64 (tip_job h (tip_in h) ++ map live_at_once (filter (λ job. is_ready job.source) l))) (late_jobs-joined h e job j)
    ∙ ap (λ l. last 64 (tip_job h (tip_in h) ++ map live_at_once l)) (filter-dropped (λ job. is_ready job.source) (late_jobs h) job r)

pub live-with : (h : List Event) (e : Event) (job : Job) → Joins h e job → is_ready job.source ≡ true
    → live_jobs (h ++ e ∷ []) ≡ last 64 (live_jobs h ++ live_at_once job ∷ [])
live-with h e job j r =
    let ready : List Job = filter (λ job. is_ready job.source) (late_jobs h) in
    ap (λ t. last 64 (tip_job (h ++ e ∷ []) t ++ map live_at_once (filter (λ job. is_ready job.source) (late_jobs (h ++ e ∷ []))))) j.tip
    ∙ ap (λ ts. last 64 (ts ++ map live_at_once (filter (λ job. is_ready job.source) (late_jobs (h ++ e ∷ []))))) (tip_job-later h e (tip_in h) (tip_in-lies h))
    ∙ ap (λ l. last 64 (tip_job h (tip_in h) ++ map live_at_once (filter (λ job. is_ready job.source) l))) (late_jobs-joined h e job j)
    ∙ ap (λ l. last 64 (tip_job h (tip_in h) ++ map live_at_once l)) (filter-kept (λ job. is_ready job.source) (late_jobs h) job r)
    ∙ ap (λ l. last 64 (tip_job h (tip_in h) ++ l)) (map-end live_at_once ready job)
    ∙ ap (λ l. last 64 l) (sym (append_assoc (tip_job h (tip_in h)) (map live_at_once ready) (live_at_once job ∷ [])))
    ∙ sym (last-snoc 64 (tip_job h (tip_in h) ++ map live_at_once ready) (live_at_once job))

-- the last so many late jobs that pass a test, beside a job that doesn't pass it, and with one that does
pub late_jobs-beside : (n : ℕ) (p : Job → Bool) (h : List Event) (e : Event) (job : Job) → Joins h e job → p job ≡ false
    → last n (filter p (late_jobs (h ++ e ∷ []))) ≡ last n (filter p (late_jobs h))
late_jobs-beside n p h e job j f = ap (λ l. last n (filter p l)) (late_jobs-joined h e job j) ∙ ap (λ l. last n l) (filter-dropped p (late_jobs h) job f)

pub late_jobs-with : (n : ℕ) (p : Job → Bool) (h : List Event) (e : Event) (job : Job) → Joins h e job → p job ≡ true
    → last n (filter p (late_jobs (h ++ e ∷ []))) ≡ last n (last n (filter p (late_jobs h)) ++ job ∷ [])
late_jobs-with n p h e job j f =
    ap (λ l. last n (filter p l)) (late_jobs-joined h e job j) ∙ ap (λ l. last n l) (filter-kept p (late_jobs h) job f) ∙ sym (last-snoc n (filter p (late_jobs h)) job)

-- a channel's own live jobs, beside a job that isn't its own, and with one that is
pub own-beside : (channel : ℕ) (h : List Event) (e : Event) (job : Job) → Joins h e job → is_own channel job.source ≡ false
    → own_jobs (h ++ e ∷ []) channel ≡ own_jobs h channel
own-beside channel h e job j f =
    ap (λ l. last 16 (map live_at_once (filter (λ job. is_own channel job.source) l))) (late_jobs-joined h e job j)
    ∙ ap (λ l. last 16 (map live_at_once l)) (filter-dropped (λ job. is_own channel job.source) (late_jobs h) job f)

pub own-with : (channel : ℕ) (h : List Event) (e : Event) (job : Job) → Joins h e job → is_own channel job.source ≡ true
    → own_jobs (h ++ e ∷ []) channel ≡ last 16 (own_jobs h channel ++ live_at_once job ∷ [])
own-with channel h e job j f =
    let own : List Job = filter (λ job. is_own channel job.source) (late_jobs h) in
    ap (λ l. last 16 (map live_at_once (filter (λ job. is_own channel job.source) l))) (late_jobs-joined h e job j)
    ∙ ap (λ l. last 16 (map live_at_once l)) (filter-kept (λ job. is_own channel job.source) (late_jobs h) job f)
    ∙ ap (λ l. last 16 l) (map-end live_at_once own job)
    ∙ sym (last-snoc 16 (map live_at_once own) (live_at_once job))

-- a template's job
pub joins-template : (h : List Event) (session : ℕ) (template : TemplateData) → Joins h (event.Template session template) (template_job (length (jobs_in h) + 1) (length h) session template)
joins-template h session template = record {
  tip = last_tip-snoc 0 None h (event.Template session template) (length h) (omega arith);
  jobs = jobs_from-snoc 0 1 h (event.Template session template) (length h) (length (jobs_in h) + 1) (omega arith) (omega arith);
  at_end = refl;
}

-- a miner's own job
pub joins-custom : (h : List Event) (session : ℕ) (custom : CustomData) → Joins h (event.Custom session custom) (custom_job (length (jobs_in h) + 1) (length h) custom)
joins-custom h session custom = record {
  tip = last_tip-snoc 0 None h (event.Custom session custom) (length h) (omega arith);
  jobs = jobs_from-snoc 0 1 h (event.Custom session custom) (length h) (length (jobs_in h) + 1) (omega arith) (omega arith);
  at_end = refl;
}

-- one more template
pub came : (h : List Event) (s : Standing) (session : ℕ) (template : TemplateData) (job : Job) → AreJobsOf h s → Joins h (event.Template session template) job
    → job.source ≡ FromTemplate template → (b : Bool) → template.future_template ≡ b → AreJobsOf (h ++ event.Template session template ∷ []) (with_template job b s)
came h s session template job a j from true f =
    let e : Event = event.Template session template in
    let future : is_future job.source ≡ true = ap is_future from ∙ f in
    let ready : is_ready job.source ≡ false = ap is_ready from ∙ ap not f in
    record {
      all = ap (λ js. js ++ job ∷ []) a.all ∙ sym j.jobs;
      future = ap (λ js. last 16 (js ++ job ∷ [])) a.future ∙ sym (late_jobs-with 16 (λ job. is_future job.source) h e job j future);
      live = a.live ∙ sym (live-beside h e job j ready);
      custom = λ channel. a.custom channel ∙ sym (own-beside channel h e job j (ap (is_own channel) from));
      tip = a.tip ∙ ap (option_map (λ (t : TipAt). t.tip)) (sym j.tip);
    }
came h s session template job a j from false f =
    let e : Event = event.Template session template in
    let future : is_future job.source ≡ false = ap is_future from ∙ f in
    let ready : is_ready job.source ≡ true = ap is_ready from ∙ ap not f in
    record {
      all = ap (λ js. js ++ job ∷ []) a.all ∙ sym j.jobs;
      future = a.future ∙ sym (late_jobs-beside 16 (λ job. is_future job.source) h e job j future);
      live = ap (λ js. last 64 (js ++ live_at_once job ∷ [])) a.live ∙ sym (live-with h e job j ready);
      custom = λ channel. a.custom channel ∙ sym (own-beside channel h e job j (ap (is_own channel) from));
      tip = a.tip ∙ ap (option_map (λ (t : TipAt). t.tip)) (sym j.tip);
    }

-- a tip makes one job live at most
pub last-made_live : (at : ℕ) (o : Option Job) → last 64 (made_live at o ++ []) ≡ made_live at o
last-made_live at None = refl
last-made_live at (Some job) = refl

-- one more tip
pub tipped : (h : List Event) (s : Standing) (session : ℕ) (tip : TipData) → AreJobsOf h s → AreJobsOf (h ++ event.Tip session tip ∷ []) (with_tip (length h) tip s)
tipped h s session tip a =
    let e : Event = event.Tip session tip in
    let t : TipAt = record { at = length h; tip = tip } in
    let new_tip : tip_in (h ++ e ∷ []) ≡ Some t = last_tip-snoc 0 None h e (length h) (omega arith) in
    let same_jobs : jobs_in (h ++ e ∷ []) ≡ jobs_in h =
    jobs_from-snoc 0 1 h e (length h) (length (jobs_in h) + 1) (omega arith) (omega arith) ∙ append-nil (jobs_in h) in
    let none : late_jobs (h ++ e ∷ []) ≡ [] =
    ap (λ t. filter (is_late t) (jobs_in (h ++ e ∷ []))) new_tip ∙ ap (λ js. filter (is_late (Some t)) js) same_jobs
    ∙ none_late 0 1 h t (omega arith) in
    let before : take (length h) (h ++ e ∷ []) ≡ h = take-append_seam h (e ∷ []) in
    let job : tip_job (h ++ e ∷ []) (Some t) ≡ made_live (length h) (future_in s.future tip.template_id) =
    ap (λ g. made_live (length h) (future_in (future_jobs g) tip.template_id)) before
    ∙ ap (λ js. made_live (length h) (future_in js tip.template_id)) (sym a.future) in
    record {
      all = a.all ∙ sym same_jobs;
      future = sym (ap (λ l. last 16 (filter (λ job. is_future job.source) l)) none);
      live = sym (
          ap (λ t. last 64 (tip_job (h ++ e ∷ []) t ++ map live_at_once (filter (λ job. is_ready job.source) (late_jobs (h ++ e ∷ []))))) new_tip
          ∙ ap (λ l. last 64 (tip_job (h ++ e ∷ []) (Some t) ++ map live_at_once (filter (λ job. is_ready job.source) l))) none
          ∙ ap (λ ts. last 64 (ts ++ [])) job
          ∙ last-made_live (length h) (future_in s.future tip.template_id)
          );
      custom = λ channel. sym (ap (λ l. last 16 (map live_at_once (filter (λ job. is_own channel job.source) l))) none);
      tip = sym (ap (option_map (λ (t : TipAt). t.tip)) new_tip);
    }

-- without the first of a channel's own, the channel has all but its first
pub own-without_first : (c : ℕ) (js : List Job) → filter (λ job. is_own c job.source) (without_first c js) ≡ drop 1 (filter (λ job. is_own c job.source) js)
own-without_first c [] = refl
own-without_first c (job ∷ js) = by_own (is_own c job.source) refl (own-without_first c js) where
  by_own : (b : Bool) → is_own c job.source ≡ b
      → filter (λ job. is_own c job.source) (without_first c js) ≡ drop 1 (filter (λ job. is_own c job.source) js)
      → filter (λ job. is_own c job.source) (without_first c (job ∷ js)) ≡ drop 1 (filter (λ job. is_own c job.source) (job ∷ js))
  by_own true h rest = rw h refl
  by_own false h rest =
      ap (λ b. filter (λ job. is_own c job.source) (cond b js (job ∷ without_first c js))) h
      ∙ ap (λ b. cond b (job ∷ filter (λ job. is_own c job.source) (without_first c js)) (filter (λ job. is_own c job.source) (without_first c js))) h
      ∙ rest
      ∙ ap (λ b. drop 1 (cond b (job ∷ filter (λ job. is_own c job.source) js) (filter (λ job. is_own c job.source) js))) (sym h)

-- a job is one channel's own at most
pub own-of_one : (c d : ℕ) (source : Source) → (c ≡ d → ⊥) → is_own c source ≡ true → is_own d source ≡ false
own-of_one c d (FromTemplate template) differ own = refl
own-of_one c d (FromMiner custom) differ own =
    ne_eqb custom.channel_id d (λ same. differ (sym (eqb-true custom.channel_id c own) ∙ same))

-- another channel has the same jobs then
pub others-without_first : (c d : ℕ) (js : List Job) → (c ≡ d → ⊥)
    → filter (λ job. is_own d job.source) (without_first c js) ≡ filter (λ job. is_own d job.source) js
others-without_first c d [] differ = refl
others-without_first c d (job ∷ js) differ = by_own (is_own c job.source) refl (others-without_first c d js differ) where
  by_own : (b : Bool) → is_own c job.source ≡ b
      → filter (λ job. is_own d job.source) (without_first c js) ≡ filter (λ job. is_own d job.source) js
      → filter (λ job. is_own d job.source) (without_first c (job ∷ js)) ≡ filter (λ job. is_own d job.source) (job ∷ js)
  by_own true h rest =
      ap (λ b. filter (λ job. is_own d job.source) (cond b js (job ∷ without_first c js))) h
      ∙ ap (λ b. cond b (job ∷ filter (λ job. is_own d job.source) js) (filter (λ job. is_own d job.source) js)) (sym (own-of_one c d job.source differ h))
  by_own false h rest =
      ap (λ b. filter (λ job. is_own d job.source) (cond b js (job ∷ without_first c js))) h
      ∙ ap (λ ys. cond (is_own d job.source) (job ∷ ys) ys) rest

-- the last sixteen of at most seventeen
pub sixteen-own : (c : ℕ) (js : List Job) → length (filter (λ job. is_own c job.source) js) ≤ 17
    → filter (λ job. is_own c job.source) (at_most_sixteen c js) ≡ last 16 (filter (λ job. is_own c job.source) js)
sixteen-own c js few = by_length (nat_lt 16 (length (filter (λ job. is_own c job.source) js))) refl where
  by_length : (b : Bool) → nat_lt 16 (length (filter (λ job. is_own c job.source) js)) ≡ b
      → filter (λ job. is_own c job.source) (at_most_sixteen c js) ≡ last 16 (filter (λ job. is_own c job.source) js)
  by_length true h =
      let many : 16 < length (filter (λ job. is_own c job.source) js) = ltb-true 16 (length (filter (λ job. is_own c job.source) js)) h in
      let one : 1 ≡ length (filter (λ job. is_own c job.source) js) - 16 = omega (arith, many, few) in
      ap (λ b. filter (λ job. is_own c job.source) (cond b (without_first c js) js)) h ∙ own-without_first c js
      ∙ ap (λ i. drop i (filter (λ job. is_own c job.source) js)) one
  by_length false h =
      let most : length (filter (λ job. is_own c job.source) js) ≤ 16 = ltb-false 16 (length (filter (λ job. is_own c job.source) js)) h in
      let all : 0 ≡ length (filter (λ job. is_own c job.source) js) - 16 = omega (arith, most) in
      ap (λ b. filter (λ job. is_own c job.source) (cond b (without_first c js) js)) h
      ∙ ap (λ i. drop i (filter (λ job. is_own c job.source) js)) all

-- another channel keeps its own
pub sixteen-others : (c d : ℕ) (js : List Job) → (c ≡ d → ⊥)
    → filter (λ job. is_own d job.source) (at_most_sixteen c js) ≡ filter (λ job. is_own d job.source) js
sixteen-others c d js differ = by_length (nat_lt 16 (length (filter (λ job. is_own c job.source) js))) refl where
  by_length : (b : Bool) → nat_lt 16 (length (filter (λ job. is_own c job.source) js)) ≡ b
      → filter (λ job. is_own d job.source) (at_most_sixteen c js) ≡ filter (λ job. is_own d job.source) js
  by_length true h = ap (λ b. filter (λ job. is_own d job.source) (cond b (without_first c js) js)) h ∙ others-without_first c d js differ
  by_length false h = ap (λ b. filter (λ job. is_own d job.source) (cond b (without_first c js) js)) h

-- the last so many are at most so many
pub length-last : {X : Type 0} (n : ℕ) (xs : List X) → length (last n xs) ≤ n
length-last n xs = rw (length-drop (length xs - n) xs) (omega arith)

-- a miner's own job among the live ones of each channel
pub brought-own : (h : List Event) (s : Standing) (session : ℕ) (custom : CustomData) (job : Job) → AreJobsOf h s
    → Joins h (event.Custom session custom) job → job.source ≡ FromMiner custom → (channel : ℕ) (same : Bool) → eqb custom.channel_id channel ≡ same
    → filter (λ job. is_own channel job.source) (at_most_sixteen custom.channel_id (s.custom ++ live_at_once job ∷ [])) ≡ own_jobs (h ++ event.Custom session custom ∷ []) channel
brought-own h s session custom job a j from channel true e =
    let c : ℕ = custom.channel_id in
    let lively : Job = live_at_once job in
    let to : c ≡ channel = eqb-true c channel e in
    let mine : is_own channel job.source ≡ true = ap (is_own channel) from ∙ e in
    let mine' : is_own c job.source ≡ true = ap (λ i. is_own i job.source) to ∙ mine in
    let kept : filter (λ job. is_own c job.source) (s.custom ++ lively ∷ []) ≡ own_jobs h c ++ lively ∷ [] =
    filter-kept (λ job. is_own c job.source) s.custom lively mine' ∙ ap (λ js. js ++ lively ∷ []) (a.custom c) in
    let whole : length (filter (λ job. is_own c job.source) (s.custom ++ lively ∷ [])) ≡ length (own_jobs h c) + 1 =
    ap length kept ∙ length-append (own_jobs h c) (lively ∷ []) in
    let few : length (filter (λ job. is_own c job.source) (s.custom ++ lively ∷ [])) ≤ 17 =
    omega (arith, whole, length-last 16 (map live_at_once (filter (λ job. is_own c job.source) (late_jobs h)))) in
    ap (λ i. filter (λ job. is_own i job.source) (at_most_sixteen c (s.custom ++ lively ∷ []))) (sym to)
    ∙ sixteen-own c (s.custom ++ lively ∷ []) few ∙ ap (λ js. last 16 js) kept
    ∙ sym (own-with c h (event.Custom session custom) job j mine')
    ∙ ap (λ i. own_jobs (h ++ event.Custom session custom ∷ []) i) to
brought-own h s session custom job a j from channel false e =
    let foreign : is_own channel job.source ≡ false = ap (is_own channel) from ∙ e in
    sixteen-others custom.channel_id channel (s.custom ++ live_at_once job ∷ []) (eqb-false custom.channel_id channel e)
    ∙ filter-dropped (λ job. is_own channel job.source) s.custom (live_at_once job) foreign ∙ a.custom channel
    ∙ sym (own-beside channel h (event.Custom session custom) job j foreign)

-- one more of a miner's own jobs
pub brought : (h : List Event) (s : Standing) (session : ℕ) (custom : CustomData) (job : Job) → AreJobsOf h s
    → Joins h (event.Custom session custom) job → job.source ≡ FromMiner custom
    → AreJobsOf (h ++ event.Custom session custom ∷ []) (with_custom job custom.channel_id s)
brought h s session custom job a j from =
    let e : Event = event.Custom session custom in
    record {
      all = ap (λ js. js ++ job ∷ []) a.all ∙ sym j.jobs;
      future = a.future ∙ sym (late_jobs-beside 16 (λ job. is_future job.source) h e job j (ap is_future from));
      live = a.live ∙ sym (live-beside h e job j (ap is_ready from));
      custom = λ channel. brought-own h s session custom job a j from channel (eqb custom.channel_id channel) refl;
      tip = a.tip ∙ ap (option_map (λ (t : TipAt). t.tip)) (sym j.tip);
    }

-- an event that is no tip and no job
pub record Passes (h : List Event) (e : Event) : Type 0 where
  pub tip : tip_in (h ++ e ∷ []) ≡ tip_in h
  pub jobs : jobs_in (h ++ e ∷ []) ≡ jobs_in h

pub passed : (h : List Event) (s : Standing) (e : Event) → AreJobsOf h s → Passes h e → AreJobsOf (h ++ e ∷ []) s
passed h s e a p =
    let same : late_jobs (h ++ e ∷ []) ≡ late_jobs h =
    ap (λ t. filter (is_late t) (jobs_in (h ++ e ∷ []))) p.tip ∙ ap (λ js. filter (is_late (tip_in h)) js) p.jobs in
    record {
      all = a.all ∙ sym p.jobs;
      future = a.future ∙ sym (ap (λ l. last 16 (filter (λ job. is_future job.source) l)) same);
      live = a.live ∙ sym (
          ap (λ t. last 64 (tip_job (h ++ e ∷ []) t ++ map live_at_once (filter (λ job. is_ready job.source) (late_jobs (h ++ e ∷ []))))) p.tip
          ∙ ap (λ ts. last 64 (ts ++ map live_at_once (filter (λ job. is_ready job.source) (late_jobs (h ++ e ∷ []))))) (tip_job-later h e (tip_in h) (tip_in-lies h))
          ∙ ap (λ l. last 64 (tip_job h (tip_in h) ++ map live_at_once (filter (λ job. is_ready job.source) l))) same
          );
      custom = λ channel. a.custom channel ∙ sym (ap (λ l. last 16 (map live_at_once (filter (λ job. is_own channel job.source) l))) same);
      tip = a.tip ∙ ap (option_map (λ (t : TipAt). t.tip)) (sym p.tip);
    }

-- the last event stands first in the past
pub past-last : (e : Event) (past : List Event) → reverse past ++ e ∷ [] ≡ reverse (e ∷ past)
past-last e past = sym (reverse-append (e ∷ []) past)

-- the jobs of the past are those of its events in their order
pub places_of_past : (past : List Event) → AreJobsOf (reverse past) (jobs_of past)
places_of_past [] = record { all = refl; future = refl; live = refl; custom = λ channel. refl; tip = refl }
places_of_past (event.Template session template ∷ past) =
    let h : List Event = reverse past in
    let e : Event = event.Template session template in
    let a : AreJobsOf h (jobs_of past) = places_of_past past in
    let job : ℕ → ℕ → Job = λ n at. template_job (n + 1) at session template in
    let same : job (length (jobs_in h)) (length h) ≡ job (length (jobs_of past).all) (length past) =
    ap (λ js. job (length js) (length h)) (sym a.all) ∙ ap (λ n. job (length (jobs_of past).all) n) (length-reverse past) in
    let joined : Joins h e (job (length (jobs_of past).all) (length past)) = subst (λ j. Joins h e j) same (joins-template h session template) in
    subst (λ g. AreJobsOf g (jobs_of (e ∷ past))) (past-last e past)
    (came h (jobs_of past) session template (job (length (jobs_of past).all) (length past)) a joined refl template.future_template refl)
places_of_past (event.Tip session tip ∷ past) =
    let h : List Event = reverse past in
    let e : Event = event.Tip session tip in
    subst (λ g. AreJobsOf g (jobs_of (e ∷ past))) (past-last e past)
    (subst (λ n. AreJobsOf (h ++ e ∷ []) (with_tip n tip (jobs_of past))) (length-reverse past)
    (tipped h (jobs_of past) session tip (places_of_past past)))
places_of_past (event.Custom session custom ∷ past) =
    let h : List Event = reverse past in
    let e : Event = event.Custom session custom in
    let a : AreJobsOf h (jobs_of past) = places_of_past past in
    let job : ℕ → ℕ → Job = λ n at. custom_job (n + 1) at custom in
    let same : job (length (jobs_in h)) (length h) ≡ job (length (jobs_of past).all) (length past) =
    ap (λ js. job (length js) (length h)) (sym a.all) ∙ ap (λ n. job (length (jobs_of past).all) n) (length-reverse past) in
    let joined : Joins h e (job (length (jobs_of past).all) (length past)) = subst (λ j. Joins h e j) same (joins-custom h session custom) in
    subst (λ g. AreJobsOf g (jobs_of (e ∷ past))) (past-last e past)
    (brought h (jobs_of past) session custom (job (length (jobs_of past).all) (length past)) a joined refl)
places_of_past (event ∷ past) =
    let h : List Event = reverse past in
    subst (λ g. AreJobsOf g (jobs_of past)) (past-last event past)
    (passed h (jobs_of past) event (places_of_past past) (record {
      tip = last_tip-snoc 0 None h event (length h) (omega arith);
      jobs = jobs_from-snoc 0 1 h event (length h) (length (jobs_in h) + 1) (omega arith) (omega arith) ∙ append-nil (jobs_in h);
    }))

pub jobs_are_by_places : JobsByPlaces
jobs_are_by_places history =
    subst (λ h. AreJobsOf h (jobs_of (past_of history))) (reverse-reverse history) (places_of_past (reverse history))
