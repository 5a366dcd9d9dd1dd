-- What is kept of jobs says all that is read of them.
use Rattle.std.proofs.Common.{◌⊎◌, inl, inr, ◌≡◌, ℕ, ◌+◌, ◌<◌, ◌≤◌, suc, Bool, true, false, ◌&&◌, ◌||◌, cond, not, Option, None, Some, List, [], ◌∷◌, ◌++◌, length, refl, ap, ap₂, subst, sym, ◌∙◌, arith}
use Rattle.std.proofs.Math.Dec.{eqb}
use Rattle.std.proofs.lemmas.Bool.{and_from, and_parts, eqb-false, eqb-true, false≢true, le-leb, leb-true, lt-ltb, ltb-true, ne_eqb}
use Rattle.std.proofs.lemmas.List.{append-nil, length-append, length-reverse}
use Rattle.std.specs.Prelude.{nat_eq, nat_le, nat_lt}
use Rattle.std.specs.List.{flat_map, list_any}
use Rattle.pool_history.specs.declared.events.Event.{Event}
use Rattle.pool_history.specs.declared.events.Event.TheVariants as event
use Rattle.pool_history.specs.declared.events.JobState.TheVariants as state
use Rattle.pool_history.specs.declared.templates.CustomData.{CustomData}
use Rattle.pool_history.specs.declared.templates.TemplateData.{TemplateData}
use Rattle.pool_history.specs.ByPlaces.{jobs_from, jobs_in}
use Rattle.pool_history.specs.Jobs.{Came, Tipped, Brought, Job, JobMove, Source, FromTemplate, FromMiner, Standing, at_most_sixteen, has_number, is_open_to, jobs_of, last_of, after_move, job_numbered, state_of, template_job, custom_job, live_at_once}
use Rattle.pool_history.specs.Judging.{is_known_state, is_mineable}
use Rattle.pool_history.specs.Sessions.{past_of}
use Rattle.pool_history.proofs.PlacesOfJobs.{jobs_are_by_places}
use Rattle.pool_history.proofs.PlacesOfStates.{counts-jobs}
use Rattle.history_laws.specs.KeptJobs.{KeptJobs, KeptJobsMove, KeptJobsSuffice, OwnJob, is_mineable_by, is_number_of, is_others, kept_after, kept_jobs_of, own_of}
use Rattle.history_laws.proofs.Legalities.{past-one}

-- one job more
abbrev owns : List Job → List OwnJob
owns jobs = flat_map (λ job. own_of job.number job.source) jobs

owns-end : (jobs : List Job) (job : Job) → owns (jobs ++ job ∷ []) ≡ owns jobs ++ own_of job.number job.source
owns-end [] job = append-nil (own_of job.number job.source)
owns-end (first ∷ jobs) job =
    ap (λ l. own_of first.number first.source ++ l) (owns-end jobs job)
    ∙ sym (Rattle.std.proofs.Common.append_assoc (own_of first.number first.source) (owns jobs) (own_of job.number job.source))

count-end : (jobs : List Job) (job : Job) → length (jobs ++ job ∷ []) ≡ length jobs + 1
count-end jobs job = length-append jobs (job ∷ [])

with-count : ℕ → List OwnJob → List Job → List Job → Standing → KeptJobs
with-count n own future live s = record { count = n; own = own; future = future; live = live; custom = s.custom; tip = s.tip }

pub kept-move : KeptJobsMove
unfolding with-count
kept-move (Came at session template) s = by template.future_template where
  by : (b : Bool) → kept_jobs_of (Rattle.pool_history.specs.Jobs.with_template (template_job (length s.all + 1) at session template) b s)
      ≡ Rattle.history_laws.specs.KeptJobs.keeping_template (template_job (length s.all + 1) at session template) b (kept_jobs_of s)
  by true =
      let j : Job = template_job (length s.all + 1) at session template in
      let future : List Job = Rattle.pool_history.specs.Jobs.last 16 (s.future ++ j ∷ []) in
      ap (λ n. with-count n (owns (s.all ++ j ∷ [])) future s.live s) (count-end s.all j)
      ∙ ap (λ own. with-count (length s.all + 1) own future s.live s) (owns-end s.all j ∙ append-nil (owns s.all))
  by false =
      let j : Job = template_job (length s.all + 1) at session template in
      let live : List Job = Rattle.pool_history.specs.Jobs.last 64 (s.live ++ live_at_once j ∷ []) in
      ap (λ n. with-count n (owns (s.all ++ j ∷ [])) s.future live s) (count-end s.all j)
      ∙ ap (λ own. with-count (length s.all + 1) own s.future live s) (owns-end s.all j ∙ append-nil (owns s.all))
kept-move (Tipped at tip) s = refl
kept-move (Brought at custom) s =
    let j : Job = custom_job (length s.all + 1) at custom in
    let more : Standing = record s { custom = at_most_sixteen custom.channel_id (s.custom ++ live_at_once j ∷ []) } in
    ap (λ n. with-count n (owns (s.all ++ j ∷ [])) s.future s.live more) (count-end s.all j)
    ∙ ap (λ own. with-count (length s.all + 1) own s.future s.live more) (owns-end s.all j)

-- two tests that say the same
same-test : (a b : Bool) → (a ≡ true → b ≡ true) → (b ≡ true → a ≡ true) → a ≡ b
same-test true b f g = sym (f refl)
same-test false true f g = absurd (false≢true (g refl))
same-test false false f g = refl

-- a number among those from one on
abbrev within : ℕ → ℕ → ℕ → Bool
within k count n = nat_le k n && nat_lt n (k + count)

within-more : (k count n : ℕ) → nat_eq k n ≡ false → within (k + 1) count n ≡ within k (suc count) n
within-more k count n other =
    same-test (within (k + 1) count n) (within k (suc count) n)
    (λ h. let a = and_parts (nat_le (k + 1) n) (nat_lt n (k + 1 + count)) h in
    let low : k + 1 ≤ n = leb-true (k + 1) n a.0 in
    let high : n < k + 1 + count = ltb-true n (k + 1 + count) a.1 in
    and_from (nat_le k n) (nat_lt n (k + suc count)) (le-leb k n (omega (arith, low))) (lt-ltb n (k + suc count) (omega (arith, high))))
    (λ h. let a = and_parts (nat_le k n) (nat_lt n (k + suc count)) h in
    let low : k ≤ n = leb-true k n a.0 in
    let high : n < k + suc count = ltb-true n (k + suc count) a.1 in
    let apart : k ≡ n → ⊥ = eqb-false k n other in
    and_from (nat_le (k + 1) n) (nat_lt n (k + 1 + count)) (le-leb (k + 1) n (omega (arith, low, apart)))
    (lt-ltb n (k + 1 + count) (omega (arith, high))))

within-first : (k count n : ℕ) → nat_eq k n ≡ true → within k (suc count) n ≡ true
within-first k count n same =
    let is : k ≡ n = eqb-true k n same in
    and_from (nat_le k n) (nat_lt n (k + suc count)) (le-leb k n (omega (arith, is))) (lt-ltb n (k + suc count) (omega (arith, is)))

-- no later job has the number
no-later : (c at k n : ℕ) (h : List Event) → n < k → list_any (is_others c n) (owns (jobs_from at k h)) ≡ false
no-later c at k n [] less = refl
no-later c at k n (event.Template session template ∷ more) less = no-later c (at + 1) (k + 1) n more (omega (arith, less))
no-later c at k n (event.Custom session custom ∷ more) less =
    ap₂ (λ a b. (a && not (nat_eq custom.channel_id c)) || b) (ne_eqb k n (λ same. omega (arith, same, less)))
    (no-later c (at + 1) (k + 1) n more (omega (arith, less)))
no-later c at k n (event.Start rules ∷ more) less = no-later c (at + 1) k n more less
no-later c at k n (event.Enter worker role flags ∷ more) less = no-later c (at + 1) k n more less
no-later c at k n (event.Tip session tip ∷ more) less = no-later c (at + 1) k n more less
no-later c at k n (event.Open session kind account class lead ∷ more) less = no-later c (at + 1) k n more less
no-later c at k n (event.Name session channel account ∷ more) less = no-later c (at + 1) k n more less
no-later c at k n (event.Class session channel class ∷ more) less = no-later c (at + 1) k n more less
no-later c at k n (event.Close session channel ∷ more) less = no-later c (at + 1) k n more less
no-later c at k n (event.Leave session ∷ more) less = no-later c (at + 1) k n more less
no-later c at k n (event.Credit session channel job nonce ntime version extranonce ∷ more) less = no-later c (at + 1) k n more less
no-later c at k n (event.Grant session account fixed path ∷ more) less = no-later c (at + 1) k n more less

-- whose the job with a number is
abbrev Mines : ℕ → ℕ → ℕ → List Job → Type 0
Mines c k n jobs = is_mineable c (job_numbered n jobs) ≡ (within k (length jobs) n && not (list_any (is_others c n) (owns jobs)))

not-not-or : (b : Bool) → not (not b || false) ≡ b
not-not-or true = refl
not-not-or false = refl

mines-template : (c k n : ℕ) (job : Job) (template : TemplateData) (jobs : List Job) → job.number ≡ k → job.source ≡ FromTemplate template
    → (n < k + 1 → list_any (is_others c n) (owns jobs) ≡ false) → Mines c (k + 1) n jobs → Mines c k n (job ∷ jobs)
mines-template c k n job template jobs number source none rest = by (nat_eq k n) refl where
  own : owns (job ∷ jobs) ≡ owns jobs
  own = ap (λ s. own_of job.number s ++ owns jobs) source

  by : (b : Bool) → nat_eq k n ≡ b → is_mineable c (cond (nat_eq job.number n) (Some job) (job_numbered n jobs))
      ≡ (within k (suc (length jobs)) n && not (list_any (is_others c n) (own_of job.number job.source ++ owns jobs)))
  by true t =
      let is : k ≡ n = eqb-true k n t in
      ap (λ m. is_mineable c (cond (nat_eq m n) (Some job) (job_numbered n jobs))) number ∙ ap (λ b. is_mineable c (cond b (Some job) (job_numbered n jobs))) t
      ∙ ap (is_open_to c) source
      ∙ sym (ap₂ (λ a b. a && not b) (within-first k (length jobs) n t)
      (ap (λ s. list_any (is_others c n) (own_of job.number s ++ owns jobs)) source ∙ none (omega (arith, is))))
  by false f =
      ap (λ m. is_mineable c (cond (nat_eq m n) (Some job) (job_numbered n jobs))) number ∙ ap (λ b. is_mineable c (cond b (Some job) (job_numbered n jobs))) f
      ∙ rest ∙ ap₂ (λ a b. a && not b) (within-more k (length jobs) n f) (ap (λ s. list_any (is_others c n) (own_of job.number s ++ owns jobs)) (sym source))

mines-custom : (c k n : ℕ) (job : Job) (custom : CustomData) (jobs : List Job) → job.number ≡ k → job.source ≡ FromMiner custom
    → (n < k + 1 → list_any (is_others c n) (owns jobs) ≡ false) → Mines c (k + 1) n jobs → Mines c k n (job ∷ jobs)
mines-custom c k n job custom jobs number source none rest = by (nat_eq k n) refl where
  by : (b : Bool) → nat_eq k n ≡ b → is_mineable c (cond (nat_eq job.number n) (Some job) (job_numbered n jobs))
      ≡ (within k (suc (length jobs)) n && not (list_any (is_others c n) (own_of job.number job.source ++ owns jobs)))
  by true t =
      let is : k ≡ n = eqb-true k n t in
      ap (λ m. is_mineable c (cond (nat_eq m n) (Some job) (job_numbered n jobs))) number ∙ ap (λ b. is_mineable c (cond b (Some job) (job_numbered n jobs))) t
      ∙ ap (is_open_to c) source ∙ sym (not-not-or (nat_eq custom.channel_id c))
      ∙ sym (ap₂ (λ a b. a && not b) (within-first k (length jobs) n t)
      (ap₂ (λ m s. list_any (is_others c n) (own_of m s ++ owns jobs)) number source
      ∙ ap₂ (λ a b. (a && not (nat_eq custom.channel_id c)) || b) t (none (omega (arith, is)))))
  by false f =
      ap (λ m. is_mineable c (cond (nat_eq m n) (Some job) (job_numbered n jobs))) number ∙ ap (λ b. is_mineable c (cond b (Some job) (job_numbered n jobs))) f
      ∙ rest ∙ ap₂ (λ a b. a && not b) (within-more k (length jobs) n f)
      (sym (ap₂ (λ m s. list_any (is_others c n) (own_of m s ++ owns jobs)) number source
      ∙ ap (λ a. (a && not (nat_eq custom.channel_id c)) || list_any (is_others c n) (owns jobs)) f))

none-there : (k n : ℕ) → false ≡ (within k 0 n && true)
none-there k n =
    same-test false (within k 0 n && true) (λ h. absurd (false≢true h))
    (λ h. let a = and_parts (within k 0 n) true h in
    let b = and_parts (nat_le k n) (nat_lt n (k + 0)) a.0 in
    let low : k ≤ n = leb-true k n b.0 in
    let high : n < k + 0 = ltb-true n (k + 0) b.1 in
    absurd (omega (arith, low, high)))

mines-by : (c at k n : ℕ) (h : List Event) → Mines c k n (jobs_from at k h)
mines-by c at k n [] = none-there k n
mines-by c at k n (event.Template session template ∷ more) =
    mines-template c k n (template_job k at session template) template (jobs_from (at + 1) (k + 1) more) refl refl
    (no-later c (at + 1) (k + 1) n more) (mines-by c (at + 1) (k + 1) n more)
mines-by c at k n (event.Custom session custom ∷ more) =
    mines-custom c k n (custom_job k at custom) custom (jobs_from (at + 1) (k + 1) more) refl refl
    (no-later c (at + 1) (k + 1) n more) (mines-by c (at + 1) (k + 1) n more)
mines-by c at k n (event.Start rules ∷ more) = mines-by c (at + 1) k n more
mines-by c at k n (event.Enter worker role flags ∷ more) = mines-by c (at + 1) k n more
mines-by c at k n (event.Tip session tip ∷ more) = mines-by c (at + 1) k n more
mines-by c at k n (event.Open session kind account class lead ∷ more) = mines-by c (at + 1) k n more
mines-by c at k n (event.Name session channel account ∷ more) = mines-by c (at + 1) k n more
mines-by c at k n (event.Class session channel class ∷ more) = mines-by c (at + 1) k n more
mines-by c at k n (event.Close session channel ∷ more) = mines-by c (at + 1) k n more
mines-by c at k n (event.Leave session ∷ more) = mines-by c (at + 1) k n more
mines-by c at k n (event.Credit session channel job nonce ntime version extranonce ∷ more) = mines-by c (at + 1) k n more
mines-by c at k n (event.Grant session account fixed path ∷ more) = mines-by c (at + 1) k n more

-- the numbers from one on
numbers-from : (n count : ℕ) → within 1 count n ≡ (nat_le 1 n && nat_le n count)
numbers-from n count =
    ap (λ b. nat_le 1 n && b) (same-test (nat_lt n (1 + count)) (nat_le n count)
    (λ h. let high : n < 1 + count = ltb-true n (1 + count) h in le-leb n count (omega (arith, high)))
    (λ h. let high : n ≤ count = leb-true n count h in lt-ltb n (1 + count) (omega (arith, high))))

mineable-kept : (h : List Event) (c n : ℕ) → is_mineable c (job_numbered n (jobs_of (past_of h)).all) ≡ is_mineable_by (kept_jobs_of (jobs_of (past_of h))) c n
mineable-kept h c n =
    let all : (jobs_of (past_of h)).all ≡ jobs_in h = (jobs_are_by_places h).all in
    subst (λ jobs. is_mineable c (job_numbered n jobs) ≡ ((nat_le 1 n && nat_le n (length jobs)) && not (list_any (is_others c n) (owns jobs)))) (sym all)
    (mines-by c 0 1 n h ∙ ap (λ b. b && not (list_any (is_others c n) (owns (jobs_in h)))) (numbers-from n (length (jobs_in h))))

has-kept : (h : List Event) (n : ℕ) → has_number n (jobs_of (past_of h)).all ≡ is_number_of (kept_jobs_of (jobs_of (past_of h))) n
has-kept h n =
    let all : (jobs_of (past_of h)).all ≡ jobs_in h = (jobs_are_by_places h).all in
    let counts = counts-jobs 0 1 n h in
    subst (λ jobs. has_number n jobs ≡ (nat_le 1 n && nat_le n (length jobs))) (sym all)
    (same-test (has_number n (jobs_in h)) (nat_le 1 n && nat_le n (length (jobs_in h)))
    (λ has. let w : (1 ≤ n) × (n < 1 + length (jobs_in h)) = counts.0 has in
    and_from (nat_le 1 n) (nat_le n (length (jobs_in h))) (le-leb 1 n w.0) (le-leb n (length (jobs_in h)) (omega (arith, w.1))))
    (λ g. let w = and_parts (nat_le 1 n) (nat_le n (length (jobs_in h))) g in
    let low : 1 ≤ n = leb-true 1 n w.0 in
    let high : n ≤ length (jobs_in h) = leb-true n (length (jobs_in h)) w.1 in
    counts.1 low (omega (arith, high))))

last-end : {X : Type 0} (xs : List X) (x : X) → last_of (xs ++ x ∷ []) ≡ Some x
last-end [] x = refl
last-end (y ∷ []) x = refl
last-end (y ∷ z ∷ xs) x = last-end (z ∷ xs) x

all-came : (s : Standing) (job : Job) (b : Bool) → (Rattle.pool_history.specs.Jobs.with_template job b s).all ≡ s.all ++ job ∷ []
all-came s job true = refl
all-came s job false = refl

pub kept-suffice : KeptJobsSuffice
kept-suffice h = record {
  state = λ n. ap (λ b. cond (has_number n (jobs_of (past_of h)).future) state.Future
      (cond (has_number n (jobs_of (past_of h)).live || has_number n (jobs_of (past_of h)).custom) state.Live (cond b state.Stale state.Unknown))) (has-kept h n);
  mineable = mineable-kept h;
  known = λ share. ap₂ (λ s b. is_known_state s && b)
      (ap (λ b. cond (has_number share.job (jobs_of (past_of h)).future) state.Future
      (cond (has_number share.job (jobs_of (past_of h)).live || has_number share.job (jobs_of (past_of h)).custom) state.Live (cond b state.Stale state.Unknown))) (has-kept h share.job))
      (mineable-kept h share.channel share.job);
  newest_came = λ session template.
      let s : Standing = jobs_of (past_of h) in
      let at : length (past_of h) ≡ length h = length-reverse h in
      let job : Job = template_job (length s.all + 1) (length (past_of h)) session template in
      ap (λ past. last_of (jobs_of past).all) (past-one h (event.Template session template))
      ∙ ap last_of (all-came s job template.future_template) ∙ last-end s.all job
      ∙ ap (λ n. Some (template_job (length s.all + 1) n session template)) at;
}
