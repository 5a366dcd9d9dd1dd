-- The state of a number by places is that of the recursion over the past.
use Rattle.std.proofs.Common.{◌≡◌, ℕ, ◌+◌, ◌<◌, ◌≤◌, Bool, true, false, ◌||◌, cond, List, [], ◌∷◌, ◌++◌, length, refl, ap, subst, sym, ◌∙◌, arith, inl, inr, suc}
use Rattle.std.proofs.Math.Dec.{eqb}
use Rattle.std.proofs.lemmas.Bool.{eq-eqb, eqb-false, eqb-true}
use Rattle.std.specs.Prelude.{filter, nat_lt}
use Rattle.pool_history.specs.declared.events.Event.{Event}
use Rattle.pool_history.specs.declared.events.Event.TheVariants as event
use Rattle.pool_history.specs.declared.events.JobState.TheVariants as state
use Rattle.pool_history.specs.ByPlaces.{AreJobsOf, IsLive, IsOwnLive, IsState, StatesByPlaces, future_jobs, jobs_from, jobs_in, live_jobs}
use Rattle.pool_history.specs.Jobs.{Came, Tipped, Brought, Job, JobMove, Standing, at_most_sixteen, custom_job, has_number, is_own, jobs_of, job_moves, jobs_told, live_at_once, template_job, with_template, without_first}
use Rattle.pool_history.specs.Sessions.{past_of}
use Rattle.pool_history.proofs.PlacesOfJobs.{jobs_are_by_places}

-- a miner's own job is some channel's
abbrev pub Owned : Job → Type 0
Owned job = (channel : ℕ) × (is_own channel job.source ≡ true)

-- each job of a list is some channel's own
abbrev pub AllOwned : List Job → Type 0
AllOwned [] = Unit {0}
AllOwned (job ∷ jobs) = Owned job × AllOwned jobs

pub owned-end : (js : List Job) (job : Job) → AllOwned js → Owned job → AllOwned (js ++ job ∷ [])
owned-end [] job a o = (o, tt)
owned-end (j ∷ js) job a o = (a.0, owned-end js job a.1 o)

pub owned-without_first : (c : ℕ) (js : List Job) → AllOwned js → AllOwned (without_first c js)
owned-without_first c [] a = tt
owned-without_first c (j ∷ js) a =
    elim (is_own c j.source) as (λ b. AllOwned (cond b js (j ∷ without_first c js))) [ true ↦ a.1 | false ↦ (a.0, owned-without_first c js a.1) ]

pub owned-sixteen : (c : ℕ) (js : List Job) → AllOwned js → AllOwned (at_most_sixteen c js)
owned-sixteen c js a =
    elim (nat_lt 16 (length (filter (λ job. is_own c job.source) js))) as (λ b. AllOwned (cond b (without_first c js) js)) [
      | true ↦ owned-without_first c js a
      | false ↦ a
    ]

pub customs_owned : (ms : List JobMove) → AllOwned (jobs_told ms).custom
customs_owned [] = tt
customs_owned (Came at session template ∷ ms) = elim template.future_template as (λ b. AllOwned (with_template (template_job (length (jobs_told ms).all + 1) at session template) b (jobs_told ms)).custom) [ true ↦ customs_owned ms | false ↦ customs_owned ms ]
customs_owned (Tipped at tip ∷ ms) = tt
customs_owned (Brought at custom ∷ ms) =
    owned-sixteen custom.channel_id ((jobs_told ms).custom ++ live_at_once (custom_job (length (jobs_told ms).all + 1) at custom) ∷ [])
    (owned-end (jobs_told ms).custom (live_at_once (custom_job (length (jobs_told ms).all + 1) at custom)) (customs_owned ms)
    (custom.channel_id, eq-eqb custom.channel_id custom.channel_id refl))

-- one job more
pub or-true : (b : Bool) → b || true ≡ true
or-true true = refl
or-true false = refl

pub has-more : (n : ℕ) (j : Job) (b : Bool) (js : List Job) → has_number n js ≡ true → has_number n (cond b (j ∷ js) js) ≡ true
has-more n j true js h = ap (λ c. eqb j.number n || c) h ∙ or-true (eqb j.number n)
has-more n j false js h = h

-- a number among some channel's own, and among all
pub own-some : (n : ℕ) (js : List Job) → AllOwned js → has_number n js ≡ true
    → (channel : ℕ) × (has_number n (filter (λ job. is_own channel job.source) js) ≡ true)
own-some n [] a h = absurd (differ h) where
  differ : false ≡ true → ⊥
  differ h = cc
own-some n (j ∷ js) a h = by_number (eqb j.number n) refl (λ g. own-some n js a.1 g) where
  by_number : (b : Bool) → eqb j.number n ≡ b
      → (has_number n js ≡ true → (channel : ℕ) × (has_number n (filter (λ job. is_own channel job.source) js) ≡ true))
      → (channel : ℕ) × (has_number n (filter (λ job. is_own channel job.source) (j ∷ js)) ≡ true)
  by_number true e rest = (
    a.0.0,
    ap (λ b. has_number n (cond b (j ∷ filter (λ job. is_own a.0.0 job.source) js) (filter (λ job. is_own a.0.0 job.source) js))) a.0.1
        ∙ ap (λ b. b || has_number n (filter (λ job. is_own a.0.0 job.source) js)) e,
  )
  by_number false e rest =
      let later : has_number n js ≡ true = sym (ap (λ b. b || has_number n js) e) ∙ h in
      let found : (channel : ℕ) × (has_number n (filter (λ job. is_own channel job.source) js) ≡ true) = rest later in
      (found.0, has-more n j (is_own found.0 j.source) (filter (λ job. is_own found.0 job.source) js) found.1)

pub or-mono : (a b c : Bool) → (b ≡ true → c ≡ true) → a || b ≡ true → a || c ≡ true
or-mono true b c g h = refl
or-mono false b c g h = g h

pub kept-some : (n : ℕ) (j : Job) (b : Bool) (kept js : List Job) → (has_number n kept ≡ true → has_number n js ≡ true)
    → has_number n (cond b (j ∷ kept) kept) ≡ true → has_number n (j ∷ js) ≡ true
kept-some n j true kept js g h = or-mono (eqb j.number n) (has_number n kept) (has_number n js) g h
kept-some n j false kept js g h = ap (λ c. eqb j.number n || c) (g h) ∙ or-true (eqb j.number n)

pub filter-some : (n : ℕ) (p : Job → Bool) (js : List Job) → has_number n (filter p js) ≡ true → has_number n js ≡ true
filter-some n p [] h = h
filter-some n p (j ∷ js) h = kept-some n j (p j) (filter p js) js (λ g. filter-some n p js g) h

-- the numbers of the jobs go from one on, and none is left out
pub not-true : false ≡ true → ⊥
not-true h = cc

abbrev pub Counts : ℕ → ℕ → ℕ → Bool → Type 0
Counts k n count b = (b ≡ true → (k ≤ n) × (n < k + count)) × (k ≤ n → n < k + count → b ≡ true)

pub counts-none : (k n : ℕ) → Counts k n 0 false
counts-none k n = (λ h. absurd (not-true h), λ low high. absurd (none low high)) where
  none : k ≤ n → n < k + 0 → ⊥
  none low high = omega (arith, low, high)

pub counts-more : (k n count : ℕ) (b : Bool) → Counts (k + 1) n count b → Counts k n (suc count) (eqb k n || b)
counts-more k n count b h = by_number (eqb k n) refl where
  by_number : (first : Bool) → eqb k n ≡ first → Counts k n (suc count) (first || b)
  by_number true e =
      let here : k ≡ n = eqb-true k n e in
      (λ _. (omega (arith, here), omega (arith, here)), λ low high. refl)
  by_number false e =
      let elsewhere : k ≡ n → ⊥ = eqb-false k n e in (
        λ g. let more : (k + 1 ≤ n) × (n < k + 1 + count) = h.0 g in (omega (arith, more.0), omega (arith, more.1)),
        λ low high. h.1 (omega (arith, low, elsewhere)) (omega (arith, high)),
      )

pub counts-jobs : (at k n : ℕ) (h : List Event) → Counts k n (length (jobs_from at k h)) (has_number n (jobs_from at k h))
counts-jobs at k n [] = counts-none k n
counts-jobs at k n (event.Template session template ∷ more) =
    counts-more k n (length (jobs_from (at + 1) (k + 1) more)) (has_number n (jobs_from (at + 1) (k + 1) more)) (counts-jobs (at + 1) (k + 1) n more)
counts-jobs at k n (event.Custom session custom ∷ more) =
    counts-more k n (length (jobs_from (at + 1) (k + 1) more)) (has_number n (jobs_from (at + 1) (k + 1) more)) (counts-jobs (at + 1) (k + 1) n more)
counts-jobs at k n (event ∷ more) = counts-jobs (at + 1) k n more

-- no live job has the number
pub no_live : (h : List Event) (n : ℕ) → false ≡ has_number n (live_jobs h) → (IsOwnLive h n → false ≡ true) → IsLive h n → ⊥
no_live h n is_l own live = elim live [ inl l ↦ not-true (is_l ∙ l) | inr o ↦ not-true (own o) ]

-- the state by the four tests
pub state-by : (h : List Event) (n : ℕ) (f l c a : Bool) → f ≡ has_number n (future_jobs h) → l ≡ has_number n (live_jobs h)
    → (c ≡ true → IsOwnLive h n) → (IsOwnLive h n → c ≡ true) → Counts 1 n (length (jobs_in h)) a
    → IsState (cond f state.Future (cond (l || c) state.Live (cond a state.Stale state.Unknown))) h n
state-by h n true l c a is_f is_l some own count = sym is_f
state-by h n false true c a is_f is_l some own count = (λ g. not-true (is_f ∙ g), inl (sym is_l))
state-by h n false false true a is_f is_l some own count = (λ g. not-true (is_f ∙ g), inr (some refl))
state-by h n false false false true is_f is_l some own count =
    let within : (1 ≤ n) × (n < 1 + length (jobs_in h)) = count.0 refl in
    (λ g. not-true (is_f ∙ g), no_live h n is_l own, within.0, omega (arith, within.1))
state-by h n false false false false is_f is_l some own count =
    (λ g. not-true (is_f ∙ g), no_live h n is_l own, λ w. not-true (count.1 w.0 (beyond w.1))) where
      beyond : n ≤ length (jobs_in h) → n < 1 + length (jobs_in h)
      beyond w = omega (arith, w)

pub states_are_by_places : StatesByPlaces
states_are_by_places history n =
    let s : Standing = jobs_of (past_of history) in
    let a : AreJobsOf history s = jobs_are_by_places history in
    state-by history n (has_number n s.future) (has_number n s.live) (has_number n s.custom) (has_number n s.all)
    (ap (has_number n) a.future) (ap (has_number n) a.live)
    (λ g. let found : (channel : ℕ) × (has_number n (filter (λ job. is_own channel job.source) s.custom) ≡ true) =
    own-some n s.custom (customs_owned (job_moves (past_of history))) g in
    (found.0, sym (ap (has_number n) (a.custom found.0)) ∙ found.1))
    (λ own. filter-some n (λ job. is_own own.0 job.source) s.custom (ap (has_number n) (a.custom own.0) ∙ own.1))
    (subst (λ js. Counts 1 n (length (jobs_in history)) (has_number n js)) (sym a.all) (counts-jobs 0 1 n history))
