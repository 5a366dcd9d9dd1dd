-- The live job with a number, by places: it is the one that the recursion over jobs tells.
use Rattle.std.proofs.Common.{arith, ◌<◌, ◌⊎◌, inl, inr, ◌≡◌, ℕ, Bool, true, false, cond, Option, None, Some, List, [], ◌∷◌, ◌++◌, length, refl, ap, sym, ◌∙◌}
use Rattle.std.proofs.lemmas.Bool.{eq-eqb, eqb-true, false≢true}
use Rattle.std.proofs.lemmas.List.{length-reverse}
use Rattle.std.specs.Prelude.{filter, find, nat_eq}
use Rattle.pool_history.specs.declared.events.Event.{Event}
use Rattle.pool_history.specs.Jobs.{Job, is_own, job_moves, job_numbered, jobs_of, live_job}
use Rattle.pool_history.specs.Sessions.{past_of}
use Rattle.pool_history.proofs.PlacesOfJobs.{jobs_are_by_places}
use Rattle.pool_history.proofs.PlacesOfStates.{AllOwned, Owned, customs_owned}
use Rattle.history_laws.specs.NineConditions.{IsLiveJob, LiveJobsByPlaces, LiveJobsSaySince}
use Rattle.history_laws.proofs.Entrances.{none-some, some-same}
use Rattle.history_laws.proofs.Keeping.{find-passes}
use Rattle.history_laws.proofs.Living.{In, LivesSince, alive, find-in, in-left, in-right, jobs-numbered}

-- what is found in a front is found in the whole, and else it is found behind
find-front : {X : Type 0} (p : X → Bool) (xs ys : List X) (x : X) → find p xs ≡ Some x → find p (xs ++ ys) ≡ Some x
find-front p [] ys x is = absurd (none-some is)
find-front p (y ∷ xs) ys x is = by (p y) (find-front p xs ys x) is where
  by : (b : Bool) → (find p xs ≡ Some x → find p (xs ++ ys) ≡ Some x) → cond b (Some y) (find p xs) ≡ Some x → cond b (Some y) (find p (xs ++ ys)) ≡ Some x
  by true rest f = f
  by false rest f = rest f

find-behind : {X : Type 0} (p : X → Bool) (xs ys : List X) → find p xs ≡ None → find p (xs ++ ys) ≡ find p ys
find-behind p [] ys is = refl
find-behind p (y ∷ xs) ys is = by (p y) (find-behind p xs ys) is where
  by : (b : Bool) → (find p xs ≡ None → find p (xs ++ ys) ≡ find p ys) → cond b (Some y) (find p xs) ≡ None → cond b (Some y) (find p (xs ++ ys)) ≡ find p ys
  by true rest f = absurd (none-some (sym f))
  by false rest f = rest f

-- what passes a test is found among what passes it
find-filter : {X : Type 0} (p q : X → Bool) (xs : List X) (x : X) → find p xs ≡ Some x → q x ≡ true → find p (filter q xs) ≡ Some x
find-filter p q [] x is t = is
find-filter p q (y ∷ xs) x is t = by (p y) refl (q y) refl is (λ f. find-filter p q xs x f t) where
  by : (b : Bool) → p y ≡ b → (c : Bool) → q y ≡ c → cond b (Some y) (find p xs) ≡ Some x
      → (find p xs ≡ Some x → find p (filter q xs) ≡ Some x) → find p (cond c (y ∷ filter q xs) (filter q xs)) ≡ Some x
  by true u true v f rest = ap (λ b. cond b (Some y) (find p (filter q xs))) u ∙ f
  by true u false v f rest = absurd (false≢true (sym v ∙ ap q (some-same f) ∙ t))
  by false u true v f rest = ap (λ b. cond b (Some y) (find p (filter q xs))) u ∙ rest f
  by false u false v f rest = rest f

-- what is in a list and passes is found
find-some : {X : Type 0} (p : X → Bool) (xs : List X) (x : X) → In x xs → p x ≡ true → (y : X) × (find p xs ≡ Some y)
find-some p [] x i t = elim i [ ]
find-some {X = X} p (y ∷ xs) x i t = by (p y) refl i (λ k. find-some p xs x k t) where
  by : (b : Bool) → p y ≡ b → (x ≡ y) ⊎ In x xs → (In x xs → (z : X) × (find p xs ≡ Some z)) → (z : X) × (cond b (Some y) (find p xs) ≡ Some z)
  by true u k rest = (y, refl)
  by false u (inl e) rest = absurd (false≢true (sym u ∙ ap p (sym e) ∙ t))
  by false u (inr k) rest = rest k

in-filter : {X : Type 0} (q : X → Bool) (xs : List X) (x : X) → In x (filter q xs) → In x xs
in-filter q [] x i = i
in-filter q (y ∷ xs) x i = by (q y) i (in-filter q xs x) where
  by : (b : Bool) → In x (cond b (y ∷ filter q xs) (filter q xs)) → (In x (filter q xs) → In x xs) → (x ≡ y) ⊎ In x xs
  by true (inl e) rest = inl e
  by true (inr k) rest = inr (rest k)
  by false k rest = inr (rest k)

-- what is found is some channel's own, where all are
owned-found : (p : Job → Bool) (js : List Job) (job : Job) → AllOwned js → find p js ≡ Some job → Owned job
owned-found p [] job a is = absurd (none-some is)
owned-found p (j ∷ js) job a is = by (p j) is (owned-found p js job a.1) where
  by : (b : Bool) → cond b (Some j) (find p js) ≡ Some job → (find p js ≡ Some job → Owned job) → Owned job
  by true f rest = (a.0.0, ap (λ k. is_own a.0.0 k.source) (sym (some-same f)) ∙ a.0.1)
  by false f rest = rest f

-- the live job that the recursion tells is the one by places
pub live-placed : (h : List Event) (n : ℕ) (job : Job) → live_job (jobs_of (past_of h)) n ≡ Some job → IsLiveJob h n job
live-placed h n job is = by (job_numbered n (jobs_of (past_of h)).live) refl where
  by : (o : Option Job) → find (λ j. nat_eq j.number n) (jobs_of (past_of h)).live ≡ o → IsLiveJob h n job
  by (Some x) f =
      let same : x ≡ job = some-same (sym (find-front (λ j. nat_eq j.number n) (jobs_of (past_of h)).live (jobs_of (past_of h)).custom x f) ∙ is) in
      inl (ap (job_numbered n) (sym (jobs_are_by_places h).live) ∙ f ∙ ap Some same)
  by None f =
      let own : job_numbered n (jobs_of (past_of h)).custom ≡ Some job =
      sym (find-behind (λ j. nat_eq j.number n) (jobs_of (past_of h)).live (jobs_of (past_of h)).custom f) ∙ is in
      let o : Owned job = owned-found (λ j. nat_eq j.number n) (jobs_of (past_of h)).custom job (customs_owned (job_moves (past_of h))) own in
      inr (
        o.0,
        ap (job_numbered n) (sym ((jobs_are_by_places h).custom o.0))
            ∙ find-filter (λ j. nat_eq j.number n) (λ job. is_own o.0 job.source) (jobs_of (past_of h)).custom job own o.1,
      )

-- the one by places is alive, and has the number
placed-alive : (h : List Event) (n : ℕ) (job : Job) → IsLiveJob h n job → In job (alive (jobs_of (past_of h))) × (job.number ≡ n)
placed-alive h n job (inl l) =
    let f : job_numbered n (jobs_of (past_of h)).live ≡ Some job = ap (job_numbered n) (jobs_are_by_places h).live ∙ l in (
      in-left job (jobs_of (past_of h)).live (jobs_of (past_of h)).custom (find-in (λ j. nat_eq j.number n) (jobs_of (past_of h)).live job f),
      eqb-true job.number n (find-passes (λ j. nat_eq j.number n) (jobs_of (past_of h)).live job f),
    )
placed-alive h n job (inr o) =
    let own : List Job = filter (λ job. is_own o.0 job.source) (jobs_of (past_of h)).custom in
    let f : job_numbered n own ≡ Some job = ap (job_numbered n) ((jobs_are_by_places h).custom o.0) ∙ o.1 in (
      in-right job (jobs_of (past_of h)).live (jobs_of (past_of h)).custom
          (in-filter (λ job. is_own o.0 job.source) (jobs_of (past_of h)).custom job (find-in (λ j. nat_eq j.number n) own job f)),
      eqb-true job.number n (find-passes (λ j. nat_eq j.number n) own job f),
    )

-- so there is one with a number, and the recursion tells it
pub one-placed : (h : List Event) (n : ℕ) (a b : Job) → IsLiveJob h n a → IsLiveJob h n b → a ≡ b
one-placed h n a b x y =
    let p : In a (alive (jobs_of (past_of h))) × (a.number ≡ n) = placed-alive h n a x in
    let q : In b (alive (jobs_of (past_of h))) × (b.number ≡ n) = placed-alive h n b y in
    (jobs-numbered (past_of h)).one a b p.0 q.0 (p.1 ∙ sym q.1)

pub placed-live : (h : List Event) (n : ℕ) (job : Job) → IsLiveJob h n job → live_job (jobs_of (past_of h)) n ≡ Some job
placed-live h n job l =
    let p : In job (alive (jobs_of (past_of h))) × (job.number ≡ n) = placed-alive h n job l in
    let f : (y : Job) × (live_job (jobs_of (past_of h)) n ≡ Some y) =
    find-some (λ j. nat_eq j.number n) (alive (jobs_of (past_of h))) job p.0 (eq-eqb job.number n p.1) in
    f.1 ∙ ap Some (one-placed h n f.0 job (live-placed h n f.0 f.1) l)

-- and it is live since some place of the history
pub placed-since : (h : List Event) (n : ℕ) (job : Job) → IsLiveJob h n job → LivesSince job (length (past_of h))
placed-since h n job l = (jobs-numbered (past_of h)).living_since job (placed-alive h n job l).0

pub live-by_places : LiveJobsByPlaces
live-by_places h n job = (live-placed h n job, placed-live h n job)

pub live-since : LiveJobsSaySince
live-since h n job is =
    let l : LivesSince job (length (past_of h)) = placed-since h n job (live-placed h n job is) in
    let before : l.place < length (past_of h) = l.before in
    let long : length (past_of h) ≡ length h = length-reverse h in
    record { place = l.place; live_at = l.live_at; within = omega (arith, before, long) }
