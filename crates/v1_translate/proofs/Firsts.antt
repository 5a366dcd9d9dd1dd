-- The first job of a number, and the first submission of one.
use Rattle.std.proofs.Common.{◌≡◌, ℕ, zero, suc, ◌+◌, ◌<◌, ◌≤◌, ◌==◌, Bool, true, false, None, Some, List, [], ◌∷◌, length, get_or, position, inl, inr, refl, ap, arith}
use Rattle.std.specs.List.{position_or_len, remove}
use Rattle.std.proofs.lemmas.Bool.{cases_Bool, cases_lt, lt-ltb}
use Rattle.std.proofs.lemmas.List.Quantifiers.{position-Some}
use Rattle.v1_translate.specs.Heard.{ToldJob}
use Rattle.v1_translate.specs.Messages.{answered, still_waiting}
use Rattle.v1_translate.specs.State.{Waiting}
use Rattle.v1_translate.specs.Submitting.{job_among}

abbrev pub has_number : ℕ → ToldJob → Bool
has_number number job = job.number == number

abbrev pub waits_by : ℕ → Waiting → Bool
waits_by number share = share.number == number

-- ---- places

none_before : {X : Type 0} (p : X → Bool) (xs : List X) → position p xs ≡ None → length xs ≤ position_or_len p xs
none_before p xs none = elim (cases_lt (position_or_len p xs) (length xs)) [
  | inl there ↦
      let same : Some (position_or_len p xs) ≡ None = rw (lt-ltb (position_or_len p xs) (length xs) there) at none in
      absurd (cc)
  | inr past ↦ past
]

not_first : {X : Type 0} (p : X → Bool) (x : X) (xs : List X) → p x ≡ true → length (x ∷ xs) ≤ position_or_len p (x ∷ xs) → ⊥
not_first p x xs here none =
    let nought : position_or_len p (x ∷ xs) ≡ 0 = rw here refl in
    omega arith

behind_first : {X : Type 0} (p : X → Bool) (x : X) (xs : List X) → p x ≡ false → length (x ∷ xs) ≤ position_or_len p (x ∷ xs) → length xs ≤ position_or_len p xs
behind_first p x xs here none =
    let more : position_or_len p (x ∷ xs) ≡ 1 + position_or_len p xs = rw here refl in
    omega arith

-- ---- jobs

job_at : (number : ℕ) (jobs : List ToldJob) (i : ℕ) (d : ToldJob) → i < length jobs
    → has_number number (get_or jobs i d) ≡ true → ((k : ℕ) → k < i → has_number number (get_or jobs k d) ≡ false)
    → job_among number jobs ≡ Some (get_or jobs i d)
job_at number [] i d within here before = absurd (omega arith)
job_at number (job ∷ jobs) zero d within here before = rw here refl
job_at number (job ∷ jobs) (suc i) d within here before =
    rw (before 0 (omega arith)) (job_at number jobs i d (omega arith) here (λ k below. before (suc k) (omega arith)))

pub job_found : (number : ℕ) (jobs : List ToldJob) (i : ℕ) (d : ToldJob)
    → position (λ job. job.number == number) jobs ≡ Some i → job_among number jobs ≡ Some (get_or jobs i d)
job_found number jobs i d at =
    let first = position-Some (has_number number) jobs i d at in
    job_at number jobs i d first.0 first.1 first.2

no_job_at : (number : ℕ) (jobs : List ToldJob) → length jobs ≤ position_or_len (has_number number) jobs → job_among number jobs ≡ None
no_job_at number [] none = refl
no_job_at number (job ∷ jobs) none = elim (cases_Bool (has_number number job)) [
  | inl here ↦ absurd (not_first (has_number number) job jobs here none)
  | inr here ↦ rw here (no_job_at number jobs (behind_first (has_number number) job jobs here none))
]

pub no_job : (number : ℕ) (jobs : List ToldJob) → position (λ job. job.number == number) jobs ≡ None → job_among number jobs ≡ None
no_job number jobs none = no_job_at number jobs (none_before (has_number number) jobs none)

-- ---- submissions

share_at : (number : ℕ) (shares : List Waiting) (i : ℕ) (d : Waiting) → i < length shares
    → waits_by number (get_or shares i d) ≡ true → ((k : ℕ) → k < i → waits_by number (get_or shares k d) ≡ false)
    → (answered number shares ≡ Some (get_or shares i d).id) × (still_waiting number shares ≡ remove shares i)
share_at number [] i d within here before = absurd (omega arith)
share_at number (share ∷ shares) zero d within here before = rw here (refl, refl)
share_at number (share ∷ shares) (suc i) d within here before =
    let rest = share_at number shares i d (omega arith) here (λ k below. before (suc k) (omega arith)) in
    rw (before 0 (omega arith)) (rest.0, ap (λ more. share ∷ more) rest.1)

pub share_found : (number : ℕ) (shares : List Waiting) (i : ℕ) (d : Waiting)
    → position (λ share. share.number == number) shares ≡ Some i
    → (answered number shares ≡ Some (get_or shares i d).id) × (still_waiting number shares ≡ remove shares i)
share_found number shares i d at =
    let first = position-Some (waits_by number) shares i d at in
    share_at number shares i d first.0 first.1 first.2

no_share_at : (number : ℕ) (shares : List Waiting) → length shares ≤ position_or_len (waits_by number) shares
    → (answered number shares ≡ None) × (still_waiting number shares ≡ shares)
no_share_at number [] none = (refl, refl)
no_share_at number (share ∷ shares) none = elim (cases_Bool (waits_by number share)) [
  | inl here ↦ absurd (not_first (waits_by number) share shares here none)
  | inr here ↦
      let rest = no_share_at number shares (behind_first (waits_by number) share shares here none) in
      rw here (rest.0, ap (λ more. share ∷ more) rest.1)
]

pub no_share : (number : ℕ) (shares : List Waiting) → position (λ share. share.number == number) shares ≡ None
    → (answered number shares ≡ None) × (still_waiting number shares ≡ shares)
no_share number shares none = no_share_at number shares (none_before (waits_by number) shares none)
