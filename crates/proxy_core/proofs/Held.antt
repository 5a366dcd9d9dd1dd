-- Jobs that go, and what is told of jobs, one after the other.
use Rattle.std.proofs.Common.{◌≡◌, ℕ, zero, suc, ◌+◌, ◌<◌, ◌≤◌, Bool, true, false, None, Some, Result, Ok, Err, IfOk, List, [], ◌∷◌, ◌++◌, length, get_or, map, take, filter, position, inl, inr, refl, sym, ap, ◌∙◌, arith}
use Rattle.std.specs.List.{position_or_len, remove}
use Rattle.std.proofs.lemmas.Bool.{cases_Bool, cases_lt, lt-ltb}
use Rattle.std.proofs.lemmas.List.{append-nil, map-append, take_more}
use Rattle.std.proofs.lemmas.List.Elements.{filter-append}
use Rattle.std.proofs.lemmas.List.Quantifiers.{position-Some}
use Rattle.v1_translate.specs.Heard.{Told}
use Rattle.v1_translate.specs.State.{Terms}
use Rattle.proxy_rules.specs.Jobs.{without_first}
use Rattle.proxy_rules.specs.Miners.{told_all, told_to}
use Rattle.proxy_rules.specs.State.{Miner, RelayedJob}

-- ---- the first that passes a test

gone_at : (test : RelayedJob → Bool) (jobs : List RelayedJob) (i : ℕ) (d : RelayedJob) → i < length jobs
    → test (get_or jobs i d) ≡ true → ((k : ℕ) → k < i → test (get_or jobs k d) ≡ false) → remove jobs i ≡ without_first test jobs
gone_at test [] i d within here before = absurd (omega arith)
gone_at test (job ∷ jobs) zero d within here before = rw here refl
gone_at test (job ∷ jobs) (suc i) d within here before =
    rw (before 0 (omega arith)) (ap (λ more. job ∷ more) (gone_at test jobs i d (omega arith) here (λ k below. before (suc k) (omega arith))))

pub first_gone : (test : RelayedJob → Bool) (jobs shown : List RelayedJob) (i : ℕ) (d : RelayedJob) → shown ≡ jobs → Some i ≡ position test shown
    → remove jobs i ≡ without_first test jobs
first_gone test jobs shown i d same at =
    let first = position-Some test jobs i d (sym (at ∙ ap (position test) same)) in
    gone_at test jobs i d first.0 first.1 first.2

stay : (test : RelayedJob → Bool) (jobs : List RelayedJob) → length jobs ≤ position_or_len test jobs → jobs ≡ without_first test jobs
stay test [] none = refl
stay test (job ∷ jobs) none = elim (cases_Bool (test job)) [
  | inl here ↦
      let nought : position_or_len test (job ∷ jobs) ≡ 0 = rw here refl in
      absurd (omega arith)
  | inr here ↦
      let more : position_or_len test (job ∷ jobs) ≡ 1 + position_or_len test jobs = rw here refl in
      rw here (ap (λ rest. job ∷ rest) (stay test jobs (omega arith)))
]

pub none_gone : (test : RelayedJob → Bool) (jobs shown : List RelayedJob) → shown ≡ jobs → None ≡ position test shown → jobs ≡ without_first test jobs
none_gone test jobs shown same none = elim (cases_lt (position_or_len test jobs) (length jobs)) [
  | inl there ↦
      let at : position test jobs ≡ None = sym (none ∙ ap (position test) same) in
      let found : Some (position_or_len test jobs) ≡ None = rw (lt-ltb (position_or_len test jobs) (length jobs) there) at at in
      absurd (cc)
  | inr past ↦ stay test jobs past
]

-- ---- what is told

pub told_all-append : (terms : Terms) (xs ys : List Told) (miner : Miner) → told_all terms (xs ++ ys) miner ≡ told_all terms ys (told_all terms xs miner)
told_all-append terms [] ys miner = refl
told_all-append terms (x ∷ xs) ys miner = told_all-append terms xs ys (told_to terms x miner)

pub told_more : (terms : Terms) (told : RelayedJob → Told) (jobs : List RelayedJob) (i : ℕ) (d : RelayedJob) (miner : Miner) → i < length jobs
    → told_all terms (map told (take (i + 1) jobs)) miner ≡ told_to terms (told (get_or jobs i d)) (told_all terms (map told (take i jobs)) miner)
told_more terms told jobs i d miner within =
    rw (take_more jobs i d within, map-append told (take i jobs) (get_or jobs i d ∷ []))
    (told_all-append terms (map told (take i jobs)) (told (get_or jobs i d) ∷ []) miner)

one_passes : (test : RelayedJob → Bool) (job : RelayedJob) → test job ≡ true → filter test (job ∷ []) ≡ job ∷ []
one_passes test job passes = rw passes refl

one_fails : (test : RelayedJob → Bool) (job : RelayedJob) → test job ≡ false → filter test (job ∷ []) ≡ []
one_fails test job fails = rw fails refl

pub passes_more : (terms : Terms) (told : RelayedJob → Told) (test : RelayedJob → Bool) (jobs : List RelayedJob) (i : ℕ) (d : RelayedJob) (miner : Miner)
    → i < length jobs → test (get_or jobs i d) ≡ true
    → told_all terms (map told (filter test (take (i + 1) jobs))) miner
    ≡ told_to terms (told (get_or jobs i d)) (told_all terms (map told (filter test (take i jobs))) miner)
passes_more terms told test jobs i d miner within passes =
    rw (
      take_more jobs i d within,
      filter-append test (take i jobs) (get_or jobs i d ∷ []),
      one_passes test (get_or jobs i d) passes,
      map-append told (filter test (take i jobs)) (get_or jobs i d ∷ []),
    )
    (told_all-append terms (map told (filter test (take i jobs))) (told (get_or jobs i d) ∷ []) miner)

pub fails_more : (test : RelayedJob → Bool) (jobs : List RelayedJob) (i : ℕ) (d : RelayedJob) → i < length jobs → test (get_or jobs i d) ≡ false
    → filter test (take (i + 1) jobs) ≡ filter test (take i jobs)
fails_more test jobs i d within fails =
    rw (take_more jobs i d within, filter-append test (take i jobs) (get_or jobs i d ∷ []), one_fails test (get_or jobs i d) fails)
    (append-nil (filter test (take i jobs)))

-- ---- steps of loops over jobs

pub tell_step : (terms : Terms) (told : RelayedJob → Told) (jobs : List RelayedJob) (i : ℕ) (job : RelayedJob) (start now new : Miner) (said : Told)
    → i < length jobs → job ≡ get_or jobs i job → now ≡ told_all terms (map told (take i jobs)) start → said ≡ told job → new ≡ told_to terms said now
    → new ≡ told_all terms (map told (take (i + 1) jobs)) start
tell_step terms told jobs i job start now new said within at so_far is tells =
    tells ∙ ap (λ x. told_to terms x now) (is ∙ ap told at) ∙ ap (told_to terms (told (get_or jobs i job))) so_far
    ∙ sym (told_more terms told jobs i job start within)

pub pass_step : (terms : Terms) (told : RelayedJob → Told) (test : RelayedJob → Bool) (jobs : List RelayedJob) (i : ℕ) (job : RelayedJob)
    (start now new : Miner) (said : Told)
    → i < length jobs → job ≡ get_or jobs i job → test job ≡ true → now ≡ told_all terms (map told (filter test (take i jobs))) start
    → said ≡ told job → new ≡ told_to terms said now
    → new ≡ told_all terms (map told (filter test (take (i + 1) jobs))) start
pass_step terms told test jobs i job start now new said within at passes so_far is tells =
    tells ∙ ap (λ x. told_to terms x now) (is ∙ ap told at) ∙ ap (told_to terms (told (get_or jobs i job))) so_far
    ∙ sym (passes_more terms told test jobs i job start within (sym (ap test at) ∙ passes))

pub fail_step : (terms : Terms) (told : RelayedJob → Told) (test : RelayedJob → Bool) (jobs : List RelayedJob) (i : ℕ) (job : RelayedJob)
    (start now new : Miner)
    → i < length jobs → job ≡ get_or jobs i job → test job ≡ false → now ≡ told_all terms (map told (filter test (take i jobs))) start → new ≡ now
    → new ≡ told_all terms (map told (filter test (take (i + 1) jobs))) start
fail_step terms told test jobs i job start now new within at fails so_far same =
    same ∙ so_far ∙ sym (ap (λ xs. told_all terms (map told xs) start) (fails_more test jobs i job within (sym (ap test at) ∙ fails)))

-- what is told in three parts
pub over_told : {X E : Type 0} (result : Result X E) (terms : Terms) (before behind : List Told) (tip said : Told) (start one two three : Miner)
    → one ≡ told_all terms before start → said ≡ tip → two ≡ told_to terms said one → IfOk result (λ done. three ≡ told_all terms behind two)
    → IfOk result (λ done. three ≡ told_all terms (before ++ tip ∷ behind) start)
over_told (Ok done) terms before behind tip said start one two three first is second third =
    third ∙ ap (told_all terms behind) (second ∙ ap (λ x. told_to terms x one) is ∙ ap (told_to terms tip) first)
    ∙ sym (told_all-append terms before (tip ∷ behind) start)
over_told (Err error) terms before behind tip said start one two three first is second third = tt
