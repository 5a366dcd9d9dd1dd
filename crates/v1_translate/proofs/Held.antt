-- Few jobs are held, and none twice.
use Rattle.std.proofs.Common.{◌≡◌, ◌≤◌, ◌+◌, ◌==◌, ℕ, zero, suc, Option, None, Some, List, [], ◌∷◌, length, take, refl, sym, ap, ◌∙◌, inl, inr, arith}
use Rattle.std.proofs.lemmas.Bool.{cases_Bool}
use Rattle.std.proofs.lemmas.Bool.Decides.{nat_tests}
use Rattle.v1_translate.specs.Heard.{Told, Opened, NotOpened, Target, Accepted, Refused, Future, Live, Tipped, Nothing, ToldJob, ToldTip, Heard, Line, Message, Named}
use Rattle.v1_translate.specs.Laws.{AreHeld, jobs_told, times}
use Rattle.v1_translate.specs.Messages.{alone, jobs_after, over_tip, with_future, with_live, without}
use Rattle.v1_translate.specs.Sessions.{state_after}
use Rattle.v1_translate.specs.State.{HeldJobs, Terms}
use Rattle.v1_translate.specs.Submitting.{held_job}
use Rattle.v1_translate.proofs.States.{of_what_was_heard}

-- at most so many are taken
few : (most : ℕ) (jobs : List ToldJob) → length (take most jobs) ≤ most
few zero jobs = omega arith
few (suc most) [] = omega arith
few (suc most) (job ∷ jobs) = let more = few most jobs in omega (arith, more)

times_taken : (number most : ℕ) (jobs : List ToldJob) → times number (take most jobs) ≤ times number jobs
times_taken number zero jobs = omega arith
times_taken number (suc most) [] = omega arith
times_taken number (suc most) (job ∷ jobs) = let more = times_taken number most jobs in omega (arith, more)

times_left : (number gone : ℕ) (jobs : List ToldJob) → times number (without gone jobs) ≤ times number jobs
times_left number gone [] = omega arith
times_left number gone (job ∷ jobs) =
    let more = times_left number gone jobs in
    elim (cases_Bool (job.number == gone)) [
      | inl same ↦ rw same (omega (arith, more))
      | inr other ↦ rw other (omega (arith, more))
    ]

gone_is_left : (gone : ℕ) (jobs : List ToldJob) → times gone (without gone jobs) ≡ 0
gone_is_left gone [] = refl
gone_is_left gone (job ∷ jobs) =
    elim (cases_Bool (job.number == gone)) [
      | inl same ↦ rw same (gone_is_left gone jobs)
      | inr other ↦ rw other (rw other (let rest = gone_is_left gone jobs in omega (arith, rest)))
    ]

-- a job with those of other numbers
once_more : (number : ℕ) (job : ToldJob) (here there : List ToldJob) → times number here + times number there ≤ 1
    → times number (job ∷ without job.number here) + times number (without job.number there) ≤ 1
once_more number job here there once =
    elim (cases_Bool (job.number == number)) [
      | inl same ↦
          let is : job.number ≡ number = grind (arith, nat_tests) in
          let left : times number (without job.number here) ≡ 0 = ap (λ n. times n (without job.number here)) (sym is) ∙ gone_is_left job.number here in
          let other : times number (without job.number there) ≡ 0 = ap (λ n. times n (without job.number there)) (sym is) ∙ gone_is_left job.number there in
          rw same (omega (arith, left, other))
      | inr differs ↦
          let left = times_left number job.number here in
          let other = times_left number job.number there in
          rw differs (omega (arith, left, other, once))
    ]

shorter : (gone : ℕ) (jobs : List ToldJob) → length (without gone jobs) ≤ length jobs
shorter gone [] = omega arith
shorter gone (job ∷ jobs) =
    let less = shorter gone jobs in
    elim (cases_Bool (job.number == gone)) [
      | inl same ↦ rw same (omega (arith, less))
      | inr other ↦ rw other (omega (arith, less))
    ]

future_held : (job : ToldJob) (jobs : HeldJobs) → AreHeld jobs → AreHeld (with_future job jobs)
future_held job jobs held =
    let newest = job ∷ without job.number jobs.future in
    let less = shorter job.number jobs.live in
    record {
      few_future = few 16 newest;
      few_live = omega (arith, less, held.few_live);
      once = λ number.
          let all = once_more number job jobs.future jobs.live (held.once number) in
          let kept = times_taken number 16 newest in
          omega (arith, all, kept);
    }

live_held : (job : ToldJob) (jobs : HeldJobs) → AreHeld jobs → AreHeld (with_live job jobs)
live_held job jobs held =
    let newest = job ∷ without job.number jobs.live in
    let less = shorter job.number jobs.future in
    record {
      few_future = omega (arith, less, held.few_future);
      few_live = few 64 newest;
      once = λ number.
          let before = held.once number in
          let all = once_more number job jobs.live jobs.future (omega (arith, before)) in
          let kept = times_taken number 64 newest in
          omega (arith, all, kept);
    }

alone_few : (there : Option ToldJob) → length (alone there) ≤ 1
alone_few None = omega arith
alone_few (Some job) = omega arith

times_few : (number : ℕ) (jobs : List ToldJob) → times number jobs ≤ length jobs
times_few number [] = omega arith
times_few number (job ∷ jobs) =
    let more = times_few number jobs in
    elim (cases_Bool (job.number == number)) [
      | inl same ↦ rw same (omega (arith, more))
      | inr other ↦ rw other (omega (arith, more))
    ]

tip_held : (tip : ToldTip) (jobs : HeldJobs) → AreHeld (over_tip tip jobs)
tip_held tip jobs =
    let one = alone_few (held_job jobs tip.job) in
    record {
      few_future = omega arith;
      few_live = omega (arith, one);
      once = λ number. let times = times_few number (alone (held_job jobs tip.job)) in omega (arith, one, times);
    }

still_held : (jobs : HeldJobs) (told : Told) → AreHeld jobs → AreHeld (jobs_after jobs told)
still_held jobs (Opened opened) held = held
still_held jobs (NotOpened code) held = held
still_held jobs (Target target) held = held
still_held jobs (Accepted sequence) held = held
still_held jobs (Refused sequence code) held = held
still_held jobs (Future job) held = future_held job jobs held
still_held jobs (Live job min_ntime) held = live_held job jobs held
still_held jobs (Tipped tip) held = tip_held tip jobs
still_held jobs Nothing held = held

told_held : (past : List Heard) → AreHeld (jobs_told past)
told_held [] = record { few_future = omega arith; few_live = omega arith; once = λ number. omega arith }
told_held (Line line ∷ past) = told_held past
told_held (Message told ∷ past) = still_held (jobs_told past) told (told_held past)
told_held (Named named ∷ past) = told_held past

pub few_held : (terms : Terms) (past : List Heard) → AreHeld (state_after terms past).jobs
few_held terms past = rw ((of_what_was_heard terms past).jobs) (told_held past)
