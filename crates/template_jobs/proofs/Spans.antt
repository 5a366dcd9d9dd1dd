-- The bounds of the places since which jobs are live, where one joins them.
use Rattle.std.proofs.Common.{arith, ◌≡◌, ◌≤◌, ◌||◌, ℕ, Bool, true, false, Option, None, Some, List, [], ◌∷◌, ◌++◌, map, refl, ap, subst, sym, ◌∙◌}
use Rattle.std.proofs.lemmas.Bool.{false≢true}
use Rattle.std.proofs.lemmas.List.{map-append}
use Rattle.std.specs.List.{AllByRecursion, list_any}
use Rattle.history_laws.proofs.AskedPlaces.{since-place}
use Rattle.history_laws.proofs.Entrances.{some-same}
use Rattle.history_laws.proofs.NotesFit.{all-append}
use Rattle.history_laws.specs.AskedPlaces.{AreLiveWithin, is_live_since}
use Rattle.pool_history.specs.declared.spans.LiveSpan.{LiveSpan}
use Rattle.pool_history.specs.Jobs.{last}
use Rattle.template_jobs.specs.HeldJobs.{HeldJob, as_job}
use Rattle.template_jobs.specs.Lists.{turned_live, without_surplus}
use Rattle.template_jobs.specs.Spans.{IsLiveWithin, Widens}
use Rattle.template_jobs.specs.Tables.{JobTable, kept_jobs}
use Rattle.template_jobs.proofs.Joined.{all-last}
use Rattle.template_jobs.proofs.Surplus.{all-within}

pub widened-all : (old new : LiveSpan) (at : ℕ) (jobs : List HeldJob) → Widens old new at → AllByRecursion (IsLiveWithin old) jobs
    → AllByRecursion (IsLiveWithin new) jobs
widened-all old new at [] w all = tt
widened-all old new at (job ∷ jobs) w all = (
  λ place is. holds place (all.0 place is),
  widened-all old new at jobs w all.1,
) where
  holds : (place : ℕ) → (old.oldest ≤ place) × (place ≤ old.newest) → (new.oldest ≤ place) × (place ≤ new.newest)
  holds place h = (
    let a : old.oldest ≤ place = h.0 in let b : new.oldest ≤ old.oldest = w.oldest_holds in omega (arith, a, b),
    let a : place ≤ old.newest = h.1 in let b : old.newest ≤ new.newest = w.newest_holds in omega (arith, a, b),
  )

one-within : (span : LiveSpan) (at : ℕ) (job : HeldJob) → job.live_at ≡ Some at → (span.oldest ≤ at) × (at ≤ span.newest) → IsLiveWithin span job
one-within span at job since holds place is = subst (λ p. (span.oldest ≤ p) × (p ≤ span.newest)) (some-same (sym since ∙ is)) holds

pub live-joined : (old new : LiveSpan) (at most : ℕ) (jobs after : List HeldJob) (job : HeldJob) → Widens old new at → job.live_at ≡ Some at
    → after ≡ last most (jobs ++ job ∷ []) → AllByRecursion (IsLiveWithin old) jobs → AllByRecursion (IsLiveWithin new) after
live-joined old new at most jobs after job w since is all =
    subst (λ l. AllByRecursion (IsLiveWithin new) l) (sym is)
    (all-last (IsLiveWithin new) most jobs job (widened-all old new at jobs w all) (one-within new at job since w.place_holds))

pub own-joined : (old new : LiveSpan) (at channel : ℕ) (jobs after : List HeldJob) (job : HeldJob) → Widens old new at → job.live_at ≡ Some at
    → after ≡ without_surplus channel (jobs ++ job ∷ []) → AllByRecursion (IsLiveWithin old) jobs → AllByRecursion (IsLiveWithin new) after
own-joined old new at channel jobs after job w since is all =
    subst (λ l. AllByRecursion (IsLiveWithin new) l) (sym is)
    (all-within (IsLiveWithin new) channel (jobs ++ job ∷ [])
    (all-append (IsLiveWithin new) jobs (job ∷ []) (widened-all old new at jobs w all) (one-within new at job since w.place_holds, tt)))

pub tip-within : (at : ℕ) (o : Option HeldJob) (live : List HeldJob) → live ≡ turned_live at o
    → AllByRecursion (IsLiveWithin (record { oldest = at; newest = at })) live
tip-within at o live is = subst (λ l. AllByRecursion (IsLiveWithin (record { oldest = at; newest = at })) l) (sym is) (by_job o) where
  by_job : (o : Option HeldJob) → AllByRecursion (IsLiveWithin (record { oldest = at; newest = at })) (turned_live at o)
  by_job None = tt
  by_job (Some job) = (one-within (record { oldest = at; newest = at }) at (record job { live_at = Some at }) refl (omega arith, omega arith), tt)

-- so the jobs are live within the bounds
within-jobs : (span : LiveSpan) (jobs : List HeldJob) → AllByRecursion (IsLiveWithin span) jobs → AreLiveWithin span (map as_job jobs)
within-jobs span [] all place h = absurd (false≢true h)
within-jobs span (job ∷ jobs) all place h = by_test (is_live_since place (as_job job)) refl h (λ any. within-jobs span jobs all.1 place any) where
  by_place : (o : Option ℕ) → job.live_at ≡ o → is_live_since place (as_job job) ≡ true → (span.oldest ≤ place) × (place ≤ span.newest)
  by_place None is since = absurd (false≢true (sym (ap (λ o. Rattle.std.specs.Option.option_map_or (Rattle.std.specs.Prelude.nat_eq place) o false) is) ∙ since))
  by_place (Some at) is since =
      subst (λ p. (span.oldest ≤ p) × (p ≤ span.newest)) (sym (since-place place at job.live_at is since)) (all.0 at is)

  by_test : (b : Bool) → is_live_since place (as_job job) ≡ b → (b || list_any (is_live_since place) (map as_job jobs)) ≡ true
      → (list_any (is_live_since place) (map as_job jobs) ≡ true → (span.oldest ≤ place) × (place ≤ span.newest))
      → (span.oldest ≤ place) × (place ≤ span.newest)
  by_test true is any rest = by_place job.live_at refl is
  by_test false is any rest = rest any

pub table-within : (span : LiveSpan) (shown table : JobTable) → shown ≡ table → AllByRecursion (IsLiveWithin span) shown.live
    → AllByRecursion (IsLiveWithin span) shown.custom → AreLiveWithin span ((kept_jobs table).live ++ (kept_jobs table).custom)
table-within span shown table same live custom =
    subst (λ (t : JobTable). AreLiveWithin span ((kept_jobs t).live ++ (kept_jobs t).custom)) same
    (subst (λ l. AreLiveWithin span l) (map-append as_job shown.live shown.custom)
    (within-jobs span (shown.live ++ shown.custom) (all-append (IsLiveWithin span) shown.live shown.custom live custom)))
