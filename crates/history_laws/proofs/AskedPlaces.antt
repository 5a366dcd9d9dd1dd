-- The places at which classes may be asked for become fewer with each event, but for its own.
use Rattle.std.proofs.Common.{arith, ◌⊎◌, inl, inr, ◌≡◌, ℕ, suc, ◌<◌, ◌≤◌, ◌||◌, Bool, true, false, cond, ◌+◌, Option, None, Some, List, [], ◌∷◌, ◌++◌, length, refl, ap, subst, sym, ◌∙◌}
use Rattle.std.proofs.lemmas.Bool.{eq-eqb, eqb-true, false≢true, le-leb, leb-true, or_left, or_right}
use Rattle.std.specs.List.{list_any}
use Rattle.std.specs.Option.{option_map_or}
use Rattle.std.specs.Prelude.{nat_eq, nat_le}
use Rattle.pool_history.specs.declared.events.Event.{Event}
use Rattle.pool_history.specs.declared.events.Event.TheVariants as event
use Rattle.pool_history.specs.declared.spans.LiveSpan.{LiveSpan}
use Rattle.pool_history.specs.Jobs.{Brought, Came, Job, JobMove, Standing, Tipped, after_move, custom_job, jobs_of, live_at_once, template_job}
use Rattle.history_laws.specs.AskedPlaces.{AreLiveWithin, is_asked_after, is_live_since}
use Rattle.history_laws.proofs.Living.{In, alive, came-own, came-template, made-future}

-- a job of these is live since the place
record LivesAmong (place : ℕ) (jobs : List Job) : Type 0 where
  job : Job
  among : In job jobs
  since : is_live_since place job ≡ true

later-lives : (place : ℕ) (j : Job) (jobs : List Job) → LivesAmong place jobs → LivesAmong place (j ∷ jobs)
later-lives place j jobs l = record { job = l.job; among = inr l.among; since = l.since }

asked-lives : (place : ℕ) (jobs : List Job) → list_any (is_live_since place) jobs ≡ true → LivesAmong place jobs
asked-lives place [] h = absurd (false≢true h)
asked-lives place (j ∷ jobs) h = by_test (is_live_since place j) refl h (λ any. asked-lives place jobs any) where
  by_test : (b : Bool) → is_live_since place j ≡ b → (b || list_any (is_live_since place) jobs) ≡ true
      → (list_any (is_live_since place) jobs ≡ true → LivesAmong place jobs) → LivesAmong place (j ∷ jobs)
  by_test true is any rest = record { job = j; among = inl refl; since = is }
  by_test false is any rest = later-lives place j jobs (rest any)

lives-asked : (place : ℕ) (jobs : List Job) (job : Job) → In job jobs → is_live_since place job ≡ true → list_any (is_live_since place) jobs ≡ true
lives-asked place [] job i since = elim i [ ]
lives-asked place (j ∷ jobs) job (inl e) since =
    or_left (is_live_since place j) (list_any (is_live_since place) jobs) (ap (is_live_since place) (sym e) ∙ since)
lives-asked place (j ∷ jobs) job (inr i) since =
    or_right (is_live_since place j) (list_any (is_live_since place) jobs) (lives-asked place jobs job i since)

pub since-place : (place at : ℕ) (o : Option ℕ) → o ≡ Some at → option_map_or (nat_eq place) o false ≡ true → place ≡ at
since-place place at o is since = eqb-true place at (ap (λ p. option_map_or (nat_eq place) p false) (sym is) ∙ since)

-- where a job came alive with an event at a place
abbrev JoinsAt : ℕ → Standing → Standing → Type 0
JoinsAt at before after = (j : Job) → In j (alive after) → In j (alive before) ⊎ (j.live_at ≡ Some at)

-- the place of a move
abbrev place_of : JobMove → ℕ
place_of (Came at session template) = at
place_of (Tipped at tip) = at
place_of (Brought at custom) = at

joined : (move : JobMove) (s : Standing) → JoinsAt (place_of move) s (after_move move s)
joined (Came at session template) s j i = by ((came-template s (template_job (length s.all + 1) at session template) template.future_template at refl refl).living j i) where
  by : In j (alive s) ⊎ (j ≡ live_at_once (template_job (length s.all + 1) at session template)) → In j (alive s) ⊎ (j.live_at ≡ Some at)
  by (inl k) = inl k
  by (inr e) = inr (ap (λ x. x.live_at) e)
joined (Tipped at tip) s j i = inr (made-future s at tip.template_id j i).since
joined (Brought at custom) s j i = by ((came-own s (custom_job (length s.all + 1) at custom) custom.channel_id at refl refl).living j i) where
  by : In j (alive s) ⊎ (j ≡ live_at_once (custom_job (length s.all + 1) at custom)) → In j (alive s) ⊎ (j.live_at ≡ Some at)
  by (inl k) = inl k
  by (inr e) = inr (ap (λ x. x.live_at) e)

-- a place that is asked for afterwards was asked for before
asked-by : (before after : Standing) (n place : ℕ) → JoinsAt n before after
    → (list_any (is_live_since place) (alive after) || nat_le (suc n) place) ≡ true
    → (list_any (is_live_since place) (alive before) || nat_le n place) ≡ true
asked-by before after n place joins h = by_test (list_any (is_live_since place) (alive after)) refl h where
  to_come : n ≤ place → (list_any (is_live_since place) (alive before) || nat_le n place) ≡ true
  to_come le = or_right (list_any (is_live_since place) (alive before)) (nat_le n place) (le-leb n place le)

  by_job : (l : LivesAmong place (alive after)) → In l.job (alive before) ⊎ (l.job.live_at ≡ Some n)
      → (list_any (is_live_since place) (alive before) || nat_le n place) ≡ true
  by_job l (inl i) = or_left (list_any (is_live_since place) (alive before)) (nat_le n place) (lives-asked place (alive before) l.job i l.since)
  by_job l (inr at) = to_come (let same : place ≡ n = since-place place n l.job.live_at at l.since in omega (arith, same))

  by_test : (b : Bool) → list_any (is_live_since place) (alive after) ≡ b → (b || nat_le (suc n) place) ≡ true
      → (list_any (is_live_since place) (alive before) || nat_le n place) ≡ true
  by_test true is any = let l : LivesAmong place (alive after) = asked-lives place (alive after) is in by_job l (joins l.job l.among)
  by_test false is later = to_come (let le : suc n ≤ place = leb-true (suc n) place later in omega (arith, le))

asked-still : (past : List Event) (place : ℕ)
    → (list_any (is_live_since place) (alive (jobs_of past)) || nat_le (suc (length past)) place) ≡ true → is_asked_after past place ≡ true
asked-still past place h = asked-by (jobs_of past) (jobs_of past) (length past) place (λ j i. inl i) h

asked-moved : (past : List Event) (place : ℕ) (move : JobMove) → place_of move ≡ length past
    → (list_any (is_live_since place) (alive (after_move move (jobs_of past))) || nat_le (suc (length past)) place) ≡ true → is_asked_after past place ≡ true
asked-moved past place move at h =
    asked-by (jobs_of past) (after_move move (jobs_of past)) (length past) place
    (subst (λ n. JoinsAt n (jobs_of past) (after_move move (jobs_of past))) at (joined move (jobs_of past))) h

pub asked-before : (one : Event) (past : List Event) (place : ℕ) → is_asked_after (one ∷ past) place ≡ true → is_asked_after past place ≡ true
asked-before (event.Template session template) past place h = asked-moved past place (Came (length past) session template) refl h
asked-before (event.Tip session tip) past place h = asked-moved past place (Tipped (length past) tip) refl h
asked-before (event.Custom session custom) past place h = asked-moved past place (Brought (length past) custom) refl h
asked-before (event.Start rules) past place h = asked-still past place h
asked-before (event.Enter worker role flags) past place h = asked-still past place h
asked-before (event.Open session kind account class lead) past place h = asked-still past place h
asked-before (event.Name session channel account) past place h = asked-still past place h
asked-before (event.Class session channel class) past place h = asked-still past place h
asked-before (event.Close session channel) past place h = asked-still past place h
asked-before (event.Leave session) past place h = asked-still past place h
asked-before (event.Credit session channel job nonce ntime version extranonce) past place h = asked-still past place h
asked-before (event.Grant session account fixed path) past place h = asked-still past place h

-- a class that is asked for at a live job is asked for
pub live-asked : (past : List Event) (job : Job) (at : ℕ) → In job (alive (jobs_of past)) → job.live_at ≡ Some at → is_asked_after past at ≡ true
live-asked past job at i since =
    or_left (list_any (is_live_since at) (alive (jobs_of past))) (nat_le (length past) at)
    (lives-asked at (alive (jobs_of past)) job i (ap (λ o. option_map_or (nat_eq at) o false) since ∙ eq-eqb at at refl))

-- what is asked for when a class is set: what the live jobs ask for, and what is to come
pub asked-within : (span : LiveSpan) (past : List Event) (session channel class place : ℕ) → AreLiveWithin span (alive (jobs_of past))
    → is_asked_after (event.Class session channel class ∷ past) place ≡ true
    → ((span.oldest ≤ place) × (place ≤ span.newest)) ⊎ (length past < place)
asked-within span past session channel class place within h = by_test (list_any (is_live_since place) (alive (jobs_of past))) refl h where
  by_test : (b : Bool) → list_any (is_live_since place) (alive (jobs_of past)) ≡ b → (b || nat_le (suc (length past)) place) ≡ true
      → ((span.oldest ≤ place) × (place ≤ span.newest)) ⊎ (length past < place)
  by_test true is any = inl (within place is)
  by_test false is later = inr (let le : suc (length past) ≤ place = leb-true (suc (length past)) place later in omega (arith, le))
