-- Laws that one might believe and that are false: each is refuted by a small history.
use Rattle.std.proofs.Common.{◌≡◌, ℕ, Option, None, Some, List, [], ◌∷◌, ◌++◌, refl, ap, sym, ◌∙◌, arith}
use Rattle.std.specs.Option.{option_and_then, option_map}
use Rattle.std.specs.Prelude.{replicate}
use Rattle.pool_history.specs.declared.causes.Cause.TheVariants as cause
use Rattle.pool_history.specs.declared.events.Event.{Event}
use Rattle.pool_history.specs.declared.events.Event.TheVariants as event
use Rattle.pool_history.specs.declared.events.Kind.TheVariants as kind
use Rattle.pool_history.specs.Channels.{OpenChannel, channel_in, channels_of, class_at}
use Rattle.pool_history.specs.Jobs.{JobMove, Came, Tipped, Brought, job_moves, jobs_of, live_job, Job}
use Rattle.pool_history.specs.Legal.{Legal, cause_of}
use Rattle.pool_history.specs.Sessions.{past_of}
use Rattle.pool_history.specs.Spaces.{InSpace, first_free}
use Rattle.pool_history.proofs.Given.{comes, enters, opens, start, tips}
use Rattle.history_laws.specs.Apart.{SpacesAreApart}
use Rattle.history_laws.proofs.Entrances.{some-same}
use Rattle.history_laws.proofs.Legalities.{one_more_legal, some-none}

-- without legality: two channels are opened with one lead

abbrev pub DisjointWithoutLegality : Type 0
DisjointWithoutLegality = (history : List Event) → SpacesAreApart (channels_of (past_of history))

abbrev pub of_id : ℕ → OpenChannel
of_id id = record { id = id; session = 0; kind = kind.Extended; account = 0x61 ∷ []; lead = replicate 4 0; opening_class = 0; sets = [] }

pub no_disjoint-without_legality : DisjointWithoutLegality → ⊥
no_disjoint-without_legality law =
    let in-space : InSpace kind.Extended (replicate 4 0) (replicate 12 0) = record { whole = refl; rest = replicate 8 0; begins = refl } in
    (law (start ∷ enters ∷ opens ∷ opens ∷ [])).by_id 1 2 (of_id 1) (of_id 2) refl refl (λ same. omega arith) (replicate 12 0) in-space in-space

-- a lead that isn't the lowest: the first opening has to get 00, and gets 01
abbrev pub opens_higher : Event
opens_higher = event.Open 0 kind.Extended (0x61 ∷ []) 0 (1 ∷ [])

abbrev pub LegalWithAnyLead : Type 0
LegalWithAnyLead = (history : List Event) (lead : List ℕ) → Legal history → Legal (history ++ event.Open 0 kind.Extended (0x61 ∷ []) 0 lead ∷ [])

pub higher-caused : cause_of (past_of (start ∷ enters ∷ [])) opens_higher ≡ Some cause.BadLead
unfolding first_free
higher-caused = refl

pub no_legal-with_any_lead : LegalWithAnyLead → ⊥
no_legal-with_any_lead law =
    some-none (sym higher-caused
    ∙ ((one_more_legal (start ∷ enters ∷ []) opens_higher).0 (law (start ∷ enters ∷ []) (1 ∷ []) ((tt, refl), refl))).1)

-- places that are dropped: a class that is set before the tip, and one that is set after it
abbrev pub without_places : List JobMove → List JobMove
without_places [] = []
without_places (Came at session template ∷ moves) = Came 0 session template ∷ without_places moves
without_places (Tipped at tip ∷ moves) = Tipped 0 tip ∷ without_places moves
without_places (Brought at custom ∷ moves) = Brought 0 custom ∷ without_places moves

abbrev pub StatesWithoutPlaces : Type 0
StatesWithoutPlaces =
    (h g : List Event) → without_places (job_moves (past_of h)) ≡ without_places (job_moves (past_of g)) → jobs_of (past_of h) ≡ jobs_of (past_of g)

abbrev pub reclasses : Event
reclasses = event.Class 0 1 8

abbrev pub set_before : List Event
set_before = start ∷ enters ∷ opens ∷ comes ∷ reclasses ∷ tips ∷ []

abbrev pub set_after : List Event
set_after = start ∷ enters ∷ opens ∷ comes ∷ tips ∷ reclasses ∷ []

abbrev pub since_of : Option Job → Option ℕ
since_of job = option_and_then (λ job. job.live_at) job

pub no_states-without_places : StatesWithoutPlaces → ⊥
no_states-without_places law =
    let same : since_of (live_job (jobs_of (past_of set_before)) 1) ≡ since_of (live_job (jobs_of (past_of set_after)) 1) =
    ap (λ s. since_of (live_job s 1)) (law set_before set_after refl) in
    let before : since_of (live_job (jobs_of (past_of set_before)) 1) ≡ Some 5 = refl in
    let after : since_of (live_job (jobs_of (past_of set_after)) 1) ≡ Some 4 = refl in
    differ (some-same (sym before ∙ same ∙ after)) where
      five : ℕ
      five = 5

      differ : five ≡ 4 → ⊥
      differ h = omega (arith, h)

-- so the class at the job differs: 8 where it was set before, and 0 where it was set after
abbrev pub class_at_job : List Event → Option OpenChannel → Option Job → Option ℕ
class_at_job history (Some channel) (Some job) = option_map (class_at channel) job.live_at
class_at_job history channel job = None

pub class-set_before : class_at_job set_before (channel_in (channels_of (past_of set_before)) 1) (live_job (jobs_of (past_of set_before)) 1) ≡ Some 8
class-set_before = refl

pub class-set_after : class_at_job set_after (channel_in (channels_of (past_of set_after)) 1) (live_job (jobs_of (past_of set_after)) 1) ≡ Some 0
class-set_after = refl
