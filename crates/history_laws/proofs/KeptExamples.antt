-- What is kept of jobs and what is owed by places, on worked examples.
use Rattle.std.proofs.Common.{Ok, ◌≡◌, true, false, Some, List, [], ◌∷◌, refl}
use Rattle.std.specs.Prelude.{map, replicate}
use Rattle.coinbase.specs.Compact.{compact}
use Rattle.coinbase.specs.Outputs.{outputs_of, outputs_within}
use Rattle.coinbase.specs.Reading.{compact_at, number_at, output_at, sized_at}
use Rattle.pool_history.specs.declared.events.Event.{Event}
use Rattle.pool_history.specs.declared.events.Event.TheVariants as event
use Rattle.pool_history.specs.declared.events.JobState.TheVariants as state
use Rattle.pool_history.specs.declared.telling.Note.TheVariants as note
use Rattle.pool_history.specs.Jobs.{jobs_of}
use Rattle.pool_history.specs.Legal.{LegalPast}
use Rattle.pool_history.specs.Sessions.{past_of}
use Rattle.pool_history.specs.Spaces.{first_free}
use Rattle.pool_history.proofs.Given.{template_of, tip_of, tipped}
use Rattle.pool_history.proofs.OwnJobs.{brings, granted, offer}
use Rattle.history_laws.specs.KeptJobs.{KeptJobs, is_mineable_by, kept_jobs_of, state_by}
use Rattle.history_laws.specs.News.{owed_from}

-- a template's job and a miner's own on channel 1, and both after the next tip
abbrev pub with_own : KeptJobs
with_own = kept_jobs_of (jobs_of (brings ∷ granted))

abbrev pub past_tip : List Event
past_tip = event.Tip 0 (tip_of 6 0x22) ∷ event.Template 0 (template_of 6 true) ∷ brings ∷ granted

abbrev pub behind_tip : KeptJobs
behind_tip = kept_jobs_of (jobs_of past_tip)

pub kept-counts : with_own.count ≡ 2
kept-counts = refl

pub kept-own : with_own.own ≡ record { number = 2; channel = 1 } ∷ []
kept-own = refl

-- the template's job is live since the tip, the miner's own since its own event
pub kept-live : map (λ job. job.live_at) with_own.live ≡ Some 4 ∷ []
kept-live = refl

pub kept-custom : map (λ job. job.live_at) with_own.custom ≡ Some 6 ∷ []
kept-custom = refl

-- behind the tip both are stale, and nothing of them is kept but the number and whose the own one is
pub kept-stale : map (state_by behind_tip) (1 ∷ 2 ∷ 3 ∷ 4 ∷ []) ≡ state.Stale ∷ state.Stale ∷ state.Live ∷ state.Unknown ∷ []
kept-stale = refl

pub kept-owner : map (λ channel. is_mineable_by behind_tip channel 2) (1 ∷ 7 ∷ []) ≡ true ∷ false ∷ []
kept-owner = refl

pub kept-live_behind : map (λ job. job.number) behind_tip.live ≡ 3 ∷ []
kept-live_behind = refl

pub kept-custom_behind : behind_tip.custom ≡ []
kept-custom_behind = refl

-- the tip is owed by places as the news tell it, and nothing from a place behind it
pub owed-tip : owed_from 4 [] (past_of tipped) 0 ≡ note.PrevHash 1 1 (replicate 32 0x11) 1000000 0x207fffff ∷ []
owed-tip = refl

pub owed-nothing : owed_from 5 [] (past_of tipped) 0 ≡ []
owed-nothing = refl

-- a legal history that brings a miner's own job, so that what is said of those isn't empty: its outputs are one of 2,000
pub legal-with_own : LegalPast (brings ∷ granted)
unfolding first_free outputs_within output_at sized_at compact_at number_at compact
legal-with_own = (((((((tt, refl), refl), refl), refl), refl), refl), refl)

pub own-read : outputs_of offer.coinbase_tx_outputs ≡ Ok (record { value = 2000; script = 0x51 ∷ [] } ∷ [])
unfolding outputs_within output_at sized_at compact_at number_at compact
own-read = refl
