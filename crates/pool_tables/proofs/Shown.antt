-- A share is judged by the channels that are kept as by those of the history.
use Rattle.std.proofs.Common.{◌≡◌, ℕ, Bool, true, false, ◌&&◌, Option, None, Some, Result, Ok, Err, List, ◌++◌, length, refl, ap, sym, subst, ◌∙◌}
use Rattle.std.specs.Prelude.{nat_eq, nat_lt}
use Rattle.pool_base.specs.Results.{◌>>=◌}
use Rattle.pool_history.specs.declared.events.Event.{Event}
use Rattle.pool_history.specs.declared.refusals.Failed.{Failed}
use Rattle.pool_history.specs.declared.refusals.Failed.TheVariants as failed
use Rattle.pool_history.specs.declared.templates.TipData.{TipData}
use Rattle.pool_history.specs.Channels.{OpenChannel}
use Rattle.pool_history.specs.Conditions.{found, provided}
use Rattle.pool_history.specs.Headers.{rolled_length}
use Rattle.pool_history.specs.Jobs.{Job, jobs_of, live_job}
use Rattle.pool_history.specs.Judging.{Share, agree, is_known_job, is_standard, serves}
use Rattle.history_laws.proofs.AskedPlaces.{live-asked}
use Rattle.history_laws.proofs.Living.{In, alive, find-in}
use Rattle.history_laws.specs.AskedPlaces.{is_asked_after}
use Rattle.channels.proofs.Cuts.{AnswersIfAny}
use Rattle.channels.specs.Tables.{AnswersFor, KeptChannel, kept_channel}
use Rattle.pool_tables.specs.Admission.{Mined, channel_for, mined_for}

-- what is found by the channels that are kept, and by those of the history
abbrev pub AgreesOn : (ℕ → Bool) → Result OpenChannel Failed → Result OpenChannel Failed → Type 0
AgreesOn asked (Ok kept) (Ok told) = AnswersFor asked kept told
AgreesOn asked (Err code) (Err other) = code ≡ other
AgreesOn asked (Ok kept) (Err code) = ⊥
AgreesOn asked (Err code) (Ok told) = ⊥

-- the conditions read no more of a channel than what is kept of it
abbrev serves-kept : ℕ → Share → KeptChannel → Bool
serves-kept session share channel =
    nat_eq channel.session session && nat_lt 0 (length channel.account) && agree (is_standard channel.kind) share.is_standard

abbrev rolls-kept : Share → KeptChannel → Bool
rolls-kept share channel = nat_eq (length share.extranonce) (rolled_length channel.kind channel.lead)

abbrev met : Bool → Bool → OpenChannel → Result OpenChannel Failed
met serving rolling channel = provided serving failed.Channel channel >>= (λ _. provided rolling failed.ExtranonceSize channel)

met-both : (asked : ℕ → Bool) (kept told : OpenChannel) (serving rolling : Bool) → AnswersFor asked kept told
    → AgreesOn asked (met serving rolling kept) (met serving rolling told)
met-both asked kept told true true a = a
met-both asked kept told true false a = refl
met-both asked kept told false rolling a = refl

pub agrees-on : (asked : ℕ → Bool) (session : ℕ) (share : Share) (kept told : Option OpenChannel) → AnswersIfAny asked kept told
    → AgreesOn asked (channel_for session share kept) (channel_for session share told)
agrees-on asked session share None None a = refl
agrees-on asked session share None (Some told) a = absurd a
agrees-on asked session share (Some kept) None a = absurd a
agrees-on asked session share (Some kept) (Some told) a =
    subst (λ (c : KeptChannel). AgreesOn asked (channel_for session share (Some kept)) (met (serves-kept session share c) (rolls-kept share c) told)) a.kept_is
    (met-both asked kept told (serves session share kept) (rolls-kept share (kept_channel kept)) a)

pub refused-both : (asked : ℕ → Bool) (kept told : Result OpenChannel Failed) (code : Failed) → AgreesOn asked kept told → kept ≡ Err code → told ≡ Err code
refused-both asked (Err code) (Err other) said a is = ap Err (sym a) ∙ is
refused-both asked (Err code) (Ok told) said a is = absurd a
refused-both asked (Ok kept) told said a is = absurd cc

-- the channel of the history that one which is kept answers for
pub record IsFoundAs (asked : ℕ → Bool) (kept : OpenChannel) (found_in : Result OpenChannel Failed) : Type 0 where
  pub told : OpenChannel
  pub is : found_in ≡ Ok told
  pub answers : AnswersFor asked kept told

pub found-both : (asked : ℕ → Bool) (kept told : Result OpenChannel Failed) (channel : OpenChannel) → AgreesOn asked kept told → kept ≡ Ok channel
    → IsFoundAs asked channel told
found-both asked (Ok kept) (Ok told) channel a is = record { told = told; is = refl; answers = subst (λ c. AnswersFor asked c told) (ok-same is) a } where
  ok-same : {x y : OpenChannel} → ◌≡◌ {A = Result OpenChannel Failed} (Ok x) (Ok y) → x ≡ y
  ok-same e = cc
found-both asked (Ok kept) (Err code) channel a is = absurd a
found-both asked (Err code) told channel a is = absurd cc

-- the class is asked for since the place at which the job of a share became live
module _ (past : List Event) (share : Share) (mined : Mined) where
  by_tip : (job : Job) (at : ℕ) → In job (alive (jobs_of past)) → job.live_at ≡ Some at → (tip : Option TipData)
      → (found failed.Stale tip >>= (λ t. Ok (record { job = job; live_at = at; tip = t }))) ≡ Ok mined → is_asked_after past mined.live_at ≡ true
  by_tip job at i since None e = absurd cc
  by_tip job at i since (Some tip) e =
      subst (λ place. is_asked_after past place ≡ true) (ap (λ (m : Mined). m.live_at) (ok-same e)) (live-asked past job at i since) where
        ok-same : {x y : Mined} → ◌≡◌ {A = Result Mined Failed} (Ok x) (Ok y) → x ≡ y
        ok-same e = cc

  by_place : (job : Job) → In job (alive (jobs_of past)) → (place : Option ℕ) → job.live_at ≡ place
      → (found failed.Stale place >>= (λ at. found failed.Stale (jobs_of past).tip >>= (λ t. Ok (record { job = job; live_at = at; tip = t })))) ≡ Ok mined
      → is_asked_after past mined.live_at ≡ true
  by_place job i None since e = absurd cc
  by_place job i (Some at) since e = by_tip job at i since (jobs_of past).tip e

  by_job : (live : Option Job) → live_job (jobs_of past) share.job ≡ live
      → (found failed.Stale live >>= (λ job. found failed.Stale job.live_at
      >>= (λ at. found failed.Stale (jobs_of past).tip >>= (λ t. Ok (record { job = job; live_at = at; tip = t }))))) ≡ Ok mined
      → is_asked_after past mined.live_at ≡ true
  by_job None is e = absurd cc
  by_job (Some job) is e = by_place job (find-in (λ j. nat_eq j.number share.job) (alive (jobs_of past)) job is) job.live_at refl e

  by_known : (known : Bool)
      → (provided known failed.Job share >>= (λ _. found failed.Stale (live_job (jobs_of past) share.job)
      >>= (λ job. found failed.Stale job.live_at
      >>= (λ at. found failed.Stale (jobs_of past).tip >>= (λ t. Ok (record { job = job; live_at = at; tip = t })))))) ≡ Ok mined
      → is_asked_after past mined.live_at ≡ true
  by_known true e = by_job (live_job (jobs_of past) share.job) refl e
  by_known false e = absurd cc

  pub mined-asked : mined_for (jobs_of past) share ≡ Ok mined → is_asked_after past mined.live_at ≡ true
  mined-asked is = by_known (is_known_job (jobs_of past) share) is
