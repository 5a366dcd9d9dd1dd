-- The steps of an admission are the admission.
use Rattle.std.proofs.Common.{◌≡◌, ℕ, Bool, true, false, ◌&&◌, Option, None, Some, Result, Ok, Err, List, ◌++◌, length, reverse, refl, ap, sym, subst, ◌∙◌}
use Rattle.std.proofs.lemmas.List.{reverse-reverse}
use Rattle.std.specs.Prelude.{nat_eq}
use Rattle.std.specs.Option.{option_map}
use Rattle.pool_base.specs.Results.{◌>>=◌}
use Rattle.pool_history.specs.declared.events.Event.{Event}
use Rattle.pool_history.specs.declared.refusals.Failed.{Failed}
use Rattle.pool_history.specs.declared.refusals.Failed.TheVariants as failed
use Rattle.pool_history.specs.declared.settings.Rules.{Rules}
use Rattle.pool_history.specs.declared.templates.TipData.{TipData}
use Rattle.pool_history.specs.Channels.{OpenChannel, channel_in, channels_of, class_at}
use Rattle.pool_history.specs.Conditions.{found, provided}
use Rattle.pool_history.specs.Headers.{rolled_length}
use Rattle.pool_history.specs.Jobs.{Job, Source, Standing, jobs_of, live_job}
use Rattle.pool_history.specs.Judging.{Admitted, Share, admission, is_in_time, is_known_job, is_version, serves}
use Rattle.pool_history.specs.Sessions.{past_of, script_of}
use Rattle.history_laws.specs.AskedPlaces.{is_asked_after}
use Rattle.history_laws.specs.KeptJobs.{KeptJobs, ReadsTheKept}
use Rattle.history_laws.specs.KeptJobs as keeping
use Rattle.history_laws.proofs.Crediting.{with_all}
use Rattle.history_laws.proofs.JobsKept.{kept-suffice}
use Rattle.channels.specs.declared.channel.Channel.{Channel}
use Rattle.channels.proofs.Cuts.{in-answers}
use Rattle.channels.specs.Tables.{AnswersFor, ChannelTable, kept_channel, kept_of}
use Rattle.template_jobs.specs.HeldJobs.{HasCoinbase, HeldJob, as_job}
use Rattle.template_jobs.specs.Tables.{JobTable, kept_jobs}
use Rattle.pool_tables.specs.Admission.{IsAdmittedAs, Mined, ShowsShares, admitted_on, channel_for, mined_by, mined_for, mined_on, rolled_for}
use Rattle.pool_tables.proofs.Shown.{AgreesOn, IsFoundAs, agrees-on, found-both, mined-asked, refused-both}

-- a live job in one
abbrev mined_of : Job → ℕ → TipData → Mined
mined_of job live_at tip = record { job = job; live_at = live_at; tip = tip }

-- the jobs that are kept say which job a share is mined on
mined-kept : (history : List Event) (share : Share)
    → mined_for (jobs_of (past_of history)) share ≡ mined_by (keeping.kept_jobs_of (jobs_of (past_of history))) share
mined-kept history share =
    let reads : ReadsTheKept history (jobs_of (past_of history)) = kept-suffice history in
    ap (λ known. provided known failed.Job share >>= (λ _. found failed.Stale (live_job (jobs_of (past_of history)) share.job)
    >>= (λ job. found failed.Stale job.live_at >>= (λ live_at. found failed.Stale (jobs_of (past_of history)).tip
    >>= (λ tip. Ok (mined_of job live_at tip)))))) (reads.known share)

mined-past : (past : List Event) (share : Share) → mined_for (jobs_of past) share ≡ mined_by (keeping.kept_jobs_of (jobs_of past)) share
mined-past past share =
    subst (λ (p : List Event). mined_for (jobs_of p) share ≡ mined_by (keeping.kept_jobs_of (jobs_of p)) share) (reverse-reverse past) (mined-kept (reverse past) share)

-- the steps one after the other
abbrev pub stepped : Rules → List Event → ℕ → Share → Result Admitted Failed
stepped rules past session share =
    channel_for session share (channel_in (channels_of past) share.channel)
    >>= (λ channel. mined_for (jobs_of past) share
    >>= (λ mined. rolled_for rules share mined >>= (λ m. Ok (admitted_on channel m))))

module _ (serves' : OpenChannel → Bool) (rolls : OpenChannel → Bool) (known : Bool) (live : Option Job) (seen : Option TipData)
    (version : Source → Bool) (time : Source → TipData → Bool) (share : Share) where
  -- the conditions as they stand in one, and as they stand in steps
  abbrev at_once : Option OpenChannel → Result Admitted Failed
  at_once o = found failed.Channel o >>= (λ there. provided (serves' there) failed.Channel there
      >>= (λ channel. provided (rolls channel) failed.ExtranonceSize channel
      >>= (λ _. provided known failed.Job channel
      >>= (λ _. found failed.Stale live
      >>= (λ job. found failed.Stale job.live_at
      >>= (λ live_at. found failed.Stale seen
      >>= (λ tip. provided (version job.source) failed.Version channel
      >>= (λ _. provided (time job.source tip) failed.Ntime channel
      >>= (λ _. Ok (with_all channel job live_at tip))))))))))

  abbrev in_steps : Option OpenChannel → Result Admitted Failed
  in_steps o = (found failed.Channel o >>= (λ channel. provided (serves' channel) failed.Channel channel
      >>= (λ _. provided (rolls channel) failed.ExtranonceSize channel)))
      >>= (λ channel. (provided known failed.Job share
      >>= (λ _. found failed.Stale live
      >>= (λ job. found failed.Stale job.live_at
      >>= (λ live_at. found failed.Stale seen
      >>= (λ tip. Ok (mined_of job live_at tip))))))
      >>= (λ (mined : Mined). (provided (version mined.job.source) failed.Version mined
      >>= (λ _. provided (time mined.job.source mined.tip) failed.Ntime mined))
      >>= (λ m. Ok (admitted_on channel m))))

  pub same-steps : (o : Option OpenChannel) → at_once o ≡ in_steps o
  same-steps None = refl
  same-steps (Some there) = serving (serves' there) where
    timed : (job : Job) (place : ℕ) (tip : TipData) (b : Bool)
        → (provided b failed.Ntime there >>= (λ _. Ok (with_all there job place tip)))
        ≡ (provided b failed.Ntime (mined_of job place tip) >>= (λ (m : Mined). Ok (admitted_on there m)))
    timed job place tip true = refl
    timed job place tip false = refl

    versioned : (job : Job) (place : ℕ) (tip : TipData) (b : Bool)
        → (provided b failed.Version there >>= (λ _. provided (time job.source tip) failed.Ntime there
        >>= (λ _. Ok (with_all there job place tip))))
        ≡ ((provided b failed.Version (mined_of job place tip)
        >>= (λ _. provided (time job.source tip) failed.Ntime (mined_of job place tip)))
        >>= (λ (m : Mined). Ok (admitted_on there m)))
    versioned job place tip true = timed job place tip (time job.source tip)
    versioned job place tip false = refl

    tipped : (job : Job) (place : ℕ) (t : Option TipData)
        → (found failed.Stale t >>= (λ tip. provided (version job.source) failed.Version there
        >>= (λ _. provided (time job.source tip) failed.Ntime there
        >>= (λ _. Ok (with_all there job place tip)))))
        ≡ ((found failed.Stale t >>= (λ tip. Ok (mined_of job place tip)))
        >>= (λ (mined : Mined). (provided (version mined.job.source) failed.Version mined
        >>= (λ _. provided (time mined.job.source mined.tip) failed.Ntime mined))
        >>= (λ m. Ok (admitted_on there m))))
    tipped job place None = refl
    tipped job place (Some tip) = versioned job place tip (version job.source)

    placed : (job : Job) (p : Option ℕ)
        → (found failed.Stale p >>= (λ live_at. found failed.Stale seen
        >>= (λ tip. provided (version job.source) failed.Version there
        >>= (λ _. provided (time job.source tip) failed.Ntime there
        >>= (λ _. Ok (with_all there job live_at tip))))))
        ≡ ((found failed.Stale p >>= (λ live_at. found failed.Stale seen
        >>= (λ tip. Ok (mined_of job live_at tip))))
        >>= (λ (mined : Mined). (provided (version mined.job.source) failed.Version mined
        >>= (λ _. provided (time mined.job.source mined.tip) failed.Ntime mined))
        >>= (λ m. Ok (admitted_on there m))))
    placed job None = refl
    placed job (Some place) = tipped job place seen

    mining : (l : Option Job)
        → (found failed.Stale l >>= (λ job. found failed.Stale job.live_at
        >>= (λ live_at. found failed.Stale seen
        >>= (λ tip. provided (version job.source) failed.Version there
        >>= (λ _. provided (time job.source tip) failed.Ntime there
        >>= (λ _. Ok (with_all there job live_at tip)))))))
        ≡ ((found failed.Stale l >>= (λ job. found failed.Stale job.live_at
        >>= (λ live_at. found failed.Stale seen
        >>= (λ tip. Ok (mined_of job live_at tip)))))
        >>= (λ (mined : Mined). (provided (version mined.job.source) failed.Version mined
        >>= (λ _. provided (time mined.job.source mined.tip) failed.Ntime mined))
        >>= (λ m. Ok (admitted_on there m))))
    mining None = refl
    mining (Some job) = placed job job.live_at

    knowing : (b : Bool)
        → (provided b failed.Job there >>= (λ _. found failed.Stale live
        >>= (λ job. found failed.Stale job.live_at
        >>= (λ live_at. found failed.Stale seen
        >>= (λ tip. provided (version job.source) failed.Version there
        >>= (λ _. provided (time job.source tip) failed.Ntime there
        >>= (λ _. Ok (with_all there job live_at tip))))))))
        ≡ ((provided b failed.Job share >>= (λ _. found failed.Stale live >>= (λ job. found failed.Stale job.live_at
        >>= (λ live_at. found failed.Stale seen
        >>= (λ tip. Ok (mined_of job live_at tip))))))
        >>= (λ (mined : Mined). (provided (version mined.job.source) failed.Version mined
        >>= (λ _. provided (time mined.job.source mined.tip) failed.Ntime mined))
        >>= (λ m. Ok (admitted_on there m))))
    knowing true = mining live
    knowing false = refl

    rolling : (b : Bool)
        → (provided b failed.ExtranonceSize there >>= (λ _. provided known failed.Job there
        >>= (λ _. found failed.Stale live
        >>= (λ job. found failed.Stale job.live_at
        >>= (λ live_at. found failed.Stale seen
        >>= (λ tip. provided (version job.source) failed.Version there
        >>= (λ _. provided (time job.source tip) failed.Ntime there
        >>= (λ _. Ok (with_all there job live_at tip)))))))))
        ≡ (provided b failed.ExtranonceSize there
        >>= (λ channel. (provided known failed.Job share >>= (λ _. found failed.Stale live >>= (λ job. found failed.Stale job.live_at
        >>= (λ live_at. found failed.Stale seen
        >>= (λ tip. Ok (mined_of job live_at tip))))))
        >>= (λ (mined : Mined). (provided (version mined.job.source) failed.Version mined
        >>= (λ _. provided (time mined.job.source mined.tip) failed.Ntime mined))
        >>= (λ m. Ok (admitted_on channel m)))))
    rolling true = knowing known
    rolling false = refl

    serving : (b : Bool)
        → (provided b failed.Channel there
        >>= (λ channel. provided (rolls channel) failed.ExtranonceSize channel
        >>= (λ _. provided known failed.Job channel
        >>= (λ _. found failed.Stale live
        >>= (λ job. found failed.Stale job.live_at
        >>= (λ live_at. found failed.Stale seen
        >>= (λ tip. provided (version job.source) failed.Version channel
        >>= (λ _. provided (time job.source tip) failed.Ntime channel
        >>= (λ _. Ok (with_all channel job live_at tip))))))))))
        ≡ ((provided b failed.Channel there >>= (λ _. provided (rolls there) failed.ExtranonceSize there))
        >>= (λ channel. (provided known failed.Job share >>= (λ _. found failed.Stale live >>= (λ job. found failed.Stale job.live_at
        >>= (λ live_at. found failed.Stale seen
        >>= (λ tip. Ok (mined_of job live_at tip))))))
        >>= (λ (mined : Mined). (provided (version mined.job.source) failed.Version mined
        >>= (λ _. provided (time mined.job.source mined.tip) failed.Ntime mined))
        >>= (λ m. Ok (admitted_on channel m)))))
    serving true = rolling (rolls there)
    serving false = refl

pub admission-stepped : (rules : Rules) (past : List Event) (session : ℕ) (share : Share) → admission rules past session share ≡ stepped rules past session share
admission-stepped rules past session share =
    same-steps (serves session share) (λ channel. nat_eq (length share.extranonce) (rolled_length channel.kind channel.lead)) (is_known_job (jobs_of past) share)
    (live_job (jobs_of past) share.job) (jobs_of past).tip (λ source. is_version rules source share.version)
    (λ source tip. is_in_time rules source tip share.ntime) share (channel_in (channels_of past) share.channel)

-- the channel of a share is the one with its id
rolled-channel : (b : Bool) (there c : OpenChannel) → provided b failed.ExtranonceSize there ≡ Ok c → there ≡ c
rolled-channel true there c e = cc
rolled-channel false there c e = absurd cc

served-channel : (b d : Bool) (there c : OpenChannel)
    → (provided b failed.Channel there >>= (λ _. provided d failed.ExtranonceSize there)) ≡ Ok c → there ≡ c
served-channel true d there c e = rolled-channel d there c e
served-channel false d there c e = absurd cc

pub channel_for-some : (session : ℕ) (share : Share) (o : Option OpenChannel) (c : OpenChannel) → channel_for session share o ≡ Ok c → o ≡ Some c
channel_for-some session share None c e = absurd cc
channel_for-some session share (Some there) c e =
    ap Some (served-channel (serves session share there) (nat_eq (length share.extranonce) (rolled_length there.kind there.lead)) there c e)

-- what the steps by the tables find
module _ (channels : ChannelTable) (jobs : JobTable) (past : List Event) (shows : ShowsShares channels jobs past)
    (rules : Rules) (session : ℕ) (share : Share) where
  agrees : AgreesOn (is_asked_after past) (channel_for session share (channel_in channels.open_channels share.channel))
      (channel_for session share (channel_in (channels_of past) share.channel))
  agrees = agrees-on (is_asked_after past) session share _ _
      (in-answers (is_asked_after past) channels.open_channels (channels_of past) share.channel shows.channels_are)

  by-mined : (r : Result Mined Failed) → mined_by (kept_jobs jobs) share ≡ r → mined_for (jobs_of past) share ≡ r
  by-mined r e = mined-past past share ∙ ap (λ (kept : KeptJobs). mined_by kept share) (sym shows.jobs_are) ∙ e

  pub refused-channel : (code : Failed) → channel_for session share (channel_in channels.open_channels share.channel) ≡ Err code
      → admission rules past session share ≡ Err code
  refused-channel code e =
      admission-stepped rules past session share
      ∙ ap (λ (r : Result OpenChannel Failed). r >>= (λ channel. mined_for (jobs_of past) share
      >>= (λ mined. rolled_for rules share mined >>= (λ m. Ok (admitted_on channel m)))))
      (refused-both (is_asked_after past) _ _ code agrees e)

  -- the history's channel that the one which is kept answers for
  pub told-for : (shown : OpenChannel) → channel_for session share (channel_in channels.open_channels share.channel) ≡ Ok shown
      → IsFoundAs (is_asked_after past) shown (channel_for session share (channel_in (channels_of past) share.channel))
  told-for shown e = found-both (is_asked_after past) _ _ shown agrees e

  found-channel : (told : OpenChannel) → channel_for session share (channel_in (channels_of past) share.channel) ≡ Ok told
      → admission rules past session share
      ≡ (mined_for (jobs_of past) share >>= (λ mined. rolled_for rules share mined >>= (λ m. Ok (admitted_on told m))))
  found-channel told e =
      admission-stepped rules past session share
      ∙ ap (λ (r : Result OpenChannel Failed). r >>= (λ channel. mined_for (jobs_of past) share
      >>= (λ mined. rolled_for rules share mined >>= (λ m. Ok (admitted_on channel m))))) e

  found-mined : (told : OpenChannel) (r : Result Mined Failed) → channel_for session share (channel_in (channels_of past) share.channel) ≡ Ok told
      → mined_by (kept_jobs jobs) share ≡ r
      → admission rules past session share ≡ (r >>= (λ mined. rolled_for rules share mined >>= (λ m. Ok (admitted_on told m))))
  found-mined told r e f =
      found-channel told e
      ∙ ap (λ (r' : Result Mined Failed). r' >>= (λ mined. rolled_for rules share mined >>= (λ m. Ok (admitted_on told m)))) (by-mined r f)

  pub refused-mined : (shown : OpenChannel) (code : Failed) → channel_for session share (channel_in channels.open_channels share.channel) ≡ Ok shown
      → mined_by (kept_jobs jobs) share ≡ Err code → admission rules past session share ≡ Err code
  refused-mined shown code e f = let found = told-for shown e in found-mined found.told (Err code) found.is f

  pub refused-rolled : (shown : OpenChannel) (mined : Mined) (code : Failed)
      → channel_for session share (channel_in channels.open_channels share.channel) ≡ Ok shown
      → mined_by (kept_jobs jobs) share ≡ Ok mined → rolled_for rules share mined ≡ Err code → admission rules past session share ≡ Err code
  refused-rolled shown mined code e f g =
      let found = told-for shown e in
      found-mined found.told (Ok mined) found.is f
      ∙ ap (λ (r : Result Mined Failed). r >>= (λ m. Ok (admitted_on found.told m))) g

  pub admitted : (told : OpenChannel) (mined : Mined)
      → channel_for session share (channel_in (channels_of past) share.channel) ≡ Ok told
      → mined_by (kept_jobs jobs) share ≡ Ok mined → rolled_for rules share mined ≡ Ok mined
      → admission rules past session share ≡ Ok (admitted_on told mined)
  admitted told mined e f g =
      found-mined told (Ok mined) e f ∙ ap (λ (r : Result Mined Failed). r >>= (λ m. Ok (admitted_on told m))) g

  -- and what was found is what it is judged with
  pub admitted-as : (shown told : OpenChannel) (channel : Channel) (job : HeldJob) (live_at : ℕ) (tip : TipData) (class : ℕ)
      → channel_for session share (channel_in channels.open_channels share.channel) ≡ Ok shown → AnswersFor (is_asked_after past) shown told
      → kept_of channel ≡ kept_channel shown
      → mined_by (kept_jobs jobs) share ≡ Ok (mined_on job live_at tip) → HasCoinbase (script_of past) job
      → Some class ≡ option_map (λ (there : OpenChannel). class_at there live_at) (channel_in channels.open_channels share.channel)
      → IsAdmittedAs (script_of past) channel job live_at tip class (admitted_on told (mined_on job live_at tip))
  admitted-as shown told channel job live_at tip class e answers is f coinbase classed = record {
    channel_is = is ∙ answers.kept_is;
    job_is = refl;
    coinbase_is = coinbase;
    live_at_is = refl;
    tip_is = refl;
    class_is = some-same (classed ∙ ap (option_map (λ (there : OpenChannel). class_at there live_at))
        (channel_for-some session share (channel_in channels.open_channels share.channel) shown e))
        ∙ answers.class_is live_at (mined-asked past share (mined_on job live_at tip) (by-mined (Ok (mined_on job live_at tip)) f));
  } where
    some-same : {a b : ℕ} → Some a ≡ Some b → a ≡ b
    some-same h = cc
