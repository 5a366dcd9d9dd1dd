-- What miners' own jobs do to the tables.
use Rattle.std.proofs.Common.{◌≡◌, ℕ, ◌+◌, ◌<◌, ◌^◌, None, Some, Option, Err, List, ◌∷◌, length, refl, ap, subst, sym, ◌∙◌, arith}
use Rattle.std.specs.List.{AllByRecursion}
use Rattle.std.specs.Option.{option_map}
use Rattle.std.specs.Prelude.{IsOk}
use Rattle.coinbase.specs.Custom.{custom_assembly}
use Rattle.coinbase.specs.CustomRecipes.{RefusesOutputs}
use Rattle.coinbase.specs.declared.error.OutputsError.{OutputsError}
use Rattle.coinbase.specs.declared.error.OutputsError.TheVariants as outputs
use Rattle.channels.specs.Histories.{TablesShowHistories}
use Rattle.channels.specs.Tables.{kept_channel, kept_of}
use Rattle.channels.specs.declared.channel.Channel.{Channel}
use Rattle.pool_tables.proofs.RefusedJobs.{channel-none, channel-some, coinbase_made, coinbase_refused}
use Rattle.pool_tables.specs.OwnJobs.{refusal_before_coinbase}
use Rattle.pool_tables.specs.GrantTables.{GrantTable, HasOneToSpend, ShowsGrants}
use Rattle.history_laws.specs.KeptJobs.{KeptJobs}
use Rattle.history_laws.specs.Limits.{customs}
use Rattle.pool_history.specs.declared.causes.Cause.{Cause}
use Rattle.pool_history.specs.declared.causes.Cause.TheVariants as cause
use Rattle.pool_history.specs.declared.events.Event.{Event}
use Rattle.pool_history.specs.declared.events.Event.TheVariants as event
use Rattle.pool_history.specs.declared.refusals.CustomError.{CustomError}
use Rattle.pool_history.specs.declared.templates.CustomData.{CustomData}
use Rattle.pool_history.specs.Channels.{channel_in, channels_in, channels_of}
use Rattle.pool_history.specs.Jobs.{Brought, job_moves, jobs_of}
use Rattle.pool_history.specs.Judging.{custom_terms}
use Rattle.pool_history.specs.Legal.{cause_of, custom_cause, may_select_work, within}
use Rattle.pool_history.specs.Refusing.{custom_refusal, outputs_refusal, own_channel}
use Rattle.pool_tables.specs.Tables.{OtherEventsLeaveSessions}
use Rattle.template_jobs.proofs.OwnCounted.{own-counted}
use Rattle.template_jobs.specs.HeldJobs.{HasCoinbase}
use Rattle.template_jobs.specs.Tables.{IsSameButRoom, JobTable, TakesMove, held_jobs}
use Rattle.template_jobs.specs.Told.{MovesAreTold, WasTold}
use Rattle.channels.proofs.Cuts.{kept-same, own-answers}
use Rattle.history_laws.specs.AskedPlaces.{is_asked_after}
use Rattle.ledger_replay.specs.declared.error.ReplayError.{ReplayError}
use Rattle.ledger_replay.specs.Replays.{HasCause, IsJudged, ReplayTables, WereReplayed, coinbase_error_of}
use Rattle.ledger_replay.proofs.Caused.{by_own, fewer-told, one-longer}
use Rattle.ledger_replay.proofs.JobsMoved.{jobs-same}

module _ (t : ReplayTables) (past : List Event) (session : ℕ) (custom : CustomData) (was : WereReplayed t past)
    (may : None ≡ within may_select_work past session None) (shown : TablesShowHistories) where
  abbrev one : Event
  one = event.Custom session custom

  -- a job's cause is its refusal's
  own-caused : cause_of past one ≡ custom_cause (custom_refusal t.rules.pool_script past session custom)
  own-caused = by_own t past one may_select_work session _ was refl may

  own-kept : (there : Option Channel)
      → option_map kept_of there ≡ option_map kept_channel (channel_in (channels_in t.channels.open_channels session) custom.channel_id)
      → option_map kept_of there ≡ option_map kept_channel (own_channel past session custom.channel_id)
  own-kept there same =
      same ∙ kept-same (is_asked_after past) (channel_in (channels_in t.channels.open_channels session) custom.channel_id)
      (own_channel past session custom.channel_id)
      (own-answers (is_asked_after past) t.channels.open_channels (channels_of past) session custom.channel_id
      (shown (is_asked_after past) t.channels past was.channels_are).channels_are)

  tip-same : t.jobs.tip ≡ (jobs_of past).tip
  tip-same = ap (λ (kept : KeptJobs). kept.tip) was.jobs_are

  -- a job that is refused before its coinbase is looked at
  pub own-refused : (there : Option Channel) (refusal : CustomError) (code : Cause)
      → option_map kept_of there ≡ option_map kept_channel (channel_in (channels_in t.channels.open_channels session) custom.channel_id)
      → Some refusal ≡ refusal_before_coinbase there t.grants t.jobs.tip custom → Some code ≡ custom_cause (Some refusal)
      → HasCause past one code × WereReplayed t past
  own-refused there refusal code same told coded = (
    own-caused ∙ ap custom_cause (channel-some t.grants past was.grants_are t.rules.pool_script t.jobs.tip tip-same custom _ there refusal (own-kept there same) (sym told)) ∙ sym coded,
    was,
  )

  -- else it has the cause of its coinbase
  after-token : (there : Option Channel)
      → option_map kept_of there ≡ option_map kept_channel (channel_in (channels_in t.channels.open_channels session) custom.channel_id)
      → None ≡ refusal_before_coinbase there t.grants t.jobs.tip custom
      → cause_of past one ≡ custom_cause (outputs_refusal (custom_assembly (custom_terms custom) t.rules.pool_script))
  after-token there same told =
      own-caused ∙ ap custom_cause (channel-none t.grants past was.grants_are t.rules.pool_script t.jobs.tip tip-same custom _ there (own-kept there same) (sym told))

  -- fewer jobs of miners' own were brought than tokens can be granted
  pub own-few : HasOneToSpend t.grants → length t.jobs.own < 2 ^ 18
  own-few few =
      let own : length t.jobs.own ≡ customs past = ap (λ (kept : KeptJobs). length kept.own) was.jobs_are ∙ own-counted past in
      let less = few past was.grants_are in
      omega (arith, own, less.0, less.1)

  -- a job that is taken
  pub own-taken : OtherEventsLeaveSessions → MovesAreTold → (jobs : JobTable) (grants : GrantTable) (script : List ℕ) (there : Option Channel)
      → option_map kept_of there ≡ option_map kept_channel (channel_in (channels_in t.channels.open_channels session) custom.channel_id)
      → None ≡ refusal_before_coinbase there t.grants t.jobs.tip custom → script ≡ t.rules.pool_script
      → IsOk (custom_assembly (custom_terms custom) script) → TakesMove script (Brought t.events custom) t.jobs jobs
      → ShowsGrants grants (one ∷ past)
      → WereReplayed (record t { jobs = jobs; grants = grants; events = t.events + 1 }) (one ∷ past)
  own-taken other_sessions moves jobs grants script there same told scripted made takes spent = record {
    legal = (
      was.legal,
      after-token there same told
          ∙ ap (λ s. custom_cause (outputs_refusal (custom_assembly (custom_terms custom) s))) (sym scripted)
          ∙ ap custom_cause (coinbase_made _ made),
    );
    rules_are = was.rules_are;
    events_are = one-longer t.events one past was.events_are;
    sessions_are = other_sessions t.sessions past one refl was.sessions_are;
    channels_are = fewer-told t past one was;
    jobs_are = subst (λ at. WasTold jobs (Brought at custom ∷ job_moves past)) was.events_are
        (moves script (Brought t.events custom) (job_moves past) t.jobs jobs takes was.jobs_are);
    coinbases = subst (λ s. AllByRecursion (HasCoinbase s) (held_jobs jobs)) scripted
        (takes.coinbases (subst (λ s. AllByRecursion (HasCoinbase s) (held_jobs t.jobs)) (sym scripted) was.coinbases));
    grants_are = spent;
    booked = was.booked;
  }

  -- a job whose coinbase is refused
  pub own-unmade : (jobs : JobTable) (script : List ℕ) (there : Option Channel) (refusal : OutputsError) (made : ReplayError)
      → option_map kept_of there ≡ option_map kept_channel (channel_in (channels_in t.channels.open_channels session) custom.channel_id)
      → None ≡ refusal_before_coinbase there t.grants t.jobs.tip custom → script ≡ t.rules.pool_script
      → RefusesOutputs refusal (custom_assembly (custom_terms custom) script) → IsSameButRoom t.jobs jobs → made ≡ coinbase_error_of refusal
      → IsJudged past one (Err made) (record t { jobs = jobs })
  own-unmade jobs script there refusal made same told scripted refused stays made_is =
      subst (λ e. IsJudged past one (Err e) (record t { jobs = jobs })) (sym made_is) (by_refusal refusal refused) where
        caused : (r : OutputsError) → (r ≡ outputs.Memory → ⊥) → RefusesOutputs r (custom_assembly (custom_terms custom) script) → HasCause past one cause.BadCoinbase
        caused r not_memory is =
            after-token there same told
            ∙ ap (λ s. custom_cause (outputs_refusal (custom_assembly (custom_terms custom) s))) (sym scripted)
            ∙ ap custom_cause (coinbase_refused r _ not_memory is)

        by_refusal : (r : OutputsError) → RefusesOutputs r (custom_assembly (custom_terms custom) script)
            → IsJudged past one (Err (coinbase_error_of r)) (record t { jobs = jobs })
        by_refusal outputs.Memory is = jobs-same t jobs past was stays
        by_refusal (outputs.ScriptTooLong n) is = (caused (outputs.ScriptTooLong n) (λ e. cc) is, jobs-same t jobs past was stays)
        by_refusal (outputs.TooLong n) is = (caused (outputs.TooLong n) (λ e. cc) is, jobs-same t jobs past was stays)
        by_refusal (outputs.BadOutputs at) is = (caused (outputs.BadOutputs at) (λ e. cc) is, jobs-same t jobs past was stays)
        by_refusal outputs.NoOutputs is = (caused outputs.NoOutputs (λ e. cc) is, jobs-same t jobs past was stays)
        by_refusal (outputs.ForeignOutput index) is = (caused (outputs.ForeignOutput index) (λ e. cc) is, jobs-same t jobs past was stays)
        by_refusal (outputs.RewardTooLarge sum) is = (caused (outputs.RewardTooLarge sum) (λ e. cc) is, jobs-same t jobs past was stays)
