-- Tokens, and the jobs of miners' own that spend them, are planned as the history answers.
use Rattle.std.proofs.Common.{◌≡◌, ◌≢◌, ℕ, ◌+◌, ◌≤◌, ◌<◌, ◌^◌, Bool, true, false, ◌&&◌, ◌||◌, not, cond, None, Some, Option, Result, Ok, Err, List, [], ◌∷◌, length, refl, ap, sym, subst, ◌∙◌, arith}
use Rattle.std.proofs.lemmas.Bool.{leb-true, ltb-true}
use Rattle.std.specs.Option.{option_map}
use Rattle.std.specs.Prelude.{is_some, nat_le, nat_lt, IsOk, IsTrue, OnSome}
use Rattle.coinbase.specs.Custom.{custom_assembly}
use Rattle.coinbase.specs.CustomRecipes.{RefusesOutputs}
use Rattle.coinbase.specs.Parts.{Parts}
use Rattle.coinbase.specs.declared.error.OutputsError.{OutputsError}
use Rattle.coinbase.specs.declared.error.OutputsError.TheVariants as outputs_error
use Rattle.pool_history.specs.declared.asking.Request.TheVariants as request
use Rattle.pool_history.specs.declared.events.Event.{Event}
use Rattle.pool_history.specs.declared.events.Event.TheVariants as event
use Rattle.pool_history.specs.declared.refusals.CustomError.{CustomError}
use Rattle.pool_history.specs.declared.refusals.CustomError.TheVariants as custom_error
use Rattle.pool_history.specs.declared.refusals.GrantError.{GrantError}
use Rattle.pool_history.specs.declared.refusals.GrantError.TheVariants as grant_error
use Rattle.pool_history.specs.declared.replies.Reply.TheVariants as reply
use Rattle.pool_history.specs.declared.settings.Rules.{Rules}
use Rattle.pool_history.specs.declared.templates.CustomData.{CustomData}
use Rattle.pool_history.specs.declared.templates.TipData.{TipData}
use Rattle.pool_history.specs.Accounts.{account_of, is_known}
use Rattle.pool_history.specs.Answering.{Effect, granting, unless_refused, with_event, without_event}
use Rattle.pool_history.specs.Channels.{channel_in, channels_in, channels_of}
use Rattle.pool_history.specs.Conditions.{first_false, or_code}
use Rattle.pool_history.specs.Jobs.{FromMiner, jobs_of}
use Rattle.pool_history.specs.Judging.{custom_terms}
use Rattle.pool_history.specs.Refusing.{Granted, custom_refusal, grant_of, grant_refusal, granted_to, is_bad_path, is_extended, is_other_tip, is_spent, most_entries, most_grants, on_channel, outputs_refusal, over_tip, own_channel, unspent, with_token}
use Rattle.pool_history.specs.Sessions.{grants, rules_of, script_of}
use Rattle.history_laws.specs.KeptJobs.{KeptJobs}
use Rattle.history_laws.specs.Limits.{customs}
use Rattle.history_laws.proofs.Answering.{code-none}
use Rattle.channels.specs.Histories.{TablesShowHistories}
use Rattle.history_laws.specs.AskedPlaces.{is_asked_after}
use Rattle.channels.proofs.Cuts.{kept-same, own-answers}
use Rattle.channels.specs.declared.channel.Channel.{Channel}
use Rattle.channels.specs.Tables.{kept_channel, kept_of}
use Rattle.pool_tables.specs.OwnJobs.{refusal_before_coinbase}
use Rattle.pool_tables.proofs.RefusedJobs.{channel-none, channel-some, coinbase_made, coinbase_refused}
use Rattle.pool_tables.specs.GrantTables.{GrantTable, HasOneToSpend, MaySpend, grant_refusal_after, granted_count, unspent_in}
use Rattle.template_jobs.specs.Plans.{IsPlannedAs, PlannedJob}
use Rattle.template_jobs.specs.Tables.{Fits, JobTable}
use Rattle.template_jobs.proofs.OwnCounted.{own-counted}
use Rattle.share_ledger.specs.declared.planning.Change.TheVariants as change
use Rattle.share_ledger.specs.declared.planning.Step.TheVariants as step
use Rattle.share_ledger.specs.Planning.{BringsJob, IsStepWithin, past_in}
use Rattle.share_ledger.specs.Tables.{AreTables, LedgerTables}
use Rattle.share_ledger.specs.Tokens.{IsFixedPath}
use Rattle.share_ledger.proofs.Within.{counted_jobs, script_same, tip_same, within_by}

module _ (old : LedgerTables) (is : AreTables old) (session : ℕ) (rules : Rules) (are : rules_of (past_in old) ≡ Some rules) where
  -- grants
  abbrev granted_effect : List ℕ → Bool → List (List ℕ) → ℕ → List ℕ → Option GrantError → Effect
  granted_effect account fixed path number script refusal =
      unless_refused reply.GrantRefused refusal
      (with_event (event.Grant session account fixed path) (reply.Granted number script))

  granting_by : (account : List ℕ) (asked : Option (List (List ℕ))) (fixed : Bool) (path : List (List ℕ)) → IsFixedPath asked fixed path
      → granting rules (past_in old) session account asked
      ≡ granted_effect account fixed path (grants (past_in old) + 1) rules.pool_script (grant_refusal rules (past_in old) account path)
  granting_by account None fixed path h =
      ap (λ f. granted_effect account f [] (grants (past_in old) + 1) rules.pool_script (grant_refusal rules (past_in old) account [])) (sym h.0)
      ∙ ap (λ p. granted_effect account fixed p (grants (past_in old) + 1) rules.pool_script (grant_refusal rules (past_in old) account p)) (sym h.1)
  granting_by account (Some said) fixed path h =
      ap (λ f. granted_effect account f said (grants (past_in old) + 1) rules.pool_script (grant_refusal rules (past_in old) account said)) (sym h.0)
      ∙ ap (λ p. granted_effect account fixed p (grants (past_in old) + 1) rules.pool_script (grant_refusal rules (past_in old) account p)) (sym h.1)

  refused_by : (account : List ℕ) (path : List (List ℕ)) (told : Option GrantError)
      → told ≡ grant_refusal_after rules (granted_count old.grants) account (length path)
      → grant_refusal rules (past_in old) account path ≡ told
  refused_by account path told h =
      ap (λ n. grant_refusal_after rules n account (length path)) (sym is.told.grants_are.count_is) ∙ sym h

  pub grant-refused : (new : LedgerTables) (identity : List ℕ) (asked : Option (List (List ℕ))) (fixed : Bool) (path : List (List ℕ)) (error : GrantError)
      → IsFixedPath asked fixed path
      → Some error ≡ grant_refusal_after rules (granted_count old.grants) (account_of identity) (length path)
      → IsStepWithin old new session (request.Grant identity asked) (step.Answer (reply.GrantRefused error))
  grant-refused new identity asked fixed path error said told =
      within_by old is rules are session (request.Grant identity asked) new (step.Answer (reply.GrantRefused error))
      (granting_by (account_of identity) asked fixed path said
      ∙ ap (granted_effect (account_of identity) fixed path (grants (past_in old) + 1) rules.pool_script)
      (refused_by (account_of identity) path (Some error) told))

  pub grants_few : (account : List ℕ) (len : ℕ) → None ≡ grant_refusal_after rules (granted_count old.grants) account len
      → granted_count old.grants < most_grants
  grants_few account len told =
      let known = code-none (is_known rules account) grant_error.UnknownUser _ (sym told) in
      let few = code-none (nat_lt (granted_count old.grants) most_grants) (grant_error.TooManyGrants (granted_count old.grants)) _ known.1 in
      ltb-true (granted_count old.grants) most_grants few.0

  pub grant-made : (table : GrantTable) (identity : List ℕ) (asked : Option (List (List ℕ))) (fixed : Bool) (path : List (List ℕ)) (number : ℕ)
      (script : List ℕ) → IsFixedPath asked fixed path
      → None ≡ grant_refusal_after rules (granted_count old.grants) (account_of identity) (length path)
      → number ≡ granted_count old.grants + 1 → script ≡ rules.pool_script → 1 ≤ table.room → granted_count table ≡ granted_count old.grants
      → IsStepWithin old (record old { grants = table }) session (request.Grant identity asked)
      (step.Move (record {
        event = event.Grant session (account_of identity) fixed path;
        change = change.Grant (account_of identity) fixed path;
        reply = reply.Granted number script;
      }))
  grant-made table identity asked fixed path number script said told numbered scripted room same =
      within_by old is rules are session (request.Grant identity asked) (record old { grants = table }) (step.Move (record { event = event.Grant session (account_of identity) fixed path; change = change.Grant (account_of identity) fixed path; reply = reply.Granted number script })) (
        granting_by (account_of identity) asked fixed path said
            ∙ ap (granted_effect (account_of identity) fixed path (grants (past_in old) + 1) rules.pool_script)
            (refused_by (account_of identity) path None told)
            ∙ ap (λ n. granted_effect (account_of identity) fixed path n rules.pool_script None)
            (sym (numbered ∙ ap (λ n. n + 1) is.told.grants_are.count_is))
            ∙ ap (λ s. granted_effect (account_of identity) fixed path number s None) (sym scripted),
        record {
          session = session;
          is = refl;
          room = room;
          few = subst (λ n. n < most_grants) (sym same) (grants_few (account_of identity) (length path) told);
        },
      )

  abbrev MadeAs : GrantTable → List ℕ → Option (List (List ℕ)) → Bool → List (List ℕ) → ℕ → List ℕ → List ℕ → List ℕ → List (List ℕ) → Type 0
  MadeAs table identity asked fixed path number script one other copy =
      IsStepWithin old (record old { grants = table }) session (request.Grant identity asked)
      (step.Move (record { event = event.Grant session one fixed copy; change = change.Grant other fixed path; reply = reply.Granted number script }))

  -- the same with copies of its account and its path
  pub grant-made-as : (table : GrantTable) (identity : List ℕ) (asked : Option (List (List ℕ))) (fixed : Bool) (path : List (List ℕ)) (number : ℕ)
      (script one other : List ℕ) (copy : List (List ℕ)) → one ≡ account_of identity → other ≡ account_of identity → copy ≡ path
      → IsFixedPath asked fixed path
      → None ≡ grant_refusal_after rules (granted_count old.grants) (account_of identity) (length path)
      → number ≡ granted_count old.grants + 1 → script ≡ rules.pool_script → 1 ≤ table.room → granted_count table ≡ granted_count old.grants
      → IsStepWithin old (record old { grants = table }) session (request.Grant identity asked)
      (step.Move (record {
        event = event.Grant session one fixed copy;
        change = change.Grant other fixed path;
        reply = reply.Granted number script;
      }))
  grant-made-as table identity asked fixed path number script one other copy one_is other_is copy_is said told numbered scripted room same =
      subst (λ a. MadeAs table identity asked fixed path number script a other copy) (sym one_is)
      (subst (λ b. MadeAs table identity asked fixed path number script (account_of identity) b copy) (sym other_is)
      (subst (λ p. MadeAs table identity asked fixed path number script (account_of identity) (account_of identity) p) (sym copy_is)
      (grant-made table identity asked fixed path number script said told numbered scripted room same)))

  -- miners' own jobs
  abbrev custom_effect : CustomData → Option CustomError → Effect
  custom_effect custom refusal =
      unless_refused reply.CustomRefused refusal
      (with_event (event.Custom session custom) (reply.CustomJob (length (jobs_of (past_in old)).all + 1)))

  -- what is kept of the channel is kept of the history's
  kept_own : TablesShowHistories → (custom : CustomData) (k : Option Channel)
      → option_map kept_of k ≡ option_map kept_channel (channel_in (channels_in old.channels.open_channels session) custom.channel_id)
      → option_map kept_of k ≡ option_map kept_channel (own_channel (past_in old) session custom.channel_id)
  kept_own shown custom k same =
      same ∙ kept-same (is_asked_after (past_in old)) (channel_in (channels_in old.channels.open_channels session) custom.channel_id)
      (own_channel (past_in old) session custom.channel_id)
      (own-answers (is_asked_after (past_in old)) old.channels.open_channels (channels_of (past_in old)) session custom.channel_id
      (shown (is_asked_after (past_in old)) old.channels (past_in old) is.told.channels_are).channels_are)

  pub custom-refused : TablesShowHistories → (new : LedgerTables) (custom : CustomData) (k : Option Channel) (error : CustomError)
      → option_map kept_of k ≡ option_map kept_channel (channel_in (channels_in old.channels.open_channels session) custom.channel_id)
      → Some error ≡ refusal_before_coinbase k old.grants old.jobs.tip custom
      → IsStepWithin old new session (request.Custom custom) (step.Answer (reply.CustomRefused error))
  custom-refused shown new custom k error same told =
      within_by old is rules are session (request.Custom custom) new (step.Answer (reply.CustomRefused error))
      (ap (custom_effect custom)
      (channel-some old.grants (past_in old) is.told.grants_are rules.pool_script old.jobs.tip (tip_same old is) custom _ k error
      (kept_own shown custom k same) (sym told)))

  after_token : TablesShowHistories → (custom : CustomData) (k : Option Channel)
      → option_map kept_of k ≡ option_map kept_channel (channel_in (channels_in old.channels.open_channels session) custom.channel_id)
      → None ≡ refusal_before_coinbase k old.grants old.jobs.tip custom
      → custom_refusal rules.pool_script (past_in old) session custom ≡ outputs_refusal (custom_assembly (custom_terms custom) rules.pool_script)
  after_token shown custom k same told =
      channel-none old.grants (past_in old) is.told.grants_are rules.pool_script old.jobs.tip (tip_same old is) custom _ k
      (kept_own shown custom k same) (sym told)

  pub custom-unmade : TablesShowHistories → (new : LedgerTables) (custom : CustomData) (k : Option Channel) (error : OutputsError) (script : List ℕ)
      → option_map kept_of k ≡ option_map kept_channel (channel_in (channels_in old.channels.open_channels session) custom.channel_id)
      → None ≡ refusal_before_coinbase k old.grants old.jobs.tip custom → error ≢ outputs_error.Memory → script ≡ rules.pool_script
      → RefusesOutputs error (custom_assembly (custom_terms custom) script)
      → IsStepWithin old new session (request.Custom custom) (step.Answer (reply.CustomRefused (custom_error.Coinbase error)))
  custom-unmade shown new custom k error script same told not scripted refused =
      within_by old is rules are session (request.Custom custom) new (step.Answer (reply.CustomRefused (custom_error.Coinbase error)))
      (ap (custom_effect custom)
      (after_token shown custom k same told
      ∙ ap (λ s. outputs_refusal (custom_assembly (custom_terms custom) s)) (sym scripted) ∙ coinbase_refused error _ not refused))

  pub custom-made : TablesShowHistories → (jobs : JobTable) (custom : CustomData) (k : Option Channel) (plan : PlannedJob) (number at : ℕ) (script token : List ℕ)
      → at ≡ length old.history.events → token ≡ custom.token → option_map kept_of k ≡ option_map kept_channel (channel_in (channels_in old.channels.open_channels session) custom.channel_id)
      → None ≡ refusal_before_coinbase k old.grants old.jobs.tip custom → script ≡ rules.pool_script
      → IsOk (custom_assembly (custom_terms custom) script) → number ≡ old.jobs.count + 1
      → IsPlannedAs 0 at (FromMiner custom) script plan → Fits jobs plan → MaySpend old.grants custom.token
      → IsStepWithin old (record old { jobs = jobs }) session (request.Custom custom)
      (step.Move (record { event = event.Custom session custom; change = change.Custom plan token; reply = reply.CustomJob number }))
  custom-made shown jobs custom k plan number at script token placed copied same told scripted made numbered planned fits spends =
      within_by old is rules are session (request.Custom custom) (record old { jobs = jobs }) (step.Move (record { event = event.Custom session custom; change = change.Custom plan token; reply = reply.CustomJob number })) (
        ap (custom_effect custom)
            (after_token shown custom k same told
            ∙ ap (λ s. outputs_refusal (custom_assembly (custom_terms custom) s)) (sym scripted) ∙ coinbase_made _ made)
            ∙ ap (λ n. with_event (event.Custom session custom) (reply.CustomJob n)) (sym (numbered ∙ ap (λ n. n + 1) (counted_jobs old is))),
        record {
          session = session;
          custom = custom;
          is = refl;
          names = sym copied;
          planned = subst (λ s. IsPlannedAs 0 (length old.history.events) (FromMiner custom) s plan)
              (scripted ∙ sym (ap Rattle.pool_history.specs.Sessions.script_in are))
              (subst (λ n. IsPlannedAs 0 n (FromMiner custom) script plan) placed planned);
          fits = fits;
          unspent = subst (MaySpend old.grants) (sym copied) spends;
        },
      )

  -- fewer jobs of miners' own were brought than tokens can be granted
  pub own_few : HasOneToSpend old.grants → length old.jobs.own < 2 ^ 18
  own_few few =
      let own : length old.jobs.own ≡ customs (past_in old) = ap (λ (kept : KeptJobs). length kept.own) is.told.jobs_are ∙ own-counted (past_in old) in
      let less = few (past_in old) is.told.grants_are in
      omega (arith, own, less.0, less.1)
