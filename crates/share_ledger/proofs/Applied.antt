-- Each event that takes effect leaves the tables those of the events with it.
use Rattle.std.proofs.Common.{◌≡◌, ℕ, Bool, true, false, Option, None, Some, List, [], ◌∷◌, ◌++◌, length, refl, ap, sym, subst, ◌∙◌}
use Rattle.std.specs.Option.{option_map}
use Rattle.std.specs.Prelude.{is_some, IsErr, IsTrue, OnOk, Result, Ok, Err, ⊤}
use Rattle.std.proofs.lemmas.List.{length-reverse}
use Rattle.pool_history.specs.declared.events.Event.{Event}
use Rattle.pool_history.specs.declared.events.Event.TheVariants as event
use Rattle.pool_history.specs.declared.events.Role.{Role}
use Rattle.pool_history.specs.declared.settings.Rules.{Rules}
use Rattle.pool_history.specs.declared.templates.CustomData.{CustomData}
use Rattle.pool_history.specs.declared.templates.TipData.{TipData}
use Rattle.pool_history.specs.declared.refusals.JobError.{JobError}
use Rattle.pool_history.specs.declared.refusals.JobError.TheVariants as job_error
use Rattle.pool_history.specs.Channels.{ChannelMove, Closes, Leaves, channel_in, channel_moves, channels_in}
use Rattle.pool_history.specs.Conditions.{found}
use Rattle.pool_history.specs.Crediting.{Booked, bookings_of, headers}
use Rattle.pool_history.specs.Jobs.{Brought, Came, FromMiner, FromTemplate, Job, Tipped, future_in}
use Rattle.pool_history.specs.Judging.{job_parts}
use Rattle.pool_history.specs.Sessions.{past_of, rules_of, script_of}
use Rattle.pool_history.specs.Settling.{Settled}
use Rattle.history_laws.proofs.Legalities.{some-none}
use Rattle.history_laws.specs.AskedPlaces.{is_asked_after}
use Rattle.ledger_records.specs.Keeping.{KeepsOn}
use Rattle.channels.specs.Plans.{IsAskedAsPlanned, planned_move}
use Rattle.channels.specs.Tables.{ChannelTable, IsTold}
use Rattle.channels.specs.declared.plan.ChannelPlan.{ChannelPlan}
use Rattle.event_store.specs.Kept.{KeptHistory}
use Rattle.pool_tables.specs.GrantTables.{GrantTable, OtherEventsLeaveGrants, ShowsGrants}
use Rattle.payouts.specs.Plans.{Applies, BlockPlan, Planning}
use Rattle.payouts.specs.Tallies.{Remembers, Weighing}
use Rattle.payouts.specs.Totals.{HasSums, SumsPlan}
use Rattle.pool_tables.specs.Tables.{OtherEventsLeaveSessions, SessionTable, ShowsSessions}
use Rattle.pool_tables.specs.Headers.{HeaderSet, ShowsHeaders}
use Rattle.template_jobs.specs.Plans.{IsPlannedAs, PlannedJob, move_of}
use Rattle.template_jobs.specs.Tables.{AppliesPlan, JobTable, TakesMove, kept_jobs}
use Rattle.template_jobs.specs.Told.{MovesAreTold}
use Rattle.share_ledger.specs.Planning.{BooksShare, BringsJob, ClosesOwn, EntersNext, GrantsNext, HasFee, IsNext, MovesChannels, OffersJob, TipsJob, past_in, planned_credit}
use Rattle.share_ledger.specs.Tables.{AreTables, LedgerTables, WereTold}
use Rattle.share_ledger.proofs.Told.{fewer, grown, told-channels, told-credit, told-custom, told-enter, told-grant, told-leave, told-template, told-tip}
use Rattle.share_ledger.proofs.Within.{rules_same, script_same}

-- what was there isn't refused
done : {A E : Type 0} {T X : Type 0} (result : Result A E) (o : Option T) → IsTrue (is_some o) → (IsErr result → o ≡ None) → OnOk result X → X
done (Ok a) o own gone told = told
done (Err e) None own gone told = absurd cc
done (Err e) (Some there) own gone told = absurd (some-none (gone refl))

tipped : {X : Type 0} (result : Result ℕ JobError) (error : JobError) (o : Option Job) → IsTrue (is_some o)
    → result ≡ found error (option_map (λ (job : Job). job.number) o) → OnOk result X → X
tipped result error None own is told = absurd cc
tipped (Ok number) error (Some job) own is told = told
tipped (Err e) error (Some job) own is told = absurd cc

module _ (old shown : LedgerTables) (same : old ≡ shown) (is : AreTables old) (next : Event) (may : IsNext shown next)
    (history : KeptHistory) (events : history.events ≡ old.history.events ++ next ∷ []) where
  keeps : KeepsOn old.history.events (next ∷ [])
  keeps = subst (λ (t : LedgerTables). KeepsOn t.history.events (next ∷ [])) (sym same) may.keeps

  -- what was told of the event as it is, is told of it by its name
  named : (new : LedgerTables) (e : Event) → next ≡ e → new.history.events ≡ old.history.events ++ next ∷ []
      → WereTold is.rules new (e ∷ past_in old) → AreTables new
  named new e named_is grows told =
      grown old new next is grows keeps (subst (λ (n : Event). WereTold is.rules new (n ∷ past_in old)) (sym named_is) told)

  pub applied-enter : OtherEventsLeaveGrants → (worker : ℕ) (role : Role) (flags : ℕ) → EntersNext shown next worker role flags
      → (sessions : SessionTable)
      → ((past : List Event) → ShowsSessions old.sessions past → ShowsSessions sessions (event.Enter worker role flags ∷ past))
      → AreTables (record old { history = history; sessions = sessions })
  applied-enter leave-grants worker role flags enters sessions shows =
      named (record old { history = history; sessions = sessions }) (event.Enter worker role flags) enters.is events
      (told-enter is.rules old (past_in old) is.told history leave-grants sessions worker role flags (shows (past_in old) is.told.sessions_are))

  pub applied-leave : OtherEventsLeaveGrants → (session : ℕ) → next ≡ event.Leave session
      → (sessions : SessionTable) → ((past : List Event) → ShowsSessions old.sessions past → ShowsSessions sessions (event.Leave session ∷ past))
      → (channels : ChannelTable) → ((asked : ℕ → Bool) (moves : List ChannelMove) → IsTold asked old.channels moves
      → IsTold asked channels (Leaves session ∷ moves))
      → AreTables (record old { history = history; sessions = sessions; channels = channels })
  applied-leave leave-grants session named_is sessions shows channels moved =
      named (record old { history = history; sessions = sessions; channels = channels }) (event.Leave session) named_is events
      (told-leave is.rules old (past_in old) is.told history leave-grants sessions channels session (shows (past_in old) is.told.sessions_are)
      (moved (is_asked_after (event.Leave session ∷ past_in old)) (channel_moves (past_in old))
      (fewer is.rules old (past_in old) is.told history (event.Leave session))))

  at_past : length old.history.events ≡ length (past_in old)
  at_past = sym (length-reverse old.history.events)

  pub applied-template : OtherEventsLeaveSessions → OtherEventsLeaveGrants → MovesAreTold → (plan : PlannedJob) → OffersJob shown next plan
      → (jobs : JobTable) → AppliesPlan plan old.jobs jobs → AreTables (record old { history = history; jobs = jobs })
  applied-template leave-sessions leave-grants moves-told plan offered jobs applies =
      let offers : OffersJob old next plan = subst (λ (t : LedgerTables). OffersJob t next plan) (sym same) offered in
      let script : script_of (past_in old) ≡ is.rules.pool_script = script_same old is in
      let taken : TakesMove is.rules.pool_script (move_of plan.session plan.at plan.source) old.jobs jobs =
      applies is.rules.pool_script (offers.planned.coinbase_is ∙ ap (λ s. job_parts s (script_of (past_in old))) (sym offers.planned.source_is)
      ∙ ap (job_parts plan.source) script) in
      let moved : TakesMove is.rules.pool_script (Came (length (past_in old)) offers.session offers.template) old.jobs jobs =
      subst (λ s. TakesMove is.rules.pool_script (move_of offers.session (length (past_in old)) s) old.jobs jobs) offers.planned.source_is
      (subst (λ a. TakesMove is.rules.pool_script (move_of offers.session a plan.source) old.jobs jobs) (offers.planned.at_is ∙ at_past)
      (subst (λ s. TakesMove is.rules.pool_script (move_of s plan.at plan.source) old.jobs jobs) offers.planned.session_is taken)) in
      named (record old { history = history; jobs = jobs }) (event.Template offers.session offers.template) offers.is events
      (told-template is.rules old (past_in old) is.told history leave-sessions leave-grants moves-told jobs offers.session offers.template moved)

  pub applied-custom : OtherEventsLeaveSessions → MovesAreTold → (plan : PlannedJob) (token : List ℕ) → BringsJob shown next plan token
      → (jobs : JobTable) → AppliesPlan plan old.jobs jobs
      → (grants : GrantTable) → ((session : ℕ) (custom : CustomData) (past : List Event) → custom.token ≡ token → ShowsGrants old.grants past
      → ShowsGrants grants (event.Custom session custom ∷ past))
      → AreTables (record old { history = history; jobs = jobs; grants = grants })
  applied-custom leave-sessions moves-told plan token brought jobs applies grants spends =
      let brings : BringsJob old next plan token = subst (λ (t : LedgerTables). BringsJob t next plan token) (sym same) brought in
      let script : script_of (past_in old) ≡ is.rules.pool_script = script_same old is in
      let taken : TakesMove is.rules.pool_script (move_of plan.session plan.at plan.source) old.jobs jobs =
      applies is.rules.pool_script (brings.planned.coinbase_is ∙ ap (λ s. job_parts s (script_of (past_in old))) (sym brings.planned.source_is)
      ∙ ap (job_parts plan.source) script) in
      let moved : TakesMove is.rules.pool_script (Brought (length (past_in old)) brings.custom) old.jobs jobs =
      subst (λ s. TakesMove is.rules.pool_script (move_of 0 (length (past_in old)) s) old.jobs jobs) brings.planned.source_is
      (subst (λ a. TakesMove is.rules.pool_script (move_of 0 a plan.source) old.jobs jobs) (brings.planned.at_is ∙ at_past)
      (subst (λ s. TakesMove is.rules.pool_script (move_of s plan.at plan.source) old.jobs jobs) brings.planned.session_is taken)) in
      named (record old { history = history; jobs = jobs; grants = grants }) (event.Custom brings.session brings.custom) brings.is events
      (told-custom is.rules old (past_in old) is.told history leave-sessions moves-told jobs grants brings.session brings.custom moved
      (spends brings.session brings.custom (past_in old) brings.names is.told.grants_are))

  pub applied-tip : OtherEventsLeaveSessions → OtherEventsLeaveGrants → MovesAreTold → (tip : TipData) → TipsJob shown next tip
      → (jobs : JobTable) (at : ℕ) → at ≡ length old.history.events → (result : Result ℕ JobError)
      → result ≡ found (job_error.UnknownTemplate tip.template_id) (option_map (λ (job : Job). job.number) (future_in (kept_jobs old.jobs).future tip.template_id))
      → OnOk result (TakesMove is.rules.pool_script (Tipped at tip) old.jobs jobs)
      → AreTables (record old { history = history; jobs = jobs })
  applied-tip leave-sessions leave-grants moves-told tip tips jobs at placed result told takes =
      named (record old { history = history; jobs = jobs }) (event.Tip tips.session tip) tips.is events
      (told-tip is.rules old (past_in old) is.told history leave-sessions leave-grants moves-told jobs tips.session tip
      (subst (λ a. TakesMove is.rules.pool_script (Tipped a tip) old.jobs jobs) (placed ∙ at_past)
      (tipped result (job_error.UnknownTemplate tip.template_id) (future_in (kept_jobs old.jobs).future tip.template_id)
      (subst (λ (t : LedgerTables). IsTrue (is_some (future_in (kept_jobs t.jobs).future tip.template_id))) (sym same) tips.found) told takes)))

  pub applied-channel : OtherEventsLeaveSessions → OtherEventsLeaveGrants → (plan : ChannelPlan) → MovesChannels shown next plan
      → (channels : ChannelTable) → ((asked : ℕ → Bool) (moves : List ChannelMove) → IsAskedAsPlanned asked plan → IsTold asked old.channels moves
      → IsTold asked channels (planned_move plan ∷ moves))
      → AreTables (record old { history = history; channels = channels })
  applied-channel leave-sessions leave-grants plan moved channels told =
      let moves : MovesChannels old next plan = subst (λ (t : LedgerTables). MovesChannels t next plan) (sym same) moved in
      named (record old { history = history; channels = channels }) next refl events
      (told-channels is.rules old (past_in old) is.told history leave-sessions leave-grants channels next moves.only
      (subst (λ (l : List ChannelMove). IsTold (is_asked_after (next ∷ past_in old)) channels l) (sym moves.moves)
      (told (is_asked_after (next ∷ past_in old)) (channel_moves (past_in old)) moves.asked
      (fewer is.rules old (past_in old) is.told history next))))

  pub applied-close : OtherEventsLeaveSessions → OtherEventsLeaveGrants → (session channel : ℕ) → ClosesOwn shown next session channel
      → (channels : ChannelTable) → {E : Type 0} (result : Result ⊤ E)
      → (IsErr result → channel_in (channels_in old.channels.open_channels session) channel ≡ None)
      → OnOk result ((asked : ℕ → Bool) (moves : List ChannelMove) → IsTold asked old.channels moves → IsTold asked channels (Closes channel ∷ moves))
      → AreTables (record old { history = history; channels = channels })
  applied-close leave-sessions leave-grants session channel closes channels result not told =
      named (record old { history = history; channels = channels }) (event.Close session channel) closes.is events
      (told-channels is.rules old (past_in old) is.told history leave-sessions leave-grants channels (event.Close session channel) tt
      (done result (channel_in (channels_in old.channels.open_channels session) channel)
      (subst (λ (t : LedgerTables). IsTrue (is_some (channel_in (channels_in t.channels.open_channels session) channel))) (sym same) closes.own) not told
      (is_asked_after (event.Close session channel ∷ past_in old)) (channel_moves (past_in old))
      (fewer is.rules old (past_in old) is.told history (event.Close session channel))))

  pub applied-grant : OtherEventsLeaveSessions → (account : List ℕ) (fixed : Bool) (path : List (List ℕ)) → GrantsNext shown next account fixed path
      → (grants : GrantTable) → ((session : ℕ) (past : List Event) → ShowsGrants old.grants past
      → ShowsGrants grants (event.Grant session account fixed path ∷ past))
      → AreTables (record old { history = history; grants = grants })
  applied-grant leave-sessions account fixed path granted grants shows =
      named (record old { history = history; grants = grants }) (event.Grant granted.session account fixed path) granted.is events
      (told-grant is.rules old (past_in old) is.told history leave-sessions grants granted.session account fixed path
      (shows granted.session (past_in old) is.told.grants_are))

  -- a planned push is remembered, with its block where it is one
  remembered : (tally : Weighing) (account : List ℕ) (work : ℕ) (block : Option BlockPlan) (settled : Option Settled)
      → Applies old.tally tally account work block settled
      → Remembers tally (record { account = account; work = work; reward = option_map (λ (b : BlockPlan). b.reward) block } ∷ bookings_of (past_in old))
  remembered tally account work None None applies = applies (bookings_of (past_in old)) is.told.tally_is
  remembered tally account work (Some block) (Some settled) applies = (applies (bookings_of (past_in old)) is.told.tally_is).remembers
  remembered tally account work None (Some settled) applies = absurd applies
  remembered tally account work (Some block) None applies = absurd applies

  summed : (tally : Weighing) (account : List ℕ) (work : ℕ) (block : Option BlockPlan) → HasFee block (past_in old)
      → SumsPlan old.tally tally account work block
      → HasSums tally is.rules.fee (record { account = account; work = work; reward = option_map (λ (b : BlockPlan). b.reward) block } ∷ bookings_of (past_in old))
  summed tally account work None fee sums = sums is.rules.fee (bookings_of (past_in old)) is.told.tally_is is.told.sums_are
  summed tally account work (Some block) fee sums =
      let charged : block.fee ≡ is.rules.fee = fee is.rules is.told.are_rules in
      subst (λ f. HasSums tally f (record { account = account; work = work; reward = Some block.reward } ∷ bookings_of (past_in old))) charged
      (sums (bookings_of (past_in old)) is.told.tally_is
      (subst (λ f. HasSums old.tally f (bookings_of (past_in old))) (sym charged) is.told.sums_are))

  pub applied-credit : OtherEventsLeaveSessions → OtherEventsLeaveGrants → (plan : Planning) (header : List ℕ) (is_block : Bool)
      → BooksShare shown next plan header is_block → (tally : Weighing) (settled : Option Settled)
      → Applies old.tally tally plan.account plan.work plan.block settled → SumsPlan old.tally tally plan.account plan.work plan.block
      → tally.window ≡ old.tally.window
      → (set : HeaderSet) → ((seen : List (List ℕ)) → ShowsHeaders old.headers seen → ShowsHeaders set (header ∷ seen))
      → AreTables (record old { history = history; tally = tally; headers = set })
  applied-credit leave-sessions leave-grants plan header is_block booked tally settled applies sums window set shows =
      let books : BooksShare old next plan header is_block = subst (λ (t : LedgerTables). BooksShare t next plan header is_block) (sym same) booked in
      let e : Event = event.Credit books.session books.channel books.job books.nonce books.ntime books.version books.extranonce in
      named (record old { history = history; tally = tally; headers = set }) e books.is events
      (told-credit is.rules old (past_in old) is.told history leave-sessions leave-grants tally set
      books.session books.channel books.job books.nonce books.ntime books.version books.extranonce (planned_credit plan) header
      (subst (λ (n : Event). bookings_of (n ∷ past_in old) ≡ planned_credit plan ∷ bookings_of (past_in old)) books.is books.books)
      (subst (λ (n : Event). headers (n ∷ past_in old) ≡ header ∷ headers (past_in old)) books.is books.adds)
      window (remembered tally plan.account plan.work plan.block settled applies)
      (summed tally plan.account plan.work plan.block books.fee sums) (shows (headers (past_in old)) is.told.headers_are))
