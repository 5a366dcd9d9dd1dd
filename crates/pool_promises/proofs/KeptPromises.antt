-- What serving leaves keeps the pool's promise.
use Rattle.std.proofs.Common.{true, ◌≡◌, ℕ, Bool, false, append_assoc, None, Some, Result, Ok, Err, List, [], ◌∷◌, ◌++◌, take, inl, inr, refl, sym, subst, ap}
use Rattle.std.specs.List.{AllByRecursion}
use Rattle.pool_base.specs.Calls.{Parted}
use Rattle.pool_base.specs.Lists.{Begins}
use Rattle.pool_base.proofs.Behind.{all-map}
use Rattle.ledger_disk.specs.Calls.{DiskSeen}
use Rattle.ledger_resume.specs.Books.{IsReadyBook, keeper_on}
use Rattle.ledger_resume.specs.declared.leaving.TheConstants.{WORKERS}
use Rattle.ledger_resume.proofs.GoneOn.{begins_on}
use Rattle.ledger_resume.proofs.Leaves.{leave_begins}
use Rattle.pool_io.specs.Hosts.{HostSeen}
use Rattle.pool_io.specs.Seen.{KeeperSeen}
use Rattle.pool_history.specs.declared.events.Event.{Event}
use Rattle.pool_history.specs.declared.events.Event.TheVariants as event
use Rattle.pool_history.specs.declared.settings.Rules.{Rules}
use Rattle.pool_history.specs.Calls.{GoodPoolCalls, IsGoodPoolCall, PoolCall}
use Rattle.pool_history.specs.Judging.{share_of}
use Rattle.pool_history.specs.Legal.{Legal}
use Rattle.pool_history.specs.Sessions.{mines, past_of, rules_of}
use Rattle.history_laws.specs.Apart.{SpacesAreDisjoint}
use Rattle.history_laws.specs.Credited.{NoShareTwice}
use Rattle.history_laws.specs.NineConditions.{ConditionsStandByThemselves}
use Rattle.history_laws.specs.Serving.{CallsAreJudged, CreditsAreCalled}
use Rattle.payout_laws.specs.Conservation.{RewardsAreConserved}
use Rattle.payout_laws.specs.Summaries.{SummariesAreOfBlocks}
use Rattle.pool_network.specs.Networks.{NetworkSeen}
use Rattle.pool_network.specs.Worlds.{WorldSeen}
use Rattle.pool_settings.specs.declared.opening.NoSettings.{NoSettings}
use Rattle.pool_settings.specs.declared.settings.Settings.{Settings}
use Rattle.session_steps.specs.declared.ends.SessionEnd.{SessionEnd}
use Rattle.session_steps.specs.declared.manner.Manner.{Manner}
use Rattle.session_steps.specs.Steps.{calls_in}
use Rattle.share_ledger.specs.Books.{BookSeen}
use Rattle.stream_commands.specs.declared.status.Status.{Status}
use Rattle.pool_sessions.specs.declared.alone.SoloEnd.{SoloEnd}
use Rattle.pool_sessions.specs.declared.alone.SoloEnd.TheVariants as solo
use Rattle.pool_sessions.specs.Calling.{StandInTurn, added_in}
use Rattle.pool_sessions.specs.Solo.{IsServed, IsSessionOn, Outsides, sole_worker, solo_manner}
use Rattle.pool_server.specs.Parts.{Service}
use Rattle.pool_server.specs.Serving.{Hall, HasRun}
use Rattle.pool_server.specs.Tending.{all_calls}
use Rattle.pool_commands.specs.declared.durable_session.DiskEnd.{DiskEnd}
use Rattle.pool_commands.specs.declared.durable_session.DiskEnd.TheVariants as ends
use Rattle.pool_commands.specs.DurableSessions.{DiskOutsides, ServesOnDisk}
use Rattle.pool_commands.specs.DurableSoloing.{DiskRow, DiskSessionRow, GoesOnWithDisk, HostAndDisks}
use Rattle.pool_commands.specs.SoloRow.{GoesOnFrom, KeeperRow, SessionRow}
use Rattle.pool_commands.specs.DurableServing.{ServesDiskAfterSettings, ServesNetworkOnDisk, ServesWithDisk}
use Rattle.pool_commands.specs.ServeRow.{ServesAfterSettings, ServesOnBook, ServesWithKeeper, places_by, service_by}
use Rattle.pool_commands.specs.Serving.{ReachedSeen, Served, ServesOnNetwork, Unserved}
use Rattle.pool_commands.specs.Surroundings.{Surroundings, around}
use Rattle.pool_promises.specs.Serving.{ServedCallersAreAnswered}
use Rattle.pool_promises.specs.Promise.{IsSound, JudgesByConditions, KeepsHistory, KeepsInTurn, KeepsItsPromise, KeepsSession}
use Rattle.pool_promises.specs.Headline.{DurableServeKeepsItsPromise, DurableSoloKeepsItsPromise, KeepsByBook, KeepsByDisk, KeepsByDiskEnd, KeepsByDiskSettings, KeepsByDiskStreams, KeepsByEnd, KeepsByFile, KeepsByFileSettings, KeepsByKeeper, KeepsByReached, KeepsByReady, KeepsBySettings, KeepsBySoloDisk, KeepsBySoloDiskSettings, KeepsByStreams, ServeKeepsItsPromise, SoloKeepsItsPromise}
use Rattle.pool_promises.proofs.Present.{rules_further}
use Rattle.pool_promises.proofs.FrameAnswers.{in_turn_answered}

-- a book that is ready on a disk begins with the Start of its rules
ready_begins : (rules : Rules) (disk : DiskSeen) (book : BookSeen) → IsReadyBook rules disk book → Begins (event.Start rules ∷ []) book.events
ready_begins rules disk book ready =
    elim ready.3.made [
      | inl begun ↦ ([], sym begun.begins)
      | inr on ↦ begins_on (event.Start rules ∷ []) on.past book.events on.of_pool.starts (leave_begins WORKERS on.past book.events on.left)
    ]

begun_under : (rules : Rules) (events : List Event) → Begins (event.Start rules ∷ []) events → rules_of (past_of events) ≡ Some rules
begun_under rules events begins =
    subst (λ l. rules_of (past_of l) ≡ Some rules) begins.1 (rules_further (event.Start rules ∷ []) begins.0 rules refl)

-- calls of which each stands at all that those before it left are good calls of what they leave
good_in_turn : (start : List Event) (calls : List PoolCall) → StandInTurn start calls → GoodPoolCalls (start ++ added_in calls) calls
good_in_turn start [] turns = tt
good_in_turn start (call ∷ calls) turns = (
  record {
    before = start;
    after = added_in calls;
    stands = sym (append_assoc start call.added (added_in calls));
    at_front = sym turns.0;
    outcome = turns.1;
  },
  subst (λ l. GoodPoolCalls l calls) (append_assoc start call.added (added_in calls)) (good_in_turn (start ++ call.added) calls turns.2),
)

module _ (judge : CallsAreJudged) (stand : ConditionsStandByThemselves) (credit : CreditsAreCalled) (disjoint : SpacesAreDisjoint)
    (conserve : RewardsAreConserved) (count : NoShareTwice) where
  judged : (history : List Event) (call : PoolCall) → IsGoodPoolCall history call → JudgesByConditions history call
  judged history call good checked answer may asked outcome =
      let before = take call.front history in
      let by = stand may.rules before may.session (share_of checked.sub) in
      let is = judge history call checked answer may good asked outcome in
      record {
        credited = (λ added. (by None).0 (is.credited.0 added), λ none. is.credited.1 ((by None).1 none));
        work = λ none. is.work ((by None).1 none);
        refused = λ code fails. is.refused code ((by (Some code)).1 fails);
      }

  sound : (history : List Event) → Legal history → IsSound history
  sound history legal = record {
    legal = legal;
    once = count history legal;
    apart = λ before after parts. disjoint before after (subst Legal parts legal);
    rewards = λ rules block older reward. conserve history rules block older reward legal;
  }

  all_judged : (history : List Event) (calls : List PoolCall) → GoodPoolCalls history calls → AllByRecursion (JudgesByConditions history) calls
  all_judged history calls good = all-map (IsGoodPoolCall history) (JudgesByConditions history) (judged history) calls good

  pub keeps_history : (start history : List Event) (least most : ℕ) (calls : List PoolCall) → Begins start history → Legal history
      → Parted start history least most calls → GoodPoolCalls history calls → KeepsHistory start history least most calls
  keeps_history start history least most calls begins legal parted good = record {
    begins = begins;
    sound = sound history legal;
    parted = parted;
    answered = good;
    judged = all_judged history calls good;
    called = credit start history least most calls parted good;
  }

  keeps_in_turn : (start history : List Event) (calls : List PoolCall) → history ≡ start ++ added_in calls → Legal history → StandInTurn start calls
      → KeepsInTurn start history calls
  keeps_in_turn start history calls grows legal turns = record {
    grows = grows;
    turns = turns;
    sound = sound history legal;
    judged = all_judged history calls (subst (λ l. GoodPoolCalls l calls) (sym grows) (good_in_turn start calls turns));
  }

  module _ (line : ServedCallersAreAnswered) (sum : SummariesAreOfBlocks) where
    pub keeps_promise : (service : Service) (rules : Rules) (old new : Hall) (reason : SessionEnd) (ledger_faults door_faults door_memory : ℕ)
        → rules_of (past_of old.book.events) ≡ Some rules → (run : HasRun service old new reason ledger_faults door_faults door_memory)
        → KeepsItsPromise service rules old new reason ledger_faults door_faults door_memory run
    keeps_promise service rules old new reason ledger_faults door_faults door_memory are run = record {
      keeps =
          keeps_history old.book.events new.book.events old.book.keeper.faults new.book.keeper.faults (all_calls run.course run.shifts)
          run.begins run.kept.legal run.parted run.good;
      ledger = run.ledger;
      fed = run.fed;
      worked = run.worked;
      callers = line service old new reason ledger_faults door_faults door_memory rules are run;
      summed =
          sum new.book.events rules
          (subst (λ events. rules_of (past_of events) ≡ Some rules) run.begins.1 (rules_further old.book.events run.begins.0 rules are));
    }

    pub by_reached : (settings : Settings) (begun : BookSeen) (old new : NetworkSeen) (reached : ReachedSeen)
        → rules_of (past_of begun.events) ≡ Some settings.rules
        → (serves : ServesOnNetwork (service_by settings) (places_by settings) old new begun reached) → KeepsByReached settings begun old new reached serves
    by_reached settings begun old new (Served ended reason ledger_faults door_faults door_memory) are serves =
        keeps_promise (service_by settings) settings.rules
        (record { book = begun; doors = serves.doors; feed = serves.link })
        (record { book = ended; doors = serves.doors_back; feed = serves.link_back })
        reason ledger_faults door_faults door_memory are serves.ran
    by_reached settings begun old new (Unserved ended error) are serves = tt

    by_book : (settings : Settings) (keeper : KeeperSeen) (old new : WorldSeen) (status : Status) (row : ServesOnBook settings keeper old new status)
        → KeepsByBook settings keeper old new status row
    by_book settings keeper old new status (inl served) = (
      served.begins,
      by_reached settings served.begun old.network new.network served.reached
          (ap (λ events. rules_of (past_of events)) served.begins) served.serves,
    )
    by_book settings keeper old new status (inr no_start) = tt

    by_keeper : (settings : Settings) (ledger : List ℕ) (old new : WorldSeen) (status : Status) (row : ServesWithKeeper settings ledger old new status)
        → KeepsByKeeper settings ledger old new status row
    by_keeper settings ledger old new status (inl kept) =
        by_book settings kept.0 (record { host = kept.1; network = old.network }) new status kept.3
    by_keeper settings ledger old new status (inr refused) = tt

    by_settings : (ledger : List ℕ) (answer : Result Settings NoSettings) (old new : WorldSeen) (status : Status)
        (row : ServesAfterSettings ledger answer old new status) → KeepsBySettings ledger answer old new status row
    by_settings ledger (Ok settings) old new status row = by_keeper settings ledger old new status row
    by_settings ledger (Err no_settings) old new status row = tt

    pub serve_keeps : ServeKeepsItsPromise
    serve_keeps settings_name ledger_name old new status row =
        by_settings ledger_name row.serves.0 (record { host = row.serves.1; network = old.network }) new status row.serves.3

    by_ready : (settings : Settings) (disk : DiskSeen) (old new : Surroundings) (status : Status) (row : ServesNetworkOnDisk settings disk old new status)
        → KeepsByReady settings disk old new status row
    by_ready settings disk old new status (inl served) =
        let begins = ready_begins settings.rules disk served.ready served.is_ready in (
          begins,
          by_reached settings served.ready old.network new.network served.reached (begun_under settings.rules served.ready.events begins) served.serves,
        )
    by_ready settings disk old new status (inr unservable) = tt

    by_disk : (settings : Settings) (ledger : List ℕ) (old new : Surroundings) (status : Status) (row : ServesWithDisk settings ledger old new status)
        → KeepsByDisk settings ledger old new status row
    by_disk settings ledger old new status (inl kept) = by_ready settings kept.0 (around old.host old.network kept.1) new status kept.3
    by_disk settings ledger old new status (inr refused) = tt

    by_disk_settings : (ledger : List ℕ) (answer : Result Settings NoSettings) (old new : Surroundings) (status : Status)
        (row : ServesDiskAfterSettings ledger answer old new status) → KeepsByDiskSettings ledger answer old new status row
    by_disk_settings ledger (Ok settings) old new status row = by_disk settings ledger old new status row
    by_disk_settings ledger (Err no_settings) old new status row = tt

    pub durable_serve_keeps : DurableServeKeepsItsPromise
    durable_serve_keeps settings_name ledger_name old new status row =
        by_disk_settings ledger_name row.serves.0 (around row.serves.1 old.network old.disks) new status row.serves.3

    keeps_session : (rules : Rules) (manner : Manner) (from : List Event) (old new : Outsides) (reason : SessionEnd) (history : List Event)
        → rules_of (past_of from) ≡ Some rules → mines manner.role ≡ true
        → (session : IsSessionOn manner from old new reason history) → KeepsSession rules manner from history session.steps
    keeps_session rules manner from old new reason history are may session = record {
      shares = in_turn_answered sole_worker manner from rules session.steps session.last may are session.follows session.turns;
      keeps = keeps_in_turn from history (calls_in session.steps) session.begins session.kept.legal session.turns;
      summed =
          sum history rules
          (subst (λ l. rules_of (past_of l) ≡ Some rules) (sym session.begins) (rules_further from (added_in (calls_in session.steps)) rules are));
    }

    by_end : (declares : Bool) (rules : Rules) (idle_turns : ℕ) (old new : Outsides) (end : SoloEnd) (did : IsServed rules declares idle_turns old new end)
        → KeepsByEnd declares rules idle_turns old new end did
    by_end declares rules idle_turns old new (solo.Unbegun cause) did = tt
    by_end declares rules idle_turns old new (solo.Over reason) did =
        keeps_session rules (solo_manner rules declares idle_turns) (event.Start rules ∷ []) old new reason did.0 refl refl did.1

    by_streams : (declares : Bool) (settings : Settings) (keeper : KeeperSeen) (old new : HostSeen) (status : Status)
        (row : SessionRow declares settings keeper old new status) → KeepsByStreams declares settings keeper old new status row
    by_streams declares settings keeper old new status (inl ran) =
        by_end declares settings.rules settings.limits.idle_turns ran.2.given ran.2.back ran.0 ran.2.served.did
    by_streams declares settings keeper old new status (inr refused) = tt

    by_file : (declares : Bool) (settings : Settings) (ledger : List ℕ) (old new : HostSeen) (status : Status)
        (row : KeeperRow declares settings ledger old new status) → KeepsByFile declares settings ledger old new status row
    by_file declares settings ledger old new status (inl kept) = by_streams declares settings kept.0 kept.1 new status kept.3
    by_file declares settings ledger old new status (inr refused) = tt

    by_file_settings : (declares : Bool) (ledger : List ℕ) (answer : Result Settings NoSettings) (old new : HostSeen) (status : Status)
        (row : GoesOnFrom declares ledger answer old new status) → KeepsByFileSettings declares ledger answer old new status row
    by_file_settings declares ledger (Ok settings) old new status row = by_file declares settings ledger old new status row
    by_file_settings declares ledger (Err no_settings) old new status row = tt

    pub solo_keeps : SoloKeepsItsPromise
    solo_keeps declares settings_name ledger_name old new status row = by_file_settings declares ledger_name row.0 row.1 new status row.3

    by_disk_end : (rules : Rules) (idle_turns : ℕ) (old new : DiskOutsides) (end : DiskEnd) (served : ServesOnDisk rules idle_turns old new end)
        → KeepsByDiskEnd rules idle_turns old new end served
    by_disk_end rules idle_turns old new (ends.NoBook cause) served = tt
    by_disk_end rules idle_turns old new (ends.Over reason) served =
        let begins = ready_begins rules old.disk served.ready served.is_ready in (
          begins,
          keeps_session rules (solo_manner rules false idle_turns) served.ready.events
              (record { source = old.source; sink = old.sink; keeper = served.ready.keeper })
              (record { source = new.source; sink = new.sink; keeper = keeper_on new.disk })
              reason served.history (begun_under rules served.ready.events begins) refl served.serves.did,
        )

    by_disk_streams : (settings : Settings) (disk : DiskSeen) (old new : HostAndDisks) (status : Status)
        (row : DiskSessionRow settings disk old new status) → KeepsByDiskStreams settings disk old new status row
    by_disk_streams settings disk old new status (inl ran) =
        by_disk_end settings.rules settings.limits.idle_turns ran.2.given ran.2.back ran.0 ran.2.served
    by_disk_streams settings disk old new status (inr refused) = tt

    by_solo_disk : (settings : Settings) (ledger : List ℕ) (old new : HostAndDisks) (status : Status)
        (row : DiskRow settings ledger old new status) → KeepsBySoloDisk settings ledger old new status row
    by_solo_disk settings ledger old new status (inl kept) =
        by_disk_streams settings kept.0 (record { host = old.host; disks = kept.1 }) new status kept.3
    by_solo_disk settings ledger old new status (inr refused) = tt

    by_solo_disk_settings : (ledger : List ℕ) (answer : Result Settings NoSettings) (old new : HostAndDisks) (status : Status)
        (row : GoesOnWithDisk ledger answer old new status) → KeepsBySoloDiskSettings ledger answer old new status row
    by_solo_disk_settings ledger (Ok settings) old new status row = by_solo_disk settings ledger old new status row
    by_solo_disk_settings ledger (Err no_settings) old new status row = tt

    pub durable_solo_keeps : DurableSoloKeepsItsPromise
    durable_solo_keeps settings_name ledger_name old new status row =
        by_solo_disk_settings ledger_name row.0 (record { host = row.1; disks = old.disks }) new status row.3
