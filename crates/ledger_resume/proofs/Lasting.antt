-- What was there for good at a crash lasts through the crashes behind it.
use Rattle.std.proofs.Common.{◌≡◌, ◌⊎◌, inl, inr, ⊎_elim, Bool, true, false, ℕ, ◌≤◌, ◌<◌, zero, suc, None, Some, Option, List, [], ◌∷◌, ◌++◌, length, take, refl, ap, subst, sym, ◌∙◌, arith, length-append}
use Rattle.std.specs.List.{AllByRecursion}
use Rattle.pool_base.specs.Lists.{Begins}
use Rattle.pool_io.specs.Crashes.{NeverFell, RoseTo}
use Rattle.ledger_disk.specs.Calls.{DiskSeen}
use Rattle.ledger_disk.specs.Disks.{opened_disk}
use Rattle.ledger_disk.specs.Moments.{MayLeave, Moment}
use Rattle.ledger_disk.specs.declared.disk.Doing.TheVariants.{Synced}
use Rattle.ledger_disk.specs.Crashes.{AtEach, MayFind, counts_of, stored_entries}
use Rattle.ledger_disk.specs.Entries.{Opens, entries_on, magic}
use Rattle.pool_history.specs.declared.events.Event.{Event}
use Rattle.pool_history.specs.declared.events.Event.TheVariants as event
use Rattle.pool_history.specs.declared.settings.Rules.{Rules}
use Rattle.history_laws.specs.Legality.{EmptyIsLegal}
use Rattle.ledger_records.specs.Keeping.{IsKept}
use Rattle.ledger_records.specs.OneLedger.{LedgersAreOfOneHistory}
use Rattle.ledger_resume.specs.Histories.{IsHistoryOf}
use Rattle.share_ledger.specs.Recovery.{Recovers, count_begun, first_count}
use Rattle.share_ledger.proofs.Recovering.{pieces-length}
use Rattle.ledger_resume.specs.declared.cause.NoBook.{NoBook}
use Rattle.ledger_resume.specs.declared.leaving.TheConstants.{WORKERS}
use Rattle.ledger_resume.specs.Books.{GoesOnFromRecords, HasNoBook, HasNotBegun, HasNotLeft, IsBegun, IsNotMadeOf, IsNotResumed, IsOpenedLedger, LeavesFronts, LeavesJustFound, StoresJustFound, keeper_on}
use Rattle.ledger_resume.specs.Laws.{CrashesAreGoneOnWith}
use Rattle.ledger_resume.specs.Causes.{is_wrong}
use Rattle.ledger_resume.specs.Runs.{DiskRun, FollowEachOther, HasCrashed, HasGoneOn, HasStood, NothingStoredIsLost, OwnLedgersAreNotRefused}
use Rattle.ledger_resume.proofs.GoneOn.{begins_on, goes_on_from, made_on, may_at, none_begins, some_is}
use Rattle.ledger_resume.proofs.Leaves.{leave_begins}
use Rattle.ledger_resume.proofs.Opened.{settled_fresh}
use Rattle.ledger_resume.proofs.StartOf.{some_record}

same_or_not : (a b : ℕ) → (a ≡ b) ⊎ (a ≡ b → ⊥)
same_or_not zero zero = inl refl
same_or_not zero (suc b) = inr (λ same. omega (arith, same))
same_or_not (suc a) zero = inr (λ same. omega (arith, same))
same_or_not (suc a) (suc b) =
    ⊎_elim (λ same. inl (ap (λ (n : ℕ). suc n) same)) (λ apart. inr (λ same. apart (omega (arith, same)))) (same_or_not a b)

head_is : (x y : ℕ) (a b : List ℕ) → x ∷ a ≡ y ∷ b → x ≡ y
head_is x y a b same = cc

tail_is : (x y : ℕ) (a b : List ℕ) → x ∷ a ≡ y ∷ b → a ≡ b
tail_is x y a b same = cc

bytes_same_or_not : (a b : List ℕ) → (a ≡ b) ⊎ (a ≡ b → ⊥)
bytes_same_or_not [] [] = inl refl
bytes_same_or_not [] (y ∷ b) = inr (λ same. cc)
bytes_same_or_not (x ∷ a) [] = inr (λ same. cc)
bytes_same_or_not (x ∷ a) (y ∷ b) =
    ⊎_elim (λ same. ⊎_elim (λ rest. inl (ap (λ (l : List ℕ). x ∷ l) rest ∙ ap (λ (n : ℕ). n ∷ b) same)) (λ apart. inr (λ is. apart (tail_is x y a b is))) (bytes_same_or_not a b))
    (λ apart. inr (λ is. apart (head_is x y a b is))) (same_or_not x y)

few_or_more : (n m : ℕ) → (n ≤ m) ⊎ (m < n)
few_or_more zero m = inl (omega arith)
few_or_more (suc n) zero = inr (omega arith)
few_or_more (suc n) (suc m) = ⊎_elim (λ few. inl (omega (arith, few))) (λ more. inr (omega (arith, more))) (few_or_more n m)

-- opening finds something on any bytes
opens_so : (content : List ℕ) → (found : Option (List (List ℕ))) × Opens content found
opens_so content = elim (few_or_more (length content) 8) [
  | inl few ↦ (Some (entries_on content), (inl few, refl))
  | inr more ↦ elim (bytes_same_or_not (take 8 content) magic) [
    | inl is ↦ (Some (entries_on content), (inr is, refl))
    | inr apart ↦ (None, (more, apart))
  ]
]

-- and one thing alone
opens_one : (content : List ℕ) (records : List (List ℕ)) (found : Option (List (List ℕ))) → Opens content (Some records) → Opens content found → found ≡ Some records
opens_one content records None (inl few, is) foreign = absurd (omega (arith, few, foreign.0))
opens_one content records None (inr begins, is) foreign = absurd (foreign.1 begins)
opens_one content records (Some others) opens also = ap (λ (rs : List (List ℕ)). Some rs) (sym also.1 ∙ opens.1)

-- a ledger stands in these bytes whose history begins with these events
record Holds (front : List Event) (left : List ℕ) : Type 0 where
  records : List (List ℕ)
  opens : Opens left (Some records)
  past : List Event
  found : ((records ≡ []) × (past ≡ [])) ⊎ IsHistoryOf records past
  begins : Begins front past

past_length : (records : List (List ℕ)) (past : List Event) → ((records ≡ []) × (past ≡ [])) ⊎ IsHistoryOf records past → length past ≡ length records
past_length records past (inl none) = ap (λ (h : List Event). length h) none.1 ∙ sym (ap (λ (rs : List (List ℕ)). length rs) none.0)
past_length records [] (inr is) = absurd (no_start is.begun.first)
  where
    no_start : {e : Event} {more : List Event} → ◌≡◌ {A = List Event} [] (e ∷ more) → ⊥
    no_start same = cc
past_length records (e ∷ more) (inr is) = sym (ap (λ (rs : List (List ℕ)). length rs) is.pieces ∙ pieces-length (e ∷ more))

begins_length : (front past : List Event) → Begins front past → length front ≤ length past
begins_length front past begins =
    let same = ap (λ (h : List Event). length h) begins.1 in
    omega (arith, same, length-append front begins.0)

-- a longer front begins with a shorter one
begins_take : (front rest : List Event) (count : ℕ) → length front ≤ count → Begins front (take count (front ++ rest))
begins_take [] rest count few = (take count rest, refl)
begins_take (e ∷ front) rest zero few = absurd (omega (arith, few))
begins_take (e ∷ front) rest (suc count) few =
    let less = begins_take front rest count (omega (arith, few)) in
    (less.0, ap (λ (h : List Event). e ∷ h) less.1)

begins_front : (front history : List Event) (count : ℕ) → Begins front history → length front ≤ count → Begins front (take count history)
begins_front front history count begins few =
    subst (λ (h : List Event). Begins front (take count h)) begins.1 (begins_take front begins.0 count few)

-- counts that never fell are no less than the first
first_least : (last : ℕ) (earlier : List ℕ) → NeverFell last earlier → first_count last earlier ≤ last
first_least last [] never = omega arith
first_least last (count ∷ earlier) never = let less = first_least count earlier never.1 in omega (arith, less, never.0)

never_fell_at : (most : ℕ) (later : List Moment) (moment : Moment) (earlier : List Moment) → NeverFell most (counts_of (later ++ moment ∷ earlier))
    → NeverFell (length (stored_entries (moment ∷ earlier))) (counts_of earlier)
never_fell_at most [] moment earlier never = never.1
never_fell_at most (one ∷ later) moment earlier never = never_fell_at (length (stored_entries (one ∷ (later ++ moment ∷ earlier)))) later moment earlier never.1

first_at : (later : List Moment) (moment : Moment) (earlier : List Moment) (last : ℕ)
    → first_count last (counts_of (later ++ moment ∷ earlier)) ≡ first_count (length (stored_entries (moment ∷ earlier))) (counts_of earlier)
first_at [] moment earlier last = refl
first_at (one ∷ later) moment earlier last = first_at later moment earlier _

begun_at : (records : List (List ℕ)) (later : List Moment) (moment : Moment) (earlier : List Moment)
    → count_begun (Some records) (Some (counts_of (later ++ moment ∷ earlier))) ≡ Some (first_count (length (stored_entries (moment ∷ earlier))) (counts_of earlier))
begun_at records [] moment earlier = refl
begun_at records (one ∷ later) moment earlier = ap (λ (n : ℕ). Some n) (first_at later moment earlier _)

rose_at : (most : ℕ) (later : List Moment) (moment : Moment) (earlier : List Moment) → RoseTo most (counts_of (later ++ moment ∷ earlier))
    → first_count (length (stored_entries (moment ∷ earlier))) (counts_of earlier) ≤ length (stored_entries (moment ∷ earlier))
rose_at most [] moment earlier rose = first_least _ (counts_of earlier) rose.1
rose_at most (one ∷ later) moment earlier rose = first_least _ (counts_of earlier) (never_fell_at _ later moment earlier rose.1)

-- what holds at each moment of a call, and before it, holds at any moment
moments_empty : (later : List Moment) (moment : Moment) (earlier : List Moment) → ◌≡◌ {A = List Moment} [] (later ++ moment ∷ earlier) → ⊥
moments_empty [] moment earlier same = cc
moments_empty (one ∷ later) moment earlier same = cc

moments_tail : (x y : Moment) (a b : List Moment) → x ∷ a ≡ y ∷ b → a ≡ b
moments_tail x y a b same = cc

module _ (P : List Moment → Type 0) (first : Moment) (at_first : P (first ∷ [])) where
  at_moment : (calls later : List Moment) (moment : Moment) (earlier : List Moment) → AtEach P calls (first ∷ []) → calls ++ first ∷ [] ≡ later ++ moment ∷ earlier
      → P (moment ∷ earlier)
  at_moment [] [] moment earlier each same = subst P same at_first
  at_moment [] (one ∷ later) moment earlier each same = absurd (moments_empty later moment earlier (moments_tail first one [] (later ++ moment ∷ earlier) same))
  at_moment (call ∷ calls) [] moment earlier each same = subst P same each.0
  at_moment (call ∷ calls) (one ∷ later) moment earlier each same =
      at_moment calls later moment earlier each.1 (moments_tail call one (calls ++ first ∷ []) (later ++ moment ∷ earlier) same)

some_log : (a b : List Moment) → Some a ≡ Some b → a ≡ b
some_log a b same = cc

some_count : (a b : ℕ) → Some a ≡ Some b → a ≡ b
some_count a b same = cc

-- the moment at which a disk was opened by its name
abbrev opening_moment : List ℕ → Moment
opening_moment content = record { doing = Synced; content = content }

module _ (front : List Event) (found : List ℕ) (holds : Holds front found) where
  first_opens : (l : List ℕ) (entries : Option (List (List ℕ))) → MayLeave (opening_moment found ∷ []) l → Opens l entries → entries ≡ Some holds.records
  first_opens l entries leaves opens =
      opens_one found holds.records entries holds.opens (subst (λ (c : List ℕ). Opens c entries) (settled_fresh found l leaves) opens)

  none_opens : (entries : Option (List (List ℕ))) → Opens [] entries → entries_on found ≡ [] → entries ≡ Some holds.records
  none_opens entries opens none =
      opens_one [] [] entries (inl (omega arith), refl) opens ∙ ap (λ (rs : List (List ℕ)). Some rs) (sym none ∙ holds.opens.1)

  -- a crash while the disk was opened, or when nothing was done on it
  module _ (back : DiskSeen) (crash : LeavesJustFound (opened_disk (Some found)) back) (during : StoresJustFound (opened_disk (Some found)) back) where
    just_found : (later : List Moment) (moment : Moment) (earlier : List Moment) (left : List ℕ) → back.log ≡ Some (later ++ moment ∷ earlier)
        → MayLeave (moment ∷ earlier) left → Holds front left
    just_found later moment earlier left told leaves =
        let log : List Moment = later ++ moment ∷ earlier in
        let throughout = during (opening_moment found ∷ []) refl in
        let stored : stored_entries (moment ∷ earlier) ≡ entries_on found =
        at_moment (λ now. stored_entries now ≡ entries_on found) (opening_moment found) refl throughout.0 later moment earlier throughout.2
        (some_log (throughout.0 ++ opening_moment found ∷ []) log (sym throughout.1 ∙ told)) in
        let opens = opens_so left in
        let may : MayFind log (length (stored_entries (moment ∷ earlier))) opens.0 =
        may_at later (moment ∷ earlier) (length (stored_entries (moment ∷ earlier))) opens.0 (left, leaves, opens.1, refl) in
        let finds = (rw told at (crash (opening_moment found ∷ []) refl)) (length (stored_entries (moment ∷ earlier))) opens.0 may in
        let all : opens.0 ≡ Some holds.records =
        ⊎_elim
        (λ old. ⊎_elim (λ now. first_opens now.0 opens.0 now.1 now.2) (λ before.
        none_opens opens.0 (subst (λ (c : List ℕ). Opens c opens.0) before.1 before.2) (no_entries (entries_on found) (ap (λ (es : List (List ℕ)). length es) (sym stored) ∙ sym before.3))) old)
        (λ just. just.1 ∙ ap (λ (rs : List (List ℕ)). Some rs) holds.opens.1) finds in
        record {
          records = holds.records;
          opens = subst (λ (o : Option (List (List ℕ))). Opens left o) all opens.1;
          past = holds.past;
          found = holds.found;
          begins = holds.begins;
        }
      where
        no_entries : (es : List (List ℕ)) → length es ≡ 0 → es ≡ []
        no_entries [] none = refl
        no_entries (e ∷ es) none = absurd (omega (arith, none))

module _ (gone : CrashesAreGoneOnWith) (one : LedgersAreOfOneHistory) (empty : EmptyIsLegal) where
  -- a crash of a disk that leaves fronts of a history
  after_crash : (disk : DiskSeen) (history : List Event) (later : List Moment) (moment : Moment) (earlier : List Moment) (left : List ℕ) → LeavesFronts disk history → IsKept history
      → disk.log ≡ Some (later ++ moment ∷ earlier) → MayLeave (moment ∷ earlier) left → Holds (take (length (stored_entries (moment ∷ earlier))) history) left
  after_crash disk history later moment earlier left fronts kept told leaves =
      let count = length (stored_entries (moment ∷ earlier)) in
      let opens = opens_so left in
      let may : MayFind (later ++ moment ∷ earlier) count opens.0 = may_at later (moment ∷ earlier) count opens.0 (left, leaves, opens.1, refl) in
      let on = gone disk (later ++ moment ∷ earlier) history count opens.0 told fronts kept may in
      record {
        records = on.0;
        opens = subst (λ (o : Option (List (List ℕ))). Opens left o) on.1 opens.1;
        past = on.2.past;
        found = on.2.found;
        begins = on.2.answered;
      }

  -- a ledger that was opened begins with the records that were found
  ledger_begun : (found : List ℕ) (ledger : DiskSeen) (records : List (List ℕ)) → IsOpenedLedger (opened_disk (Some found)) ledger records
      → count_begun (keeper_on ledger).records (keeper_on ledger).stored ≡ Some (length (entries_on found))
  ledger_begun found ledger records opened =
      let during = opened.during (opening_moment found ∷ []) refl in
      rw during.1 (begun_at (stored_entries (during.0 ++ opening_moment found ∷ [])) during.0 (opening_moment found) [])

  -- a history that goes on from what was found, with a keeper whose first moment is the ledger's
  module _ (front : List Event) (found : List ℕ) (holds : Holds front found) (ledger : DiskSeen) (records : List (List ℕ)) (opened : IsOpenedLedger (opened_disk (Some found)) ledger records)
      (disk : DiskSeen) (history : List Event) (begins : Begins front history) (kept : IsKept history) (fronts : LeavesFronts disk history)
      (begun : count_begun (keeper_on disk).records (keeper_on disk).stored ≡ count_begun (keeper_on ledger).records (keeper_on ledger).stored) where
    goes_on : (later : List Moment) (moment : Moment) (earlier : List Moment) (left : List ℕ) → disk.log ≡ Some (later ++ moment ∷ earlier) → MayLeave (moment ∷ earlier) left
        → Holds front left
    goes_on later moment earlier left told leaves =
        let count = length (stored_entries (moment ∷ earlier)) in
        let log : List Moment = later ++ moment ∷ earlier in
        let first : first_count count (counts_of earlier) ≡ length (entries_on found) =
        some_count _ _ (sym (begun_at (stored_entries log) later moment earlier) ∙ ((rw told at begun) ∙ ledger_begun found ledger records opened)) in
        let recovers : Recovers history (stored_entries log) (counts_of log) (MayFind log) = rw told at fronts in
        let least = rose_at (length history) later moment earlier recovers.rose in
        let entries = ap (λ (rs : List (List ℕ)). length rs) holds.opens.1 in
        let few : length front ≤ count =
        omega (arith, first, least, begins_length front holds.past holds.begins, past_length holds.records holds.past holds.found, entries) in
        let after = after_crash disk history later moment earlier left fronts kept told leaves in
        record {
          records = after.records;
          opens = after.opens;
          past = after.past;
          found = after.found;
          begins = begins_on front (take count history) after.past (begins_front front history count begins few) after.begins;
        }

  same_records : (front : List Event) (found : List ℕ) (holds : Holds front found) (records : List (List ℕ)) → Opens found (Some records) → records ≡ holds.records
  same_records front found holds records opens = some_is records holds.records (opens_one found holds.records (Some records) holds.opens opens)

  module _ (front : List Event) (run : DiskRun) (holds : Holds front run.found) (crashed : HasCrashed run) where
    found_of : (records : List (List ℕ)) → Opens run.found (Some records) → ((records ≡ []) × (holds.past ≡ [])) ⊎ IsHistoryOf records holds.past
    found_of records opens =
        subst (λ (rs : List (List ℕ)). ((rs ≡ []) × (holds.past ≡ [])) ⊎ IsHistoryOf rs holds.past) (sym (same_records front run.found holds records opens)) holds.found

    -- a book that is ready goes on
    ready_begins : HasGoneOn run → Begins front run.history
    ready_begins on =
        let opened = on.is_ready.2 in
        begins_on front on.ready.events run.history
        (made_on gone one run.rules on.is_ready.1 front holds.past on.ready.events holds.begins (found_of on.is_ready.1 (opened.holds _ refl)) on.is_ready.3.made) on.begins

    by_book : HasGoneOn run → Holds front run.left
    by_book on =
        goes_on front run.found holds on.is_ready.0 on.is_ready.1 on.is_ready.2 run.disk run.history (ready_begins on) on.is_kept on.leaves (on.begun ∙ on.is_ready.3.begun)
        crashed.later crashed.moment crashed.earlier run.left crashed.told crashed.leaves

    by_opening : (disk : DiskSeen) → disk ≡ run.disk → LeavesJustFound (opened_disk (Some run.found)) disk → StoresJustFound (opened_disk (Some run.found)) disk → Holds front run.left
    by_opening disk same crash during =
        just_found front run.found holds disk crash during crashed.later crashed.moment crashed.earlier run.left
        (ap (λ (d : DiskSeen). d.log) same ∙ crashed.told) crashed.leaves

    unbegun : (ledger : DiskSeen) (records : List (List ℕ)) (cause : NoBook) → IsOpenedLedger (opened_disk (Some run.found)) ledger records → HasNotBegun records ledger run.disk cause
        → Holds front run.left
    unbegun ledger records cause opened none =
        let after = after_crash run.disk [] crashed.later crashed.moment crashed.earlier run.left none.leaves (record { legal = empty; has_ledger = tt }) crashed.told crashed.leaves in
        record {
          records = after.records;
          opens = after.opens;
          past = after.past;
          found = after.found;
          begins = nothing_found (found_of records (opened.holds _ refl)) after.past;
        }
      where
        nothing_found : ((records ≡ []) × (holds.past ≡ [])) ⊎ IsHistoryOf records holds.past → (past : List Event) → Begins front past
        nothing_found (inl nothing) past = none_begins front past holds.past holds.begins nothing.1
        nothing_found (inr is) past = absurd (some_record holds.past (subst (λ (rs : List (List ℕ)). IsHistoryOf rs holds.past) none.unused is))

    not_left : (ledger : DiskSeen) (records : List (List ℕ)) (cause : NoBook) → IsOpenedLedger (opened_disk (Some run.found)) ledger records
        → HasNotLeft run.rules records ledger run.disk cause → Holds front run.left
    not_left ledger records cause opened stands =
        goes_on front run.found holds ledger records opened run.disk stands.events
        (begins_on front stands.past stands.events
        (goes_on_from gone one records front holds.past stands.past holds.begins (found_of records (opened.holds _ refl)) stands.of_pool.history)
        (leave_begins stands.worker stands.past stands.events stands.left)) stands.is_kept stands.leaves stands.begun crashed.later crashed.moment crashed.earlier run.left crashed.told crashed.leaves

    not_made : (ledger : DiskSeen) (records : List (List ℕ)) (cause : NoBook) → IsOpenedLedger (opened_disk (Some run.found)) ledger records
        → IsNotMadeOf run.rules ledger records run.disk cause → Holds front run.left
    not_made ledger records cause opened (inl none) = unbegun ledger records cause opened none
    not_made ledger records cause opened (inr (inl same)) = by_opening ledger (sym same.same) opened.crash opened.during
    not_made ledger records cause opened (inr (inr stands)) = not_left ledger records cause opened stands

    no_book : (cause : NoBook) → HasNoBook run.rules (opened_disk (Some run.found)) run.disk cause → Holds front run.left
    no_book cause (inl unopened) = by_opening run.disk refl unopened.crash unopened.during
    no_book cause (inr opened) = not_made opened.0 opened.1 cause opened.2 opened.3

    by_run : HasGoneOn run ⊎ HasStood run → Holds front run.left
    by_run (inl on) = by_book on
    by_run (inr (inl stood)) = no_book stood.0 stood.1
    by_run (inr (inr (inl opened))) = by_opening run.disk refl opened.1.crash opened.1.during
    by_run (inr (inr (inr untouched))) =
        by_opening (opened_disk (Some run.found)) (sym untouched)
        (λ log is count found may. inl (subst (λ (l : List Moment). MayFind l count found) (some_log (opening_moment run.found ∷ []) log is) may))
        (λ log is. ([], is, tt))

  through : (front : List Event) (found : List ℕ) (runs : List DiskRun) → Holds front found → FollowEachOther found runs
      → AllByRecursion (λ (later : DiskRun). HasGoneOn later → Begins front later.history) runs
  through front found [] holds follow = tt
  through front found (run ∷ runs) holds follow =
      let here : Holds front run.found = subst (λ (c : List ℕ). Holds front c) (sym follow.0) holds in
      (λ on. ready_begins front run here follow.2 on, through front run.left runs (by_run front run here follow.2 follow.1) follow.3)

  pub lasting : NothingStoredIsLost
  lasting found run runs follow on =
      let crashed = follow.2 in
      through (take run.count run.history) run.left runs
      (subst (λ (n : ℕ). Holds (take n run.history) run.left) crashed.stored
      (after_crash run.disk run.history crashed.later crashed.moment crashed.earlier run.left on.leaves on.is_kept crashed.told crashed.leaves)) follow.3

  -- a run's history begins with the Start of its rules
  made_starts : (rules : Rules) (records : List (List ℕ)) (events : List Event) → IsBegun rules records events ⊎ GoesOnFromRecords rules records events
      → Begins (event.Start rules ∷ []) events
  made_starts rules records events (inl begun) = ([], sym begun.begins)
  made_starts rules records events (inr on) =
      begins_on (event.Start rules ∷ []) on.past events on.of_pool.starts (leave_begins WORKERS on.past events on.left)

  not_true : (b : Bool) → (b ≡ true → ⊥) → b ≡ false
  not_true true never = absurd (never refl)
  not_true false never = refl

  none_some : (records : List (List ℕ)) → ◌≡◌ {A = Option (List (List ℕ))} None (Some records) → ⊥
  none_some records same = cc

  no_first : (e : Event) (past : List Event) → Begins (e ∷ []) past → past ≡ [] → ⊥
  no_first e past begins none = empty_list (begins.1 ∙ none)
    where
      empty_list : ◌≡◌ {A = List Event} (e ∷ begins.0) [] → ⊥
      empty_list same = cc

  not_wrong : (rules : Rules) (found : List ℕ) (holds : Holds (event.Start rules ∷ []) found) (back : DiskSeen) (cause : NoBook) → HasNoBook rules (opened_disk (Some found)) back cause
      → is_wrong cause ≡ false
  not_wrong rules found holds back cause (inl unopened) =
      not_true (is_wrong cause) (λ wrong. none_some holds.records (opens_one found holds.records None holds.opens (unopened.foreign wrong (opening_moment found ∷ []) refl)))
  not_wrong rules found holds back cause (inr opened) = not_made_wrong opened.1 opened.2 opened.3
    where
      resumed_wrong : (records : List (List ℕ)) → Opens found (Some records) → IsNotResumed rules records opened.0 back cause → is_wrong cause ≡ true → ⊥
      resumed_wrong records opens stands wrong =
          let same = same_records (event.Start rules ∷ []) found holds records opens in
          ⊎_elim (λ none. no_first (event.Start rules) holds.past holds.begins none.1)
          (λ is. stands.others wrong holds.past (record { history = subst (λ (rs : List (List ℕ)). IsHistoryOf rs holds.past) (sym same) is; starts = holds.begins })) holds.found

      not_made_wrong : (records : List (List ℕ)) → IsOpenedLedger (opened_disk (Some found)) opened.0 records → IsNotMadeOf rules opened.0 records back cause → is_wrong cause ≡ false
      not_made_wrong records is (inl none) = none.own
      not_made_wrong records is (inr (inl stands)) = not_true (is_wrong cause) (resumed_wrong records (is.holds _ refl) stands)
      not_made_wrong records is (inr (inr stands)) = stands.own

  never_wrong : (rules : Rules) (found : List ℕ) (runs : List DiskRun) → Holds (event.Start rules ∷ []) found → FollowEachOther found runs
      → AllByRecursion
      (λ (later : DiskRun). later.rules ≡ rules → (back : DiskSeen) (cause : NoBook) → HasNoBook later.rules (opened_disk (Some later.found)) back cause → is_wrong cause ≡ false) runs
  never_wrong rules found [] holds follow = tt
  never_wrong rules found (run ∷ runs) holds follow =
      let here : Holds (event.Start rules ∷ []) run.found = subst (λ (c : List ℕ). Holds (event.Start rules ∷ []) c) (sym follow.0) holds in (
        λ same back cause none.
            not_wrong rules run.found here back cause (subst (λ (r : Rules). HasNoBook r (opened_disk (Some run.found)) back cause) same none),
        never_wrong rules run.left runs (by_run (event.Start rules ∷ []) run here follow.2 follow.1) follow.3,
      )

  pub not_refused : OwnLedgersAreNotRefused
  not_refused found run runs follow on some =
      let crashed = follow.2 in
      let starts : Begins (event.Start run.rules ∷ []) run.history =
      begins_on (event.Start run.rules ∷ []) on.ready.events run.history (made_starts run.rules on.is_ready.1 on.ready.events on.is_ready.3.made) on.begins in
      let after = after_crash run.disk run.history crashed.later crashed.moment crashed.earlier run.left on.leaves on.is_kept crashed.told crashed.leaves in
      let count = length (stored_entries (crashed.moment ∷ crashed.earlier)) in
      never_wrong run.rules run.left runs (record {
        records = after.records;
        opens = after.opens;
        past = after.past;
        found = after.found;
        begins = begins_on (event.Start run.rules ∷ []) (take count run.history) after.past
            (begins_front (event.Start run.rules ∷ []) run.history count starts (omega (arith, some, crashed.stored))) after.begins;
      }) follow.3
