-- What making a ledger anew leaves.
use Rattle.std.proofs.Common.{◌≡◌, inl, inr, ⊎_elim, ℕ, zero, suc, ◌+◌, ◌≤◌, Bool, false, List, [], ◌∷◌, ◌++◌, Option, None, Some, Result, Ok, Err, IsErr, length, take, drop, refl, sym, ◌∙◌, ap, subst, arith, length-drop, if◌then◌else◌}
use Rattle.std.proofs.lemmas.Bool.{false≢true}
use Rattle.std.proofs.lemmas.Bool.Decides.{nat_tests}
use Rattle.std.proofs.lemmas.List.{length-take}
use Rattle.ledger_disk.specs.declared.disk.DiskFailed.{DiskFailed}
use Rattle.ledger_disk.specs.declared.disk.DiskFailed.TheVariants.{Failed, Memory}
use Rattle.ledger_disk.specs.declared.disk.Doing.TheVariants.{CutTo, Synced, Wrote}
use Rattle.ledger_disk.specs.Calls.{LogsCut}
use Rattle.ledger_disk.specs.Moments.{Moment, TornCut, TornWrite, last_content, synced_content, with_call}
use Rattle.ledger_disk.proofs.Crashes.{content_left, cut_done}
use Rattle.ledger_disk.specs.declared.steps.PutFailed.TheVariants.{Unwritten, Unsure}
use Rattle.ledger_disk.specs.Crashes.{FindsJust, LeavesOnly, MayFind, Throughout, stored_entries}
use Rattle.ledger_disk.specs.Entries.{Begins, IsBlank, Opens, entries_on, found_in, front, is_entry, magic, said_length}
use Rattle.ledger_disk.specs.Steps.{LogsTry, Makes}
use Rattle.ledger_disk.proofs.Finding.{found_closed, opens_just}
use Rattle.ledger_disk.proofs.Moments.{Puts, finds_since, only_synced, puts_each, some_is, throughout_over}
use Rattle.ledger_disk.proofs.Putting.{put_leaves}
use Rattle.ledger_disk.proofs.Shutting.{holds_stored}

-- nothing is found in at most one byte
few_found : (most : ℕ) (rest : List ℕ) → length rest ≤ 1 → found_in most rest ≡ []
few_found zero rest few = refl
few_found (suc most) [] few = refl
few_found (suc most) (gate ∷ []) few =
    let no_entry : is_entry gate [] ≡ false = grind (arith, nat_tests) in
    ap (λ (b : Bool). if b then take (said_length []) (drop 4 []) ∷ found_in most (drop (4 + said_length []) []) else []) no_entry
few_found (suc most) (gate ∷ next ∷ rest) few = absurd (omega (arith, few))

-- so in none and one byte behind the magic
pub nine_found : (c : List ℕ) → length c ≤ 9 → entries_on c ≡ []
nine_found c few = few_found (length c) (drop 8 c) (omega (arith, few, length-drop 8 c))

blank_opens : (c : List ℕ) → IsBlank c → (found : Option (List (List ℕ))) → Opens c found → found ≡ Some []
blank_opens c blank None foreign = absurd (omega (arith, blank, foreign.0))
blank_opens c blank (Some entries) opens = ap (λ (l : List (List ℕ)). Some l) (sym opens.1 ∙ nine_found c (omega (arith, blank)))

-- a crash leaves no entries, and none were stored
abbrev FindsEmpty : ℕ → Option (List (List ℕ)) → Type 0
FindsEmpty count found = (count ≡ 0) × (found ≡ Some [])

-- behind a sync a crash leaves what a read gives
pub synced_only : (content : List ℕ) (older : List Moment) → LeavesOnly (λ c. c ≡ content) (with_call Synced content older)
synced_only content older left may = ⊎_elim (λ (is : left ≡ content). is) (λ broken. absurd broken.2) may

-- what a put that failed may have done
pub try_failed : (P : List ℕ → Type 0) (at : ℕ) (bytes : List ℕ) (old : List Moment) → at ≤ length (last_content old) → ((d c : List ℕ) → P d → TornWrite at (length bytes) d c → P c) → LeavesOnly P old
    → (error : DiskFailed) (told : Option (List Moment)) → LogsTry at bytes (Err error) old told → Puts P (λ c. ⊥) old told
try_failed P at bytes old inside stays all error told logs =
    ⊎_elim (λ none. (put_leaves P (λ c. Unit {0}) at bytes old inside stays (λ here. tt) all (Err Unwritten) told none).0)
    (λ some. (put_leaves P (λ c. Unit {0}) at bytes old inside stays (λ here. tt) all (Err (Unsure error)) told some).0) logs

-- the disk was cut, or may have been cut
module _ (old : List Moment) where
  abbrev cut_log : List ℕ → List Moment
  cut_log content = with_call (CutTo 0) content old

  cut_blank : LeavesOnly IsBlank old → (content : List ℕ) → TornCut 0 (last_content old) content → LeavesOnly IsBlank (cut_log content)
  cut_blank blank content torn left may =
      ⊎_elim (λ (is : left ≡ content). subst IsBlank (sym is) (shorter (last_content old) content (blank (last_content old) (content_left old)) torn))
      (λ from. shorter from.0 left (blank from.0 from.1) from.2) may
    where
      shorter : (d c : List ℕ) → IsBlank d → TornCut 0 d c → IsBlank c
      shorter d c few torn = omega (arith, few, ap length torn.front, length-take (length c) d)

  none_stored : LeavesOnly IsBlank old → length (stored_entries old) ≡ 0
  none_stored blank = ap length (nine_found (synced_content old) (omega (arith, only_synced IsBlank old blank)))

  finds_blank : LeavesOnly IsBlank old → (left : List ℕ) (found : Option (List (List ℕ))) → IsBlank left → Opens left found → FindsEmpty (length (stored_entries old)) found
  finds_blank blank left found few opens = (none_stored blank, blank_opens left few found opens)

  cut_finds : LeavesOnly IsBlank old → (content : List ℕ) → TornCut 0 (last_content old) content → FindsJust [] (MayFind old) (MayFind (cut_log content))
  cut_finds blank content torn =
      finds_since IsBlank (λ c. ⊥) old FindsEmpty (finds_blank blank) (λ left synced found none was opens. absurd none)
      (record { doing = CutTo 0; content = content } ∷ []) (inl (cut_blank blank content torn, refl), tt)

  -- none are stored throughout
  abbrev EmptyThrough : Option (List Moment) → Type 0
  EmptyThrough told = Throughout (λ now. stored_entries now ≡ []) old told

  blank_stored : LeavesOnly IsBlank old → stored_entries old ≡ []
  blank_stored blank = nine_found (synced_content old) (omega (arith, only_synced IsBlank old blank))

  cut_through : LeavesOnly IsBlank old → (content : List ℕ) (told : Option (List Moment)) → told ≡ Some (cut_log content) → EmptyThrough told
  cut_through blank content told is = (record { doing = CutTo 0; content = content } ∷ [], is, (blank_stored blank, tt))

  unmade : (result : Result (Unit {0}) DiskFailed) → IsErr result → (told : Option (List Moment)) (log : List Moment) → told ≡ Some log
      → (LeavesOnly IsBlank old → EmptyThrough told) → (LeavesOnly IsBlank old → FindsJust [] (MayFind old) (MayFind log)) → Makes result old told
  unmade (Ok u) failed told log tells through crash = absurd (false≢true failed)
  unmade (Err error) failed told log tells through crash = record { log = log; tells = tells; none = tt; only = tt; holds = tt; during = through; crash = crash }

  -- a failure of the first step
  pub made_uncut : (result : Result (Unit {0}) DiskFailed) → IsErr result → (error : DiskFailed) (told : Option (List Moment)) → LogsCut 0 (Err error) old told → Makes result old told
  made_uncut result failed Failed told is = unmade result failed told (cut_log is.0) is.2 (λ blank. cut_through blank is.0 told is.2) (λ blank. cut_finds blank is.0 is.1)
  made_uncut result failed Memory told is = unmade result failed told old is (λ blank. ([], is, tt)) (λ blank count found may. inl may)

  -- the disk is cut
  abbrev pub empty_log : List Moment
  empty_log = cut_log []

  write_stays : (d c : List ℕ) → IsBlank d → TornWrite 0 8 d c → IsBlank c
  write_stays d c few torn = omega (arith, few, torn.no_longer)

  empty_blank : LeavesOnly IsBlank old → LeavesOnly IsBlank empty_log
  empty_blank blank = cut_blank blank [] (cut_done 0 (last_content old))

  empty_finds : LeavesOnly IsBlank old → FindsJust [] (MayFind old) (MayFind empty_log)
  empty_finds blank = cut_finds blank [] (cut_done 0 (last_content old))

  over : (mid : List Moment) → FindsJust [] (MayFind old) (MayFind mid) → (log : List Moment) → FindsJust [] (MayFind mid) (MayFind log) → FindsJust [] (MayFind old) (MayFind log)
  over mid first log more count found may = ⊎_elim (λ was. first count found was) (λ now. inr now) (more count found may)

  finds_empty : LeavesOnly IsBlank old → (left : List ℕ) (found : Option (List (List ℕ))) → IsBlank left → Opens left found → FindsEmpty (length (stored_entries empty_log)) found
  finds_empty blank left found few opens = (none_stored blank, blank_opens left few found opens)

  -- what a put of the magic leaves: eight bytes at most until it is synced
  marking : LeavesOnly IsBlank old → (S : List ℕ → Type 0) → ((left synced : List ℕ) (found : Option (List (List ℕ))) → S left → S synced → Opens left found → FindsEmpty (length (entries_on synced)) found)
      → (told : Option (List Moment)) → (puts : Puts IsBlank S empty_log told) → FindsJust [] (MayFind old) (MayFind puts.log)
  marking blank S after told puts =
      over empty_log (empty_finds blank) puts.log (λ count found may. finds_since IsBlank S empty_log FindsEmpty (finds_empty blank) after puts.steps puts.each count found
      (subst (λ (l : List Moment). MayFind l count found) puts.grown may))

  blank_put : LeavesOnly IsBlank old → (error : DiskFailed) (told : Option (List Moment)) → LogsTry 0 magic (Err error) empty_log told → Puts IsBlank (λ c. ⊥) empty_log told
  blank_put blank error told is = try_failed IsBlank 0 magic empty_log (omega arith) write_stays (empty_blank blank) error told is

  put_tells : (error : DiskFailed) (at : ℕ) (bytes : List ℕ) (log : List Moment) (told : Option (List Moment)) → LogsTry at bytes (Err error) log told → (new : List Moment) × (told ≡ Some new)
  put_tells error at bytes log told is = ⊎_elim (λ none. (log, none)) (λ some. (_, some.2)) is

  -- a failure while the magic is put
  pub made_unmarked : (result : Result (Unit {0}) DiskFailed) → IsErr result → (error : DiskFailed) (told : Option (List Moment)) → LogsTry 0 magic (Err error) empty_log told → Makes result old told
  made_unmarked result failed error told is =
      let tells = put_tells error 0 magic empty_log told is in
      unmade result failed told tells.0 tells.1
      (λ blank. throughout_over (λ now. stored_entries now ≡ []) old empty_log told (cut_through blank [] (Some empty_log) refl)
      (puts_each (λ es. es ≡ []) IsBlank (λ c. ⊥) empty_log (blank_stored blank) (λ c none. absurd none) told (blank_put blank error told is)))
      (λ blank.
      let puts = blank_put blank error told is in
      subst (λ (l : List Moment). FindsJust [] (MayFind old) (MayFind l)) (some_is puts.log tells.0 (sym puts.tells ∙ tells.1))
      (marking blank (λ c. ⊥) (λ left synced found none was opens. absurd none) told puts))

  -- the magic is there
  abbrev pub marked_log : List Moment
  marked_log = with_call Synced magic (with_call (Wrote 0 8) magic empty_log)

  marked_only : LeavesOnly (λ c. c ≡ magic) marked_log
  marked_only = synced_only magic (with_call (Wrote 0 8) magic empty_log)

  magic_opens : (left synced : List ℕ) (found : Option (List (List ℕ))) → left ≡ magic → synced ≡ magic → Opens left found → FindsEmpty (length (entries_on synced)) found
  magic_opens left synced found is was opens =
      (ap (λ (c : List ℕ). length (entries_on c)) was, blank_opens left (omega (arith, ap length is)) found opens)

  marked_finds : LeavesOnly IsBlank old → FindsJust [] (MayFind old) (MayFind marked_log)
  marked_finds blank =
      let puts = (put_leaves IsBlank (λ c. c ≡ magic) 0 magic empty_log (omega arith) write_stays (λ here. refl) (empty_blank blank) (Ok tt) (Some marked_log) refl).0 in
      subst (λ (l : List Moment). FindsJust [] (MayFind old) (MayFind l)) (some_is puts.log marked_log (sym puts.tells)) (marking blank (λ c. c ≡ magic) magic_opens (Some marked_log) puts)

  marked_through : LeavesOnly IsBlank old → EmptyThrough (Some marked_log)
  marked_through blank = (
    record { doing = Synced; content = magic } ∷ record { doing = Wrote 0 8; content = magic } ∷ record { doing = CutTo 0; content = [] } ∷ [],
    refl,
    (refl, (blank_stored blank, (blank_stored blank, tt))),
  )

  -- behind it there is at most one byte
  abbrev IsMarked : List ℕ → Type 0
  IsMarked c = (take 8 c ≡ magic) × (length c ≤ 9)

  marked_all : LeavesOnly IsMarked marked_log
  marked_all left may = let is = marked_only left may in (ap (λ (c : List ℕ). take 8 c) is, omega (arith, ap length is))

  gate_stays : (d c : List ℕ) → IsMarked d → TornWrite 8 1 d c → IsMarked c
  gate_stays d c marked torn = (torn.before ∙ marked.0, omega (arith, marked.1, torn.no_longer))

  finds_marked : (left : List ℕ) (found : Option (List (List ℕ))) → IsMarked left → Opens left found → FindsEmpty (length (stored_entries marked_log)) found
  finds_marked left found marked opens = (refl, opens_just [] left marked.0 (nine_found left marked.1) found opens)

  abbrev IsClosed : List ℕ → Type 0
  IsClosed c = c ≡ magic ++ 0 ∷ []

  closed_begins : (c : List ℕ) → IsClosed c → Begins (front [] ++ 0 ∷ []) c
  closed_begins c is = ([], is)

  closed_found : (c : List ℕ) → IsClosed c → entries_on c ≡ []
  closed_found c is = found_closed [] tt c (closed_begins c is)

  finds_closed : (left synced : List ℕ) (found : Option (List (List ℕ))) → IsClosed left → IsClosed synced → Opens left found → FindsEmpty (length (entries_on synced)) found
  finds_closed left synced found is was opens =
      (ap length (closed_found synced was), opens_just [] left (ap (λ (c : List ℕ). take 8 c) is) (closed_found left is) found opens)

  closing : LeavesOnly IsBlank old → (S : List ℕ → Type 0) → ((left synced : List ℕ) (found : Option (List (List ℕ))) → S left → S synced → Opens left found → FindsEmpty (length (entries_on synced)) found)
      → (told : Option (List Moment)) → (puts : Puts IsMarked S marked_log told) → FindsJust [] (MayFind old) (MayFind puts.log)
  closing blank S after told puts =
      over marked_log (marked_finds blank) puts.log (λ count found may. finds_since IsMarked S marked_log FindsEmpty finds_marked after puts.steps puts.each count found
      (subst (λ (l : List Moment). MayFind l count found) puts.grown may))

  -- the first gate is put, or isn't
  pub made_gate : (result : Result (Unit {0}) DiskFailed) (told : Option (List Moment)) → LogsTry 8 (0 ∷ []) result marked_log told → Makes result old told
  made_gate (Err error) told is =
      let puts = try_failed IsMarked 8 (0 ∷ []) marked_log (omega arith) gate_stays marked_all error told is in
      record {
        log = puts.log;
        tells = puts.tells;
        none = tt;
        only = tt;
        holds = tt;
        during = λ blank. throughout_over (λ now. stored_entries now ≡ []) old marked_log told (marked_through blank)
            (puts_each (λ es. es ≡ []) IsMarked (λ c. ⊥) marked_log refl (λ c none. absurd none) told puts);
        crash = λ blank. closing blank (λ c. ⊥) (λ left synced found none was opens. absurd none) told puts;
      }
  made_gate (Ok u) told is =
      let puts = put_leaves IsMarked IsClosed 8 (0 ∷ []) marked_log (omega arith) gate_stays (λ here. refl) marked_all (Ok tt) told is in
      let log = puts.0.log in
      let none : stored_entries log ≡ [] = closed_found (synced_content log) (only_synced IsClosed log puts.1) in
      record {
        log = log;
        tells = puts.0.tells;
        none = none;
        only = λ left may. let is = puts.1 left may in (inr (ap (λ (c : List ℕ). take 8 c) is), closed_found left is ∙ sym none);
        holds = holds_stored 8 false [] log (record { short = tt; size = refl; stored = none; gated = λ left may. closed_begins left (puts.1 left may) });
        during = λ blank. throughout_over (λ now. stored_entries now ≡ []) old marked_log told (marked_through blank)
            (puts_each (λ es. es ≡ []) IsMarked IsClosed marked_log refl closed_found told puts.0);
        crash = λ blank. closing blank IsClosed finds_closed told puts.0;
      }
