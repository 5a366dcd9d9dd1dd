-- What the puts of an entry and of the gate before it leave of a ledger whose last gate is closed.
use Rattle.std.proofs.Common.{◌≡◌, ◌⊎◌, inl, inr, ⊎_elim, ℕ, ◌+◌, ◌≤◌, true, false, List, [], ◌∷◌, ◌++◌, Option, None, Some, Result, Ok, Err, length, refl, sym, ◌∙◌, ap, subst, arith, append_assoc, length-append}
use Rattle.std.specs.Int.{w32, to_le_bytes}
use Rattle.pool_io.specs.declared.keeper.KeeperFailed.{KeeperFailed}
use Rattle.ledger_disk.specs.declared.disk.DiskFailed.{DiskFailed}
use Rattle.ledger_disk.specs.Calls.{overwritten}
use Rattle.ledger_disk.specs.Moments.{MayLeave, Moment, last_content, synced_content}
use Rattle.ledger_disk.specs.declared.steps.PutFailed.{PutFailed}
use Rattle.ledger_disk.specs.declared.steps.PutFailed.TheVariants.{Unwritten, Unsure}
use Rattle.ledger_disk.specs.Crashes.{LeavesOnly, MayFind, StoresMore, Throughout, stored_entries}
use Rattle.ledger_disk.specs.Entries.{AreShort, Begins, HasBehind, Opens, body, entries_on, front}
use Rattle.ledger_disk.specs.Steps.{Adds, CountsOn, HoldsLedger, LogsPut}
use Rattle.ledger_disk.proofs.Counting.{counts_over, counts_put, throughout_counts}
use Rattle.ledger_disk.proofs.Finding.{found_closed, found_either, front_more, has_magic, opens_just}
use Rattle.ledger_disk.proofs.Moments.{AreWithin, Puts, PutsWithin, finds_now, finds_since, only_synced, puts_each, some_is, throughout_all, throughout_over}
use Rattle.ledger_disk.proofs.Putting.{inside_behind, inside_gate, puts_behind, puts_gate}
use Rattle.ledger_disk.proofs.Shutting.{holds_stored}

abbrev TellsNone : Option (List Moment) → Type 0
TellsNone None = Unit {0}
TellsNone (Some log) = ⊥

-- who tells nothing tells no log
pub none_tells : (log : List Moment) → None ≡ Some log → ⊥
none_tells log same = subst TellsNone same tt

-- bytes that begin with two parts begin with the first
part : (start next bytes : List ℕ) → Begins (start ++ next) bytes → Begins start bytes
part start next bytes begins = (next ++ begins.0, begins.1 ∙ append_assoc start next begins.0)

pub short_more : (bytes : List ℕ) → length bytes ≤ 300100 → (es : List (List ℕ)) → AreShort es → AreShort (es ++ bytes ∷ [])
short_more bytes fits [] all = (fits, tt)
short_more bytes fits (first ∷ es) all = (all.0, short_more bytes fits es all.1)

module _ (bytes : List ℕ) (fits : length bytes ≤ 300100) (gate : ℕ) (old : List Moment) (holds : HoldsLedger gate false (stored_entries old) old) where
  abbrev E : List (List ℕ)
  E = stored_entries old

  abbrev start : List ℕ
  start = front E ++ 0 ∷ []

  abbrev entry : List ℕ
  entry = body bytes ++ 0 ∷ []

  start_size : length start ≡ gate + 1
  start_size = omega (arith, holds.size, length-append (front E) (0 ∷ []))

  closed : (c : List ℕ) → Begins start c → entries_on c ≡ E
  closed c begins = found_closed E holds.short c begins

  pub inside_add : gate + 1 ≤ length (last_content old)
  inside_add = inside_behind start entry (gate + 1) start_size old holds.gated

  -- the entry is put behind the gate
  abbrev IsPut : Result (Unit {0}) PutFailed → Option (List Moment) → Type 0
  IsPut result told = LogsPut (gate + 1) entry result old told

  abbrev Behind : Result (Unit {0}) PutFailed → Option (List Moment) → Type 0
  Behind result told = PutsWithin (Begins start) (Begins (start ++ entry)) result old told

  behind_of : (result : Result (Unit {0}) PutFailed) (told : Option (List Moment)) → IsPut result told → Behind result told
  behind_of = puts_behind start entry (gate + 1) start_size old holds.gated

  abbrev FindsOld : ℕ → Option (List (List ℕ)) → Type 0
  FindsOld count found = (count ≡ length E) × (found ≡ Some E)

  finds_old : (left : List ℕ) (found : Option (List (List ℕ))) → Begins start left → Opens left found → FindsOld (length E) found
  finds_old left found begins opens = (refl, opens_just E left (has_magic E (0 ∷ []) left begins) (closed left begins) found opens)

  -- a crash leaves what was there until the gate is put
  behind_finds : (S : List ℕ → Type 0) → ((c : List ℕ) → S c → Begins start c) → (steps : List Moment) → AreWithin (Begins start) S old steps
      → (count : ℕ) (found : Option (List (List ℕ))) → MayFind (steps ++ old) count found → MayFind old count found ⊎ FindsOld count found
  behind_finds S stands = finds_since (Begins start) S old FindsOld finds_old
      (λ left synced found after was opens. (ap length (closed synced (stands synced was)), (finds_old left found (stands left after) opens).1))

  stands_ok : (c : List ℕ) → Begins (start ++ entry) c → Begins start c
  stands_ok c begins = part start entry c begins

  -- nothing was added, for a failure before the gate is put
  unadded : (told : Option (List Moment)) (log : List Moment) → told ≡ Some log → LeavesOnly (Begins start) log → stored_entries log ≡ E
      → ((count : ℕ) (found : Option (List (List ℕ))) → MayFind log count found → MayFind old count found ⊎ FindsOld count found)
      → (error : KeeperFailed) → Throughout (λ now. stored_entries now ≡ E) old told → Adds bytes (Err error) gate old gate told false
  unadded told log tells all same finds error through = record {
    log = log;
    tells = tells;
    more = tt;
    same = same;
    only = tt;
    during = throughout_all (λ now. stored_entries now ≡ E) (λ now. StoresMore E bytes (Err error) (stored_entries now)) (λ now is. inl is) old told through;
    counts = throughout_counts E old log told tells through;
    holds = holds_stored gate false E log (record { short = holds.short; size = holds.size; stored = same; gated = all });
    crash = λ count found may. ⊎_elim (λ was. inl was) (λ now. inr (inl (now.0, inl now.1))) (finds count found may);
  }

  pub add_failed : (told : Option (List Moment)) (result : Result (Unit {0}) PutFailed) (error : PutFailed) → result ≡ Err error → IsPut result told → (why : KeeperFailed)
      → Adds bytes (Err why) gate old gate told false
  add_failed told result error is does why = by_error error (subst (λ (r : Result (Unit {0}) PutFailed). IsPut r told) is does)
    where
      by_error : (error : PutFailed) → IsPut (Err error) told → Adds bytes (Err why) gate old gate told false
      by_error Unwritten logs = unadded told old logs holds.gated refl (λ count found may. inl may) why ([], logs, tt)
      by_error (Unsure cause) logs =
          let puts = behind_of (Err (Unsure cause)) told logs in
          unadded told puts.0.log puts.0.tells puts.1.0.0 (ap entries_on puts.1.0.1)
          (λ count found may. behind_finds (λ c. ⊥) (λ c none. absurd none) puts.0.steps puts.0.each count found (subst (λ (l : List Moment). MayFind l count found) puts.0.grown may)) why
          (puts_each (λ es. es ≡ E) (Begins start) (λ c. ⊥) old refl (λ c none. absurd none) told puts.0)

  -- the entry is there; its gate is put
  module _ (mid_told : Option (List Moment)) (put : IsPut (Ok tt) mid_told) where
    behind : Behind (Ok tt) mid_told
    behind = behind_of (Ok tt) mid_told put

    abbrev mid : List Moment
    mid = behind.0.log

    mid_same : stored_entries mid ≡ E
    mid_same = closed (synced_content mid) (stands_ok (synced_content mid) (only_synced (Begins (start ++ entry)) mid behind.1))

    mid_through : Throughout (λ now. stored_entries now ≡ E) old mid_told
    mid_through = puts_each (λ es. es ≡ E) (Begins start) (Begins (start ++ entry)) old refl (λ c begins. closed c (stands_ok c begins)) mid_told behind.0

    mid_counts : CountsOn [] (length E) old mid
    mid_counts = throughout_counts E old mid mid_told behind.0.tells mid_through

    mid_finds : (count : ℕ) (found : Option (List (List ℕ))) → MayFind mid count found → MayFind old count found ⊎ FindsOld count found
    mid_finds count found may =
        behind_finds (Begins (start ++ entry)) stands_ok behind.0.steps behind.0.each count found (subst (λ (l : List Moment). MayFind l count found) behind.0.grown may)

    mid_all : LeavesOnly (HasBehind (front E) entry) mid
    mid_all = λ left may. let begins = behind.1 left may in (0, (begins.0, begins.1 ∙ ap (λ (l : List ℕ). l ++ begins.0) (append_assoc (front E) (0 ∷ []) entry)))

    pub inside_opening : (log : List Moment) → mid_told ≡ Some log → gate ≤ length (last_content log)
    inside_opening log is = subst (λ (l : List Moment). gate ≤ length (last_content l)) (some_is mid log (sym behind.0.tells ∙ is))
        (inside_gate (front E) entry 1 gate holds.size mid mid_all)

    abbrev more : List (List ℕ)
    more = E ++ bytes ∷ []

    abbrev Opened : List ℕ → Type 0
    Opened = Begins (front E ++ 1 ∷ entry)

    opened_front : (c : List ℕ) → Opened c → Begins (front more ++ 0 ∷ []) c
    opened_front c begins = (begins.0, begins.1 ∙ ap (λ (l : List ℕ). l ++ begins.0) (front_more E bytes (0 ∷ [])))

    found_more : (c : List ℕ) → Opened c → entries_on c ≡ more
    found_more c begins = found_closed more (short_more bytes fits E holds.short) c (opened_front c begins)

    abbrev Gate : Result (Unit {0}) PutFailed → Option (List Moment) → Type 0
    Gate result told = PutsWithin (HasBehind (front E) entry) Opened result mid told

    gate_of : (result : Result (Unit {0}) PutFailed) (told : Option (List Moment)) → LogsPut gate (1 ∷ []) result mid told → Gate result told
    gate_of = puts_gate (front E) entry 1 gate holds.size mid mid_all

    -- while the gate is put, a crash leaves the entry or not; and once it is stored, the entry
    abbrev Finds : Type 0 → ℕ → Option (List (List ℕ)) → Type 0
    Finds Last count found =
        ((count ≡ length E) × ((found ≡ Some E) ⊎ (found ≡ Some more))) ⊎ ((count ≡ length E + 1) × (found ≡ Some more) × Last)

    finds_before : (Last : Type 0) (left : List ℕ) (found : Option (List (List ℕ))) → HasBehind (front E) entry left → Opens left found → Finds Last (length (stored_entries mid)) found
    finds_before Last left found stands opens =
        let begun = has_magic E (stands.0 ∷ entry) left stands.1 in
        inl (
          ap length mid_same,
          ⊎_elim (λ (none : entries_on left ≡ E). inl (opens_just E left begun none found opens)) (λ (one : entries_on left ≡ more). inr (opens_just more left begun one found opens))
              (found_either E holds.short bytes fits left stands),
        )

    finds_after : (left synced : List ℕ) (found : Option (List (List ℕ))) → Opened left → Opened synced → Opens left found → Finds (Unit {0}) (length (entries_on synced)) found
    finds_after left synced found stands was opens =
        inr (
          ap length (found_more synced was) ∙ length-append E (bytes ∷ []),
          opens_just more left (has_magic E (1 ∷ entry) left stands) (found_more left stands) found opens,
          tt,
        )

    abbrev Crash : Type 0 → List Moment → Type 0
    Crash Last log = (count : ℕ) (found : Option (List (List ℕ))) → MayFind log count found → MayFind old count found ⊎ Finds Last count found

    over_mid : (Last : Type 0) (log : List Moment) → ((count : ℕ) (found : Option (List (List ℕ))) → MayFind log count found → MayFind mid count found ⊎ Finds Last count found) → Crash Last log
    over_mid Last log finds count found may =
        ⊎_elim (λ was. ⊎_elim (λ once. inl once) (λ now. inr (inl (now.0, inl now.1))) (mid_finds count found was)) (λ now. inr now) (finds count found may)

    -- the entry is stored with its gate, and not before
    over_through : (result : Result (Unit {0}) KeeperFailed) (S : List ℕ → Type 0) → ((c : List ℕ) → S c → StoresMore E bytes result (entries_on c))
        → (told : Option (List Moment)) → Puts (HasBehind (front E) entry) S mid told → Throughout (λ now. StoresMore E bytes result (stored_entries now)) old told
    over_through result S after told puts =
        throughout_over (λ now. StoresMore E bytes result (stored_entries now)) old mid told
        (throughout_all (λ now. stored_entries now ≡ E) (λ now. StoresMore E bytes result (stored_entries now)) (λ now is. inl is) old (Some mid)
        (subst (λ (t : Option (List Moment)). Throughout (λ now. stored_entries now ≡ E) old t) behind.0.tells mid_through))
        (puts_each (λ es. StoresMore E bytes result es) (HasBehind (front E) entry) S mid (inl mid_same) after told puts)

    body_size : length (body bytes) ≡ 4 + length bytes
    body_size = length-append (to_le_bytes w32 (length bytes)) bytes

    more_size : length (front more) ≡ gate + (5 + length bytes)
    more_size =
        let whole : length (front E ++ 1 ∷ (body bytes ++ [])) ≡ length (front more ++ []) = ap length (front_more E bytes []) in
        omega (arith, whole, holds.size, length-append (front E) (1 ∷ (body bytes ++ [])), length-append (body bytes) [], length-append (front more) [], body_size)

    add_ok : (told : Option (List Moment)) → Gate (Ok tt) told → LogsPut gate (1 ∷ []) (Ok tt) mid told → Adds bytes (Ok tt) gate old (gate + (5 + length bytes)) told false
    add_ok told puts logs =
        let log = puts.0.log in
        let same : stored_entries log ≡ more = found_more (synced_content log) (only_synced Opened log puts.1) in
        record {
          log = log;
          tells = puts.0.tells;
          more = same;
          same = tt;
          during = over_through (Ok tt) Opened (λ c opened. inr (found_more c opened, tt)) told puts.0;
          counts = counts_over ((length E + 1) ∷ []) (length E) old mid log mid_counts
              (counts_put E gate 1 (length E + 1) (overwritten gate (1 ∷ []) (last_content mid)) mid log mid_same (some_is log _ (sym puts.0.tells ∙ logs))
              (ap (λ (es : List (List ℕ)). length es) same ∙ length-append E (bytes ∷ [])));
          only = λ left may. let stands = puts.1 left may in (inr (has_magic E (1 ∷ entry) left stands), found_more left stands ∙ sym same);
          holds = holds_stored (gate + (5 + length bytes)) false more log (record {
            short = short_more bytes fits E holds.short;
            size = more_size;
            stored = same;
            gated = λ left may. opened_front left (puts.1 left may);
          });
          crash = over_mid (Unit {0}) log (λ count found may. finds_since (HasBehind (front E) entry) Opened mid (Finds (Unit {0})) (finds_before (Unit {0})) finds_after puts.0.steps puts.0.each count found
              (subst (λ (l : List Moment). MayFind l count found) puts.0.grown may));
        }

    pub add_done : (told : Option (List Moment)) (result : Result (Unit {0}) PutFailed) (u : Unit {0}) → result ≡ Ok u
        → ((log : List Moment) → mid_told ≡ Some log → LogsPut gate (1 ∷ []) result log told) → Adds bytes (Ok u) gate old (gate + (5 + length bytes)) told false
    add_done told result u is does =
        let logs = subst (λ (r : Result (Unit {0}) PutFailed). LogsPut gate (1 ∷ []) r mid told) is (does mid behind.0.tells) in add_ok told (gate_of (Ok tt) told logs) logs

    pub add_unwritten : (told : Option (List Moment)) (result : Result (Unit {0}) PutFailed) → result ≡ Err Unwritten
        → ((log : List Moment) → mid_told ≡ Some log → LogsPut gate (1 ∷ []) result log told) → (why : KeeperFailed) → Adds bytes (Err why) gate old gate told false
    add_unwritten told result is does why =
        unadded told mid (subst (λ (r : Result (Unit {0}) PutFailed). LogsPut gate (1 ∷ []) r mid told) is (does mid behind.0.tells))
        (λ left may. stands_ok left (behind.1 left may)) mid_same mid_finds why
        (subst (λ (t : Option (List Moment)). Throughout (λ now. stored_entries now ≡ E) old t)
        (behind.0.tells ∙ sym (subst (λ (r : Result (Unit {0}) PutFailed). LogsPut gate (1 ∷ []) r mid told) is (does mid behind.0.tells))) mid_through)

    unsure : (told : Option (List Moment)) (cause : PutFailed) → (puts : Gate (Err cause) told) → LeavesOnly (HasBehind (front E) entry) puts.0.log × (synced_content puts.0.log ≡ synced_content mid)
        → (left : List ℕ) × MayLeave puts.0.log left × Opened left → (why : KeeperFailed) → Adds bytes (Err why) gate old gate told true
    unsure told cause puts unsynced opened why =
        let log = puts.0.log in
        let same : stored_entries log ≡ E = ap entries_on unsynced.1 ∙ mid_same in
        record {
          log = log;
          tells = puts.0.tells;
          more = tt;
          same = same;
          only = tt;
          during = over_through (Err why) (λ c. ⊥) (λ c none. absurd none) told puts.0;
          counts = counts_over [] (length E) old mid log mid_counts
              (throughout_counts E mid log told puts.0.tells (puts_each (λ es. es ≡ E) (HasBehind (front E) entry) (λ c. ⊥) mid mid_same (λ c none. absurd none) told puts.0));
          holds = holds_stored gate true E log (record {
            short = holds.short;
            size = holds.size;
            stored = same;
            gated = (
              bytes,
              fits,
              unsynced.0,
              finds_now log (length E) (Some more) (opened.0, opened.1, (inr (has_magic E (1 ∷ entry) opened.0 opened.2), found_more opened.0 opened.2), ap length same),
            );
          });
          crash = over_mid ⊥ log (λ count found may. finds_since (HasBehind (front E) entry) (λ c. ⊥) mid (Finds ⊥) (finds_before ⊥) (λ left synced found none was opens. absurd none) puts.0.steps puts.0.each count found
              (subst (λ (l : List Moment). MayFind l count found) puts.0.grown may));
        }

    pub add_unsure : (told : Option (List Moment)) (result : Result (Unit {0}) PutFailed) (error : DiskFailed) → result ≡ Err (Unsure error)
        → ((log : List Moment) → mid_told ≡ Some log → LogsPut gate (1 ∷ []) result log told) → (why : KeeperFailed) → Adds bytes (Err why) gate old gate told true
    add_unsure told result error is does why =
        let puts = gate_of (Err (Unsure error)) told (subst (λ (r : Result (Unit {0}) PutFailed). LogsPut gate (1 ∷ []) r mid told) is (does mid behind.0.tells)) in
        unsure told (Unsure error) puts puts.1.0 puts.1.1 why

-- the gate may be written, where the entry was put
pub opening_needs : (bytes : List ℕ) → length bytes ≤ 300100 → (gate : ℕ) (old between : Option (List Moment)) → (old ≡ None → between ≡ None)
    → (holds : (log : List Moment) → old ≡ Some log → HoldsLedger gate false (stored_entries log) log)
    → ((log : List Moment) → old ≡ Some log → LogsPut (gate + 1) (body bytes ++ 0 ∷ []) (Ok tt) log between)
    → (log : List Moment) → between ≡ Some log → gate ≤ length (last_content log)
opening_needs bytes fits gate None between untold holds put log is = absurd (none_tells log (sym (untold refl) ∙ is))
opening_needs bytes fits gate (Some old) between untold holds put log is = inside_opening bytes fits gate old (holds old refl) between (put old refl) log is
