-- What the cut of a disk behind its entries leaves, and the put of a closed gate there.
use Rattle.std.proofs.Common.{◌≡◌, inl, inr, ⊎_elim, ℕ, zero, suc, ◌+◌, ◌-◌, ◌≤◌, ◌<◌, Bool, true, false, List, [], ◌∷◌, ◌++◌, Option, None, Some, Result, Ok, Err, IsErr, length, take, drop, refl, sym, ◌∙◌, ap, subst, arith, length-drop, take-append-drop, if◌then◌else◌}
use Rattle.std.proofs.lemmas.Bool.{cases_lt, false≢true}
use Rattle.std.proofs.lemmas.Bool.Decides.{nat_tests}
use Rattle.std.proofs.lemmas.List.{append-nil, take-take, length-take, length-take-le}
use Rattle.std.specs.Int.{w32, from_le_bytes}
use Rattle.ledger_disk.specs.Entries.{Opens, entries_on, found_in, front, is_entry, magic, next_entry, said_length}
use Rattle.std.proofs.lemmas.List.{drop-take, drop_all}
use Rattle.ledger_disk.specs.declared.disk.DiskFailed.{DiskFailed}
use Rattle.ledger_disk.specs.declared.disk.DiskFailed.TheVariants.{Failed, Memory}
use Rattle.ledger_disk.specs.declared.disk.Doing.TheVariants.{CutTo, Synced}
use Rattle.ledger_disk.specs.Calls.{LogsCut, LogsSync, WhereTold, overwritten}
use Rattle.ledger_disk.specs.Moments.{Moment, TornCut, TornWrite, last_content, synced_content, with_call}
use Rattle.ledger_disk.proofs.Crashes.{cut_done}
use Rattle.ledger_disk.specs.Crashes.{FindsJust, LeavesOnly, MayFind, Throughout, stored_entries}
use Rattle.ledger_disk.specs.Steps.{Closes, HoldsEntries, LogsTry}
use Rattle.ledger_disk.proofs.Adding.{none_tells}
use Rattle.ledger_disk.proofs.Finding.{found_behind, found_closed, opens_just}
use Rattle.ledger_disk.proofs.Making.{synced_only, try_failed}
use Rattle.ledger_disk.proofs.Moments.{Puts, finds_since, only_synced, puts_each, some_is, throughout_over}
use Rattle.ledger_disk.proofs.Putting.{put_leaves}
use Rattle.ledger_disk.proofs.Shutting.{holds_stored}

abbrev IsNothing : Option (List ℕ) → Type 0
IsNothing None = Unit {0}
IsNothing (Some bytes) = ⊥

no_entry : (entry : List ℕ) (b : Bool) → (if b then Some entry else None) ≡ None → b ≡ false
no_entry entry true none = absurd (subst IsNothing (sym none) tt)
no_entry entry false none = refl

-- nothing is found where no entry is
none_found : (most : ℕ) (rest : List ℕ) → next_entry rest ≡ None → found_in most rest ≡ []
none_found zero rest none = refl
none_found (suc most) [] none = refl
none_found (suc most) (gate ∷ rest) none =
    ap (λ (b : Bool). if b then take (said_length rest) (drop 4 rest) ∷ found_in most (drop (4 + said_length rest) rest) else [])
    (no_entry (take (said_length rest) (drop 4 rest)) (is_entry gate rest) none)

-- the entries that stand are those that are found
pub holds_found : (gate : ℕ) (entries : List (List ℕ)) (c : List ℕ) → HoldsEntries gate entries c → entries_on c ≡ entries
holds_found gate entries c holds =
    let rest = drop gate c in
    let split : c ≡ front entries ++ rest = sym (take-append-drop gate c) ∙ ap (λ (l : List ℕ). l ++ rest) holds.begins in
    let at = found_behind entries holds.short c rest split (omega (arith, holds.inside, length-drop gate c)) in
    at.2 ∙ ap (λ (l : List (List ℕ)). entries ++ l) (none_found at.0 rest holds.ends) ∙ append-nil entries

pub holds_magic : (gate : ℕ) (entries : List (List ℕ)) (c : List ℕ) → HoldsEntries gate entries c → take 8 c ≡ magic
holds_magic gate entries c holds =
    ap (λ (l : List ℕ). take 8 l) (sym (take-append-drop gate c) ∙ ap (λ (l : List ℕ). l ++ drop gate c) holds.begins)

pub holds_opens : (gate : ℕ) (entries : List (List ℕ)) (c : List ℕ) → HoldsEntries gate entries c → (found : Option (List (List ℕ))) → Opens c found → found ≡ Some entries
holds_opens gate entries c holds found opens = opens_just entries c (holds_magic gate entries c holds) (holds_found gate entries c holds) found opens

-- where no entry is, none is in fewer bytes
still_none : (rest : List ℕ) (most : ℕ) → next_entry rest ≡ None → next_entry (take most rest) ≡ None
still_none [] zero none = refl
still_none [] (suc most) none = refl
still_none (gate ∷ rest) zero none = refl
still_none (gate ∷ rest) (suc most) none =
    ap (λ (b : Bool). if b then Some (take (said_length (take most rest)) (drop 4 (take most rest))) else None)
    (fewer (no_entry (take (said_length rest) (drop 4 rest)) (is_entry gate rest) none))
  where
    fewer : is_entry gate rest ≡ false → is_entry gate (take most rest) ≡ false
    fewer none_there = ⊎_elim (λ (many : 4 < most). enough none_there many) (λ (few : most ≤ 4). grind (arith, nat_tests, few, length-take most rest)) (cases_lt 4 most)
      where
        enough : is_entry gate rest ≡ false → 4 < most → is_entry gate (take most rest) ≡ false
        enough none_there many =
            let same : said_length (take most rest) ≡ said_length rest = ap (λ (l : List ℕ). from_le_bytes w32 l) (take-take 4 most rest (omega (arith, many))) in
            grind (arith, nat_tests, none_there, same, length-take most rest)

-- nor in one byte
one_none : (rest : List ℕ) → length rest ≤ 1 → next_entry rest ≡ None
one_none [] few = refl
one_none (gate ∷ []) few =
    let none_there : is_entry gate [] ≡ false = grind (arith, nat_tests) in
    ap (λ (b : Bool). if b then Some (take (said_length []) (drop 4 [])) else None) none_there
one_none (gate ∷ next ∷ rest) few = absurd (omega (arith, few))

module _ (entries : List (List ℕ)) (gate : ℕ) (old : List Moment) (holds : HoldsEntries gate entries (last_content old)) where
  abbrev content : List ℕ
  content = last_content old

  -- nothing was pending
  abbrev Settled : Type 0
  Settled = LeavesOnly (λ left. left ≡ content) old

  abbrev Finds : ℕ → Option (List (List ℕ)) → Type 0
  Finds count found = (count ≡ length entries) × (found ≡ Some entries)

  -- a cut leaves the entries, and none behind them
  cut_holds : (c : List ℕ) → TornCut (gate + 1) content c → HoldsEntries gate entries c
  cut_holds c torn =
      let long : gate + 1 ≤ length c = omega (arith, torn.no_shorter, holds.inside) in
      let behind : ℕ = length c - gate in
      record {
        short = holds.short;
        size = holds.size;
        begins = ap (λ (l : List ℕ). take gate l) (sym torn.front) ∙ take-take gate (length c) content (omega (arith, long)) ∙ holds.begins;
        inside = omega (arith, long);
        ends = ap (λ (l : List ℕ). next_entry (drop gate l)) (sym torn.front)
            ∙ ap (λ (n : ℕ). next_entry (drop gate (take n content))) (omega (arith, long))
            ∙ ap next_entry (drop-take gate behind content)
            ∙ still_none (drop gate content) behind holds.ends;
      }

  abbrev cut_log : List ℕ → List Moment
  cut_log c = with_call (CutTo (gate + 1)) c old

  cut_all : Settled → (c : List ℕ) → TornCut (gate + 1) content c → LeavesOnly (HoldsEntries gate entries) (cut_log c)
  cut_all settled c torn left may =
      ⊎_elim (λ (is : left ≡ c). subst (HoldsEntries gate entries) (sym is) (cut_holds c torn))
      (λ from. cut_holds left (subst (λ (d : List ℕ). TornCut (gate + 1) d left) (settled from.0 from.1) from.2)) may

  settled_stored : Settled → stored_entries old ≡ entries
  settled_stored settled = ap entries_on (only_synced (λ left. left ≡ content) old settled) ∙ holds_found gate entries content holds

  cut_finds : Settled → (c : List ℕ) → TornCut (gate + 1) content c → FindsJust entries (MayFind old) (MayFind (cut_log c))
  cut_finds settled c torn =
      finds_since (HoldsEntries gate entries) (λ c. ⊥) old Finds
      (λ left found held opens. (ap length (settled_stored settled), holds_opens gate entries left held found opens))
      (λ left synced found none was opens. absurd none)
      (record { doing = CutTo (gate + 1); content = c } ∷ []) (inl (cut_all settled c torn, refl), tt)

  -- these are stored throughout
  abbrev SameThrough : Option (List Moment) → Type 0
  SameThrough told = Throughout (λ now. stored_entries now ≡ entries) old told

  cut_through : Settled → (c : List ℕ) (told : Option (List Moment)) → told ≡ Some (cut_log c) → SameThrough told
  cut_through settled c told is = (record { doing = CutTo (gate + 1); content = c } ∷ [], is, (settled_stored settled, tt))

  unclosed : (result : Result (Unit {0}) DiskFailed) → IsErr result → (told : Option (List Moment)) (log : List Moment) → told ≡ Some log
      → (Settled → SameThrough told) → (Settled → FindsJust entries (MayFind old) (MayFind log)) → Closes result gate entries old told
  unclosed (Ok u) failed told log tells through crash = absurd (false≢true failed)
  unclosed (Err error) failed told log tells through crash = record { log = log; tells = tells; stored = tt; only = tt; holds = tt; during = through; crash = crash }

  -- a failure of the cut
  pub closed_uncut : (result : Result (Unit {0}) DiskFailed) → IsErr result → (error : DiskFailed) (told : Option (List Moment)) → LogsCut (gate + 1) (Err error) old told
      → Closes result gate entries old told
  closed_uncut result failed Failed told is = unclosed result failed told (cut_log is.0) is.2 (λ settled. cut_through settled is.0 told is.2) (λ settled. cut_finds settled is.0 is.1)
  closed_uncut result failed Memory told is = unclosed result failed told old is (λ settled. ([], is, tt)) (λ settled count found may. inl may)

  -- it is cut
  abbrev front_and_gate : List ℕ
  front_and_gate = take (gate + 1) content

  abbrev pub short_log : List Moment
  short_log = cut_log front_and_gate

  short_finds : Settled → FindsJust entries (MayFind old) (MayFind short_log)
  short_finds settled = cut_finds settled front_and_gate (cut_done (gate + 1) content)

  -- a failure of the sync
  pub closed_unsynced : (result : Result (Unit {0}) DiskFailed) → IsErr result → (told : Option (List Moment)) → told ≡ Some short_log → Closes result gate entries old told
  closed_unsynced result failed told is = unclosed result failed told short_log is (λ settled. cut_through settled front_and_gate told is) short_finds

  -- it is synced
  abbrev pub short_synced : List Moment
  short_synced = with_call Synced front_and_gate short_log

  over : (mid log : List Moment) → FindsJust entries (MayFind old) (MayFind mid) → FindsJust entries (MayFind mid) (MayFind log) → FindsJust entries (MayFind old) (MayFind log)
  over mid log first more count found may = ⊎_elim (λ was. first count found was) (λ now. inr now) (more count found may)

  short_held : HoldsEntries gate entries front_and_gate
  short_held = cut_holds front_and_gate (cut_done (gate + 1) content)

  synced_finds : Settled → FindsJust entries (MayFind old) (MayFind short_synced)
  synced_finds settled =
      over short_log short_synced (short_finds settled)
      (finds_since (HoldsEntries gate entries) (HoldsEntries gate entries) short_log Finds
      (λ left found held opens. (ap length (settled_stored settled), holds_opens gate entries left held found opens))
      (λ left synced found held was opens. (ap length (holds_found gate entries synced was), holds_opens gate entries left held found opens))
      (record { doing = Synced; content = front_and_gate } ∷ [])
      (inr (λ left may. subst (HoldsEntries gate entries) (sym (synced_only front_and_gate short_log left may)) short_held), tt))

  synced_through : Settled → SameThrough (Some short_synced)
  synced_through settled = (
    record { doing = Synced; content = front_and_gate } ∷ record { doing = CutTo (gate + 1); content = front_and_gate } ∷ [],
    refl,
    (holds_found gate entries front_and_gate short_held, (settled_stored settled, tt)),
  )

  -- the front, and one byte
  abbrev IsFrontAndGate : List ℕ → Type 0
  IsFrontAndGate c = (take gate c ≡ front entries) × (length c ≡ gate + 1)

  front_held : (c : List ℕ) → IsFrontAndGate c → HoldsEntries gate entries c
  front_held c is = record {
    short = holds.short;
    size = holds.size;
    begins = is.0;
    inside = omega (arith, is.1);
    ends = one_none (drop gate c) (omega (arith, is.1, length-drop gate c));
  }

  short_size : length front_and_gate ≡ gate + 1
  short_size = length-take-le (gate + 1) content (omega (arith, holds.inside))

  gate_all : LeavesOnly IsFrontAndGate short_synced
  gate_all left may =
      let is = synced_only front_and_gate short_log left may in
      (ap (λ (l : List ℕ). take gate l) is ∙ short_held.begins, ap length is ∙ short_size)

  gate_stays : (d c : List ℕ) → IsFrontAndGate d → TornWrite gate 1 d c → IsFrontAndGate c
  gate_stays d c is torn = (torn.before ∙ is.0, omega (arith, is.1, torn.no_shorter, torn.no_longer))

  abbrev IsClosed : List ℕ → Type 0
  IsClosed c = c ≡ front entries ++ 0 ∷ []

  gate_written : overwritten gate (0 ∷ []) front_and_gate ≡ front entries ++ 0 ∷ []
  gate_written =
      ap (λ (l : List ℕ). l ++ 0 ∷ [] ++ drop (gate + 1) front_and_gate) short_held.begins
      ∙ ap (λ (l : List ℕ). (front entries ++ 0 ∷ []) ++ l) (drop_all (gate + 1) front_and_gate (omega (arith, short_size)))
      ∙ append-nil (front entries ++ 0 ∷ [])

  closed_found : (c : List ℕ) → IsClosed c → entries_on c ≡ entries
  closed_found c is = found_closed entries holds.short c ([], is ∙ sym (append-nil (front entries ++ 0 ∷ [])))

  closed_magic : (c : List ℕ) → IsClosed c → take 8 c ≡ magic
  closed_magic c is = ap (λ (l : List ℕ). take 8 l) is

  closing : Settled → (S : List ℕ → Type 0) → ((left synced : List ℕ) (found : Option (List (List ℕ))) → S left → S synced → Opens left found → Finds (length (entries_on synced)) found)
      → (told : Option (List Moment)) → (puts : Puts IsFrontAndGate S short_synced told) → FindsJust entries (MayFind old) (MayFind puts.log)
  closing settled S after told puts =
      over short_synced puts.log (synced_finds settled) (λ count found may. finds_since IsFrontAndGate S short_synced Finds
      (λ left found is opens. (ap length (holds_found gate entries front_and_gate short_held), holds_opens gate entries left (front_held left is) found opens))
      after puts.steps puts.each count found (subst (λ (l : List Moment). MayFind l count found) puts.grown may))

  inside : gate ≤ length (last_content short_synced)
  inside = omega (arith, short_size)

  -- the gate is put, or isn't
  pub closed_put : (result : Result (Unit {0}) DiskFailed) (told : Option (List Moment)) → LogsTry gate (0 ∷ []) result short_synced told → Closes result gate entries old told
  closed_put (Err error) told is =
      let puts = try_failed IsFrontAndGate gate (0 ∷ []) short_synced inside gate_stays gate_all error told is in
      record {
        log = puts.log;
        tells = puts.tells;
        stored = tt;
        only = tt;
        holds = tt;
        during = λ settled. throughout_over (λ now. stored_entries now ≡ entries) old short_synced told (synced_through settled)
            (puts_each (λ es. es ≡ entries) IsFrontAndGate (λ c. ⊥) short_synced (holds_found gate entries front_and_gate short_held) (λ c none. absurd none) told puts);
        crash = λ settled. closing settled (λ c. ⊥) (λ left synced found none was opens. absurd none) told puts;
      }
  closed_put (Ok u) told is =
      let puts = put_leaves IsFrontAndGate IsClosed gate (0 ∷ []) short_synced inside gate_stays (λ here. gate_written) gate_all (Ok tt) told is in
      let log = puts.0.log in
      let stored : stored_entries log ≡ entries = closed_found (synced_content log) (only_synced IsClosed log puts.1) in
      record {
        log = log;
        tells = puts.0.tells;
        stored = stored;
        only = λ left may. let is = puts.1 left may in (inr (closed_magic left is), closed_found left is ∙ sym stored);
        holds = holds_stored gate false entries log (record {
          short = holds.short;
          size = holds.size;
          stored = stored;
          gated = λ left may. ([], puts.1 left may ∙ sym (append-nil (front entries ++ 0 ∷ [])));
        });
        during = λ settled. throughout_over (λ now. stored_entries now ≡ entries) old short_synced told (synced_through settled)
            (puts_each (λ es. es ≡ entries) IsFrontAndGate IsClosed short_synced (holds_found gate entries front_and_gate short_held) closed_found told puts.0);
        crash = λ settled. closing settled IsClosed
            (λ left synced found closed was opens. (ap length (closed_found synced was), opens_just entries left (closed_magic left closed) (closed_found left closed) found opens)) told puts.0;
      }

-- the gate may be written, where the disk was cut and synced
pub closing_needs : (gate : ℕ) (old between new : Option (List Moment)) → (old ≡ None → between ≡ None) → (between ≡ None → new ≡ None)
    → WhereTold old (λ log. HoldsEntries gate (entries_on (last_content log)) (last_content log)) → WhereTold old (λ log. LogsCut (gate + 1) (Ok tt) log between)
    → WhereTold between (λ log. LogsSync (Ok tt) log new) → WhereTold new (λ log. gate ≤ length (last_content log))
closing_needs gate None between new untold after holds cut sync log is = absurd (none_tells log (sym (after (untold refl)) ∙ is))
closing_needs gate (Some old) between new untold after holds cut sync log is =
    let entries = entries_on (last_content old) in
    let here = holds old refl in
    subst (λ (l : List Moment). gate ≤ length (last_content l)) (some_is (short_synced entries gate old here) log (sym (sync (short_log entries gate old here) (cut old refl)) ∙ is))
    (inside entries gate old here)
