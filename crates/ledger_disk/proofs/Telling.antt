-- The steps of an append one behind the other, and what a disk tells of them, where it tells.
use Rattle.std.proofs.Common.{◌≡◌, inl, inr, ⊎_elim, ℕ, Bool, false, List, [], ◌∷◌, ◌++◌, Option, None, Some, Result, Ok, Err, IsErr, OnErr, OnOk, length, refl, sym, ◌∙◌, ap, subst}
use Rattle.std.proofs.lemmas.Bool.{false≢true}
use Rattle.std.specs.Option.{IfSome, option_map}
use Rattle.pool_io.specs.declared.keeper.KeeperFailed.{KeeperFailed}
use Rattle.pool_io.specs.Outside.{AddsRecord}
use Rattle.ledger_disk.specs.Calls.{WhereTold}
use Rattle.ledger_disk.specs.Moments.{Moment}
use Rattle.pool_io.specs.Crashes.{FindsMore, StoresNext, counts_at_end}
use Rattle.ledger_disk.specs.Crashes.{LeavesStored, MayFind, StoresMore, Throughout, counts_of, stored_entries}
use Rattle.ledger_disk.specs.Steps.{Adds, CountsOn, HoldsLedger, IsOnDisk, Shuts}
use Rattle.ledger_disk.proofs.Adding.{none_tells}
use Rattle.ledger_disk.proofs.Counting.{counts_over, throughout_counts}
use Rattle.ledger_disk.proofs.Moments.{throughout_all, throughout_over}

-- the gate was put, or wasn't, and nothing more
pub shut_only : (bytes : List ℕ) (result : Result (Unit {0}) KeeperFailed) → IsErr result → (gate : ℕ) (old : List Moment) (told : Option (List Moment)) (is_torn : Bool)
    → Shuts gate old told is_torn → Adds bytes result gate old gate told is_torn
shut_only bytes (Ok u) failed gate old told is_torn shut = absurd (false≢true failed)
shut_only bytes (Err error) failed gate old told is_torn shut = record {
  log = shut.log;
  tells = shut.tells;
  more = tt;
  same = shut.same;
  only = tt;
  during = throughout_all (λ now. stored_entries now ≡ stored_entries old) (λ now. StoresMore (stored_entries old) bytes (Err error) (stored_entries now)) (λ now is. inl is)
      old told shut.during;
  counts = throughout_counts (stored_entries old) old shut.log told shut.tells shut.during;
  holds = shut.holds;
  crash = λ count found may. ⊎_elim (λ was. inl was) (λ now. inr (inl (now.0, inl now.1))) (shut.crash count found may);
}

-- the gate was put, and then an entry was added
pub shut_first : (bytes : List ℕ) (result : Result (Unit {0}) KeeperFailed) (gate : ℕ) (old : List Moment) (mid : Option (List Moment)) (later : ℕ) (told : Option (List Moment)) (is_torn : Bool)
    → (shut : Shuts gate old mid false) → Adds bytes result gate shut.log later told is_torn → Adds bytes result gate old later told is_torn
shut_first bytes result gate old mid later told is_torn shut add = record {
  log = add.log;
  tells = add.tells;
  more = subst (λ (es : List (List ℕ)). OnOk result (stored_entries add.log ≡ es ++ bytes ∷ [])) shut.same add.more;
  same = subst (λ (es : List (List ℕ)). OnErr result (stored_entries add.log ≡ es)) shut.same add.same;
  only = add.only;
  during = throughout_over (λ now. StoresMore (stored_entries old) bytes result (stored_entries now)) old shut.log told
      (throughout_all (λ now. stored_entries now ≡ stored_entries old) (λ now. StoresMore (stored_entries old) bytes result (stored_entries now)) (λ now is. inl is) old (Some shut.log)
      (subst (λ (t : Option (List Moment)). Throughout (λ now. stored_entries now ≡ stored_entries old) old t) shut.tells shut.during))
      (subst (λ (es : List (List ℕ)). Throughout (λ now. StoresMore es bytes result (stored_entries now)) shut.log told) shut.same add.during);
  counts = counts_over (counts_at_end result (length (stored_entries old))) (length (stored_entries old)) old shut.log add.log
      (throughout_counts (stored_entries old) old shut.log mid shut.tells shut.during)
      (subst (λ (es : List (List ℕ)). CountsOn (counts_at_end result (length es)) (length es) shut.log add.log) shut.same add.counts);
  holds = add.holds;
  crash = λ count found may.
      ⊎_elim (λ was. ⊎_elim (λ once. inl once) (λ now. inr (inl (now.0, inl now.1))) (shut.crash count found was)) (λ now. inr now)
      (subst (λ (es : List (List ℕ)). FindsMore es bytes result (MayFind shut.log) (MayFind add.log)) shut.same add.crash count found may);
}

-- a gate that was put is closed
pub told_shut : (gate : ℕ) (old new : Option (List Moment)) (is_torn : Bool) → (old ≡ None → new ≡ None) → WhereTold old (λ log. Shuts gate log new is_torn) → is_torn ≡ false
    → WhereTold new (λ log. HoldsLedger gate false (stored_entries log) log)
told_shut gate None new is_torn untold shuts shut log is = absurd (none_tells log (sym (untold refl) ∙ is))
told_shut gate (Some old) new is_torn untold shuts shut log is =
    let done = shuts old refl in
    let on_disk : IsOnDisk gate is_torn new = subst (λ (t : Option (List Moment)). IsOnDisk gate is_torn t) (sym done.tells) done.holds in
    subst (λ (t : Option (List Moment)). IsOnDisk gate false t) is (subst (λ (b : Bool). IsOnDisk gate b new) shut on_disk)

abbrev told_entries : Option (List Moment) → Option (List (List ℕ))
told_entries told = option_map stored_entries told

abbrev pub told_counts : Option (List Moment) → Option (List ℕ)
told_counts told = option_map counts_of told

abbrev Found : Option (List Moment) → ℕ → Option (List (List ℕ)) → Type 0
Found told count found = IfSome told (λ log. MayFind log count found)

abbrev entries_or : List (List ℕ) → Option (List (List ℕ)) → List (List ℕ)
entries_or entries None = entries
entries_or entries (Some told) = told

-- what an addition leaves, where the disk tells
module _ (bytes : List ℕ) (gate later : ℕ) (is_torn : Bool) where
  abbrev Added : Result (Unit {0}) KeeperFailed → (old new : Option (List Moment)) → Type 0
  Added result old new = WhereTold old (λ log. Adds bytes result gate log later new is_torn)

  pub added_on_disk : (result : Result (Unit {0}) KeeperFailed) (old new : Option (List Moment)) → (old ≡ None → new ≡ None) → Added result old new → IsOnDisk later is_torn new
  added_on_disk result None new untold adds = subst (λ (t : Option (List Moment)). IsOnDisk later is_torn t) (sym (untold refl)) tt
  added_on_disk result (Some log) new untold adds = let add = adds log refl in subst (λ (t : Option (List Moment)). IsOnDisk later is_torn t) (sym add.tells) add.holds

  pub added_more : (result : Result (Unit {0}) KeeperFailed) (old new : Option (List Moment)) → (old ≡ None → new ≡ None) → Added result old new
      → OnOk result (AddsRecord (told_entries old) (told_entries new) bytes)
  added_more (Err error) old new untold adds = tt
  added_more (Ok u) None new untold adds = ap (λ (t : Option (List Moment)). told_entries t) (untold refl)
  added_more (Ok u) (Some log) new untold adds =
      let add = adds log refl in ap (λ (t : Option (List Moment)). told_entries t) add.tells ∙ ap (λ (es : List (List ℕ)). Some es) add.more

  pub added_none : (result : Result (Unit {0}) KeeperFailed) (old new : Option (List Moment)) → (old ≡ None → new ≡ None) → Added result old new
      → OnErr result (told_entries new ≡ told_entries old)
  added_none (Ok u) old new untold adds = tt
  added_none (Err error) None new untold adds = ap (λ (t : Option (List Moment)). told_entries t) (untold refl)
  added_none (Err error) (Some log) new untold adds =
      let add = adds log refl in ap (λ (t : Option (List Moment)). told_entries t) add.tells ∙ ap (λ (es : List (List ℕ)). Some es) add.same

  pub added_only : (result : Result (Unit {0}) KeeperFailed) (old new : Option (List Moment)) → (old ≡ None → new ≡ None) → Added result old new
      → OnOk result (WhereTold new LeavesStored)
  added_only (Err error) old new untold adds = tt
  added_only (Ok u) None new untold adds = λ log is. absurd (none_tells log (sym (untold refl) ∙ is))
  added_only (Ok u) (Some log) new untold adds = λ told is.
      let add = adds log refl in
      let only : IfSome new LeavesStored = subst (λ (t : Option (List Moment)). IfSome t LeavesStored) (sym add.tells) add.only in
      subst (λ (t : Option (List Moment)). IfSome t LeavesStored) is only

  pub added_finds : (result : Result (Unit {0}) KeeperFailed) (old new : Option (List Moment)) → (old ≡ None → new ≡ None) → Added result old new
      → (before : List (List ℕ)) → told_entries old ≡ Some before → FindsMore before bytes result (Found old) (Found new)
  added_finds result None new untold adds before is = λ count found may. inl tt
  added_finds result (Some log) new untold adds before is = λ count found may.
      let add = adds log refl in
      let same : stored_entries log ≡ before = ap (entries_or before) is in
      subst (λ (es : List (List ℕ)). FindsMore es bytes result (MayFind log) (MayFind add.log)) same add.crash count found
      (subst (λ (t : Option (List Moment)). Found t count found) add.tells may)

  pub added_counts : (result : Result (Unit {0}) KeeperFailed) (old new : Option (List Moment)) → (old ≡ None → new ≡ None) → Added result old new
      → (before : List (List ℕ)) → told_entries old ≡ Some before → StoresNext result (length before) (told_counts old) (told_counts new)
  added_counts result None new untold adds before is = absurd (cc)
  added_counts result (Some log) new untold adds before is =
      let add = adds log refl in
      let same : stored_entries log ≡ before = ap (entries_or before) is in
      subst (λ (es : List (List ℕ)). StoresNext result (length es) (Some (counts_of log)) (told_counts new)) same
      (add.counts.0, ap (λ (t : Option (List Moment)). told_counts t) add.tells ∙ ap (λ (ns : List ℕ). Some ns) add.counts.1)
