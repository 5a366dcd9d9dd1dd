-- What the put of a closed gate leaves of a ledger whose last gate may be open.
use Rattle.std.proofs.Common.{◌≡◌, ◌⊎◌, inl, inr, ⊎_elim, ℕ, ◌≤◌, Bool, true, false, List, [], ◌∷◌, ◌++◌, Option, Some, Result, Ok, Err, length, refl, sym, ◌∙◌, ap, subst, append_assoc}
use Rattle.ledger_disk.specs.Moments.{Moment, last_content, synced_content}
use Rattle.ledger_disk.specs.declared.steps.PutFailed.{PutFailed}
use Rattle.ledger_disk.specs.declared.steps.PutFailed.TheVariants.{Unwritten, Unsure}
use Rattle.ledger_disk.specs.Crashes.{LeavesOnly, MayFind, stored_entries}
use Rattle.ledger_disk.specs.Entries.{Begins, HasBehind, Opens, body, entries_on, front}
use Rattle.ledger_disk.specs.Steps.{HoldsLedger, LogsPut, Shuts}
use Rattle.ledger_disk.proofs.Finding.{found_closed, found_either, has_magic, opens_just}
use Rattle.ledger_disk.proofs.Moments.{AreWithin, PutsWithin, finds_since, finds_still, only_synced, puts_each}
use Rattle.ledger_disk.proofs.Putting.{inside_gate, puts_gate}

-- what a ledger holds is what is stored
pub holds_stored : (gate : ℕ) (is_torn : Bool) (entries : List (List ℕ)) (log : List Moment) → HoldsLedger gate is_torn entries log
    → HoldsLedger gate is_torn (stored_entries log) log
holds_stored gate is_torn entries log holds = subst (λ (es : List (List ℕ)). HoldsLedger gate is_torn es log) (sym holds.stored) holds

-- a closed gate, whatever stands behind it
pub shut_again : (start next : List ℕ) (c : List ℕ) → Begins (start ++ 0 ∷ next) c → Begins (start ++ 0 ∷ []) c
shut_again start next c begins =
    (next ++ begins.0, begins.1 ∙ append_assoc start (0 ∷ next) begins.0 ∙ sym (append_assoc start (0 ∷ []) (next ++ begins.0)))

module _ (gate : ℕ) (old : List Moment) (holds : HoldsLedger gate true (stored_entries old) old) where
  abbrev E : List (List ℕ)
  E = stored_entries old

  abbrev tried : List ℕ
  tried = holds.gated.0

  abbrev next : List ℕ
  next = body tried ++ 0 ∷ []

  abbrev P : List ℕ → Type 0
  P = HasBehind (front E) next

  abbrev S : List ℕ → Type 0
  S = Begins (front E ++ 0 ∷ next)

  closed : (c : List ℕ) → S c → entries_on c ≡ E
  closed c begins = found_closed E holds.short c (shut_again (front E) next c begins)

  pub inside_shut : gate ≤ length (last_content old)
  inside_shut = inside_gate (front E) next 0 gate holds.size old holds.gated.2

  abbrev Finds : ℕ → Option (List (List ℕ)) → Type 0
  Finds count found = MayFind old count found ⊎ ((count ≡ length E) × (found ≡ Some E))

  finds_before : (left : List ℕ) (found : Option (List (List ℕ))) → P left → Opens left found → Finds (length E) found
  finds_before left found behind opens =
      let begun = has_magic E (behind.0 ∷ next) left behind.1 in
      ⊎_elim (λ (none : entries_on left ≡ E). inr (refl, opens_just E left begun none found opens))
      (λ (one : entries_on left ≡ E ++ tried ∷ []).
      inl (subst (λ (f : Option (List (List ℕ))). MayFind old (length E) f) (sym (opens_just (E ++ tried ∷ []) left begun one found opens)) holds.gated.3))
      (found_either E holds.short tried holds.gated.1 left behind)

  finds_after : (left synced : List ℕ) (found : Option (List (List ℕ))) → S left → S synced → Opens left found → Finds (length (entries_on synced)) found
  finds_after left synced found stands was opens =
      inr (ap length (closed synced was), opens_just E left (has_magic E (0 ∷ next) left stands) (closed left stands) found opens)

  finds_now : (steps : List Moment) → AreWithin P S old steps → (count : ℕ) (found : Option (List (List ℕ))) → MayFind (steps ++ old) count found → Finds count found
  finds_now steps each count found may = ⊎_elim (λ was. inl was) (λ finds. finds) (finds_since P S old Finds finds_before finds_after steps each count found may)

  module _ (told : Option (List Moment)) where
    shut_ok : PutsWithin P S (Ok tt) old told → Shuts gate old told false
    shut_ok puts =
        let same : stored_entries puts.0.log ≡ E = closed (synced_content puts.0.log) (only_synced S puts.0.log puts.1) in
        record {
          log = puts.0.log;
          tells = puts.0.tells;
          same = same;
          during = puts_each (λ es. es ≡ E) P S old refl closed told puts.0;
          holds = holds_stored gate false E puts.0.log (record {
            short = holds.short;
            size = holds.size;
            stored = same;
            gated = λ left may. shut_again (front E) next left (puts.1 left may);
          });
          crash = λ count found may. finds_now puts.0.steps puts.0.each count found (subst (λ (l : List Moment). MayFind l count found) puts.0.grown may);
        }

    shut_unwritten : PutsWithin P S (Err Unwritten) old told → Shuts gate old told true
    shut_unwritten puts = record {
      log = old;
      tells = subst (λ (l : List Moment). told ≡ Some l) puts.1 puts.0.tells;
      same = refl;
      during = ([], subst (λ (l : List Moment). told ≡ Some l) puts.1 puts.0.tells, tt);
      holds = holds;
      crash = λ count found may. inl may;
    }

    none_after : (c : List ℕ) → ⊥ → S c
    none_after c none = absurd none

    within : (steps : List Moment) → AreWithin P (λ c. ⊥) old steps → AreWithin P S old steps
    within [] each = tt
    within (moment ∷ steps) each = (⊎_elim (λ before. inl before) (λ after. inr (λ left may. absurd (after left may))) each.0, within steps each.1)

    shut_unsure : (error : PutFailed) → (puts : PutsWithin P S (Err error) old told) → (LeavesOnly P puts.0.log × (synced_content puts.0.log ≡ synced_content old)) → Shuts gate old told true
    shut_unsure error puts unsynced =
        let same : stored_entries puts.0.log ≡ E = ap entries_on unsynced.1 in
        record {
          log = puts.0.log;
          tells = puts.0.tells;
          same = same;
          during = puts_each (λ es. es ≡ E) P (λ c. ⊥) old refl (λ c none. absurd none) told puts.0;
          holds = holds_stored gate true E puts.0.log (record {
            short = holds.short;
            size = holds.size;
            stored = same;
            gated = (
              tried,
              holds.gated.1,
              unsynced.0,
              subst (λ (l : List Moment). MayFind l (length E) (Some (E ++ tried ∷ []))) (sym puts.0.grown)
                  (finds_still puts.0.steps old (length E) (Some (E ++ tried ∷ [])) holds.gated.3),
            );
          });
          crash = λ count found may. finds_now puts.0.steps (within puts.0.steps puts.0.each) count found (subst (λ (l : List Moment). MayFind l count found) puts.0.grown may);
        }

  -- the gate was put
  pub shut_done : (told : Option (List Moment)) (result : Result (Unit {0}) PutFailed) (u : Unit {0}) → result ≡ Ok u → LogsPut gate (0 ∷ []) result old told → Shuts gate old told false
  shut_done told result u is does =
      shut_ok told (puts_gate (front E) next 0 gate holds.size old holds.gated.2 (Ok tt) told (subst (λ (r : Result (Unit {0}) PutFailed). LogsPut gate (0 ∷ []) r old told) is does))

  -- or it wasn't
  pub shut_failed : (told : Option (List Moment)) (result : Result (Unit {0}) PutFailed) (error : PutFailed) → result ≡ Err error → LogsPut gate (0 ∷ []) result old told → Shuts gate old told true
  shut_failed told result error is does = by_error error (subst (λ (r : Result (Unit {0}) PutFailed). LogsPut gate (0 ∷ []) r old told) is does)
    where
      by_error : (error : PutFailed) → LogsPut gate (0 ∷ []) (Err error) old told → Shuts gate old told true
      by_error Unwritten logs = shut_unwritten told (puts_gate (front E) next 0 gate holds.size old holds.gated.2 (Err Unwritten) told logs)
      by_error (Unsure why) logs = let puts = puts_gate (front E) next 0 gate holds.size old holds.gated.2 (Err (Unsure why)) told logs in shut_unsure told (Unsure why) puts puts.1.0
