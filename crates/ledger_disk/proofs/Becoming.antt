-- What opening a disk makes of it, anew or of its entries.
use Rattle.std.proofs.Common.{◌≡◌, inl, inr, ℕ, false, List, [], Option, None, Some, Result, Ok, refl, sym, ◌∙◌, ap, subst, arith}
use Rattle.std.specs.Option.{IfSome, option_map}
use Rattle.ledger_disk.specs.declared.disk.DiskFailed.{DiskFailed}
use Rattle.ledger_disk.specs.Calls.{WhereTold}
use Rattle.ledger_disk.specs.Moments.{Moment, last_content}
use Rattle.ledger_disk.specs.Crashes.{FindsJust, IsSettled, LeavesStored, MayFind, Throughout, stored_entries}
use Rattle.ledger_disk.specs.Entries.{IsBlank, entries_on}
use Rattle.ledger_disk.specs.Steps.{BecomesLedger, Closes, HoldsEntries, IsOnDisk, Makes}
use Rattle.ledger_disk.proofs.Adding.{none_tells}
use Rattle.ledger_disk.proofs.Closing.{holds_found, holds_magic}
use Rattle.ledger_disk.proofs.Making.{nine_found}

-- what stands is what is found
pub holds_those : (gate : ℕ) (entries : List (List ℕ)) (content : List ℕ) → HoldsEntries gate entries content → HoldsEntries gate (entries_on content) content
holds_those gate entries content holds = subst (λ (es : List (List ℕ)). HoldsEntries gate es content) (sym (holds_found gate entries content holds)) holds

blank_none : (content : List ℕ) → IsBlank content → entries_on content ≡ []
blank_none content blank = nine_found content (omega (arith, blank))

-- a blank disk, which is made anew or isn't
module _ (log : List Moment) (blank : IsBlank (last_content log)) (told : Option (List Moment)) where
  pub blank_crash : (result : Result (Unit {0}) DiskFailed) → Makes result log told → IsSettled log
      → FindsJust (entries_on (last_content log)) (MayFind log) (λ count found. IfSome told (λ l. MayFind l count found))
  blank_crash result made settled =
      subst (λ (es : List (List ℕ)). FindsJust es (MayFind log) (λ count found. IfSome told (λ l. MayFind l count found))) (sym (blank_none (last_content log) blank))
      (λ count found may. made.crash (λ left may_leave. subst IsBlank (sym (settled left may_leave)) blank) count found
      (subst (λ (t : Option (List Moment)). IfSome t (λ l. MayFind l count found)) made.tells may))

  pub blank_through : (result : Result (Unit {0}) DiskFailed) → Makes result log told → IsSettled log → Throughout (λ now. stored_entries now ≡ entries_on (last_content log)) log told
  blank_through result made settled =
      subst (λ (es : List (List ℕ)). Throughout (λ now. stored_entries now ≡ es) log told) (sym (blank_none (last_content log) blank))
      (made.during (λ left may_leave. subst IsBlank (sym (settled left may_leave)) blank))

  pub blank_becomes : (entries : List (List ℕ)) → entries ≡ [] → Makes (Ok tt) log told → BecomesLedger 8 entries log told
  blank_becomes entries none made =
      subst (λ (es : List (List ℕ)). BecomesLedger 8 es log told) (sym none)
      (record {
        log = made.log;
        tells = made.tells;
        opens = (inl blank, blank_none (last_content log) blank);
        stored = made.none;
        only = made.only;
        holds = made.holds;
      })

-- a disk with entries, which is cut and closed or isn't
module _ (log : List Moment) (gate : ℕ) (told : Option (List Moment)) where
  pub closed_crash : (result : Result (Unit {0}) DiskFailed) → Closes result gate (entries_on (last_content log)) log told → IsSettled log
      → FindsJust (entries_on (last_content log)) (MayFind log) (λ count found. IfSome told (λ l. MayFind l count found))
  closed_crash result closed settled = λ count found may.
      closed.crash settled count found (subst (λ (t : Option (List Moment)). IfSome t (λ l. MayFind l count found)) closed.tells may)

  pub closed_becomes : (entries : List (List ℕ)) → HoldsEntries gate entries (last_content log) → Closes (Ok tt) gate (entries_on (last_content log)) log told → BecomesLedger gate entries log told
  closed_becomes entries holds closed = record {
    log = closed.log;
    tells = closed.tells;
    opens = (inr (holds_magic gate entries (last_content log) holds), holds_found gate entries (last_content log) holds);
    stored = closed.stored ∙ holds_found gate entries (last_content log) holds;
    only = closed.only;
    holds = closed.holds;
  }

-- what an opening leaves, where the disk tells
module _ (gate : ℕ) (entries : List (List ℕ)) where
  abbrev Became : (old new : Option (List Moment)) → Type 0
  Became old new = WhereTold old (λ log. BecomesLedger gate entries log new)

  pub became_on_disk : (old new : Option (List Moment)) → (old ≡ None → new ≡ None) → Became old new → IsOnDisk gate false new
  became_on_disk None new untold becomes = subst (λ (t : Option (List Moment)). IsOnDisk gate false t) (sym (untold refl)) tt
  became_on_disk (Some log) new untold becomes = let made = becomes log refl in subst (λ (t : Option (List Moment)). IsOnDisk gate false t) (sym made.tells) made.holds

  pub became_stored : (old new : Option (List Moment)) → (old ≡ None → new ≡ None) → Became old new → option_map stored_entries new ≡ option_map (λ log. entries) old
  became_stored None new untold becomes = ap (λ (t : Option (List Moment)). option_map stored_entries t) (untold refl)
  became_stored (Some log) new untold becomes =
      let made = becomes log refl in ap (λ (t : Option (List Moment)). option_map stored_entries t) made.tells ∙ ap (λ (es : List (List ℕ)). Some es) made.stored

  pub became_only : (old new : Option (List Moment)) → (old ≡ None → new ≡ None) → Became old new → WhereTold new LeavesStored
  became_only None new untold becomes = λ log is. absurd (none_tells log (sym (untold refl) ∙ is))
  became_only (Some log) new untold becomes = λ told is.
      let made = becomes log refl in
      let only : IfSome new LeavesStored = subst (λ (t : Option (List Moment)). IfSome t LeavesStored) (sym made.tells) made.only in
      subst (λ (t : Option (List Moment)). IfSome t LeavesStored) is only
