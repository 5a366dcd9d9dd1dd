-- What is found after a crash is a history that goes on.
use Rattle.std.proofs.Common.{◌≡◌, ◌⊎◌, inl, inr, ℕ, Some, Option, List, [], ◌∷◌, ◌++◌, take, drop, refl, ap, subst, sym, ◌∙◌, arith, append_assoc, append-nil, length-append}
use Rattle.std.proofs.lemmas.List.{length-take-le, take-append-drop}
use Rattle.std.specs.List.{AllByRecursion, flat_map}
use Rattle.ledger_disk.specs.Moments.{Moment}
use Rattle.ledger_disk.specs.Crashes.{FindsNow, MayFind}
use Rattle.ledger_disk.specs.Entries.{Opens}
use Rattle.pool_base.specs.Lists.{Begins}
use Rattle.pool_history.specs.declared.events.Event.{Event}
use Rattle.history_laws.specs.Legality.{LegalHistoriesStart, PrefixesAreLegal, Starts}
use Rattle.ledger_records.specs.Keeping.{IsKept}
use Rattle.pool_history.specs.declared.settings.Rules.{Rules}
use Rattle.ledger_records.specs.OneLedger.{LedgersAreOfOneHistory}
use Rattle.ledger_records.specs.WellFormed.{CanBeKept}
use Rattle.ledger_resume.specs.Histories.{IsHistoryOf}
use Rattle.share_ledger.specs.Recovery.{LeavesFront, pieces_of}
use Rattle.ledger_resume.specs.Books.{GoesOnFromRecords, IsBegun, LeavesFronts}
use Rattle.ledger_resume.specs.Laws.{AreGoneOnWith, CrashesAreGoneOnWith, NextRunsGoOn}
use Rattle.ledger_resume.specs.declared.leaving.TheConstants.{WORKERS}
use Rattle.ledger_resume.proofs.Leaves.{leave_begins}
use Rattle.ledger_resume.proofs.StartOf.{some_record}

all-front : (P : Event → Type 0) (a b : List Event) → AllByRecursion P (a ++ b) → AllByRecursion P a
all-front P [] b all = tt
all-front P (x ∷ a) b all = (all.0, all-front P a b all.1)

module _ (prefixes : PrefixesAreLegal) (start : LegalHistoriesStart) where
  kept_front : (a b : List Event) → IsKept (a ++ b) → IsKept a
  kept_front a b kept = record { legal = prefixes a b kept.legal; has_ledger = all-front CanBeKept a b kept.has_ledger }

  started : (e : Event) (more : List Event) → (e ∷ more ≡ []) ⊎ Starts (e ∷ more) → Starts (e ∷ more)
  started e more (inl none) = absurd (empty none) where
    empty : ◌≡◌ {A = List Event} (e ∷ more) [] → ⊥
    empty same = cc
  started e more (inr starts) = starts

  of_history : (past : List Event) (records : List (List ℕ)) → IsKept past → records ≡ pieces_of past → ((records ≡ []) × (past ≡ [])) ⊎ IsHistoryOf records past
  of_history [] records kept is = inl (is, refl)
  of_history (e ∷ more) records kept is = inr (record { kept = kept; begun = started e more (start (e ∷ more) kept.legal); pieces = is })

  module _ (history : List Event) (count : ℕ) (kept : IsKept history) where
    front_kept : IsKept (take count history)
    front_kept = kept_front (take count history) (drop count history) (subst IsKept (sym (take-append-drop count history)) kept)

    of_front : (found : Option (List (List ℕ))) → LeavesFront history count found
        → (records : List (List ℕ)) × (found ≡ Some records) × AreGoneOnWith history count records
    of_front found leaves = elim leaves.finds [
      | inl all ↦ (
        pieces_of (take count history),
        all,
        record {
          past = take count history;
          found = of_history (take count history) (pieces_of (take count history)) front_kept refl;
          answered = ([], append-nil (take count history));
          few = omega (arith, length-take-le count history leaves.within);
        },
      )
      | inr more ↦ (
        pieces_of (take count history ++ more.next ∷ []),
        more.finds,
        record {
          past = take count history ++ more.next ∷ [];
          found = of_history (take count history ++ more.next ∷ []) (pieces_of (take count history ++ more.next ∷ [])) more.keeps.kept refl;
          answered = (more.next ∷ [], refl);
          few = omega (arith, length-take-le count history leaves.within, length-append (take count history) (more.next ∷ []));
        },
      )
    ]

  pub gone_on : CrashesAreGoneOnWith
  gone_on disk log history count found told leaves kept may =
      let recovers = subst (λ (d : Option (List Moment)). LeavesFronts (record { faults = disk.faults; log = d }) history) told leaves in
      of_front history count kept found (recovers.fronts count found may)

-- what a crash at a moment leaves is found at the end of the log
pub may_at : (later until : List Moment) (count : ℕ) (found : Option (List (List ℕ))) → FindsNow until count found → MayFind (later ++ until) count found
may_at [] [] count found now = now
may_at [] (moment ∷ older) count found now = inl now
may_at (moment ∷ later) until count found now = inr (may_at later until count found now)

pub begins_on : (a b c : List Event) → Begins a b → Begins b c → Begins a c
begins_on a b c first then = (first.0 ++ then.0, sym (append_assoc a first.0 then.0) ∙ ap (λ (l : List Event). l ++ then.0) first.1 ∙ then.1)

pub none_begins : (a b past : List Event) → Begins a past → past ≡ [] → Begins a b
none_begins [] b past begins none = (b, refl)
none_begins (e ∷ a) b past begins none = absurd (empty (begins.1 ∙ none)) where
  empty : ◌≡◌ {A = List Event} (e ∷ (a ++ begins.0)) [] → ⊥
  empty same = cc

pub some_is : (a b : List (List ℕ)) → Some a ≡ Some b → a ≡ b
some_is a b same = cc

module _ (gone : CrashesAreGoneOnWith) (one : LedgersAreOfOneHistory) where
  same_history : (records : List (List ℕ)) (past other : List Event) → IsHistoryOf records past → IsHistoryOf records other → past ≡ other
  same_history records past other is also = one past other is.kept.has_ledger also.kept.has_ledger (ap (λ (rs : List (List ℕ)). flat_map (λ (piece : List ℕ). piece) rs) (sym is.pieces ∙ also.pieces))

  pub goes_on_from : (records : List (List ℕ)) (front past other : List Event) → Begins front past
      → ((records ≡ []) × (past ≡ [])) ⊎ IsHistoryOf records past → IsHistoryOf records other → Begins front other
  goes_on_from records front past other begins (inl none) is = none_begins front other past begins none.1
  goes_on_from records front past other begins (inr of_these) is =
      subst (λ (h : List Event). Begins front h) (same_history records past other of_these is) begins

  pub made_on : (rules : Rules) (records : List (List ℕ)) (front past events : List Event) → Begins front past
      → ((records ≡ []) × (past ≡ [])) ⊎ IsHistoryOf records past → IsBegun rules records events ⊎ GoesOnFromRecords rules records events → Begins front events
  made_on rules records front past events begins (inl none) (inl begun) = none_begins front events past begins none.1
  made_on rules records front past events begins (inr is) (inl begun) =
      absurd (some_record past (subst (λ (rs : List (List ℕ)). IsHistoryOf rs past) begun.unused is))
  made_on rules records front past events begins found (inr on) =
      begins_on front on.past events (goes_on_from records front past on.past begins found on.of_pool.history) (leave_begins WORKERS on.past events on.left)

  pub next_run : NextRunsGoOn
  next_run disk log history count left told leaves kept crash rules book ready =
      let records = ready.1 in
      let opens : Opens left (Some records) = ready.2.holds _ refl in
      let may : MayFind log count (Some records) =
      subst (λ (l : List Moment). MayFind l count (Some records)) (sym crash.parts)
      (may_at crash.later crash.until count (Some records) (left, crash.leaves, opens, crash.stored)) in
      let found = gone disk log history count (Some records) told leaves kept may in
      let of_these = subst (λ (rs : List (List ℕ)). AreGoneOnWith history count rs) (sym (some_is records found.0 found.1)) found.2 in
      made_on rules records (take count history) of_these.past book.events of_these.answered of_these.found ready.3.made
