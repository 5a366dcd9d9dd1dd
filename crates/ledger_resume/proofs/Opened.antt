-- What is known of a ledger on a disk that was just opened.
use Rattle.std.proofs.Common.{◌≡◌, ⊎_elim, ℕ, None, Some, Option, List, [], refl, ap, subst, sym, ◌∙◌}
use Rattle.std.specs.Option.{option_map}
use Rattle.pool_io.specs.Crashes.{IsSettledWith}
use Rattle.ledger_disk.specs.Calls.{DiskSeen, fresh_disk}
use Rattle.ledger_disk.specs.Moments.{Moment, with_call}
use Rattle.ledger_disk.specs.declared.disk.Doing.TheVariants.{Synced}
use Rattle.ledger_disk.specs.Crashes.{IsSettled, MayBeFound, counts_told, entries_told}
use Rattle.ledger_resume.specs.Refusals.{TellsJust}
use Rattle.ledger_resume.specs.Books.{IsJustOpened}

-- nothing is pending on it
pub settled_fresh : (content : List ℕ) → IsSettled (with_call Synced content [])
settled_fresh content left may = ⊎_elim (λ is. is) (λ torn. absurd torn.2) may

some_is : {A : Type 0} (a b : A) → Some a ≡ Some b → a ≡ b
some_is a b same = cc

none_some : {A : Type 0} (a : A) → ◌≡◌ {A = Option A} None (Some a) → ⊥
none_some a same = cc

pub is_settled : (disk : DiskSeen) (log : List Moment) → IsJustOpened disk → disk.log ≡ Some log → IsSettled log
is_settled disk log (None, is) told = absurd (none_some log (sym (ap (λ (d : DiskSeen). d.log) is) ∙ told))
is_settled disk log (Some content, is) told =
    subst IsSettled (some_is (with_call Synced content []) log (sym (ap (λ (d : DiskSeen). d.log) is) ∙ told)) (settled_fresh content)

-- so what its ledger tells is settled
untold_settled : (ledger : DiskSeen) (records : List (List ℕ)) (may : ℕ → Option (List (List ℕ)) → Type 0) → entries_told ledger ≡ None → IsSettledWith (counts_told ledger) may records
untold_settled ledger records may none = by_log ledger.log none
  where
    by_log : (log : Option (List Moment)) → option_map Rattle.ledger_disk.specs.Crashes.stored_entries log ≡ None
        → IsSettledWith (option_map Rattle.ledger_disk.specs.Crashes.counts_of log) may records
    by_log None none = tt
    by_log (Some log) none = absurd (none_some _ (sym none))

pub settled_with : (disk ledger : DiskSeen) (records : List (List ℕ)) → IsJustOpened disk → entries_told ledger ≡ option_map (λ log. records) disk.log
    → ((content : List ℕ) → disk.log ≡ (fresh_disk content).log → IsSettledWith (counts_told ledger) (MayBeFound ledger) records)
    → IsSettledWith (counts_told ledger) (MayBeFound ledger) records
settled_with disk ledger records (None, is) told settled =
    untold_settled ledger records (MayBeFound ledger) (told ∙ ap (option_map (λ log. records)) (ap (λ (d : DiskSeen). d.log) is))
settled_with disk ledger records (Some content, is) told settled = settled content (ap (λ (d : DiskSeen). d.log) is)

-- and it tells just its records
pub tells_just : (told : Option (List Moment)) (entries : Option (List (List ℕ))) (records : List (List ℕ)) → entries ≡ option_map (λ log. records) told → TellsJust entries records
tells_just None entries records is = subst (λ e. TellsJust e records) (sym is) tt
tells_just (Some log) entries records is = subst (λ e. TellsJust e records) (sym is) refl
