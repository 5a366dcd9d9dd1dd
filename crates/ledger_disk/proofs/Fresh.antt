-- What may be found of a ledger that was opened on a disk of which nothing is pending.
use Rattle.std.proofs.Common.{◌≡◌, ◌⊎◌, inl, inr, ⊎_elim, ℕ, ◌≤◌, List, [], ◌∷◌, ◌++◌, Option, None, Some, length, take, replicate, suc, zero, refl, sym, ◌∙◌, ap, subst, arith}
use Rattle.std.specs.Prelude.{IfSome}
use Rattle.std.proofs.Math.Seq.{take-length}
use Rattle.pool_io.specs.Crashes.{IsFrontFound, IsSettledWith, NeverFell, RoseTo}
use Rattle.ledger_disk.specs.declared.disk.Doing.TheVariants.{Synced}
use Rattle.ledger_disk.specs.Calls.{DiskSeen}
use Rattle.ledger_disk.specs.Moments.{MayLeave, Moment, with_call}
use Rattle.ledger_disk.specs.Crashes.{FindsJust, FindsNow, IsSettled, MayBeFound, MayFind, Throughout, counts_of, counts_told, stored_entries}
use Rattle.ledger_disk.specs.Entries.{IsBlank, Opens, entries_on, magic}
use Rattle.ledger_disk.proofs.Counting.{throughout_counts}
use Rattle.ledger_disk.proofs.Telling.{told_counts}

-- the same count again and again
never_fell : (moments count : ℕ) → NeverFell count (replicate moments count ++ count ∷ [])
never_fell zero count = (omega arith, tt)
never_fell (suc moments) count = (omega arith, never_fell moments count)

rose : (moments count : ℕ) → RoseTo count (replicate moments count ++ count ∷ [])
rose zero count = (refl, tt)
rose (suc moments) count = (refl, never_fell moments count)

-- opening finds the entries that stand there, and nothing else
opens_only : (entries : List (List ℕ)) (c : List ℕ) → IsBlank c ⊎ (take 8 c ≡ magic) → entries_on c ≡ entries → (found : Option (List (List ℕ))) → Opens c found → found ≡ Some entries
opens_only entries c (inl blank) are None foreign = absurd (omega (arith, blank, foreign.0))
opens_only entries c (inr begun) are None foreign = absurd (foreign.1 begun)
opens_only entries c begins are (Some es) opens = ap (λ (l : List (List ℕ)). Some l) (sym opens.1 ∙ are)

-- a disk of which nothing is pending
abbrev pub fresh_log : List ℕ → List Moment
fresh_log content = with_call Synced content []

module _ (content : List ℕ) (entries : List (List ℕ)) (opens : Opens content (Some entries)) where
  abbrev fresh : List Moment
  fresh = fresh_log content

  pub fresh_leaves : IsSettled fresh
  fresh_leaves left may = ⊎_elim (λ (is : left ≡ content). is) (λ broken. absurd broken.2) may

  whole : IsFrontFound entries (length entries) (Some entries)
  whole = (omega arith, ap (λ (es : List (List ℕ)). Some es) (sym (take-length entries)))

  all_found : (count : ℕ) (found : Option (List (List ℕ))) → count ≡ length entries → found ≡ Some entries → IsFrontFound entries count found
  all_found count found counted is = rw (counted, is) whole

  now_found : (count : ℕ) (found : Option (List (List ℕ))) → FindsNow fresh count found → IsFrontFound entries count found
  now_found count found now =
      all_found count found (sym now.3 ∙ ap (λ (es : List (List ℕ)). length es) opens.1)
      (opens_only entries content opens.0 opens.1 found (subst (λ (left : List ℕ). Opens left found) (fresh_leaves now.0 now.1) now.2))

  -- before its first call a disk is empty
  none_found : (count : ℕ) (found : Option (List (List ℕ))) → FindsNow [] count found → IsFrontFound entries count found
  none_found count found now =
      let is : found ≡ Some [] = opens_only [] [] (inl (omega arith)) refl found (subst (λ (left : List ℕ). Opens left found) now.1 now.2) in
      rw (← now.3, is) (omega arith, refl)

  pub fresh_settled : (disk : DiskSeen) → FindsJust (entries_on content) (MayFind fresh) (MayBeFound disk)
      → Throughout (λ now. stored_entries now ≡ entries_on content) fresh disk.log → IsSettledWith (counts_told disk) (MayBeFound disk) entries
  fresh_settled disk finds through =
      let log = through.0 ++ fresh in
      let counted = throughout_counts (entries_on content) fresh log disk.log through.1 through in
      let is : counts_of log ≡ replicate counted.0 (length entries) ++ length entries ∷ [] =
      counted.1 ∙ ap (λ (es : List (List ℕ)). replicate counted.0 (length es) ++ length es ∷ []) opens.1 in
      let told : counts_told disk ≡ Some (counts_of log) = ap (λ (t : Option (List Moment)). told_counts t) through.1 in
      subst (λ (t : Option (List ℕ)). IfSome t (λ counts. RoseTo (length entries) counts × ((count : ℕ) (found : Option (List (List ℕ))) → MayBeFound disk count found → IsFrontFound entries count found)))
      (sym told) (
        subst (λ (ns : List ℕ). RoseTo (length entries) ns) (sym is) (rose counted.0 (length entries)),
        λ count found may. ⊎_elim (λ (was : MayFind fresh count found). ⊎_elim (λ now. now_found count found now) (λ none. none_found count found none) was)
            (λ now. all_found count found (now.0 ∙ ap (λ (es : List (List ℕ)). length es) opens.1) (now.1 ∙ ap (λ (es : List (List ℕ)). Some es) opens.1))
            (finds count found may),
      )
