-- How many entries are stored at each moment of an append.
use Rattle.std.proofs.Common.{◌≡◌, ℕ, ◌+◌, List, [], ◌∷◌, ◌++◌, Option, None, Some, Result, Ok, Err, length, replicate, suc, refl, sym, ◌∙◌, ap, subst, append_assoc}
use Rattle.std.proofs.lemmas.List.{replicate-append-replicate}
use Rattle.ledger_disk.specs.declared.disk.Doing.TheVariants.{Wrote, Synced}
use Rattle.ledger_disk.specs.Moments.{Moment, last_content, with_call}
use Rattle.ledger_disk.specs.Crashes.{AtEach, Throughout, counts_of, stored_entries}
use Rattle.ledger_disk.specs.Steps.{CountsOn}
use Rattle.ledger_disk.proofs.Moments.{some_is}

counts_same : (entries : List (List ℕ)) (calls old : List Moment) → AtEach (λ now. stored_entries now ≡ entries) calls old
    → counts_of (calls ++ old) ≡ replicate (length calls) (length entries) ++ counts_of old
counts_same entries [] old each = refl
counts_same entries (moment ∷ calls) old each =
    ap (λ (n : ℕ). n ∷ counts_of (calls ++ old)) (ap (λ (es : List (List ℕ)). length es) each.0)
    ∙ ap (λ (ns : List ℕ). length entries ∷ ns) (counts_same entries calls old each.1)

-- the same entries are stored throughout a call
pub throughout_counts : (entries : List (List ℕ)) (old log : List Moment) (told : Option (List Moment)) → told ≡ Some log
    → Throughout (λ now. stored_entries now ≡ entries) old told → CountsOn [] (length entries) old log
throughout_counts entries old log told tells through = (
  length through.0,
  ap counts_of (some_is log (through.0 ++ old) (sym tells ∙ through.1)) ∙ counts_same entries through.0 old through.2,
)

-- through one call, and then through another
pub counts_over : (last : List ℕ) (count : ℕ) (old mid log : List Moment) → CountsOn [] count old mid → CountsOn last count mid log → CountsOn last count old log
counts_over last count old mid log first second = (
  second.0 + first.0,
  second.1
      ∙ ap (λ (ns : List ℕ). last ++ (replicate second.0 count ++ ns)) first.1
      ∙ ap (λ (ns : List ℕ). last ++ ns) (sym (append_assoc (replicate second.0 count) (replicate first.0 count) (counts_of old)))
      ∙ ap (λ (ns : List ℕ). last ++ (ns ++ counts_of old)) (replicate-append-replicate second.0 first.0 count),
)

-- bytes are written where these entries are stored, and with the sync another number is
pub counts_put : (entries : List (List ℕ)) (at count later : ℕ) (content : List ℕ) (mid log : List Moment) → stored_entries mid ≡ entries
    → log ≡ with_call Synced content (with_call (Wrote at count) content mid) → length (stored_entries log) ≡ later
    → CountsOn (later ∷ []) (length entries) mid log
counts_put entries at count later content mid log same is more = (
  1,
  ap counts_of is
      ∙ ap (λ (n : ℕ). n ∷ length (stored_entries mid) ∷ counts_of mid) (ap (λ (l : List Moment). length (stored_entries l)) (sym is) ∙ more)
      ∙ ap (λ (n : ℕ). later ∷ n ∷ counts_of mid) (ap (λ (es : List (List ℕ)). length es) same),
)
