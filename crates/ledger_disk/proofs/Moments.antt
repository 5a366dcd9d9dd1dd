-- How what a crash may leave goes on from call to call.
use Rattle.std.proofs.Common.{◌≡◌, ◌⊎◌, inl, inr, ⊎_elim, ℕ, List, [], ◌∷◌, ◌++◌, Option, None, Some, Result, Ok, Err, length, sym, ◌∙◌, ap, subst, append_assoc}
use Rattle.ledger_disk.specs.Moments.{MayLeave, Moment, synced_content}
use Rattle.ledger_disk.proofs.Crashes.{synced_left}
use Rattle.ledger_disk.specs.declared.steps.PutFailed.{PutFailed}
use Rattle.ledger_disk.specs.declared.steps.PutFailed.TheVariants.{Unwritten, Unsure}
use Rattle.ledger_disk.specs.Crashes.{FindsNow, AtEach, LeavesOnly, MayFind, Throughout, stored_entries}
use Rattle.ledger_disk.specs.Entries.{Opens, entries_on}

abbrev or_that : List Moment → Option (List Moment) → List Moment
or_that log (Some told) = told
or_that log None = log

-- who tells the same tells one thing
pub some_is : (a b : List Moment) → Some a ≡ Some b → a ≡ b
some_is a b same = ap (or_that a) same

pub finds_now : (log : List Moment) (count : ℕ) (found : Option (List (List ℕ))) → FindsNow log count found → MayFind log count found
finds_now [] count found now = now
finds_now (moment ∷ older) count found now = inl now

-- what may have been found once may have been found
pub finds_still : (steps old : List Moment) (count : ℕ) (found : Option (List (List ℕ))) → MayFind old count found → MayFind (steps ++ old) count found
finds_still [] old count found may = may
finds_still (moment ∷ steps) old count found may = inr (finds_still steps old count found may)

-- before a sync a crash leaves what has P, and what was stored before
abbrev pub IsUnsynced : (List ℕ → Type 0) → List Moment → List Moment → Type 0
IsUnsynced P old log = LeavesOnly P log × (synced_content log ≡ synced_content old)

-- each of these moments is before a sync, or after one, where a crash leaves what has S
abbrev pub AreWithin : (P S : List ℕ → Type 0) → List Moment → List Moment → Type 0
AreWithin P S old [] = Unit {0}
AreWithin P S old (moment ∷ steps) =
    (IsUnsynced P old (moment ∷ steps ++ old) ⊎ LeavesOnly S (moment ∷ steps ++ old)) × AreWithin P S old steps

-- what was on the disk at the last sync may be left
pub only_synced : (S : List ℕ → Type 0) (log : List Moment) → LeavesOnly S log → S (synced_content log)
only_synced S log all = all (synced_content log) (synced_left log)

-- what may be found since, where R holds of all that opens with P before a sync, and with S after it
module _ (P S : List ℕ → Type 0) (old : List Moment) (R : ℕ → Option (List (List ℕ)) → Type 0)
    (before : (left : List ℕ) (found : Option (List (List ℕ))) → P left → Opens left found → R (length (stored_entries old)) found)
    (after : (left synced : List ℕ) (found : Option (List (List ℕ))) → S left → S synced → Opens left found → R (length (entries_on synced)) found) where
  now_since : (log : List Moment) → IsUnsynced P old log ⊎ LeavesOnly S log → (count : ℕ) (found : Option (List (List ℕ))) → FindsNow log count found → R count found
  now_since log (inl unsynced) count found now =
      subst (λ (n : ℕ). R n found) (sym (ap (λ (l : List ℕ). length (entries_on l)) unsynced.1) ∙ now.3)
      (before now.0 found (unsynced.0 now.0 now.1) now.2)
  now_since log (inr synced) count found now =
      subst (λ (n : ℕ). R n found) now.3
      (after now.0 (synced_content log) found (synced now.0 now.1) (only_synced S log synced) now.2)

  pub finds_since : (steps : List Moment) → AreWithin P S old steps → (count : ℕ) (found : Option (List (List ℕ))) → MayFind (steps ++ old) count found
      → MayFind old count found ⊎ R count found
  finds_since [] each count found may = inl may
  finds_since (moment ∷ steps) each count found (inl now) = inr (now_since (moment ∷ steps ++ old) each.0 count found now)
  finds_since (moment ∷ steps) each count found (inr may) = finds_since steps each.1 count found may

-- something is put, with P before its sync and S after it
pub record Puts (P S : List ℕ → Type 0) (old : List Moment) (told : Option (List Moment)) : Type 0 where
  pub log : List Moment
  pub tells : told ≡ Some log
  pub steps : List Moment
  pub grown : log ≡ steps ++ old
  pub each : AreWithin P S old steps

-- how it ends: stored; as it was; or it may be done, and isn't stored
abbrev pub EndsPut : (P S : List ℕ → Type 0) → Result (Unit {0}) PutFailed → List Moment → List Moment → Type 0
EndsPut P S (Ok done) old log = LeavesOnly S log
EndsPut P S (Err Unwritten) old log = log ≡ old
EndsPut P S (Err (Unsure error)) old log = IsUnsynced P old log × ((left : List ℕ) × MayLeave log left × S left)

-- nothing is, where it failed
abbrev pub AfterOk : Result (Unit {0}) PutFailed → (List ℕ → Type 0) → List ℕ → Type 0
AfterOk (Ok done) S left = S left
AfterOk (Err error) S left = ⊥

abbrev pub PutsWithin : (P S : List ℕ → Type 0) → Result (Unit {0}) PutFailed → List Moment → Option (List Moment) → Type 0
PutsWithin P S result old told = (puts : Puts P (AfterOk result S) old told) × EndsPut P S result old puts.log

-- steps of which each is before a sync or after one, by what is stored then
module _ (Q : List (List ℕ) → Type 0) where
  within_each : (P S : List ℕ → Type 0) (old : List Moment) → Q (stored_entries old) → ((c : List ℕ) → S c → Q (entries_on c)) → (steps : List Moment) → AreWithin P S old steps
      → AtEach (λ now. Q (stored_entries now)) steps old
  within_each P S old before after [] each = tt
  within_each P S old before after (moment ∷ steps) each = (
    ⊎_elim (λ unsynced. subst (λ (c : List ℕ). Q (entries_on c)) (sym unsynced.1) before)
        (λ synced. after (synced_content (moment ∷ steps ++ old)) (only_synced S (moment ∷ steps ++ old) synced)) each.0,
    within_each P S old before after steps each.1,
  )

  pub puts_each : (P S : List ℕ → Type 0) (old : List Moment) → Q (stored_entries old) → ((c : List ℕ) → S c → Q (entries_on c)) → (told : Option (List Moment)) → Puts P S old told
      → Throughout (λ now. Q (stored_entries now)) old told
  puts_each P S old before after told puts =
      (puts.steps, puts.tells ∙ ap (λ (l : List Moment). Some l) puts.grown, within_each P S old before after puts.steps puts.each)

module _ (P : List Moment → Type 0) where
  each_more : (later earlier old : List Moment) → AtEach P later (earlier ++ old) → AtEach P earlier old → AtEach P (later ++ earlier) old
  each_more [] earlier old then_each each = each
  each_more (moment ∷ later) earlier old then_each each =
      (subst (λ (l : List Moment). P (moment ∷ l)) (sym (append_assoc later earlier old)) then_each.0, each_more later earlier old then_each.1 each)

  -- through one call, and then through another
  pub throughout_over : (old mid : List Moment) (told : Option (List Moment)) → Throughout P old (Some mid) → Throughout P mid told → Throughout P old told
  throughout_over old mid told first second =
      let grown : mid ≡ first.0 ++ old = some_is mid (first.0 ++ old) first.1 in (
        second.0 ++ first.0,
        second.1 ∙ ap (λ (l : List Moment). Some (second.0 ++ l)) grown ∙ ap (λ (l : List Moment). Some l) (sym (append_assoc second.0 first.0 old)),
        each_more second.0 first.0 old (subst (λ (l : List Moment). AtEach P second.0 l) grown second.2) first.2,
      )

each_all : (P Q : List Moment → Type 0) → ((l : List Moment) → P l → Q l) → (calls old : List Moment) → AtEach P calls old → AtEach Q calls old
each_all P Q all [] old each = tt
each_all P Q all (moment ∷ calls) old each = (all (moment ∷ calls ++ old) each.0, each_all P Q all calls old each.1)

-- what holds throughout, and more
pub throughout_all : (P Q : List Moment → Type 0) → ((l : List Moment) → P l → Q l) → (old : List Moment) (told : Option (List Moment)) → Throughout P old told → Throughout Q old told
throughout_all P Q all old told through = (through.0, through.1, each_all P Q all through.0 old through.2)
