-- What a put leaves, behind bytes that stand, or at the gate before them.
use Rattle.std.proofs.Common.{◌≡◌, inl, inr, ⊎_elim, ℕ, ◌+◌, ◌≤◌, ◌<◌, List, [], ◌∷◌, ◌++◌, Option, Result, Ok, Err, length, take, drop, get_or, refl, sym, ◌∙◌, ap, subst, arith, append_assoc, length-append, take-append-drop}
use Rattle.std.proofs.lemmas.List.{take_at, drop_at, drop_more}
use Rattle.ledger_disk.specs.declared.disk.Doing.TheVariants.{Wrote, Synced}
use Rattle.ledger_disk.specs.declared.disk.DiskFailed.{DiskFailed}
use Rattle.ledger_disk.specs.declared.disk.DiskFailed.TheVariants.{Failed, Memory}
use Rattle.ledger_disk.specs.Calls.{LogsWrite, overwritten}
use Rattle.ledger_disk.specs.Moments.{Moment, TornWrite, last_content, with_call}
use Rattle.ledger_disk.proofs.Crashes.{content_left, write_done}
use Rattle.ledger_disk.specs.declared.steps.PutFailed.{PutFailed}
use Rattle.ledger_disk.specs.declared.steps.PutFailed.TheVariants.{Unwritten, Unsure}
use Rattle.ledger_disk.specs.Crashes.{LeavesOnly}
use Rattle.ledger_disk.specs.Entries.{Begins, HasBehind}
use Rattle.ledger_disk.specs.Steps.{LogsPut, put_failed_by}
use Rattle.ledger_disk.proofs.Moments.{IsUnsynced, PutsWithin}

-- what begins so is at least so long
pub begins_long : (start bytes : List ℕ) → Begins start bytes → length start ≤ length bytes
begins_long start bytes begins = omega (arith, ap length begins.1, length-append start begins.0)

-- a write behind bytes leaves them
pub begin_stays : (start : List ℕ) (at count : ℕ) → length start ≡ at → (d c : List ℕ) → Begins start d → TornWrite at count d c → Begins start c
begin_stays start at count size d c begins torn =
    let same : take at c ≡ start = torn.before ∙ ap (λ (l : List ℕ). take at l) begins.1 ∙ take_at start begins.0 at size in
    (drop at c, sym (take-append-drop at c) ∙ ap (λ (l : List ℕ). l ++ drop at c) same)

-- and once it is done its bytes are there
pub begin_written : (start bytes content : List ℕ) (at : ℕ) → length start ≡ at → Begins start content → Begins (start ++ bytes) (overwritten at bytes content)
begin_written start bytes content at size begins =
    let same : take at content ≡ start = ap (λ (l : List ℕ). take at l) begins.1 ∙ take_at start begins.0 at size in
    (drop (at + length bytes) content, ap (λ (l : List ℕ). l ++ bytes ++ drop (at + length bytes) content) same)

module _ (start next : List ℕ) (at : ℕ) (size : length start ≡ at) where
  cut_at : (d : List ℕ) (behind : HasBehind start next d) → d ≡ start ++ behind.0 ∷ (next ++ behind.1.0)
  cut_at d behind = behind.1.1 ∙ append_assoc start (behind.0 ∷ next) behind.1.0

  rest_at : (d : List ℕ) (behind : HasBehind start next d) → drop (at + 1) d ≡ next ++ behind.1.0
  rest_at d behind =
      let gate = behind.0 in
      let rest = next ++ behind.1.0 in
      let split : d ≡ (start ++ gate ∷ []) ++ rest = cut_at d behind ∙ sym (append_assoc start (gate ∷ []) rest) in
      ap (λ (l : List ℕ). drop (at + 1) l) split ∙ drop_at (start ++ gate ∷ []) rest (at + 1) (omega (arith, size, length-append start (gate ∷ [])))

  pub behind_long : (d : List ℕ) (behind : HasBehind start next d) → at < length d
  behind_long d behind = omega (arith, size, ap length (cut_at d behind), length-append start (behind.0 ∷ (next ++ behind.1.0)))

  -- a write at the gate leaves all but the gate
  pub behind_stays : (d c : List ℕ) → HasBehind start next d → TornWrite at 1 d c → HasBehind start next c
  behind_stays d c behind torn =
      let gate = get_or c at 0 in
      let front_same : take at c ≡ start = torn.before ∙ ap (λ (l : List ℕ). take at l) (cut_at d behind) ∙ take_at start _ at size in
      let back : drop at c ≡ gate ∷ (next ++ behind.1.0) =
      drop_more c at 0 (omega (arith, torn.no_shorter, behind_long d behind)) ∙ ap (λ (l : List ℕ). gate ∷ l) (torn.after ∙ rest_at d behind) in
      let whole : c ≡ start ++ gate ∷ (next ++ behind.1.0) =
      sym (take-append-drop at c) ∙ ap (λ (l : List ℕ). l ++ drop at c) front_same ∙ ap (λ (l : List ℕ). start ++ l) back in
      (gate, (behind.1.0, whole ∙ sym (append_assoc start (gate ∷ next) behind.1.0)))

  -- and once it is done the gate is there
  pub behind_written : (gate : ℕ) (content : List ℕ) → HasBehind start next content → Begins (start ++ gate ∷ next) (overwritten at (gate ∷ []) content)
  behind_written gate content behind =
      let front_same : take at content ≡ start = ap (λ (l : List ℕ). take at l) (cut_at content behind) ∙ take_at start _ at size in
      let whole : overwritten at (gate ∷ []) content ≡ start ++ gate ∷ (next ++ behind.1.0) =
      ap (λ (l : List ℕ). l ++ (gate ∷ []) ++ drop (at + 1) content) front_same
      ∙ append_assoc start (gate ∷ []) (drop (at + 1) content)
      ∙ ap (λ (l : List ℕ). start ++ gate ∷ l) (rest_at content behind) in
      (behind.1.0, whole ∙ sym (append_assoc start (gate ∷ next) behind.1.0))

-- a write that stays within P, and has S once it is done
module _ (P S : List ℕ → Type 0) (at : ℕ) (bytes : List ℕ) (old : List Moment) (inside : at ≤ length (last_content old))
    (stays : (d c : List ℕ) → P d → TornWrite at (length bytes) d c → P c)
    (done : P (last_content old) → S (overwritten at bytes (last_content old))) (all : LeavesOnly P old) where
  here : P (last_content old)
  here = all (last_content old) (content_left old)

  abbrev moment_of : List ℕ → List Moment
  moment_of content = with_call (Wrote at (length bytes)) content old

  abbrev content_done : List ℕ
  content_done = overwritten at bytes (last_content old)

  torn_done : TornWrite at (length bytes) (last_content old) content_done
  torn_done = write_done at bytes (last_content old) inside

  is_written : (content : List ℕ) → TornWrite at (length bytes) (last_content old) content → IsUnsynced P old (moment_of content)
  is_written content torn = (
    λ left may. ⊎_elim (λ (is : left ≡ content). subst P (sym is) (stays (last_content old) content here torn)) (λ from. stays from.0 left (all from.0 from.1) from.2) may,
    refl,
  )

  all_synced : LeavesOnly S (with_call Synced content_done (moment_of content_done))
  all_synced = λ left may. ⊎_elim (λ (is : left ≡ content_done). subst S (sym is) (done here)) (λ broken. absurd broken.2) may

  pub put_leaves : (result : Result (Unit {0}) PutFailed) (told : Option (List Moment)) → LogsPut at bytes result old told → PutsWithin P S result old told
  put_leaves (Ok u) told is = (
    record {
      log = with_call Synced content_done (moment_of content_done);
      tells = is;
      steps = record { doing = Synced; content = content_done } ∷ record { doing = Wrote at (length bytes); content = content_done } ∷ [];
      grown = refl;
      each = (inr all_synced, (inl (is_written content_done torn_done), tt));
    },
    all_synced,
  )
  put_leaves (Err Unwritten) told is = (record { log = old; tells = is; steps = []; grown = refl; each = tt }, refl)
  put_leaves (Err (Unsure error)) told is = (
    record {
      log = moment_of is.0;
      tells = is.2;
      steps = record { doing = Wrote at (length bytes); content = is.0 } ∷ [];
      grown = refl;
      each = (inl (is_written is.0 is.1), tt);
    },
    (is_written is.0 is.1, (content_done, inr (last_content old, content_left old, torn_done), done here)),
  )

-- bytes put behind others that stand: these stand whenever a crash comes
module _ (start bytes : List ℕ) (at : ℕ) (size : length start ≡ at) (old : List Moment) (all : LeavesOnly (Begins start) old) where
  pub inside_behind : at ≤ length (last_content old)
  inside_behind = omega (arith, size, begins_long start (last_content old) (all (last_content old) (content_left old)))

  pub puts_behind : (result : Result (Unit {0}) PutFailed) (told : Option (List Moment)) → LogsPut at bytes result old told
      → PutsWithin (Begins start) (Begins (start ++ bytes)) result old told
  puts_behind = put_leaves (Begins start) (Begins (start ++ bytes)) at bytes old inside_behind
      (begin_stays start at (length bytes) size) (begin_written start bytes (last_content old) at size) all

-- a gate put before bytes that stand: all but the gate stands whenever a crash comes
module _ (start next : List ℕ) (gate at : ℕ) (size : length start ≡ at) (old : List Moment) (all : LeavesOnly (HasBehind start next) old) where
  pub inside_gate : at ≤ length (last_content old)
  inside_gate = omega (arith, behind_long start next at size (last_content old) (all (last_content old) (content_left old)))

  pub puts_gate : (result : Result (Unit {0}) PutFailed) (told : Option (List Moment)) → LogsPut at (gate ∷ []) result old told
      → PutsWithin (HasBehind start next) (Begins (start ++ gate ∷ next)) result old told
  puts_gate = put_leaves (HasBehind start next) (Begins (start ++ gate ∷ next)) at (gate ∷ []) old inside_gate
      (behind_stays start next at size) (behind_written start next at size gate (last_content old)) all

-- a write that failed
pub put_failed : (error : DiskFailed) (at : ℕ) (bytes : List ℕ) (old : List Moment) (told : Option (List Moment)) → LogsWrite at bytes (Err error) old told
    → LogsPut at bytes (Err (put_failed_by error)) old told
put_failed Failed at bytes old told is = is
put_failed Memory at bytes old told is = is
