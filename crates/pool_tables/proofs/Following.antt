-- What an Enter and a Leave do to what a table keeps.
use Rattle.std.proofs.Common.{◌≡◌, ℕ, ◌<◌, ◌≤◌, Bool, true, false, cond, Option, None, Some, List, [], ◌∷◌, ◌++◌, length, get_or, length-append, arith, refl, ap, sym, ◌∙◌, ⊎_elim}
use Rattle.std.proofs.Math.Dec.{eqb}
use Rattle.std.proofs.Math.ListN.{get_or-append}
use Rattle.std.proofs.Math.Seq.{get_or-append_seam}
use Rattle.std.proofs.lemmas.Bool.{cases_eq, cases_lt, eq-eqb, eqb-true, ne_eqb}
use Rattle.std.proofs.lemmas.Option.{slice_get-get_or, slice_get_past, slice_get_within}
use Rattle.std.specs.Map.{lookup}
use Rattle.std.specs.Option.{option_map}
use Rattle.std.specs.Prelude.{slice_get}
use Rattle.pool_history.specs.declared.events.Event.{Event}
use Rattle.pool_history.specs.declared.events.Event.TheVariants as event
use Rattle.pool_history.specs.Refusing.{most_enters}
use Rattle.pool_history.specs.Sessions.{Entrance, enters, unless_left}
use Rattle.pool_tables.specs.Tables.{HasOwnPresents, SessionTable, ShowsSessions}

some-same : {X : Type 0} {x y : X} → ◌≡◌ {A = Option X} (Some x) (Some y) → x ≡ y
some-same e = cc

none-some : {X : Type 0} {x : X} → ◌≡◌ {A = Option X} None (Some x) → ⊥
none-some e = cc

-- one item more is at the place behind the others
pub slice_get-push : {X : Type 0} (xs : List X) (y : X) (n : ℕ) → slice_get (xs ++ y ∷ []) n ≡ cond (eqb (length xs) n) (Some y) (slice_get xs n)
slice_get-push xs y n = ⊎_elim at_end elsewhere (cases_eq (length xs) n) where
  at_end : length xs ≡ n → slice_get (xs ++ y ∷ []) n ≡ cond (eqb (length xs) n) (Some y) (slice_get xs n)
  at_end same =
      slice_get-get_or (xs ++ y ∷ []) n y (omega (arith, length-append xs (y ∷ []), same))
      ∙ ap Some (ap (λ k. get_or (xs ++ y ∷ []) k y) (sym same) ∙ get_or-append_seam xs y [] y)
      ∙ ap (λ b. cond b (Some y) (slice_get xs n)) (sym (eq-eqb (length xs) n same))

  within : n < length xs → slice_get (xs ++ y ∷ []) n ≡ slice_get xs n
  within inside =
      slice_get-get_or (xs ++ y ∷ []) n y (omega (arith, length-append xs (y ∷ []), inside))
      ∙ ap Some (get_or-append xs (y ∷ []) y n inside) ∙ sym (slice_get-get_or xs n y inside)

  past_end : (length xs ≡ n → ⊥) → length xs ≤ n → slice_get (xs ++ y ∷ []) n ≡ slice_get xs n
  past_end other beyond =
      slice_get_past (xs ++ y ∷ []) n (omega (arith, length-append xs (y ∷ []), beyond, other))
      ∙ sym (slice_get_past xs n beyond)

  elsewhere : (length xs ≡ n → ⊥) → slice_get (xs ++ y ∷ []) n ≡ cond (eqb (length xs) n) (Some y) (slice_get xs n)
  elsewhere other =
      ⊎_elim within (past_end other) (cases_lt n (length xs))
      ∙ ap (λ b. cond b (Some y) (slice_get xs n)) (sym (ne_eqb (length xs) n other))

-- a session's worker
abbrev pub worker_at : List Entrance → ℕ → Option ℕ
worker_at entrances session = option_map (λ entered. entered.worker) (slice_get entrances session)

-- the presents after an Enter, and after a Leave
abbrev pub Begins : ℕ → ℕ → List (ℕ × ℕ) → List (ℕ × ℕ) → Type 0
Begins worker session old new = (other : ℕ) → lookup (eqb other) new ≡ cond (eqb worker other) (Some session) (lookup (eqb other) old)

abbrev pub Ends : ℕ → ℕ → List (ℕ × ℕ) → List (ℕ × ℕ) → Type 0
Ends worker session old new =
    (other : ℕ) → lookup (eqb other) new ≡ cond (eqb worker other) (unless_left session (lookup (eqb other) old)) (lookup (eqb other) old)

-- the parts fit after an Enter
pub begun-fits : (entrances : List Entrance) (old new : List (ℕ × ℕ)) (entered : Entrance) → HasOwnPresents entrances old
    → length entrances < most_enters → Begins entered.worker (length entrances) old new → HasOwnPresents (entrances ++ entered ∷ []) new
begun-fits entrances old new entered fits few begins = record {
  few = omega (arith, length-append entrances (entered ∷ []), few);
  own = λ worker session found. by_worker worker session (eqb entered.worker worker) refl (sym (begins worker) ∙ found);
} where
  last : (worker session : ℕ) → eqb entered.worker worker ≡ true → length entrances ≡ session → worker_at (entrances ++ entered ∷ []) session ≡ Some worker
  last worker session is same =
      ap (option_map (λ e. e.worker)) (slice_get-push entrances entered session)
      ∙ ap (λ b. option_map (λ e. e.worker) (cond b (Some entered) (slice_get entrances session))) (eq-eqb (length entrances) session same)
      ∙ ap Some (eqb-true entered.worker worker is)

  earlier : (worker session : ℕ) → lookup (eqb worker) old ≡ Some session → worker_at (entrances ++ entered ∷ []) session ≡ Some worker
  earlier worker session found = by_place (slice_get entrances session) refl (fits.own worker session found) where
    by_place : (e : Option Entrance) → slice_get entrances session ≡ e → option_map (λ e. e.worker) e ≡ Some worker → worker_at (entrances ++ entered ∷ []) session ≡ Some worker
    by_place None is wrong = absurd (none-some wrong)
    by_place (Some there) is own =
        let below : session < length entrances = slice_get_within entrances session there is in
        ap (option_map (λ e. e.worker)) (slice_get-push entrances entered session
        ∙ ap (λ b. cond b (Some entered) (slice_get entrances session)) (ne_eqb (length entrances) session (λ same. omega (arith, same, below)))
        ∙ is) ∙ own

  by_worker : (worker session : ℕ) (t : Bool) → eqb entered.worker worker ≡ t → cond t (Some (length entrances)) (lookup (eqb worker) old) ≡ Some session
      → worker_at (entrances ++ entered ∷ []) session ≡ Some worker
  by_worker worker session true is found = last worker session is (some-same found)
  by_worker worker session false is found = earlier worker session found

-- what is shown after an Enter
pub begun-shown : (entrances more : List Entrance) (old new : List (ℕ × ℕ)) (room less : ℕ) (entered : Entrance) (past : List Event)
    → more ≡ entrances ++ entered ∷ [] → Begins entered.worker (length entrances) old new
    → ShowsSessions (record { entrances = entrances; presents = old; room = room }) past
    → ShowsSessions (record { entrances = more; presents = new; room = less }) (event.Enter entered.worker entered.role entered.flags ∷ past)
begun-shown entrances more old new room less entered past is begins shows = record {
  count_is = omega (arith, ap length is, length-append entrances (entered ∷ []), shows.count_is);
  presents_are = λ worker.
      begins worker ∙ ap (λ n. cond (eqb entered.worker worker) (Some n) (lookup (eqb worker) old)) shows.count_is
      ∙ ap (λ o. cond (eqb entered.worker worker) (Some (enters past)) o) (shows.presents_are worker);
  entrances_are = λ session.
      ap (λ es. slice_get es session) is ∙ slice_get-push entrances entered session
      ∙ ap (λ n. cond (eqb n session) (Some entered) (slice_get entrances session)) shows.count_is
      ∙ ap (λ o. cond (eqb (enters past) session) (Some entered) o) (shows.entrances_are session);
}

-- a session that isn't left stays
pub stays : (left : ℕ) (there : Option ℕ) → (there ≡ Some left → ⊥) → unless_left left there ≡ there
stays left None other = refl
stays left (Some session) other =
    ap (λ b. cond b None (Some session)) (ne_eqb session left (λ same. other (ap Some same)))

-- what is shown after a Leave of a session that was entered by a worker
pub ended-shown : (entrances : List Entrance) (old new : List (ℕ × ℕ)) (room other_room worker session : ℕ) (past : List Event)
    → HasOwnPresents entrances old → worker_at entrances session ≡ Some worker → Ends worker session old new
    → ShowsSessions (record { entrances = entrances; presents = old; room = room }) past
    → ShowsSessions (record { entrances = entrances; presents = new; room = other_room }) (event.Leave session ∷ past)
ended-shown entrances old new room other_room worker session past fits own ends shows = record {
  count_is = shows.count_is;
  presents_are = λ other. ends other ∙ by_worker other (eqb worker other) refl ∙ ap (unless_left session) (shows.presents_are other);
  entrances_are = shows.entrances_are;
} where
  by_worker : (other : ℕ) (t : Bool) → eqb worker other ≡ t
      → cond t (unless_left session (lookup (eqb other) old)) (lookup (eqb other) old) ≡ unless_left session (lookup (eqb other) old)
  by_worker other true is = refl
  by_worker other false is =
      sym (stays session (lookup (eqb other) old) (λ found.
      let same : worker ≡ other = some-same (sym own ∙ fits.own other session found) in
      let both : true ≡ false = sym (eq-eqb worker other same) ∙ is in
      cc))

-- and of one that wasn't
pub unentered-shown : (table : SessionTable) (session : ℕ) (past : List Event)
    → HasOwnPresents table.entrances table.presents → slice_get table.entrances session ≡ None
    → ShowsSessions table past → ShowsSessions table (event.Leave session ∷ past)
unentered-shown table session past fits none shows = record {
  count_is = shows.count_is;
  presents_are = λ worker.
      sym (stays session (lookup (eqb worker) table.presents) (λ found.
      none-some (sym (ap (option_map (λ e. e.worker)) none) ∙ fits.own worker session found)))
      ∙ ap (unless_left session) (shows.presents_are worker);
  entrances_are = shows.entrances_are;
}
