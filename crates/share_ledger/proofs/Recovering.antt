-- What a crash leaves of a book's records, from one append to the next.
use Rattle.std.proofs.Common.{append_assoc, is_some, true≢false, ◌≡◌, ◌⊎◌, inl, inr, ⊎_elim, ℕ, ◌+◌, ◌≤◌, None, Some, Option, List, [], ◌∷◌, ◌++◌, Result, Ok, Err, OnErr, OnOk, length, take, replicate, suc, zero, refl, sym, ◌∙◌, ap, subst, arith, length-append}
use Rattle.std.specs.Prelude.{IfSome}
use Rattle.std.specs.Option.{option_map}
use Rattle.std.proofs.Math.Seq.{take-length}
use Rattle.std.proofs.lemmas.List.{append-nil, take-append-le}
use Rattle.pool_io.specs.declared.keeper.KeeperFailed.{KeeperFailed}
use Rattle.pool_io.specs.Crashes.{FindsMore, IsSettledWith, NeverFell, RoseTo, StoresNext, counts_at_end}
use Rattle.pool_io.specs.Seen.{KeeperSeen}
use Rattle.pool_io.specs.Outside.{AddsRecord}
use Rattle.pool_history.specs.declared.events.Event.{Event}
use Rattle.pool_history.specs.declared.events.Event.TheVariants as event
use Rattle.pool_history.specs.Ledger.{chain, chained, kept_records, ledger_text, magic_2, record_of}
use Rattle.history_laws.specs.Legality.{Starts}
use Rattle.ledger_records.specs.Growing.{LedgersGrow, PiecesGrow, hash_after}
use Rattle.ledger_records.specs.Keeping.{IsKept, KeepsOn}
use Rattle.ledger_records.specs.Pieces.{piece_behind}
use Rattle.share_ledger.specs.Recovery.{CanRecover, FindsHistory, FindsNext, IsRecoverable, LeavesFront, Recovers, RecoversNext, count_begun, first_count, pieces_of}
use Rattle.share_ledger.specs.Tables.{LedgerTables}
use Rattle.share_ledger.proofs.Answering.{piece-more}

-- there is a piece for each event
chained-length : (before : List ℕ) (events : List Event) → length (chained before events) ≡ length events
chained-length before [] = refl
chained-length before (e ∷ more) = ap (λ (n : ℕ). suc n) (chained-length (chain before (record_of e)) more)

pub pieces-length : (history : List Event) → length (pieces_of history) ≡ length history
pieces-length [] = refl
pieces-length (e ∷ more) = ap (λ (n : ℕ). suc n) (chained-length _ more)

-- a history with an event has the pieces of its ledger
pieces-kept : (history : List Event) (e : Event) (more : List Event) → history ≡ e ∷ more → pieces_of history ≡ kept_records history
pieces-kept history e more is = subst (λ (h : List Event). pieces_of h ≡ kept_records h) (sym is) refl

-- and one piece more for one event more
pub pieces-more : PiecesGrow → LedgersGrow → (old : List Event) (e : Event) → Starts old
    → pieces_of (old ++ e ∷ []) ≡ pieces_of old ++ piece_behind (hash_after old) e ∷ []
pieces-more pieces ledgers old e s =
    pieces-kept (old ++ e ∷ []) (event.Start s.rules) (s.more ++ e ∷ []) (ap (λ (l : List Event). l ++ e ∷ []) s.first)
    ∙ piece-more pieces ledgers old e s
    ∙ ap (λ (rs : List (List ℕ)). rs ++ piece_behind (hash_after old) e ∷ []) (sym (pieces-kept old (event.Start s.rules) s.more s.first))

pub pieces-first : (e : Event) → pieces_of ([] ++ e ∷ []) ≡ pieces_of [] ++ ledger_text (e ∷ []) ∷ []
pieces-first e = ap (λ (piece : List ℕ). piece ∷ []) (sym (append-nil _))

-- counts that never fell, and the same once more
fell : (most count : ℕ) (counts : List ℕ) → count ≤ most → RoseTo count counts → NeverFell most counts
fell most count [] few rose = absurd rose
fell most count (now ∷ earlier) few rose = (omega (arith, few, rose.0), rose.1)

pub fell_again : (moments most count : ℕ) (counts : List ℕ) → count ≤ most → RoseTo count counts → NeverFell most (replicate moments count ++ counts)
fell_again zero most count counts few rose = fell most count counts few rose
fell_again (suc moments) most count counts few rose = (few, fell_again moments count count counts (omega arith) rose)

pub rose_again : (moments count : ℕ) (counts : List ℕ) → RoseTo count counts → RoseTo count (replicate moments count ++ counts)
rose_again zero count counts rose = rose
rose_again (suc moments) count counts rose = (refl, fell_again moments count count counts (omega arith) rose)

-- all of a history
taken : (history : List Event) (count : ℕ) → count ≡ length history → take count history ≡ history
taken history count is = ap (λ (n : ℕ). take n history) is ∙ take-length history

-- what is found of a whole history, or of it and one event more
front-whole : (history : List Event) (count : ℕ) (found : Option (List (List ℕ))) → count ≡ length history
    → FindsHistory history found ⊎ FindsNext history found → LeavesFront history count found
front-whole history count found is finds = record {
  within = omega (arith, is);
  finds = subst (λ (h : List Event). FindsHistory h found ⊎ FindsNext h found) (sym (taken history count is)) finds;
}

-- a front of a history is one of a longer history
front-more : (history : List Event) (e : Event) (count : ℕ) (found : Option (List (List ℕ))) → LeavesFront history count found → LeavesFront (history ++ e ∷ []) count found
front-more history e count found front =
    let same : take count (history ++ e ∷ []) ≡ take count history = take-append-le count history (e ∷ []) front.within in
    record {
      within = omega (arith, front.within, length-append history (e ∷ []));
      finds = subst (λ (h : List Event). FindsHistory h found ⊎ FindsNext h found) (sym same) front.finds;
    }

-- the append of an event's piece
module _ (history : List Event) (next : Event) (piece : List ℕ) (keeps : KeepsOn history (next ∷ [])) (grows : pieces_of (history ++ next ∷ []) ≡ pieces_of history ++ piece ∷ []) where
  module _ (records : List (List ℕ)) (counts : List ℕ) (may now : ℕ → Option (List (List ℕ)) → Type 0) (was : Recovers history records counts may) where
    counted : length records ≡ length history
    counted = ap (λ (rs : List (List ℕ)). length rs) was.all ∙ pieces-length history

    is_more : records ++ piece ∷ [] ≡ pieces_of (history ++ next ∷ [])
    is_more = ap (λ (rs : List (List ℕ)). rs ++ piece ∷ []) was.all ∙ sym grows

    either : (count : ℕ) (found : Option (List (List ℕ))) → count ≡ length records → (found ≡ Some records) ⊎ (found ≡ Some (records ++ piece ∷ []))
        → LeavesFront history count found
    either count found is finds =
        front-whole history count found (is ∙ counted)
        (⊎_elim (λ (all : found ≡ Some records). inl (all ∙ ap (λ (rs : List (List ℕ)). Some rs) was.all))
        (λ (more : found ≡ Some (records ++ piece ∷ [])). inr (record { next = next; keeps = keeps; finds = more ∙ ap (λ (rs : List (List ℕ)). Some rs) is_more })) finds)

    rose : (moments : ℕ) → RoseTo (length history) (replicate moments (length records) ++ counts)
    rose moments = subst (λ (n : ℕ). RoseTo (length history) (replicate moments n ++ counts)) (sym counted) (rose_again moments (length history) counts was.rose)

    pub not_kept : (error : KeeperFailed) (moments : ℕ) → FindsMore {E = KeeperFailed} records piece (Err error) may now
        → Recovers history records (replicate moments (length records) ++ counts) now
    not_kept error moments finds = record {
      all = was.all;
      rose = rose moments;
      fronts = λ count found left.
          ⊎_elim (λ before. was.fronts count found before)
          (λ since. ⊎_elim (λ during. either count found during.0 during.1) (λ done. absurd done.2) since) (finds count found left);
    }

    pub kept : (moments : ℕ) → FindsMore {E = KeeperFailed} records piece (Ok tt) may now
        → Recovers (history ++ next ∷ []) (records ++ piece ∷ []) ((length records + 1) ∷ (replicate moments (length records) ++ counts)) now
    kept moments finds =
        let longer : length (history ++ next ∷ []) ≡ length records + 1 = omega (arith, length-append history (next ∷ []), counted) in
        record {
          all = is_more;
          rose = (
            sym longer,
            subst (λ (n : ℕ). NeverFell (n + 1) (replicate moments n ++ counts)) (sym counted)
                (fell_again moments (length history + 1) (length history) counts (omega arith) was.rose),
          );
          fronts = λ count found left.
              ⊎_elim (λ before. front-more history next count found (was.fronts count found before))
              (λ since. ⊎_elim (λ during. front-more history next count found (either count found during.0 during.1))
              (λ done. front-whole (history ++ next ∷ []) count found (done.0 ∙ sym longer) (inl (done.1 ∙ ap (λ (rs : List (List ℕ)). Some rs) is_more))) since)
              (finds count found left);
        }

  -- the same of what a keeper tells, where it tells
  abbrev Stores : Result (Unit {0}) KeeperFailed → Option (List (List ℕ)) → (old new : Option (List ℕ)) → Type 0
  Stores result told old new = (before : List (List ℕ)) → told ≡ Some before → StoresNext result (length before) old new

  untold : {A B : Type 0} (o : Option A) (P : A → B → Type 0) → IfSome o (λ a. IfSome None (λ b. P a b))
  untold None P = tt
  untold (Some a) P = tt

  pub recovers-err : (error : KeeperFailed) (told told' : Option (List (List ℕ))) (stored stored' : Option (List ℕ)) (may now : ℕ → Option (List (List ℕ)) → Type 0)
      → told' ≡ told → Stores (Err error) told stored stored' → ((before : List (List ℕ)) → told ≡ Some before → FindsMore {E = KeeperFailed} before piece (Err error) may now)
      → CanRecover told stored may history → CanRecover told' stored' now history
  recovers-err error None told' stored stored' may now same stores finds can =
      subst (λ t. CanRecover t stored' now history) (sym same) (untold stored' (λ counts records. Recovers history records counts now))
  recovers-err error (Some records) told' None stored' may now same stores finds can =
      let next_stores = stores records refl in
      subst (λ s. CanRecover told' s now history) (sym next_stores.1) tt
  recovers-err error (Some records) told' (Some counts) stored' may now same stores finds can =
      let next_stores = stores records refl in
      subst (λ s. CanRecover told' s now history) (sym next_stores.1)
      (subst (λ t. CanRecover t (Some (replicate next_stores.0 (length records) ++ counts)) now history) (sym same)
      (not_kept records counts may now can error next_stores.0 (finds records refl)))

  pub recovers-ok : (told told' : Option (List (List ℕ))) (stored stored' : Option (List ℕ)) (may now : ℕ → Option (List (List ℕ)) → Type 0)
      → AddsRecord told told' piece → Stores (Ok tt) told stored stored' → ((before : List (List ℕ)) → told ≡ Some before → FindsMore {E = KeeperFailed} before piece (Ok tt) may now)
      → CanRecover told stored may history → CanRecover told' stored' now (history ++ next ∷ [])
  recovers-ok None told' stored stored' may now adds stores finds can =
      subst (λ t. CanRecover t stored' now (history ++ next ∷ [])) (sym adds) (untold stored' (λ counts records. Recovers (history ++ next ∷ []) records counts now))
  recovers-ok (Some records) told' None stored' may now adds stores finds can =
      let next_stores = stores records refl in
      subst (λ s. CanRecover told' s now (history ++ next ∷ [])) (sym next_stores.1) tt
  recovers-ok (Some records) told' (Some counts) stored' may now adds stores finds can =
      let next_stores = stores records refl in
      subst (λ s. CanRecover told' s now (history ++ next ∷ [])) (sym next_stores.1)
      (subst (λ t. CanRecover t (Some ((length records + 1) ∷ (replicate next_stores.0 (length records) ++ counts))) now (history ++ next ∷ [])) (sym adds)
      (kept records counts may now can next_stores.0 (finds records refl)))

-- behind a commit it is so of the history as it is then
pub recovers-as : {A E : Type 0} (result : Result A E) (keeper : KeeperSeen) (may : ℕ → Option (List (List ℕ)) → Type 0) (old new : LedgerTables) (e : Event)
    → OnOk result (new.history.events ≡ old.history.events ++ e ∷ []) → OnErr result (new ≡ old) → RecoversNext result keeper may old.history.events e
    → IsRecoverable keeper may new.history.events
recovers-as (Ok a) keeper may old new e grows same recovers = subst (λ (h : List Event). IsRecoverable keeper may h) (sym grows) recovers
recovers-as (Err error) keeper may old new e grows same recovers = subst (λ (t : LedgerTables). IsRecoverable keeper may t.history.events) (sym same) recovers

-- a Start alone can be the first event
pub starts-on : (e : Event) → IsKept (e ∷ []) → KeepsOn [] (e ∷ [])
starts-on e is = record { each = is.has_ledger; kept = is }

-- the first so many pieces are those of the first so many events
chained-take : (n : ℕ) (before : List ℕ) (events : List Event) → chained before (take n events) ≡ take n (chained before events)
chained-take zero before events = refl
chained-take (suc n) before [] = refl
chained-take (suc n) before (e ∷ more) =
    ap (λ (l : List (List ℕ)). (record_of e ++ chain before (record_of e)) ∷ l) (chained-take n (chain before (record_of e)) more)

pub pieces-take : (n : ℕ) (history : List Event) → pieces_of (take n history) ≡ take n (pieces_of history)
pieces-take zero history = refl
pieces-take (suc n) [] = refl
pieces-take (suc n) (e ∷ more) =
    let first : List ℕ = magic_2 ++ (record_of e ++ chain (hash_after []) (record_of e)) in
    ap (λ (l : List (List ℕ)). first ∷ l) (chained-take n (chain (hash_after []) (record_of e)) more)

-- a keeper with just the records of a history, of which a crash left fronts alone
pub settled-recovers : (history : List Event) (keeper : KeeperSeen) (may : ℕ → Option (List (List ℕ)) → Type 0) → keeper.records ≡ Some (pieces_of history)
    → IsSettledWith keeper.stored may (pieces_of history) → IsRecoverable keeper may history
settled-recovers history keeper may told settled =
    subst (λ t. CanRecover t keeper.stored may history) (sym told) (by_stored keeper.stored settled)
  where
    by_stored : (stored : Option (List ℕ)) → IsSettledWith stored may (pieces_of history) → CanRecover (Some (pieces_of history)) stored may history
    by_stored None settled = tt
    by_stored (Some counts) settled = record {
      all = refl;
      rose = subst (λ (n : ℕ). RoseTo n counts) (pieces-length history) settled.0;
      fronts = λ count found left.
          let front = settled.1 count found left in
          record {
            within = omega (arith, front.0, pieces-length history);
            finds = inl (front.1 ∙ ap (λ (rs : List (List ℕ)). Some rs) (sym (pieces-take count history)));
          };
    }

-- a keeper that doesn't tell what is there for good
pub untold-recovers : (history : List Event) (keeper : KeeperSeen) (may : ℕ → Option (List (List ℕ)) → Type 0) → keeper.stored ≡ None → IsRecoverable keeper may history
untold-recovers history keeper may none = subst (λ s. CanRecover keeper.records s may history) (sym none) tt

-- moments before a first one leave it the first
first_same : (moments : List ℕ) (last count : ℕ) (earlier : List ℕ) → first_count last (moments ++ count ∷ earlier) ≡ first_count count earlier
first_same [] last count earlier = refl
first_same (moment ∷ moments) last count earlier = first_same moments moment count earlier

begun_same : (records : List (List ℕ)) (moments : List ℕ) (count : ℕ) (earlier : List ℕ) → count_begun (Some records) (Some (moments ++ count ∷ earlier)) ≡ Some (first_count count earlier)
begun_same records [] count earlier = refl
begun_same records (moment ∷ moments) count earlier = ap (λ (n : ℕ). Some n) (first_same moments moment count earlier)

-- an append leaves a keeper's first moment the first
pub begun-on : (result : Result (Unit {0}) KeeperFailed) (history : List Event) (told told' : Option (List (List ℕ))) (stored stored' : Option (List ℕ)) (may : ℕ → Option (List (List ℕ)) → Type 0)
    → is_some told' ≡ is_some told → ((before : List (List ℕ)) → told ≡ Some before → StoresNext result (length before) stored stored')
    → CanRecover told stored may history → count_begun told' stored' ≡ count_begun told stored
begun-on result history None None stored stored' may same stores can = refl
begun-on result history None (Some now) stored stored' may same stores can = absurd (true≢false same)
begun-on result history (Some records) None stored stored' may same stores can = absurd (true≢false (sym same))
begun-on result history (Some records) (Some now) None stored' may same stores can =
    let next = stores records refl in
    subst (λ (s : Option (List ℕ)). count_begun (Some now) s ≡ None) (sym next.1) refl
begun-on result history (Some records) (Some now) (Some []) stored' may same stores can = absurd can.rose
begun-on result history (Some records) (Some now) (Some (count ∷ earlier)) stored' may same stores can =
    let next = stores records refl in
    let end = counts_at_end result (length records) in
    let moments = replicate next.0 (length records) in
    subst (λ (s : Option (List ℕ)). count_begun (Some now) s ≡ Some (first_count count earlier)) (sym next.1)
    (ap (λ (l : List ℕ). count_begun (Some now) (Some l)) (sym (append_assoc end moments (count ∷ earlier))) ∙ begun_same now (end ++ moments) count earlier)

-- one that told its records tells them with one more
pub tells-more : (told told' : Option (List (List ℕ))) (piece : List ℕ) → AddsRecord told told' piece → is_some told' ≡ is_some told
tells-more None told' piece adds = ap (λ (t : Option (List (List ℕ))). is_some t) adds
tells-more (Some records) told' piece adds = ap (λ (t : Option (List (List ℕ))). is_some t) adds
