-- A history that is restored record by record.
use Rattle.std.proofs.Common.{◌≡◌, ◌⊎◌, inl, inr, ⊎_elim, ℕ, ◌+◌, ◌<◌, ◌≤◌, Bool, true, false, None, Some, Option, List, [], ◌∷◌, ◌++◌, length, get_or, take, drop, refl, ap, subst, sym, ◌∙◌, arith, append_assoc, length-append}
use Rattle.std.specs.Prelude.{IsTrue, if◌then◌else◌}
use Rattle.std.proofs.lemmas.List.{take_all, take_more, drop_more, take-append-drop}
use Rattle.sha2.specs.Sha256.{sha256}
use Rattle.pool_base.specs.Lists.{Begins}
use Rattle.pool_history.specs.declared.causes.Cause.{Cause}
use Rattle.pool_history.specs.declared.causes.Cause.TheVariants as cause
use Rattle.pool_history.specs.declared.events.Event.{Event}
use Rattle.pool_history.specs.declared.events.Event.TheVariants as event
use Rattle.pool_history.specs.declared.settings.Rules.{Rules}
use Rattle.pool_history.specs.Accounts.{are_in_range}
use Rattle.pool_history.specs.Ledger.{chain, kept_records, magic_2, record_of}
use Rattle.pool_history.specs.Legal.{LegalPast, cause_of}
use Rattle.pool_history.specs.Sessions.{past_of}
use Rattle.event_store.specs.Blocks.{is_block_event}
use Rattle.history_laws.proofs.Legalities.{held, legal_starts, past-one, some-none, starts_with_start}
use Rattle.history_laws.specs.Legality.{Starts}
use Rattle.ledger_records.proofs.Growth.{hash-end}
use Rattle.ledger_records.specs.Growing.{hash_after}
use Rattle.ledger_records.specs.OneLedger.{AllCanBeKept}
use Rattle.ledger_records.specs.WellFormed.{CanBeKept}
use Rattle.ledger_records.specs.Pieces.{first_piece, piece_behind}
use Rattle.ledger_replay.specs.declared.replay.Replay.{Replay}
use Rattle.ledger_replay.specs.Replays.{HasCause, WasReplayed}
use Rattle.ledger_resume.specs.declared.restored.Restored.{Restored}
use Rattle.ledger_resume.specs.Histories.{IsHistoryOf}
use Rattle.ledger_resume.specs.Refusals.{HaveMagic}
use Rattle.ledger_resume.specs.Restoring.{AreNoUnit, BeginsNothing, HaveNoHistory, IsBegunBy, IsNextBy, IsRestored, IsRestoredFrom, IsUnitOf, LeadsNowhere, TakesPiece}
use Rattle.ledger_resume.proofs.Pieces.{BeginsWith, GoesOnWith, all-middle, all-more, begins_with, goes_on, kept-append, one_event_of, one_first_of}

-- The first record.

pub no_magic_begins : (bytes : List ℕ) → (HaveMagic bytes → ⊥) → BeginsNothing bytes
no_magic_begins bytes none = λ e can uncaused is. none (piece_behind (sha256 magic_2) e, sym is)

module _ (bytes unit before : List ℕ) (split : bytes ≡ magic_2 ++ unit) (hashed : before ≡ sha256 magic_2) where
  unit_is : (e : Event) → bytes ≡ first_piece e → unit ≡ piece_behind before e
  unit_is e is = cut (sym split ∙ is) ∙ ap (λ h. piece_behind h e) (sym hashed) where
    cut : magic_2 ++ unit ≡ magic_2 ++ piece_behind (sha256 magic_2) e → unit ≡ piece_behind (sha256 magic_2) e
    cut same = cc

  pub no_unit_begins : AreNoUnit before unit → BeginsNothing bytes
  no_unit_begins none = λ e can uncaused is. none e can (unit_is e is)

  module _ (read : Event) (hash : List ℕ) (is : IsUnitOf before unit read hash) where
    piece_is : bytes ≡ first_piece read
    piece_is = split ∙ ap (λ u. magic_2 ++ u) is.bytes_are ∙ ap (λ h. magic_2 ++ piece_behind h read) hashed

    -- another event isn't legal as the first
    pub illegal_begins : (cause : Cause) → HasCause [] read cause → BeginsNothing bytes
    illegal_begins cause caused = λ e can uncaused same.
        some-none (sym caused ∙ ap (cause_of []) (one_first_of bytes read e is.can_be_kept can piece_is same) ∙ uncaused)

    pub no_start_begins : ((rules : Rules) → read ≡ event.Start rules → ⊥) → BeginsNothing bytes
    no_start_begins none = λ e can uncaused same.
        let s = starts_with_start e [] uncaused in
        none s.rules (one_first_of bytes read e is.can_be_kept can piece_is same ∙ first_is e s.rules s.more s.first) where
          first_is : (e : Event) (rules : Rules) (more : List Event) → e ∷ [] ≡ event.Start rules ∷ more → e ≡ event.Start rules
          first_is e rules more same = cc

    pub begun_by : (restored : Restored) (rules : Rules) → restored.history.events ≡ event.Start rules ∷ [] → read ≡ event.Start rules
        → WasReplayed restored.replay (read ∷ []) → restored.hash ≡ hash → IsBegunBy bytes restored
    begun_by restored rules events_are same replayed hash_is =
        let all : restored.history.events ≡ read ∷ [] = events_are ∙ ap (λ e. e ∷ []) (sym same) in
        record {
          restored_is = record {
            begun = subst Starts (sym all) (starts_with_start read [] replayed.legal.1);
            replayed = subst (λ h. WasReplayed restored.replay (past_of h)) (sym all) replayed;
            have_records = subst AllCanBeKept (sym all) (is.can_be_kept, tt);
            hash_is = hash_is ∙ is.hash_is ∙ ap (λ h. chain h (record_of read)) hashed ∙ sym (hash-end [] read) ∙ ap hash_after (sym all);
          };
          event = read;
          events_are = all;
          piece = piece_is;
        }

-- the rules of a Start that is legal as the first event
pub start_in_range : (rules : Rules) → LegalPast (event.Start rules ∷ []) → IsTrue (are_in_range rules)
start_in_range rules legal = held (are_in_range rules) cause.BadStart legal.1

-- A later record.

starts-end : (h : List Event) (e : Event) → LegalPast (past_of (h ++ e ∷ [])) → Starts (h ++ e ∷ [])
starts-end h e legal = ⊎_elim (λ empty. absurd (omega (arith, ap length empty, length-append h (e ∷ [])))) (λ s. s) (legal_starts (h ++ e ∷ []) legal)

module _ (old : Restored) (was : IsRestored old) (bytes : List ℕ) where
  pub no_unit_leads : AreNoUnit old.hash bytes → LeadsNowhere old.history.events bytes
  no_unit_leads none = λ e can uncaused is. none e can (is ∙ ap (λ h. piece_behind h e) (sym was.hash_is))

  module _ (event : Event) (hash : List ℕ) (is : IsUnitOf old.hash bytes event hash) where
    next_piece_is : bytes ≡ piece_behind (hash_after old.history.events) event
    next_piece_is = is.bytes_are ∙ ap (λ h. piece_behind h event) was.hash_is

    pub illegal_leads : (cause : Cause) → HasCause (past_of old.history.events) event cause → LeadsNowhere old.history.events bytes
    illegal_leads cause caused = λ e can uncaused same.
        some-none (sym caused
        ∙ ap (cause_of (past_of old.history.events)) (one_event_of (hash_after old.history.events) bytes event e is.can_be_kept can next_piece_is same)
        ∙ uncaused)

    pub next_by : (new : Restored) → new.history.events ≡ old.history.events ++ event ∷ [] → WasReplayed new.replay (event ∷ past_of old.history.events)
        → new.hash ≡ hash → IsNextBy old.history.events bytes new
    next_by new events_are replayed hash_is = record {
      restored_is = record {
        begun = subst Starts (sym events_are) (starts-end old.history.events event (subst LegalPast (sym (past-one old.history.events event)) replayed.legal));
        replayed = subst (λ h. WasReplayed new.replay (past_of h)) (sym events_are)
            (subst (WasReplayed new.replay) (sym (past-one old.history.events event)) replayed);
        have_records = subst AllCanBeKept (sym events_are) (all-more CanBeKept old.history.events event was.have_records is.can_be_kept);
        hash_is = hash_is ∙ is.hash_is ∙ ap (λ h. chain h (record_of event)) was.hash_is ∙ sym (hash-end old.history.events event) ∙ ap hash_after (sym events_are);
      };
      event = event;
      events_are = events_are;
      piece = next_piece_is;
    }

-- what is pushed is legal, and is a block where it was replayed as one
pub pushed_legal : (old mid : List Event) (e f : Event) → mid ≡ old → e ≡ f → LegalPast (e ∷ past_of old) → LegalPast (past_of (mid ++ f ∷ []))
pushed_legal old mid e f same is legal =
    subst LegalPast (sym (past-one mid f ∙ ap (λ h. f ∷ past_of h) same ∙ ap (λ x. x ∷ past_of old) (sym is))) legal

pub pushed_block : (old mid : List Event) (e f : Event) (block : Bool) → mid ≡ old → e ≡ f → block ≡ is_block_event (past_of old) e
    → block ≡ is_block_event (past_of mid) f
pushed_block old mid e f block same is told = told ∙ ap (is_block_event (past_of old)) is ∙ ap (λ h. is_block_event (past_of h) f) (sym same)

-- All records.

pub fronts_begin : (first : List ℕ) (later : List (List ℕ)) (begun : Restored) → IsBegunBy first begun → (history : List Event) → IsHistoryOf (first ∷ later) history
    → Begins begun.history.events history
fronts_begin first later begun by history is =
    let one = begins_with first later history is in (
      one.more,
      ap (λ h. h ++ one.more)
          (by.events_are ∙ ap (λ e. e ∷ []) (one_first_of first by.event one.event (first_can begun by) one.can_be_kept by.piece one.piece)) ∙ one.parts,
    ) where
      first_can : (begun : Restored) (by : IsBegunBy first begun) → CanBeKept by.event
      first_can begun by = (subst AllCanBeKept by.events_are by.restored_is.have_records).0

pub none_begin : (first : List ℕ) (later : List (List ℕ)) → BeginsNothing first → HaveNoHistory (first ∷ later)
none_begin first later nothing = λ history is.
    let one = begins_with first later history is in nothing one.event one.can_be_kept one.uncaused one.piece

pub begun_pieces : (first : List ℕ) (begun : Restored) → IsBegunBy first begun → kept_records begun.history.events ≡ first ∷ []
begun_pieces first begun by = ap kept_records by.events_are ∙ ap (λ piece. piece ∷ []) (sym by.piece)

-- So far these records were taken, of which a history goes on behind the events
pub record HasTaken (restored : Restored) (taken records : List (List ℕ)) : Type 0 where
  pub restored_is : IsRestored restored
  pub pieces : kept_records restored.history.events ≡ taken
  pub fronts : (history : List Event) → IsHistoryOf records history → Begins restored.history.events history

pub first_taken : (first : List ℕ) (later records : List (List ℕ)) (bytes : List ℕ) (restored : Restored) → records ≡ first ∷ later → bytes ≡ first
    → IsBegunBy bytes restored → HasTaken restored (first ∷ []) records
first_taken first later records bytes restored all same by =
    let begun : IsBegunBy first restored = subst (λ b. IsBegunBy b restored) same by in
    record {
      restored_is = begun.restored_is;
      pieces = begun_pieces first restored begun;
      fronts = λ history is. fronts_begin first later restored begun history (subst (λ rs. IsHistoryOf rs history) all is);
    }

pub none_first : (first : List ℕ) (later records : List (List ℕ)) (bytes : List ℕ) → records ≡ first ∷ later → bytes ≡ first → BeginsNothing bytes → HaveNoHistory records
none_first first later records bytes all same nothing = λ history is.
    none_begin first later (subst BeginsNothing same nothing) history (subst (λ rs. IsHistoryOf rs history) all is)

module _ (first : List ℕ) (later records : List (List ℕ)) (all : records ≡ first ∷ later) (i : ℕ) (one : List ℕ) (within : i < length later) (one_is : one ≡ get_or later i one)
    (old : Restored) (was : HasTaken old (first ∷ take i later) records) where
  parts : records ≡ (first ∷ take i later) ++ one ∷ drop (i + 1) later
  parts = all ∙ ap (λ l. first ∷ l) (sym (take-append-drop i later) ∙ ap (λ l. take i later ++ l) (drop_more later i one within ∙ ap (λ x. x ∷ drop (i + 1) later) (sym one_is)))

  next_of : (history : List Event) → IsHistoryOf records history → GoesOnWith old.history.events one history
  next_of history is =
      goes_on old.history.events history (first ∷ take i later) one (drop (i + 1) later) was.restored_is.begun was.pieces
      (subst (λ rs. IsHistoryOf rs history) parts is) (was.fronts history is)

  pub none_lead : LeadsNowhere old.history.events one → HaveNoHistory records
  none_lead nowhere = λ history is. let next = next_of history is in nowhere next.event next.can_be_kept next.uncaused next.piece

  pub taken_more : (new : Restored) → IsNextBy old.history.events one new → HasTaken new (first ∷ take (i + 1) later) records
  taken_more new by = record {
    restored_is = by.restored_is;
    pieces = ap kept_records by.events_are ∙ kept-append old.history.events (by.event ∷ []) was.restored_is.begun
        ∙ ap (λ rs. rs ++ piece_behind (hash_after old.history.events) by.event ∷ []) was.pieces
        ∙ ap (λ x. first ∷ (take i later ++ x ∷ [])) (sym by.piece ∙ one_is)
        ∙ ap (λ l. first ∷ l) (sym (take_more later i one within));
    fronts = λ history is.
        let next = next_of history is in (
          next.more,
          ap (λ h. h ++ next.more)
              (by.events_are ∙ ap (λ e. old.history.events ++ e ∷ []) (one_event_of (hash_after old.history.events) one by.event next.event (next_can by) next.can_be_kept by.piece next.piece))
              ∙ append_assoc old.history.events (next.event ∷ []) next.more ∙ sym next.parts,
        );
  } where
    next_can : (by : IsNextBy old.history.events one new) → CanBeKept by.event
    next_can by = all-middle CanBeKept old.history.events by.event [] (subst AllCanBeKept by.events_are by.restored_is.have_records)

pub taken_all : (restored : Restored) (first : List ℕ) (later records : List (List ℕ)) (i : ℕ) → records ≡ first ∷ later → length later ≤ i
    → HasTaken restored (first ∷ take i later) records → IsRestoredFrom records restored
taken_all restored first later records i all ends taken = record {
  restored_is = taken.restored_is;
  pieces = taken.pieces ∙ ap (λ l. first ∷ l) (take_all i later ends) ∙ sym all;
}

-- The history is that of the records.

pub history_of : (records : List (List ℕ)) (restored : Restored) → IsRestoredFrom records restored → IsHistoryOf records restored.history.events
history_of records restored from = record {
  kept = record { legal = from.restored_is.replayed.legal; has_ledger = from.restored_is.have_records };
  begun = from.restored_is.begun;
  pieces = sym from.pieces;
}
