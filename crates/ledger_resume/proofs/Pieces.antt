-- The pieces of a history, and of one that goes on.
use Rattle.std.proofs.Common.{◌≡◌, ℕ, ◌+◌, ◌≤◌, None, List, [], ◌∷◌, ◌++◌, length, take, refl, ap, subst, sym, ◌∙◌, arith, append_assoc, append-nil, length-append}
use Rattle.std.proofs.lemmas.List.{append_cancel_left, take_more}
use Rattle.std.specs.List.{AllByRecursion}
use Rattle.sha2.specs.Sha256.{sha256}
use Rattle.pool_base.specs.Lists.{Begins}
use Rattle.pool_history.specs.declared.events.Event.{Event}
use Rattle.pool_history.specs.Ledger.{chain, chained, kept_records, magic_2, record_of, with_magic}
use Rattle.pool_history.specs.Legal.{cause_of}
use Rattle.pool_history.specs.Sessions.{past_of}
use Rattle.history_laws.proofs.Legalities.{none_caused}
use Rattle.history_laws.specs.Legality.{Starts}
use Rattle.ledger_records.proofs.Growth.{hash_behind}
use Rattle.ledger_records.proofs.Records.{read_back}
use Rattle.ledger_records.specs.Growing.{hash_after}
use Rattle.ledger_records.specs.OneLedger.{AllCanBeKept}
use Rattle.ledger_records.specs.WellFormed.{CanBeKept}
use Rattle.ledger_records.specs.Pieces.{first_piece, piece_behind}
use Rattle.ledger_resume.specs.Histories.{IsHistoryOf}

chained-append : (before : List ℕ) (a b : List Event) → chained before (a ++ b) ≡ chained before a ++ chained (hash_behind before a) b
chained-append before [] b = refl
chained-append before (e ∷ a) b =
    ap (λ pieces. (record_of e ++ chain before (record_of e)) ∷ pieces) (chained-append (chain before (record_of e)) a b)

pub kept-append-cons : (e : Event) (h more : List Event) → kept_records (e ∷ h ++ more) ≡ kept_records (e ∷ h) ++ chained (hash_after (e ∷ h)) more
kept-append-cons e h more = ap with_magic (chained-append (sha256 magic_2) (e ∷ h) more)

-- those of more events stand behind those of the first
pub kept-append : (h more : List Event) → Starts h → kept_records (h ++ more) ≡ kept_records h ++ chained (hash_after h) more
kept-append [] more s = absurd (empty s.first) where
  empty : {e : Event} {l : List Event} → ◌≡◌ {A = List Event} [] (e ∷ l) → ⊥
  empty same = cc
kept-append (e ∷ h) more s = kept-append-cons e h more

-- an event in the middle of a history, and at its end
pub all-middle : (P : Event → Type 0) (a : List Event) (e : Event) (b : List Event) → AllByRecursion P (a ++ e ∷ b) → P e
all-middle P [] e b all = all.0
all-middle P (x ∷ a) e b all = all-middle P a e b all.1

pub all-more : (P : Event → Type 0) (a : List Event) (e : Event) → AllByRecursion P a → P e → AllByRecursion P (a ++ e ∷ [])
all-more P [] e all one = (one, tt)
all-more P (x ∷ a) e all one = (all.0, all-more P a e all.1 one)

-- a history with these records begins with an event of which the first is the piece
pub record BeginsWith (bytes : List ℕ) (history : List Event) : Type 0 where
  pub event : Event
  pub more : List Event
  pub parts : event ∷ more ≡ history
  pub can_be_kept : CanBeKept event
  pub uncaused : cause_of [] event ≡ None
  pub piece : bytes ≡ first_piece event

pub begins_with : (first : List ℕ) (later : List (List ℕ)) (history : List Event) → IsHistoryOf (first ∷ later) history → BeginsWith first history
begins_with first later [] is = absurd (empty is.begun.first) where
  empty : {e : Event} {l : List Event} → ◌≡◌ {A = List Event} [] (e ∷ l) → ⊥
  empty same = cc
begins_with first later (e ∷ more) is = record {
  event = e;
  more = more;
  parts = refl;
  can_be_kept = is.kept.has_ledger.0;
  uncaused = none_caused (e ∷ more) is.kept.legal [] e more refl;
  piece = head is.pieces;
} where
  head : first ∷ later ≡ kept_records (e ∷ more) → first ≡ first_piece e
  head same = cc

-- behind these events it goes on with one of which this is the piece
pub record GoesOnWith (front : List Event) (bytes : List ℕ) (history : List Event) : Type 0 where
  pub event : Event
  pub more : List Event
  pub parts : history ≡ front ++ event ∷ more
  pub can_be_kept : CanBeKept event
  pub uncaused : cause_of (past_of front) event ≡ None
  pub piece : bytes ≡ piece_behind (hash_after front) event

pub goes_on : (front history : List Event) (records : List (List ℕ)) (one : List ℕ) (rest : List (List ℕ)) → Starts front → kept_records front ≡ records
    → IsHistoryOf (records ++ one ∷ rest) history → Begins front history → GoesOnWith front one history
goes_on front history records one rest begun pieces is begins = by_more begins.0 (sym begins.1)
  where
    behind : (more : List Event) → history ≡ front ++ more → one ∷ rest ≡ chained (hash_after front) more
    behind more parts =
        append_cancel_left records (one ∷ rest) (chained (hash_after front) more)
        (is.pieces ∙ ap kept_records parts ∙ kept-append front more begun ∙ ap (λ rs. rs ++ chained (hash_after front) more) pieces)

    none : one ∷ rest ≡ [] → ⊥
    none same = cc

    head : (e : Event) (more : List Event) → one ∷ rest ≡ chained (hash_after front) (e ∷ more) → one ≡ piece_behind (hash_after front) e
    head e more same = cc

    by_more : (more : List Event) → history ≡ front ++ more → GoesOnWith front one history
    by_more [] parts = absurd (none (behind [] parts))
    by_more (e ∷ more) parts = record {
      event = e;
      more = more;
      parts = parts;
      can_be_kept = all-middle CanBeKept front e more (subst AllCanBeKept parts is.kept.has_ledger);
      uncaused = none_caused history is.kept.legal front e more parts;
      piece = head e more (behind (e ∷ more) parts);
    }

-- one piece is of one event
pub one_event_of : (before bytes : List ℕ) (e f : Event) → CanBeKept e → CanBeKept f → bytes ≡ piece_behind before e → bytes ≡ piece_behind before f → e ≡ f
one_event_of before bytes e f can may is same =
    (read_back e f (chain before (record_of e)) (chain before (record_of f)) can may (sym is ∙ same)).events

pub one_first_of : (bytes : List ℕ) (e f : Event) → CanBeKept e → CanBeKept f → bytes ≡ first_piece e → bytes ≡ first_piece f → e ≡ f
one_first_of bytes e f can may is same =
    one_event_of (sha256 magic_2) (piece_behind (sha256 magic_2) e) e f can may refl
    (append_cancel_left magic_2 (piece_behind (sha256 magic_2) e) (piece_behind (sha256 magic_2) f) (sym is ∙ same))
