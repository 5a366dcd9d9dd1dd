-- What one more event adds to a ledger.
use Rattle.std.proofs.Common.{◌≡◌, ℕ, ◌+◌, ◌-◌, List, [], ◌∷◌, ◌++◌, length, drop, flat_map, fold, refl, ap, sym, ◌∙◌, arith, append_assoc, append-nil, length-append, drop_at}
use Rattle.std.proofs.lemmas.Grind.{flat_map-append}
use Rattle.std.proofs.lemmas.List.Sums.{fold_push}
use Rattle.sha2.specs.Sha256.{sha256}
use Rattle.sha2.proofs.Facts256.{length-sha256}
use Rattle.pool_history.specs.declared.events.Event.{Event}
use Rattle.pool_history.specs.Ledger.{chain, chained, ledger_text, ledger_text_1, magic_1, magic_2, record_of, with_magic}
use Rattle.ledger_records.specs.Growing.{LedgersGrow, PiecesGrow, hash_after, last_32}
use Rattle.ledger_records.proofs.Records.{joined, text_pieces}

-- the hash behind records that follow another
abbrev pub hash_behind : List ℕ → List Event → List ℕ
hash_behind before history = fold (λ before event. chain before (record_of event)) before history

-- one more piece
pub chained-end : (before : List ℕ) (history : List Event) (one : Event)
    → chained before (history ++ one ∷ []) ≡ chained before history ++ (record_of one ++ chain (hash_behind before history) (record_of one)) ∷ []
chained-end before [] one = refl
chained-end before (e ∷ history) one =
    ap (λ pieces. (record_of e ++ chain before (record_of e)) ∷ pieces) (chained-end (chain before (record_of e)) history one)

-- the hash with one more record
pub hash-end : (history : List Event) (one : Event) → hash_after (history ++ one ∷ []) ≡ chain (hash_after history) (record_of one)
hash-end history one = fold_push (λ before event. chain before (record_of event)) (sha256 magic_2) history one

-- the pieces of a history behind its magic, joined
joined-append : (xs ys : List (List ℕ)) → joined (xs ++ ys) ≡ joined xs ++ joined ys
joined-append xs ys = flat_map-append (λ piece. piece) xs ys

pub text-end : (history : List Event) (one : Event)
    → ledger_text (history ++ one ∷ []) ≡ ledger_text history ++ record_of one ++ hash_after (history ++ one ∷ [])
text-end history one =
    let piece : List ℕ = record_of one ++ chain (hash_after history) (record_of one) in
    let before : List ℕ = joined (chained (sha256 magic_2) history) in
    text_pieces (chained (sha256 magic_2) (history ++ one ∷ []))
    ∙ ap (λ pieces. magic_2 ++ joined pieces) (chained-end (sha256 magic_2) history one)
    ∙ ap (λ bytes. magic_2 ++ bytes) (joined-append (chained (sha256 magic_2) history) (piece ∷ []))
    ∙ ap (λ bytes. magic_2 ++ (before ++ bytes)) (append-nil piece)
    ∙ sym (append_assoc magic_2 before piece)
    ∙ ap (λ bytes. bytes ++ piece) (sym (text_pieces (chained (sha256 magic_2) history)))
    ∙ sym (append_assoc (ledger_text history) (record_of one) (chain (hash_after history) (record_of one)))
    ∙ ap (λ hash. ledger_text history ++ record_of one ++ hash) (sym (hash-end history one))

-- it ends in the hash
hash-length : (history : List Event) (one : Event) → length (hash_after (history ++ one ∷ [])) ≡ 32
hash-length history one = ap length (hash-end history one) ∙ length-sha256 (hash_after history ++ record_of one)

ends-at : (front back : List ℕ) → length back ≡ 32 → last_32 (front ++ back) ≡ back
ends-at front back long =
    let whole : length (front ++ back) ≡ length front + length back = length-append front back in
    let place : length (front ++ back) - 32 ≡ length front = omega (arith, whole, long) in
    ap (λ n. drop n (front ++ back)) place ∙ drop_at front back (length front) refl

pub text-ends : (history : List Event) (one : Event) → last_32 (ledger_text (history ++ one ∷ [])) ≡ hash_after (history ++ one ∷ [])
text-ends history one =
    let hash : List ℕ = hash_after (history ++ one ∷ []) in
    ap last_32 (text-end history one)
    ∙ ends-at (ledger_text history ++ record_of one) hash (hash-length history one)

-- and the text of format 1 in the record
pub old_text-end : (history : List Event) (one : Event) → ledger_text_1 (history ++ one ∷ []) ≡ ledger_text_1 history ++ record_of one
old_text-end history one =
    ap (λ bytes. magic_1 ++ bytes) (flat_map-append record_of history (one ∷ []) ∙ ap (λ bytes. flat_map record_of history ++ bytes) (append-nil (record_of one)))
    ∙ sym (append_assoc magic_1 (flat_map record_of history) (record_of one))

pub grows : LedgersGrow
grows history one = record {
  hash = hash-end history one;
  text = text-end history one;
  ends = text-ends history one;
  old_text = old_text-end history one;
}

pub pieces : PiecesGrow
pieces first history one = record {
  begins = refl;
  goes_on = ap with_magic (chained-end (sha256 magic_2) (first ∷ history) one)
      ∙ ap (λ hash. with_magic (chained (sha256 magic_2) (first ∷ history)) ++ (record_of one ++ hash) ∷ []) (sym (hash-end (first ∷ history) one));
}
