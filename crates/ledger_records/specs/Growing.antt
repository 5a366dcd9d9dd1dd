-- What one more event adds to a ledger (this project's own).
use Rattle.std.specs.Prelude.{◌≡◌, ℕ, ◌-◌, List, [], ◌∷◌, ◌++◌, length, drop, fold}
use Rattle.sha2.specs.Sha256.{sha256}
use Rattle.pool_history.specs.declared.events.Event.{Event}
use Rattle.pool_history.specs.Ledger.{chain, kept_records, ledger_text, ledger_text_1, magic_2, record_of}

-- the hash over a history's records so far: it begins with that of the magic, and takes in one
-- record after the other
abbrev pub hash_after : List Event → List ℕ
hash_after history = fold (λ before event. chain before (record_of event)) (sha256 magic_2) history

-- the last 32 bytes
abbrev pub last_32 : List ℕ → List ℕ
last_32 bytes = drop (length bytes - 32) bytes

-- with one more event the text of format 2 has its record and then the hash over all, and that of
-- format 1 its record
pub record GrowsBy (history : List Event) (one : Event) : Type 0 where
  pub hash : hash_after (history ++ one ∷ []) ≡ chain (hash_after history) (record_of one)
  pub text : ledger_text (history ++ one ∷ [])
      ≡ ledger_text history ++ record_of one ++ hash_after (history ++ one ∷ [])
  pub ends : last_32 (ledger_text (history ++ one ∷ [])) ≡ hash_after (history ++ one ∷ [])
  pub old_text : ledger_text_1 (history ++ one ∷ []) ≡ ledger_text_1 history ++ record_of one

abbrev pub LedgersGrow : Type 0
LedgersGrow = (history : List Event) (one : Event) → GrowsBy history one

-- a ledger that is kept in pieces has the magic before the first record, and one piece more for
-- each later event
pub record KeepsBy (first : Event) (history : List Event) (one : Event) : Type 0 where
  pub begins : kept_records (first ∷ [])
      ≡ (magic_2 ++ record_of first ++ hash_after (first ∷ [])) ∷ []
  pub goes_on : kept_records (first ∷ history ++ one ∷ [])
      ≡ kept_records (first ∷ history)
      ++ (record_of one ++ hash_after (first ∷ history ++ one ∷ [])) ∷ []

abbrev pub PiecesGrow : Type 0
PiecesGrow = (first : Event) (history : List Event) (one : Event) → KeepsBy first history one
