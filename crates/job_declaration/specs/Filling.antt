-- The transactions that a declaration lists: which are known, which are missing, and the ids of all
-- once those that were missing are brought. A transaction is listed by its witness id (BIP 141),
-- and the path is made of ids (Stratum V2, "DeclareMiningJob"; what is asked for and when it is
-- refused is this project's own).
use Rattle.std.specs.Prelude.{ℕ, ◌+◌, if◌then◌else◌, Option, None, Some, is_some, Result, Ok, Err, List, [], ◌∷◌, fold, map}
use Rattle.std.specs.Map.{lookup}
use Rattle.std.specs.Str.{bytes_eq}
use Rattle.indexmap.specs.IndexMap.{insert_entry}
use Rattle.coinbase.specs.declared.error.TxError.{TxError}
use Rattle.coinbase.specs.declared.tx.Tx.{Tx}
use Rattle.coinbase.specs.Form as form
use Rattle.coinbase.specs.Reading.{tx_of}
use Rattle.job_declaration.specs.declared.ids.Listed.{Listed}
use Rattle.job_declaration.specs.declared.ids.TxIds.{TxIds}

-- ids under witness ids, each of which stands there once
abbrev pub Known : Type 0
Known = List (List ℕ × List ℕ)

-- these transactions, put in one after the other
abbrev pub known_of : List TxIds → Known
known_of transactions =
    fold (λ known ids. insert_entry bytes_eq known ids.wtxid ids.txid) [] transactions

-- the id under a witness id, where there is one
abbrev pub id_under : Known → List ℕ → Option (List ℕ)
id_under known wtxid = lookup (bytes_eq wtxid) known

-- a list of witness ids, with the ids that are known
abbrev pub listed_by : Known → List (List ℕ) → List Listed
listed_by known wtxids = map (λ wtxid. record { wtxid = wtxid; txid = id_under known wtxid }) wtxids

-- the places of those that aren't, from a place on, in rising order
abbrev pub missing_from : ℕ → List Listed → List ℕ
missing_from place [] = []
missing_from place (entry ∷ later) =
    if is_some entry.txid then missing_from (place + 1) later
    else place ∷ missing_from (place + 1) later

abbrev pub missing_places : List Listed → List ℕ
missing_places listed = missing_from 0 listed

-- the id of what was read, where it is the transaction with this witness id
abbrev pub id_by : List ℕ → Result Tx TxError → Option (List ℕ)
id_by wtxid (Ok tx) = if bytes_eq (form.wtxid tx) wtxid then Some (form.txid tx) else None
id_by wtxid (Err error) = None

-- a transaction before others
abbrev pub and_others : List ℕ → Option (List ℕ) → Option (List TxIds) → Option (List TxIds)
and_others wtxid None others = None
and_others wtxid (Some txid) None = None
and_others wtxid (Some txid) (Some others) =
    Some (record { wtxid = wtxid; txid = txid } ∷ others)

-- an entry whose id isn't known takes the first transaction that was brought
abbrev pub first_brought :
    List ℕ → List (List ℕ) → (List (List ℕ) → Option (List TxIds)) → Option (List TxIds)
first_brought wtxid [] later = None
first_brought wtxid (first ∷ others) later =
    and_others wtxid (id_by wtxid (tx_of first)) (later others)

abbrev pub filled_entry : List ℕ → Option (List ℕ) → List (List ℕ)
    → (List (List ℕ) → Option (List TxIds)) → Option (List TxIds)
filled_entry wtxid (Some txid) brought later = and_others wtxid (Some txid) (later brought)
filled_entry wtxid None brought later = first_brought wtxid brought later

-- All ids of a list, those that weren't known by the transactions that were brought for them, in
-- their order; none where others were brought, or more, or fewer.
abbrev pub filled : List Listed → List (List ℕ) → Option (List TxIds)
filled [] [] = Some []
filled [] (first ∷ others) = None
filled (entry ∷ later) brought =
    filled_entry entry.wtxid entry.txid brought (λ others. filled later others)
