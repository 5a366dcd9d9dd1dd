-- How many transactions are known, and found.
use Rattle.std.proofs.Common.{◌≡◌, ℕ, suc, ◌+◌, ◌<◌, ◌≤◌, Option, None, Some, List, [], ◌∷◌, length, take, fold, ap, subst, refl, arith}
use Rattle.std.specs.Prelude.{Vec}
use Rattle.std.specs.Str.{bytes_eq}
use Rattle.std.specs.declared.alloc.Global.{Global}
use Rattle.std.proofs.lemmas.Bool.{cond_both}
use Rattle.std.proofs.lemmas.List.{length-map, length-take}
use Rattle.indexmap.specs.IndexMap.{insert_entry}
use Rattle.coinbase.specs.Reading.{tx_of}
use Rattle.job_declaration.specs.declared.ids.Listed.{Listed}
use Rattle.job_declaration.specs.declared.ids.TxIds.{TxIds}
use Rattle.job_declaration.specs.Filled.{IsFilled}
use Rattle.job_declaration.specs.Filling.{Known, and_others, filled, filled_entry, id_by, known_of, listed_by}

few_inserted : (known : Known) (wtxid txid : List ℕ)
    → length (insert_entry bytes_eq known wtxid txid) ≤ length known + 1
few_inserted [] wtxid txid = omega arith
few_inserted (entry ∷ known) wtxid txid =
    let rest = few_inserted known wtxid txid in
    cond_both (bytes_eq wtxid entry.0) ((entry.0, txid) ∷ known)
    (entry ∷ insert_entry bytes_eq known wtxid txid)
    (λ entries. length entries ≤ length (entry ∷ known) + 1) (λ same. omega arith)
    (λ other. omega arith)

few_added : (known : Known) (transactions : List TxIds)
    → length (fold (λ known ids. insert_entry bytes_eq known ids.wtxid ids.txid) known transactions)
    ≤ length known + length transactions
few_added known [] = omega arith
few_added known (ids ∷ transactions) =
    let one = few_inserted known ids.wtxid ids.txid in
    let rest = few_added (insert_entry bytes_eq known ids.wtxid ids.txid) transactions in
    omega arith

-- no more are known than were put in
pub few_known : (transactions : List TxIds) → length (known_of transactions) ≤ length transactions
few_known transactions = let all = few_added [] transactions in omega (arith, all)

-- as many entries are listed as ids
pub listed_whole : (known : Known) (wtxids : List (List ℕ))
    → length (listed_by known wtxids) ≡ length wtxids
listed_whole known wtxids = length-map wtxids _

-- as many are found as are listed, if all are
abbrev pub AreAsMany : ℕ → Option (List TxIds) → Type 0
AreAsMany count None = Unit {0}
AreAsMany count (Some transactions) = length transactions ≡ count

and_one : (count : ℕ) (wtxid : List ℕ) (txid : Option (List ℕ)) (others : Option (List TxIds))
    → AreAsMany count others → AreAsMany (suc count) (and_others wtxid txid others)
and_one count wtxid None others many = tt
and_one count wtxid (Some id) None many = tt
and_one count wtxid (Some id) (Some transactions) many = omega (arith, many)

entry_whole : (count : ℕ) (wtxid : List ℕ) (txid : Option (List ℕ)) (brought : List (List ℕ))
    (later : List (List ℕ) → Option (List TxIds))
    → ((others : List (List ℕ)) → AreAsMany count (later others))
    → AreAsMany (suc count) (filled_entry wtxid txid brought later)
entry_whole count wtxid (Some id) brought later many =
    and_one count wtxid (Some id) (later brought) (many brought)
entry_whole count wtxid None [] later many = tt
entry_whole count wtxid None (first ∷ others) later many =
    and_one count wtxid (id_by wtxid (tx_of first)) (later others) (many others)

filled_whole : (listed : List Listed) (brought : List (List ℕ))
    → AreAsMany (length listed) (filled listed brought)
filled_whole [] [] = refl
filled_whole [] (first ∷ others) = tt
filled_whole (entry ∷ later) brought =
    entry_whole (length later) entry.wtxid entry.txid brought (λ others. filled later others)
    (λ others. filled_whole later others)

-- a front of few transactions makes few known
pub few_of_front : (most front : ℕ) (transactions : List TxIds) (known : Known)
    → length transactions < most → known ≡ known_of (take front transactions)
    → length known < most
few_of_front most front transactions known few known_is =
    omega (arith, few, ap length known_is, few_known (take front transactions), length-take front transactions)

-- for few entries, few are found
pub found_few : (most : ℕ) (listed : List Listed) (brought : List (List ℕ))
    (found : Option (Vec TxIds Global)) (transactions : Vec TxIds Global) (items : List TxIds)
    → length listed < most → IsFilled found (filled listed brought) → found ≡ Some transactions
    → items ≡ transactions.items → length items < most
found_few most listed brought found transactions items few is_filled is items_are =
    let filled_is : filled listed brought ≡ Some transactions.items =
    subst (λ ids. IsFilled ids (filled listed brought)) is is_filled in
    omega (arith, few, ap length items_are, subst (AreAsMany (length listed)) filled_is (filled_whole listed brought))
