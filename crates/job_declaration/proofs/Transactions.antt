-- All that a session knows are ids of transactions that were read, and so are the paths that it asks
-- Grants for.
use Rattle.std.proofs.Common.{◌≡◌, ℕ, ◌==◌, Bool, true, false, cond, None, Some, Option, Result, Ok, Err, List, [], ◌∷◌, fold, map, refl, ap, sym, subst}
use Rattle.std.specs.Prelude.{if◌then◌else◌}
use Rattle.std.specs.List.{AllByRecursion}
use Rattle.std.specs.Map.{lookup}
use Rattle.std.specs.Str.{bytes_eq}
use Rattle.std.proofs.lemmas.Slice.Eq.{bytes_eq-Decides}
use Rattle.indexmap.specs.IndexMap.{insert_entry}
use Rattle.sv2_types.specs.Fields.{FieldValue, Number, Bytes, Parts}
use Rattle.sv2_messages.specs.declared.kinds.TheConstants as kinds
use Rattle.coinbase.specs.declared.error.TxError.{TxError}
use Rattle.coinbase.specs.declared.tx.Tx.{Tx}
use Rattle.coinbase.specs.Form as form
use Rattle.coinbase.specs.Reading.{tx_of}
use Rattle.job_declaration.specs.Tree.{path}
use Rattle.pool_history.specs.declared.replies.Reply.{Reply}
use Rattle.pool_history.specs.declared.replies.Reply.TheVariants as reply
use Rattle.job_declaration.specs.declared.asked.Asked.{Asked}
use Rattle.job_declaration.specs.declared.asked.Asked.TheVariants.{Nothing, Token, Declared}
use Rattle.job_declaration.specs.declared.asked.Given.{Given}
use Rattle.job_declaration.specs.declared.ids.Listed.{Listed}
use Rattle.job_declaration.specs.declared.ids.TxIds.{TxIds}
use Rattle.job_declaration.specs.Declaring.{AsksGrant, accepted, by_coinbase, by_filled, by_listed, by_token, by_waiting, declared_coinbase, given_by, granted, heard, ignored, is_coinbase, on_bringing, on_declaring}
use Rattle.job_declaration.specs.Filling.{Known, and_others, filled, filled_entry, id_by, id_under, listed_by}
use Rattle.job_declaration.specs.RuleLaws.{AllAskedPathsAreOfTransactions, AreIds, IsPathOf}
use Rattle.job_declaration.specs.Moves.{DeclareMove, AskedToken, Met, Heard, state_after}
use Rattle.job_declaration.specs.State.{DeclareState, Declaration}

-- ids of transactions
abbrev AreKnown : Known → Type 0
AreKnown known = AllByRecursion (λ pair. AreIds pair.0 pair.1) known

abbrev AreAllIds : List TxIds → Type 0
AreAllIds transactions = AllByRecursion (λ ids. AreIds ids.wtxid ids.txid) transactions

abbrev IsEntry : List ℕ → Option (List ℕ) → Type 0
IsEntry wtxid None = Unit {0}
IsEntry wtxid (Some txid) = AreIds wtxid txid

abbrev AreEntries : List Listed → Type 0
AreEntries listed = AllByRecursion (λ entry. IsEntry entry.wtxid entry.txid) listed

abbrev wtxids_of : List Listed → List (List ℕ)
wtxids_of listed = map (λ entry. entry.wtxid) listed

same_bytes : (a b : List ℕ) → bytes_eq a b ≡ true → a ≡ b
same_bytes a b same = (bytes_eq-Decides a b).0 same

ids_at : (a b txid : List ℕ) → a ≡ b → AreIds a txid → AreIds b txid
ids_at a b txid same ids = let P : List ℕ → Type 0 = λ wtxid. AreIds wtxid txid in subst P same ids

-- what is known under a witness id
id_by_test : (test : Bool) (wtxid key txid : List ℕ) (rest : Option (List ℕ))
    → bytes_eq wtxid key ≡ test → AreIds key txid → IsEntry wtxid rest
    → IsEntry wtxid (cond test (Some txid) rest)
id_by_test true wtxid key txid rest same ids later =
    ids_at key wtxid txid (sym (same_bytes wtxid key same)) ids
id_by_test false wtxid key txid rest same ids later = later

id_known : (known : Known) (wtxid : List ℕ) → AreKnown known → IsEntry wtxid (id_under known wtxid)
id_known [] wtxid each = tt
id_known (pair ∷ later) wtxid each =
    id_by_test (bytes_eq wtxid pair.0) wtxid pair.0 pair.1 (lookup (bytes_eq wtxid) later) refl each.0
    (id_known later wtxid each.1)

-- one more
more_by_test : (test : Bool) (wtxid txid : List ℕ) (pair : List ℕ × List ℕ) (later rest : Known)
    → bytes_eq wtxid pair.0 ≡ test → AreIds wtxid txid → AreIds pair.0 pair.1 → AreKnown later
    → AreKnown rest → AreKnown (if test then (pair.0, txid) ∷ later else pair ∷ rest)
more_by_test true wtxid txid pair later rest same ids first others more =
    (ids_at wtxid pair.0 txid (same_bytes wtxid pair.0 same) ids, others)
more_by_test false wtxid txid pair later rest same ids first others more = (first, more)

known_more : (known : Known) (wtxid txid : List ℕ) → AreKnown known → AreIds wtxid txid
    → AreKnown (insert_entry bytes_eq known wtxid txid)
known_more [] wtxid txid each ids = (ids, tt)
known_more (pair ∷ later) wtxid txid each ids =
    more_by_test (bytes_eq wtxid pair.0) wtxid txid pair later
    (insert_entry bytes_eq later wtxid txid) refl ids each.0 each.1
    (known_more later wtxid txid each.1 ids)

known_all : (known : Known) (transactions : List TxIds) → AreKnown known → AreAllIds transactions
    → AreKnown (fold (λ known ids. insert_entry bytes_eq known ids.wtxid ids.txid) known transactions)
known_all known [] each all = each
known_all known (ids ∷ later) each all =
    known_all (insert_entry bytes_eq known ids.wtxid ids.txid) later
    (known_more known ids.wtxid ids.txid each all.0) all.1

-- what a declaration lists
entries_listed : (known : Known) (wtxids : List (List ℕ)) → AreKnown known
    → AreEntries (listed_by known wtxids)
entries_listed known [] each = tt
entries_listed known (wtxid ∷ later) each =
    (id_known known wtxid each, entries_listed known later each)

wtxids_listed : (known : Known) (wtxids : List (List ℕ))
    → wtxids_of (listed_by known wtxids) ≡ wtxids
wtxids_listed known [] = refl
wtxids_listed known (wtxid ∷ later) = ap (λ wtxids. wtxid ∷ wtxids) (wtxids_listed known later)

-- what was brought
read_by_test : (test : Bool) (wtxid bytes : List ℕ) (tx : Tx) → tx_of bytes ≡ Ok tx
    → bytes_eq (form.wtxid tx) wtxid ≡ test
    → IsEntry wtxid (if test then Some (form.txid tx) else None)
read_by_test true wtxid bytes tx read same =
    record {
      tx = tx;
      bytes = bytes;
      read = read;
      wtxid_is = sym (same_bytes (form.wtxid tx) wtxid same);
      txid_is = refl;
    }
read_by_test false wtxid bytes tx read same = tt

read_entry : (wtxid bytes : List ℕ) (read : Result Tx TxError) → tx_of bytes ≡ read
    → IsEntry wtxid (id_by wtxid read)
read_entry wtxid bytes (Ok tx) is =
    read_by_test (bytes_eq (form.wtxid tx) wtxid) wtxid bytes tx is refl
read_entry wtxid bytes (Err error) is = tt

-- these are the transactions with these witness ids
abbrev AreOf : List (List ℕ) → List TxIds → Type 0
AreOf wtxids transactions =
    (map (λ ids. ids.wtxid) transactions ≡ wtxids) × AreAllIds transactions

others_of : (wtxid : List ℕ) (txid : Option (List ℕ)) (others : Option (List TxIds))
    (wtxids : List (List ℕ)) (transactions : List TxIds) → IsEntry wtxid txid
    → ((later : List TxIds) → others ≡ Some later → AreOf wtxids later)
    → and_others wtxid txid others ≡ Some transactions → AreOf (wtxid ∷ wtxids) transactions
others_of wtxid None others wtxids transactions ids later found = cc
others_of wtxid (Some txid) None wtxids transactions ids later found = cc
others_of wtxid (Some txid) (Some others) wtxids transactions ids later found =
    let first : TxIds = record { wtxid = wtxid; txid = txid } in
    let whole : first ∷ others ≡ transactions = cc in
    let P : List TxIds → Type 0 = λ all. AreOf (wtxid ∷ wtxids) all in
    let rest = later others refl in
    subst P whole (ap (λ wtxids. wtxid ∷ wtxids) rest.0, (ids, rest.1))

entry_of : (wtxid : List ℕ) (txid : Option (List ℕ)) (brought : List (List ℕ))
    (later : List Listed) (transactions : List TxIds) → IsEntry wtxid txid
    → ((others : List (List ℕ)) (found : List TxIds) → filled later others ≡ Some found
    → AreOf (wtxids_of later) found)
    → filled_entry wtxid txid brought (λ others. filled later others) ≡ Some transactions
    → AreOf (wtxid ∷ wtxids_of later) transactions
entry_of wtxid (Some txid) brought later transactions ids rest found =
    others_of wtxid (Some txid) (filled later brought) (wtxids_of later) transactions ids
    (rest brought) found
entry_of wtxid None [] later transactions ids rest found = cc
entry_of wtxid None (first ∷ others) later transactions ids rest found =
    others_of wtxid (id_by wtxid (tx_of first)) (filled later others) (wtxids_of later) transactions
    (read_entry wtxid first (tx_of first) refl) (rest others) found

filled_of : (listed : List Listed) (brought : List (List ℕ)) (transactions : List TxIds)
    → AreEntries listed → filled listed brought ≡ Some transactions
    → AreOf (wtxids_of listed) transactions
filled_of [] [] transactions each found =
    let none : [] ≡ transactions = cc in
    let P : List TxIds → Type 0 = λ all. AreOf [] all in
    subst P none (refl, tt)
filled_of [] (first ∷ others) transactions each found = cc
filled_of (entry ∷ later) brought transactions each found =
    entry_of entry.wtxid entry.txid brought later transactions each.0
    (λ others found. filled_of later others found each.1) found

-- all that is known, and listed by the declaration that waits
abbrev AreWaiting : Option Declaration → Type 0
AreWaiting None = Unit {0}
AreWaiting (Some declaration) = AreEntries declaration.listed

record KnowsTransactions (state : DeclareState) : Type 0 where
  known : AreKnown state.known
  waiting : AreWaiting state.waiting

accepted_knows : (state : DeclareState) (request_id : ℕ) (identity : List ℕ)
    (wtxids : List (List ℕ)) (transactions : List TxIds) → AreOf wtxids transactions
    → KnowsTransactions (accepted state request_id identity transactions).after
accepted_knows state request_id identity wtxids transactions all =
    record { known = known_all [] transactions tt all.1; waiting = tt }

listed_knows : (state : DeclareState) (declaration : Declaration) (found : Option (List TxIds))
    → filled declaration.listed [] ≡ found → AreEntries declaration.listed
    → KnowsTransactions state → KnowsTransactions (by_listed state declaration found).after
listed_knows state declaration None is each knows = record { known = knows.known; waiting = each }
listed_knows state declaration (Some transactions) is each knows =
    accepted_knows state declaration.request_id declaration.identity (wtxids_of declaration.listed)
    transactions (filled_of declaration.listed [] transactions each is)

coinbase_knows : (state : DeclareState) (good : Bool) (declaration : Declaration)
    → AreEntries declaration.listed → KnowsTransactions state
    → KnowsTransactions (by_coinbase state good declaration).after
coinbase_knows state true declaration each knows =
    listed_knows state declaration (filled declaration.listed []) refl each knows
coinbase_knows state false declaration each knows = knows

token_knows : (state : DeclareState) (request_id : ℕ) (given : Option Given) (good : Bool)
    (wtxids : List (List ℕ)) → KnowsTransactions state
    → KnowsTransactions (by_token state request_id given good wtxids).after
token_knows state request_id None good wtxids knows = knows
token_knows state request_id (Some given) good wtxids knows =
    coinbase_knows state good
    (record {
      request_id = request_id;
      identity = given.identity;
      listed = listed_by state.known wtxids;
    }) (entries_listed state.known wtxids knows.known) knows

declaring_knows : (state : DeclareState) (fields : List FieldValue) → KnowsTransactions state
    → KnowsTransactions (on_declaring state fields).after
declaring_knows state
    (Number request_id ∷ Bytes token ∷ Number version ∷ Bytes prefix ∷ Bytes suffix
    ∷ Parts wtxids ∷ Bytes excess ∷ []) knows =
    token_knows state request_id (given_by state.given token)
    (is_coinbase (tx_of (declared_coinbase prefix suffix))) wtxids knows
declaring_knows state fields knows = knows

filled_knows : (state : DeclareState) (declaration : Declaration) (brought : List (List ℕ))
    (found : Option (List TxIds)) → filled declaration.listed brought ≡ found
    → AreEntries declaration.listed → KnowsTransactions state
    → KnowsTransactions (by_filled state declaration found).after
filled_knows state declaration brought None is each knows =
    record { known = knows.known; waiting = tt }
filled_knows state declaration brought (Some transactions) is each knows =
    accepted_knows state declaration.request_id declaration.identity (wtxids_of declaration.listed)
    transactions (filled_of declaration.listed brought transactions each is)

waiting_by_test : (test : Bool) (state : DeclareState) (declaration : Declaration)
    (brought : List (List ℕ)) → AreEntries declaration.listed → KnowsTransactions state
    → KnowsTransactions (if test then by_filled state declaration (filled declaration.listed brought)
    else ignored state).after
waiting_by_test true state declaration brought each knows =
    filled_knows state declaration brought (filled declaration.listed brought) refl each knows
waiting_by_test false state declaration brought each knows = knows

waiting_knows : (state : DeclareState) (request_id : ℕ) (brought : List (List ℕ))
    (waiting : Option Declaration) → AreWaiting waiting → KnowsTransactions state
    → KnowsTransactions (by_waiting state request_id brought waiting).after
waiting_knows state request_id brought None each knows = knows
waiting_knows state request_id brought (Some declaration) each knows =
    waiting_by_test (declaration.request_id == request_id) state declaration brought each knows

bringing_knows : (state : DeclareState) (fields : List FieldValue) → KnowsTransactions state
    → KnowsTransactions (on_bringing state fields).after
bringing_knows state (Number request_id ∷ Parts brought ∷ []) knows =
    waiting_knows state request_id brought state.waiting knows.waiting knows
bringing_knows state fields knows = knows

reaction_by_tests : (declares brings : Bool) (state : DeclareState) (fields : List FieldValue)
    → KnowsTransactions state
    → KnowsTransactions (if declares then on_declaring state fields
    else if brings then on_bringing state fields else ignored state).after
reaction_by_tests true brings state fields knows = declaring_knows state fields knows
reaction_by_tests false true state fields knows = bringing_knows state fields knows
reaction_by_tests false false state fields knows = knows

granted_knows : (state : DeclareState) (asked : Asked) (number : ℕ) → KnowsTransactions state
    → KnowsTransactions (granted state asked number)
granted_knows state (Token identity) number knows =
    record { known = knows.known; waiting = knows.waiting }
granted_knows state (Declared request_id) number knows = knows
granted_knows state Nothing number knows = knows

heard_knows : (state : DeclareState) (answer : Reply) → KnowsTransactions state
    → KnowsTransactions (heard state answer)
heard_knows state (reply.Granted number script) knows = granted_knows state state.asked number knows
heard_knows state answer knows = knows

state_knows : (past : List DeclareMove) → KnowsTransactions (state_after past)
state_knows [] = record { known = tt; waiting = tt }
state_knows (AskedToken identity ∷ past) =
    let knows = state_knows past in record { known = knows.known; waiting = knows.waiting }
state_knows (Met message ∷ past) =
    reaction_by_tests (message.kind == kinds.DECLARE_MINING_JOB)
    (message.kind == kinds.PROVIDE_MISSING_TRANSACTIONS_SUCCESS) (state_after past) message.fields
    (state_knows past)
state_knows (Heard answer ∷ past) = heard_knows (state_after past) answer (state_knows past)

-- the path that is asked for
accepted_path : (state : DeclareState) (request_id : ℕ) (identity asked_by : List ℕ)
    (wtxids asked : List (List ℕ)) (transactions : List TxIds) → AreOf wtxids transactions
    → (accepted state request_id identity transactions).answer ≡ AsksGrant asked_by asked
    → IsPathOf wtxids asked
accepted_path state request_id identity asked_by wtxids asked transactions all is =
    record {
      transactions = transactions;
      listed = all.0;
      each = all.1;
      path_is = let e : asked ≡ path (map (λ ids. ids.txid) transactions) = cc in e;
    }

listed_path : (state : DeclareState) (declaration : Declaration) (found : Option (List TxIds))
    (asked_by : List ℕ) (asked : List (List ℕ)) → filled declaration.listed [] ≡ found
    → AreEntries declaration.listed
    → (by_listed state declaration found).answer ≡ AsksGrant asked_by asked
    → IsPathOf (wtxids_of declaration.listed) asked
listed_path state declaration None asked_by asked is each answer = absurd cc
listed_path state declaration (Some transactions) asked_by asked is each answer =
    accepted_path state declaration.request_id declaration.identity asked_by
    (wtxids_of declaration.listed) asked transactions
    (filled_of declaration.listed [] transactions each is) answer

coinbase_path : (state : DeclareState) (good : Bool) (declaration : Declaration)
    (asked_by : List ℕ) (asked : List (List ℕ)) → AreEntries declaration.listed
    → (by_coinbase state good declaration).answer ≡ AsksGrant asked_by asked
    → IsPathOf (wtxids_of declaration.listed) asked
coinbase_path state true declaration asked_by asked each answer =
    listed_path state declaration (filled declaration.listed []) asked_by asked refl each answer
coinbase_path state false declaration asked_by asked each answer = absurd cc

token_path : (state : DeclareState) (request_id : ℕ) (given : Option Given) (good : Bool)
    (wtxids : List (List ℕ)) (asked_by : List ℕ) (asked : List (List ℕ)) → KnowsTransactions state
    → (by_token state request_id given good wtxids).answer ≡ AsksGrant asked_by asked
    → IsPathOf wtxids asked
token_path state request_id None good wtxids asked_by asked knows answer = absurd cc
token_path state request_id (Some given) good wtxids asked_by asked knows answer =
    let P : List (List ℕ) → Type 0 = λ wtxids. IsPathOf wtxids asked in
    subst P (wtxids_listed state.known wtxids)
    (coinbase_path state good
    (record {
      request_id = request_id;
      identity = given.identity;
      listed = listed_by state.known wtxids;
    }) asked_by asked (entries_listed state.known wtxids knows.known) answer)

filled_path : (state : DeclareState) (declaration : Declaration) (brought : List (List ℕ))
    (found : Option (List TxIds)) (asked_by : List ℕ) (asked : List (List ℕ))
    → filled declaration.listed brought ≡ found → AreEntries declaration.listed
    → (by_filled state declaration found).answer ≡ AsksGrant asked_by asked
    → IsPathOf (wtxids_of declaration.listed) asked
filled_path state declaration brought None asked_by asked is each answer = absurd cc
filled_path state declaration brought (Some transactions) asked_by asked is each answer =
    accepted_path state declaration.request_id declaration.identity asked_by
    (wtxids_of declaration.listed) asked transactions
    (filled_of declaration.listed brought transactions each is) answer

waiting_path_by_test : (test : Bool) (state : DeclareState) (declaration : Declaration)
    (brought : List (List ℕ)) (asked_by : List ℕ) (asked : List (List ℕ))
    → AreEntries declaration.listed
    → (if test then by_filled state declaration (filled declaration.listed brought)
    else ignored state).answer ≡ AsksGrant asked_by asked
    → IsPathOf (wtxids_of declaration.listed) asked
waiting_path_by_test true state declaration brought asked_by asked each answer =
    filled_path state declaration brought (filled declaration.listed brought) asked_by asked refl
    each answer
waiting_path_by_test false state declaration brought asked_by asked each answer = absurd cc

waiting_path : (state : DeclareState) (request_id : ℕ) (brought : List (List ℕ))
    (waiting : Option Declaration) (declaration : Declaration) (asked_by : List ℕ)
    (asked : List (List ℕ)) → waiting ≡ Some declaration → AreWaiting waiting
    → (by_waiting state request_id brought waiting).answer ≡ AsksGrant asked_by asked
    → IsPathOf (wtxids_of declaration.listed) asked
waiting_path state request_id brought None declaration asked_by asked is each answer = absurd cc
waiting_path state request_id brought (Some found) declaration asked_by asked is each answer =
    let same : found ≡ declaration = cc in
    let P : Declaration → Type 0 = λ d. IsPathOf (wtxids_of d.listed) asked in
    subst P same
    (waiting_path_by_test (found.request_id == request_id) state found brought asked_by asked each
    answer)

pub paths_are_of_transactions : AllAskedPathsAreOfTransactions
paths_are_of_transactions past =
    let knows = state_knows past in
    record {
      declared = λ request_id version token prefix suffix excess identity wtxids asked answer.
          token_path (state_after past) request_id (given_by (state_after past).given token)
          (is_coinbase (tx_of (declared_coinbase prefix suffix))) wtxids identity asked knows answer;
      brought = λ request_id identity transactions asked declaration waits answer.
          waiting_path (state_after past) request_id transactions (state_after past).waiting
          declaration identity asked waits knows.waiting answer;
    }
