-- What holds of each session that declares jobs (this project's own).
use Rattle.std.specs.Prelude.{◌≡◌, ◌++◌, ℕ, true, Some, Ok, List, [], ◌∷◌, map}
use Rattle.std.specs.List.{AllByRecursion}
use Rattle.sv2_types.specs.Fields.{Number, Bytes, Parts}
use Rattle.sv2_messages.specs.declared.kinds.TheConstants as kinds
use Rattle.coinbase.specs.declared.tx.Tx.{Tx}
use Rattle.coinbase.specs.Form as form
use Rattle.coinbase.specs.Reading.{tx_of}
use Rattle.job_declaration.specs.Tree.{path}
use Rattle.pool_history.specs.declared.replies.Reply.TheVariants as reply
use Rattle.job_declaration.specs.declared.asked.Asked.TheVariants.{Token}
use Rattle.job_declaration.specs.declared.asked.Given.{Given}
use Rattle.job_declaration.specs.declared.ids.TxIds.{TxIds}
use Rattle.job_declaration.specs.Declaring.{AsksGrant, accepted, by_coinbase, waits}
use Rattle.job_declaration.specs.Filling.{missing_places}
use Rattle.job_declaration.specs.Moves.{DeclareMove, Heard, declared_answer, given, state_after, waiting}
use Rattle.job_declaration.specs.State.{Declaration, DeclareState}

-- both are ids of one transaction
pub record AreIds (wtxid txid : List ℕ) : Type 0 where
  pub tx : Tx
  pub bytes : List ℕ
  pub read : tx_of bytes ≡ Ok tx
  pub wtxid_is : wtxid ≡ form.wtxid tx
  pub txid_is : txid ≡ form.txid tx

-- the path of the ids of the transactions with these witness ids, in their order
pub record IsPathOf (wtxids asked : List (List ℕ)) : Type 0 where
  pub transactions : List TxIds
  pub listed : map (λ ids. ids.wtxid) transactions ≡ wtxids
  pub each : AllByRecursion (λ ids. AreIds ids.wtxid ids.txid) transactions
  pub path_is : asked ≡ path (map (λ ids. ids.txid) transactions)

-- The path that a declaration has a Grant asked for is that of the transactions which it lists,
-- whether they were known, or are brought later.
pub record AskedPathsAreOfTransactions (past : List DeclareMove) : Type 0 where
  pub declared : (request_id version : ℕ) (token prefix suffix excess identity : List ℕ)
      (wtxids asked : List (List ℕ))
      → declared_answer past
      (record {
        kind = kinds.DECLARE_MINING_JOB;
        fields = Number request_id ∷ Bytes token ∷ Number version ∷ Bytes prefix ∷ Bytes suffix
            ∷ Parts wtxids ∷ Bytes excess ∷ [];
      }) ≡ AsksGrant identity asked
      → IsPathOf wtxids asked
  pub brought : (request_id : ℕ) (identity : List ℕ) (transactions asked : List (List ℕ))
      (declaration : Declaration) → waiting past ≡ Some declaration
      → declared_answer past
      (record {
        kind = kinds.PROVIDE_MISSING_TRANSACTIONS_SUCCESS;
        fields = Number request_id ∷ Parts transactions ∷ [];
      }) ≡ AsksGrant identity asked
      → IsPathOf (map (λ entry. entry.wtxid) declaration.listed) asked

abbrev pub AllAskedPathsAreOfTransactions : Type 0
AllAskedPathsAreOfTransactions =
    (past : List DeclareMove) → AskedPathsAreOfTransactions past

-- a declaration with a good token and coinbase waits where a place of its list is missing, and is
-- accepted where none is
pub record WaitsForMissing (state : DeclareState) (declaration : Declaration) : Type 0 where
  pub waiting : (missing_places declaration.listed ≡ [] → ⊥)
      → by_coinbase state true declaration ≡ waits state declaration
  pub whole : missing_places declaration.listed ≡ [] → (transactions : List TxIds)
      × (by_coinbase state true declaration
      ≡ accepted state declaration.request_id declaration.identity transactions)

abbrev pub ListsWaitForMissing : Type 0
ListsWaitForMissing =
    (state : DeclareState) (declaration : Declaration) → WaitsForMissing state declaration

-- a token was granted to this user when the session had asked for one last, and not for a declaration
pub record WasGranted (past : List DeclareMove) (grant : Given) : Type 0 where
  pub later : List DeclareMove
  pub earlier : List DeclareMove
  pub script : List ℕ
  pub granted : past ≡ later ++ Heard (reply.Granted grant.number script) ∷ earlier
  pub asked : (state_after earlier).asked ≡ Token grant.identity

abbrev pub GivenWereGranted : Type 0
GivenWereGranted = (past : List DeclareMove) → AllByRecursion (WasGranted past) (given past)
