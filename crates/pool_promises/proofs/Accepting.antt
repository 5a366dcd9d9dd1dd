-- A message that has a Grant asked for is a declaration, or brings transactions for the one that waits.
use Rattle.std.proofs.Common.{◌≡◌, ℕ, ◌==◌, Bool, true, false, Option, None, Some, List, [], ◌∷◌, inl, inr, map, refl, ap₂}
use Rattle.std.proofs.lemmas.Bool.{eqb-true}
use Rattle.std.specs.Prelude.{if◌then◌else◌}
use Rattle.sv2_types.specs.Fields.{FieldValue, Number, Bytes, Parts}
use Rattle.sv2_messages.specs.declared.kinds.TheConstants as kinds
use Rattle.sv2_messages.specs.Messages.{Message}
use Rattle.job_declaration.specs.declared.asked.Asked.TheVariants.{Declared}
use Rattle.job_declaration.specs.declared.asked.Given.{Given}
use Rattle.job_declaration.specs.declared.ids.TxIds.{TxIds}
use Rattle.coinbase.specs.Reading.{tx_of}
use Rattle.job_declaration.specs.Declaring.{AsksGrant, Reaction, by_coinbase, by_filled, by_listed, by_token, by_waiting, declared_coinbase, given_by, ignored, is_coinbase, on_bringing, on_declaring, reaction}
use Rattle.job_declaration.specs.Filling.{filled, listed_by}
use Rattle.job_declaration.specs.Moves.{DeclareMove, declared_answer, state_after, waiting}
use Rattle.job_declaration.specs.State.{DeclareState, Declaration}
use Rattle.session_steps.specs.Asking.{message_of}
use Rattle.pool_promises.specs.Paths.{IsOfList}

-- what was asked of the pool is for a declaration, of this list
pub record Accepts (past : List DeclareMove) (message : Message) (made : Reaction) : Type 0 where
  pub request_id : ℕ
  pub asked_is : made.after.asked ≡ Declared request_id
  pub wtxids : List (List ℕ)
  pub listed : IsOfList past message wtxids

-- a declaration
module _ (state : DeclareState) (identity : List ℕ) (path : List (List ℕ)) where
  listed_asks : (declaration : Declaration) (found : Option (List TxIds))
      → (by_listed state declaration found).answer ≡ AsksGrant identity path
      → (by_listed state declaration found).after.asked ≡ Declared declaration.request_id
  listed_asks declaration None answer = absurd cc
  listed_asks declaration (Some transactions) answer = refl

  coinbase_asks : (good : Bool) (declaration : Declaration)
      → (by_coinbase state good declaration).answer ≡ AsksGrant identity path
      → (by_coinbase state good declaration).after.asked ≡ Declared declaration.request_id
  coinbase_asks true declaration answer = listed_asks declaration (filled declaration.listed []) answer
  coinbase_asks false declaration answer = absurd cc

  token_asks : (request_id : ℕ) (given : Option Given) (good : Bool) (wtxids : List (List ℕ))
      → (by_token state request_id given good wtxids).answer ≡ AsksGrant identity path
      → (by_token state request_id given good wtxids).after.asked ≡ Declared request_id
  token_asks request_id None good wtxids answer = absurd cc
  token_asks request_id (Some given) good wtxids answer =
      coinbase_asks good
      (record {
        request_id = request_id;
        identity = given.identity;
        listed = listed_by state.known wtxids;
      }) answer

  filled_asks : (declaration : Declaration) (found : Option (List TxIds))
      → (by_filled state declaration found).answer ≡ AsksGrant identity path
      → (by_filled state declaration found).after.asked ≡ Declared declaration.request_id
  filled_asks declaration None answer = absurd cc
  filled_asks declaration (Some transactions) answer = refl

module _ (past : List DeclareMove) (message : Message) (identity : List ℕ) (path : List (List ℕ)) where
  declaring_accepts : (fields : List FieldValue) → message.kind ≡ kinds.DECLARE_MINING_JOB → message.fields ≡ fields
      → (on_declaring (state_after past) fields).answer ≡ AsksGrant identity path
      → Accepts past message (on_declaring (state_after past) fields)
  declaring_accepts
      (Number request_id ∷ Bytes token ∷ Number version ∷ Bytes prefix ∷ Bytes suffix
      ∷ Parts wtxids ∷ Bytes excess ∷ []) kind are answer =
      record {
        request_id = request_id;
        asked_is = token_asks (state_after past) identity path request_id (given_by (state_after past).given token)
            (is_coinbase (tx_of (declared_coinbase prefix suffix))) wtxids answer;
        wtxids = wtxids;
        listed = inl (record {
          request_id = request_id;
          token = token;
          version = version;
          prefix = prefix;
          suffix = suffix;
          excess = excess;
          message_is = ap₂ message_of kind are;
        });
      }
  declaring_accepts fields kind are answer = absurd cc

  -- transactions, for the declaration that waits
  waiting_accepts_by : (test : Bool) (brought : List (List ℕ)) (declaration : Declaration)
      → IsOfList past message (map (λ entry. entry.wtxid) declaration.listed)
      → (if test then by_filled (state_after past) declaration (filled declaration.listed brought)
      else ignored (state_after past)).answer ≡ AsksGrant identity path
      → Accepts past message (if test then by_filled (state_after past) declaration (filled declaration.listed brought)
      else ignored (state_after past))
  waiting_accepts_by true brought declaration listed answer =
      record {
        request_id = declaration.request_id;
        asked_is = filled_asks (state_after past) identity path declaration (filled declaration.listed brought) answer;
        wtxids = map (λ entry. entry.wtxid) declaration.listed;
        listed = listed;
      }
  waiting_accepts_by false brought declaration listed answer = absurd cc

  waiting_accepts : (request_id : ℕ) (brought : List (List ℕ)) (waits : Option Declaration)
      → message ≡ message_of kinds.PROVIDE_MISSING_TRANSACTIONS_SUCCESS (Number request_id ∷ Parts brought ∷ [])
      → waiting past ≡ waits
      → (by_waiting (state_after past) request_id brought waits).answer ≡ AsksGrant identity path
      → Accepts past message (by_waiting (state_after past) request_id brought waits)
  waiting_accepts request_id brought None message_is is answer = absurd cc
  waiting_accepts request_id brought (Some declaration) message_is is answer =
      waiting_accepts_by (declaration.request_id == request_id) brought declaration
      (inr (record {
        request_id = request_id;
        transactions = brought;
        message_is = message_is;
        declaration = declaration;
        waits = is;
        wtxids_are = refl;
      })) answer

  bringing_accepts : (fields : List FieldValue) → message.kind ≡ kinds.PROVIDE_MISSING_TRANSACTIONS_SUCCESS
      → message.fields ≡ fields
      → (on_bringing (state_after past) fields).answer ≡ AsksGrant identity path
      → Accepts past message (on_bringing (state_after past) fields)
  bringing_accepts (Number request_id ∷ Parts brought ∷ []) kind are answer =
      waiting_accepts request_id brought (waiting past) (ap₂ message_of kind are) refl answer
  bringing_accepts fields kind are answer = absurd cc

  -- any message
  accepts_by : (declares brings : Bool) → (message.kind == kinds.DECLARE_MINING_JOB) ≡ declares
      → (message.kind == kinds.PROVIDE_MISSING_TRANSACTIONS_SUCCESS) ≡ brings
      → (if declares then on_declaring (state_after past) message.fields
      else if brings then on_bringing (state_after past) message.fields
      else ignored (state_after past)).answer ≡ AsksGrant identity path
      → Accepts past message
      (if declares then on_declaring (state_after past) message.fields
      else if brings then on_bringing (state_after past) message.fields
      else ignored (state_after past))
  accepts_by true brings is other answer =
      declaring_accepts message.fields (eqb-true message.kind kinds.DECLARE_MINING_JOB is) refl answer
  accepts_by false true is other answer =
      bringing_accepts message.fields
      (eqb-true message.kind kinds.PROVIDE_MISSING_TRANSACTIONS_SUCCESS other) refl answer
  accepts_by false false is other answer = absurd cc

  pub accepts : declared_answer past message ≡ AsksGrant identity path
      → Accepts past message (reaction (state_after past) message)
  accepts answer =
      accepts_by (message.kind == kinds.DECLARE_MINING_JOB)
      (message.kind == kinds.PROVIDE_MISSING_TRANSACTIONS_SUCCESS) refl refl answer
