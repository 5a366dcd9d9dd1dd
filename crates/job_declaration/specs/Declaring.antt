-- What a session makes of a declaration, of the transactions that one lacks, and of a reply of the
-- pool (Stratum V2, "Job Declaration Protocol"; the layouts, the codes and the order in which
-- refusals come are this project's own).
use Rattle.std.specs.Prelude.{ℕ, ◌==◌, ◌&&◌, Bool, false, if◌then◌else◌, Option, None, Some, Result, Ok, Err, List, [], ◌∷◌, ◌++◌, find, length, map, nat_le, replicate}
use Rattle.std.specs.Str.{bytes_eq}
use Rattle.sv2_types.specs.Fields.{FieldValue, Number, Bytes, Numbers, Parts}
use Rattle.sv2_messages.specs.declared.kinds.TheConstants as kinds
use Rattle.sv2_messages.specs.Messages.{Message, message_frame}
use Rattle.sv2_messages.specs.Tables.{declare_table}
use Rattle.coinbase.specs.declared.error.TxError.{TxError}
use Rattle.coinbase.specs.declared.tx.Tx.{Tx}
use Rattle.coinbase.specs.declared.tx.TxIn.{TxIn}
use Rattle.coinbase.specs.Reading.{tx_of}
use Rattle.job_declaration.specs.Tree.{path}
use Rattle.pool_history.specs.declared.replies.Reply.{Reply}
use Rattle.pool_history.specs.declared.replies.Reply.TheVariants as reply
use Rattle.pool_history.specs.Refusing.{token_of}
use Rattle.job_declaration.specs.declared.asked.Asked.{Asked}
use Rattle.job_declaration.specs.declared.asked.Asked.TheVariants.{Nothing, Token, Declared}
use Rattle.job_declaration.specs.declared.asked.Given.{Given}
use Rattle.job_declaration.specs.declared.ids.TxIds.{TxIds}
use Rattle.job_declaration.specs.declared.refusals.DeclareError.{DeclareError}
use Rattle.job_declaration.specs.declared.refusals.DeclareError.TheVariants as refusal
use Rattle.job_declaration.specs.Codes.{declare_code}
use Rattle.job_declaration.specs.Filling.{filled, known_of, listed_by, missing_places}
use Rattle.job_declaration.specs.State.{DeclareState, Declaration}

abbrev pub declare_frame : ℕ → List FieldValue → List ℕ
declare_frame kind fields = message_frame declare_table (record { kind = kind; fields = fields })

-- the frame that asks for transactions by their places
abbrev pub missing_frame : ℕ → List ℕ → List ℕ
missing_frame request_id places =
    declare_frame kinds.PROVIDE_MISSING_TRANSACTIONS (Number request_id ∷ Numbers places ∷ [])

-- the frame that gives the token of an accepted declaration
abbrev pub success_frame : ℕ → ℕ → List ℕ
success_frame request_id number =
    declare_frame kinds.DECLARE_MINING_JOB_SUCCESS (Number request_id ∷ Bytes (token_of number) ∷ [])

-- the frame that refuses one, without details
abbrev pub error_frame : ℕ → DeclareError → List ℕ
error_frame request_id error =
    declare_frame kinds.DECLARE_MINING_JOB_ERROR
    (Number request_id ∷ Bytes (declare_code error) ∷ Bytes [] ∷ [])

-- what a message is answered with: frames, or what the pool grants for a path to this user
pub data Answer : Type 0 where
  Says : (frames : List (List ℕ)) → Answer
  AsksGrant : (identity : List ℕ) → (path : List (List ℕ)) → Answer

pub record Reaction : Type 0 where
  pub after : DeclareState
  pub answer : Answer

-- nothing is said, and nothing changes
abbrev pub ignored : DeclareState → Reaction
ignored state = record { after = state; answer = Says [] }

-- a declaration is refused, and the one that waits, if any, goes on waiting
abbrev pub refused : DeclareState → ℕ → DeclareError → Reaction
refused state request_id error =
    record { after = state; answer = Says (error_frame request_id error ∷ []) }

-- a declaration waits in place of any other
abbrev pub waits : DeclareState → Declaration → Reaction
waits state declaration =
    record {
      after = record state { waiting = Some declaration };
      answer =
          Says (missing_frame declaration.request_id (missing_places declaration.listed) ∷ []);
    }

-- a declaration of these transactions is accepted, and none waits; a Grant of its path is asked for
abbrev pub accepted : DeclareState → ℕ → List ℕ → List TxIds → Reaction
accepted state request_id identity transactions =
    record {
      after = record state {
        known = known_of transactions;
        waiting = None;
        asked = Declared request_id;
      };
      answer = AsksGrant identity (path (map (λ ids. ids.txid) transactions));
    }

-- an input that spends no output (Bitcoin's "Coinbase Input"), with room for the extranonce in its
-- script: 14 to 100 bytes of it
abbrev pub is_coinbase_input : TxIn → Bool
is_coinbase_input input =
    bytes_eq input.previous (replicate 32 0) && (input.index == 0xffffffff)
    && nat_le 14 (length input.script) && nat_le (length input.script) 100

abbrev pub are_coinbase_inputs : List TxIn → Bool
are_coinbase_inputs (input ∷ []) = is_coinbase_input input
are_coinbase_inputs inputs = false

abbrev pub is_coinbase : Result Tx TxError → Bool
is_coinbase (Ok tx) = are_coinbase_inputs tx.inputs
is_coinbase (Err error) = false

-- the coinbase of a declaration, with an extranonce of zeros
abbrev pub declared_coinbase : List ℕ → List ℕ → List ℕ
declared_coinbase prefix suffix = prefix ++ replicate 12 0 ++ suffix

-- the token's Grant, where the session was given it
abbrev pub given_by : List Given → List ℕ → Option Given
given_by given token = find (λ grant. bytes_eq token (token_of grant.number)) given

-- a declaration whose token and coinbase are good: where all transactions are known it is accepted
abbrev pub by_listed : DeclareState → Declaration → Option (List TxIds) → Reaction
by_listed state declaration None = waits state declaration
by_listed state declaration (Some transactions) =
    accepted state declaration.request_id declaration.identity transactions

abbrev pub by_coinbase : DeclareState → Bool → Declaration → Reaction
by_coinbase state good declaration =
    if good then by_listed state declaration (filled declaration.listed [])
    else refused state declaration.request_id refusal.Coinbase

-- by its token
abbrev pub by_token : DeclareState → ℕ → Option Given → Bool → List (List ℕ) → Reaction
by_token state request_id None good wtxids = refused state request_id refusal.Token
by_token state request_id (Some given) good wtxids =
    by_coinbase state good
    (record {
      request_id = request_id;
      identity = given.identity;
      listed = listed_by state.known wtxids;
    })

-- by the fields of a DeclareMiningJob
abbrev pub on_declaring : DeclareState → List FieldValue → Reaction
on_declaring state
    (Number request_id ∷ Bytes token ∷ Number version ∷ Bytes prefix ∷ Bytes suffix
    ∷ Parts wtxids ∷ Bytes excess ∷ []) =
    by_token state request_id (given_by state.given token)
    (is_coinbase (tx_of (declared_coinbase prefix suffix))) wtxids
on_declaring state fields = ignored state

-- the transactions that the waiting declaration lacks: it is accepted, or dropped
abbrev pub by_filled : DeclareState → Declaration → Option (List TxIds) → Reaction
by_filled state declaration None =
    refused (record state { waiting = None }) declaration.request_id refusal.Transactions
by_filled state declaration (Some transactions) =
    accepted state declaration.request_id declaration.identity transactions

-- where one waits under this request id
abbrev pub by_waiting : DeclareState → ℕ → List (List ℕ) → Option Declaration → Reaction
by_waiting state request_id brought None = ignored state
by_waiting state request_id brought (Some declaration) =
    if declaration.request_id == request_id
    then by_filled state declaration (filled declaration.listed brought)
    else ignored state

-- by the fields of a ProvideMissingTransactions.Success
abbrev pub on_bringing : DeclareState → List FieldValue → Reaction
on_bringing state (Number request_id ∷ Parts brought ∷ []) =
    by_waiting state request_id brought state.waiting
on_bringing state fields = ignored state

-- what is made of a message
abbrev pub reaction : DeclareState → Message → Reaction
reaction state message =
    if message.kind == kinds.DECLARE_MINING_JOB then on_declaring state message.fields
    else if message.kind == kinds.PROVIDE_MISSING_TRANSACTIONS_SUCCESS
    then on_bringing state message.fields
    else ignored state

-- the session asks for a token for this user
abbrev pub asking_token : DeclareState → List ℕ → DeclareState
asking_token state identity = record state { asked = Token identity }

-- a token that it asked for was granted; that of a declaration is none of these
abbrev pub granted : DeclareState → Asked → ℕ → DeclareState
granted state (Token identity) number =
    record state {
      given = state.given ++ (record { number = number; identity = identity }) ∷ [];
      asked = Nothing;
    }
granted state (Declared request_id) number = state
granted state Nothing number = state

-- what is known after a reply
abbrev pub heard : DeclareState → Reply → DeclareState
heard state (reply.Granted number script) = granted state state.asked number
heard state _ = state

-- the frames of a reply that answers a declaration; any refusal is that no more tokens are granted,
-- since whose token it is was known when that was granted, and no path is too long
abbrev pub reply_frames : Asked → Reply → List (List ℕ)
reply_frames (Declared request_id) (reply.Granted number script) =
    success_frame request_id number ∷ []
reply_frames (Declared request_id) (reply.GrantRefused error) =
    error_frame request_id refusal.TooManyGrants ∷ []
reply_frames asked answer = []
