-- Each token that was given was granted when the session asked for one.
use Rattle.std.proofs.Common.{◌≡◌, ℕ, ◌==◌, Bool, true, false, None, Some, Option, List, [], ◌∷◌, ◌++◌, refl, ap, sym, subst}
use Rattle.std.specs.Prelude.{if◌then◌else◌}
use Rattle.std.specs.List.{AllByRecursion}
use Rattle.sv2_types.specs.Fields.{FieldValue, Number, Bytes, Parts}
use Rattle.sv2_messages.specs.declared.kinds.TheConstants as kinds
use Rattle.coinbase.specs.Reading.{tx_of}
use Rattle.pool_history.specs.declared.replies.Reply.{Reply}
use Rattle.pool_history.specs.declared.replies.Reply.TheVariants as reply
use Rattle.job_declaration.specs.declared.asked.Asked.{Asked}
use Rattle.job_declaration.specs.declared.asked.Asked.TheVariants.{Nothing, Token, Declared}
use Rattle.job_declaration.specs.declared.asked.Given.{Given}
use Rattle.job_declaration.specs.declared.ids.TxIds.{TxIds}
use Rattle.job_declaration.specs.Declaring.{by_coinbase, by_filled, by_listed, by_token, by_waiting, declared_coinbase, given_by, granted, heard, ignored, is_coinbase, on_bringing, on_declaring, reaction}
use Rattle.job_declaration.specs.Filling.{filled, listed_by}
use Rattle.job_declaration.specs.RuleLaws.{GivenWereGranted, WasGranted}
use Rattle.job_declaration.specs.Moves.{DeclareMove, AskedToken, Met, Heard, given, state_after}
use Rattle.job_declaration.specs.State.{DeclareState, Declaration}

-- no message of a declaration gives one
listed_given : (state : DeclareState) (declaration : Declaration) (found : Option (List TxIds))
    → (by_listed state declaration found).after.given ≡ state.given
listed_given state declaration None = refl
listed_given state declaration (Some transactions) = refl

coinbase_given : (state : DeclareState) (good : Bool) (declaration : Declaration)
    → (by_coinbase state good declaration).after.given ≡ state.given
coinbase_given state true declaration =
    listed_given state declaration (filled declaration.listed [])
coinbase_given state false declaration = refl

token_given : (state : DeclareState) (request_id : ℕ) (grant : Option Given) (good : Bool)
    (wtxids : List (List ℕ)) → (by_token state request_id grant good wtxids).after.given ≡ state.given
token_given state request_id None good wtxids = refl
token_given state request_id (Some grant) good wtxids =
    coinbase_given state good
    (record {
      request_id = request_id;
      identity = grant.identity;
      listed = listed_by state.known wtxids;
    })

declaring_given : (state : DeclareState) (fields : List FieldValue)
    → (on_declaring state fields).after.given ≡ state.given
declaring_given state
    (Number request_id ∷ Bytes token ∷ Number version ∷ Bytes prefix ∷ Bytes suffix
    ∷ Parts wtxids ∷ Bytes excess ∷ []) =
    token_given state request_id (given_by state.given token)
    (is_coinbase (tx_of (declared_coinbase prefix suffix))) wtxids
declaring_given state fields = refl

filled_given : (state : DeclareState) (declaration : Declaration) (found : Option (List TxIds))
    → (by_filled state declaration found).after.given ≡ state.given
filled_given state declaration None = refl
filled_given state declaration (Some transactions) = refl

waiting_given_by_test : (test : Bool) (state : DeclareState) (declaration : Declaration)
    (brought : List (List ℕ))
    → (if test then by_filled state declaration (filled declaration.listed brought)
    else ignored state).after.given ≡ state.given
waiting_given_by_test true state declaration brought =
    filled_given state declaration (filled declaration.listed brought)
waiting_given_by_test false state declaration brought = refl

waiting_given : (state : DeclareState) (request_id : ℕ) (brought : List (List ℕ))
    (waiting : Option Declaration)
    → (by_waiting state request_id brought waiting).after.given ≡ state.given
waiting_given state request_id brought None = refl
waiting_given state request_id brought (Some declaration) =
    waiting_given_by_test (declaration.request_id == request_id) state declaration brought

bringing_given : (state : DeclareState) (fields : List FieldValue)
    → (on_bringing state fields).after.given ≡ state.given
bringing_given state (Number request_id ∷ Parts brought ∷ []) =
    waiting_given state request_id brought state.waiting
bringing_given state fields = refl

reaction_given : (declares brings : Bool) (state : DeclareState) (fields : List FieldValue)
    → (if declares then on_declaring state fields
    else if brings then on_bringing state fields else ignored state).after.given ≡ state.given
reaction_given true brings state fields = declaring_given state fields
reaction_given false true state fields = bringing_given state fields
reaction_given false false state fields = refl

-- what was granted stays so behind another move
granted_before : (past : List DeclareMove) (move : DeclareMove) (grant : Given)
    → WasGranted past grant → WasGranted (move ∷ past) grant
granted_before past move grant was = record {
  later = move ∷ was.later;
  earlier = was.earlier;
  script = was.script;
  granted = ap (λ moves. move ∷ moves) was.granted;
  asked = was.asked;
}

all_before : (past : List DeclareMove) (move : DeclareMove) (grants : List Given)
    → AllByRecursion (WasGranted past) grants → AllByRecursion (WasGranted (move ∷ past)) grants
all_before past move [] all = tt
all_before past move (grant ∷ later) all =
    (granted_before past move grant all.0, all_before past move later all.1)

all_push : (past : List DeclareMove) (grants : List Given) (grant : Given)
    → AllByRecursion (WasGranted past) grants → WasGranted past grant
    → AllByRecursion (WasGranted past) (grants ++ grant ∷ [])
all_push past [] grant all was = (was, tt)
all_push past (first ∷ later) grant all was = (all.0, all_push past later grant all.1 was)

all_at : (past : List DeclareMove) (grants others : List Given) → grants ≡ others
    → AllByRecursion (WasGranted past) grants → AllByRecursion (WasGranted past) others
all_at past grants others same all =
    let P : List Given → Type 0 = λ all. AllByRecursion (WasGranted past) all in subst P same all

-- by what was asked
heard_granted : (past : List DeclareMove) (asked : Asked) (number : ℕ) (script : List ℕ)
    → (state_after past).asked ≡ asked
    → AllByRecursion (WasGranted (Heard (reply.Granted number script) ∷ past)) (given past)
    → AllByRecursion (WasGranted (Heard (reply.Granted number script) ∷ past))
    (granted (state_after past) asked number).given
heard_granted past (Token identity) number script is all =
    all_push (Heard (reply.Granted number script) ∷ past) (given past)
    (record { number = number; identity = identity }) all
    (record { later = []; earlier = past; script = script; granted = refl; asked = is })
heard_granted past (Declared request_id) number script is all = all
heard_granted past Nothing number script is all = all

heard_given : (past : List DeclareMove) (answer : Reply)
    → AllByRecursion (WasGranted past) (given past)
    → AllByRecursion (WasGranted (Heard answer ∷ past)) (heard (state_after past) answer).given
heard_given past (reply.Granted number script) all =
    heard_granted past (state_after past).asked number script refl
    (all_before past (Heard (reply.Granted number script)) (given past) all)
heard_given past answer all = all_before past (Heard answer) (given past) all

pub given_were_granted : GivenWereGranted
given_were_granted [] = tt
given_were_granted (AskedToken identity ∷ past) =
    all_before past (AskedToken identity) (given past) (given_were_granted past)
given_were_granted (Met message ∷ past) =
    all_at (Met message ∷ past) (given past)
    (reaction (state_after past) message).after.given
    (sym (reaction_given (message.kind == kinds.DECLARE_MINING_JOB)
    (message.kind == kinds.PROVIDE_MISSING_TRANSACTIONS_SUCCESS) (state_after past) message.fields))
    (all_before past (Met message) (given past) (given_were_granted past))
given_were_granted (Heard answer ∷ past) = heard_given past answer (given_were_granted past)
