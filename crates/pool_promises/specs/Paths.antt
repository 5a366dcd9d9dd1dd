-- Where the paths come from that Grants fix (this project's own).
use Rattle.std.specs.Prelude.{◌≡◌, ◌⊎◌, ℕ, true, Some, List, [], ◌∷◌, ◌++◌, map}
use Rattle.sv2_types.specs.Fields.{Number, Bytes, Parts}
use Rattle.sv2_messages.specs.declared.kinds.TheConstants as kinds
use Rattle.sv2_messages.specs.Messages.{Message}
use Rattle.pool_history.specs.declared.asking.Request.{Request}
use Rattle.pool_history.specs.declared.asking.Request.TheVariants as request
use Rattle.pool_history.specs.declared.events.Event.{Event}
use Rattle.pool_history.specs.declared.events.Event.TheVariants as event
use Rattle.pool_history.specs.Accounts.{account_of}
use Rattle.job_declaration.specs.Declaring.{AsksGrant}
use Rattle.job_declaration.specs.RuleLaws.{IsPathOf}
use Rattle.job_declaration.specs.Moves.{DeclareMove, declared_answer, waiting}
use Rattle.job_declaration.specs.State.{Declaration}
use Rattle.session_steps.specs.Asking.{message_of}
use Rattle.session_steps.specs.Meeting.{Brings}
use Rattle.session_steps.specs.Steps.{Met, SessionStep, Framed}
use Rattle.pool_promises.specs.Moves.{HaveMoves}

-- a declaration lists these witness ids
pub record DeclaresList (message : Message) (wtxids : List (List ℕ)) : Type 0 where
  pub request_id : ℕ
  pub token : List ℕ
  pub version : ℕ
  pub prefix : List ℕ
  pub suffix : List ℕ
  pub excess : List ℕ
  pub message_is : message ≡ message_of kinds.DECLARE_MINING_JOB
      (Number request_id ∷ Bytes token ∷ Number version ∷ Bytes prefix ∷ Bytes suffix
      ∷ Parts wtxids ∷ Bytes excess ∷ [])

-- transactions are brought while a declaration waits that lists these
pub record BringsForList (past : List DeclareMove) (message : Message) (wtxids : List (List ℕ)) :
    Type 0 where
  pub request_id : ℕ
  pub transactions : List (List ℕ)
  pub message_is : message ≡ message_of kinds.PROVIDE_MISSING_TRANSACTIONS_SUCCESS
      (Number request_id ∷ Parts transactions ∷ [])
  pub declaration : Declaration
  pub waits : waiting past ≡ Some declaration
  pub wtxids_are : wtxids ≡ map (λ entry. entry.wtxid) declaration.listed

-- the witness ids of what a message declares, or brings transactions for
abbrev pub IsOfList : List DeclareMove → Message → List (List ℕ) → Type 0
IsOfList past message wtxids = DeclaresList message wtxids ⊎ BringsForList past message wtxids

-- the last of these steps met a frame whose message has this Grant asked for, by the rules after
-- the moves of the others
pub record IsAskedByRules (before : List SessionStep) (identity : List ℕ) (path : List (List ℕ)) :
    Type 0 where
  pub earlier : List SessionStep
  pub met : Met
  pub parts : before ≡ earlier ++ Framed met ∷ []
  pub past : List DeclareMove
  pub moves : HaveMoves [] earlier past
  pub message : Message
  pub brought : Brings met.frame message
  pub answer : declared_answer past message ≡ AsksGrant identity path

-- and the path is that of the ids of the transactions with the witness ids that are listed, in
-- their order
pub record IsPathOfListed (before : List SessionStep) (identity : List ℕ) (path : List (List ℕ)) :
    Type 0 where
  pub asked : IsAskedByRules before identity path
  pub wtxids : List (List ℕ)
  pub listed : IsOfList asked.past asked.message wtxids
  pub path_is : IsPathOf wtxids path

-- a Grant of this path is asked for, of a user of this account
pub record AsksPath (asked : Request) (account : List ℕ) (path : List (List ℕ)) : Type 0 where
  pub identity : List ℕ
  pub asked_is : asked ≡ request.Grant identity (Some path)
  pub account_is : account ≡ account_of identity

-- an event that fixes a path had a Grant of it asked for
abbrev pub FixesAskedPath : Request → Event → Type 0
FixesAskedPath asked (event.Grant session account true path) = AsksPath asked account path
FixesAskedPath asked _ = Unit {0}
