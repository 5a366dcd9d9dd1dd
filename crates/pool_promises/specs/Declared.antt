-- Where the paths come from that a session's history fixes, and how its declarations were answered
-- (this project's own).
use Rattle.std.specs.Prelude.{◌≡◌, ℕ, Bool, true, false, Some, List, [], ◌∷◌, ◌++◌}
use Rattle.pool_base.specs.Calls.{Outcome, Replied, Faulted}
use Rattle.pool_history.specs.declared.asking.Request.TheVariants as request
use Rattle.pool_history.specs.declared.events.Event.{Event}
use Rattle.pool_history.specs.declared.events.Event.TheVariants as event
use Rattle.pool_history.specs.declared.refusals.BookError.{BookError}
use Rattle.pool_history.specs.declared.replies.Reply.{Reply}
use Rattle.pool_history.specs.declared.replies.Reply.TheVariants as reply
use Rattle.pool_history.specs.Accounts.{account_of}
use Rattle.pool_history.specs.Calls.{PoolCall}
use Rattle.session_steps.specs.declared.meeting.Step.TheVariants as step
use Rattle.session_steps.specs.States.{Put, nothing_put}
use Rattle.session_steps.specs.Steps.{Called, Framed, Met, SessionStep}
use Rattle.pool_promises.specs.Answers.{IsAnsweredByRules}
use Rattle.pool_promises.specs.Paths.{IsPathOfListed}

-- A call among these steps asked for a Grant of this path, for a user of this account, and added the
-- event; and the path is that of the transactions that were listed for it, in their order.
pub record IsDeclared (steps : List SessionStep) (session : ℕ) (account : List ℕ)
    (path : List (List ℕ)) : Type 0 where
  pub before : List SessionStep
  pub call : PoolCall
  pub put : Put
  pub later : List SessionStep
  pub parts : steps ≡ before ++ Called call put ∷ later
  pub added : call.added ≡ event.Grant session account true path ∷ []
  pub identity : List ℕ
  pub asked_is : call.asked ≡ request.Grant identity (Some path)
  pub account_is : account ≡ account_of identity
  pub listed : IsPathOfListed before identity path

-- an event that fixes a path fixes one that was declared
abbrev pub FixesDeclared : List SessionStep → Event → Type 0
FixesDeclared steps (event.Grant session account true path) =
    IsDeclared steps session account path
FixesDeclared steps _ = Unit {0}

-- a Grant was made or refused
abbrev pub is_of_grant : Reply → Bool
is_of_grant (reply.Granted number script) = true
is_of_grant (reply.GrantRefused error) = true
is_of_grant _ = false

-- the Grant of a declaration was made or refused, and what was put is what the rules answer with, or
-- a front of that where the put failed; or it wasn't kept, and nothing was put
abbrev pub AnswersGrant : List SessionStep → Outcome Reply BookError → Put → Type 0
AnswersGrant before (Replied answer) put =
    (is_of_grant answer ≡ true) × IsAnsweredByRules before answer put
AnswersGrant before (Faulted cause) put = put ≡ nothing_put

-- the first of the later steps is the call for this Grant, with what was put of its answer
pub record AnswersNext (before : List SessionStep) (identity : List ℕ) (path : List (List ℕ))
    (later : List SessionStep) : Type 0 where
  pub call : PoolCall
  pub put : Put
  pub others : List SessionStep
  pub next : later ≡ Called call put ∷ others
  pub asked_is : call.asked ≡ request.Grant identity (Some path)
  pub answered : AnswersGrant before call.outcome put

-- each declaration for which a Grant is asked is answered
abbrev pub AnswersDeclarations : List SessionStep → Type 0
AnswersDeclarations steps =
    (before later : List SessionStep) (met : Met) (identity : List ℕ) (path : List (List ℕ))
    → steps ≡ before ++ Framed met ∷ later
    → met.step ≡ step.Ask (request.Grant identity (Some path))
    → AnswersNext (before ++ Framed met ∷ []) identity path later
