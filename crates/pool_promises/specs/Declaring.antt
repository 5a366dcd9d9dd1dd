-- What holds of each session that takes declarations, over or not (this project's own).
use Rattle.std.specs.Prelude.{◌≡◌, ℕ, true, Some, List, ◌∷◌, ◌++◌}
use Rattle.std.specs.List.{AllByRecursion}
use Rattle.pool_base.specs.Calls.{Replied}
use Rattle.pool_history.specs.declared.asking.Request.{Request}
use Rattle.pool_history.specs.declared.asking.Request.TheVariants as request
use Rattle.pool_history.specs.declared.events.Event.{Event}
use Rattle.pool_history.specs.declared.replies.Reply.{Reply}
use Rattle.pool_history.specs.Answering.{Answer}
use Rattle.pool_history.specs.Calls.{PoolCall}
use Rattle.session_steps.specs.declared.manner.Manner.{Manner}
use Rattle.session_steps.specs.States.{Put, State, new_state}
use Rattle.session_steps.specs.Steps.{Follows, Met, SessionStep, Framed, Called}
use Rattle.pool_promises.specs.Answers.{IsAnsweredByRules, MeetsByRules, answers_grant}
use Rattle.pool_promises.specs.Paths.{FixesAskedPath, IsPathOfListed}

-- each frame of a declaration is answered by the rules, over all earlier frames and replies
abbrev pub DeclarationsAreByRules : Type 0
DeclarationsAreByRules =
    (worker : ℕ) (manner : Manner) (before later : List SessionStep) (met : Met) (last : State)
    → manner.declares ≡ true
    → Follows worker (new_state manner) (before ++ Framed met ∷ later) last
    → MeetsByRules worker manner before met

-- so is each reply to a Grant that was asked for a declaration
abbrev pub DeclaredGrantsAreAnswered : Type 0
DeclaredGrantsAreAnswered =
    (worker : ℕ) (manner : Manner) (before later : List SessionStep) (call : PoolCall) (put : Put)
    (last : State) (identity : List ℕ) (path : List (List ℕ)) (answer : Reply)
    → manner.declares ≡ true
    → Follows worker (new_state manner) (before ++ Called call put ∷ later) last
    → call.asked ≡ request.Grant identity (Some path)
    → call.outcome ≡ Replied answer → answers_grant answer ≡ true
    → IsAnsweredByRules before answer put

-- each path that a call asks a Grant for is of the transactions that were listed
abbrev pub FixedPathsAreOfListed : Type 0
FixedPathsAreOfListed =
    (worker : ℕ) (manner : Manner) (before later : List SessionStep) (call : PoolCall) (put : Put)
    (last : State) (identity : List ℕ) (path : List (List ℕ))
    → manner.declares ≡ true
    → Follows worker (new_state manner) (before ++ Called call put ∷ later) last
    → call.asked ≡ request.Grant identity (Some path)
    → IsPathOfListed before identity path

-- an event that fixes a path comes only of a request for a Grant of this path
abbrev pub FixedPathsAreAskedFor : Type 0
FixedPathsAreAskedFor =
    (history : List Event) (worker : ℕ) (asked : Request) (events : List Event) (answer : Reply)
    → Answer history worker asked events answer → AllByRecursion (FixesAskedPath asked) events
