-- That a session goes on only once an answer is kept, and then put (this project's own). The row of each
-- session holds for a keeper that fails there and for a link that fails there, too: then no later turn is
-- taken, and nothing is put behind it. Who took the next turn before an answer is put would have taken one
-- turn more than this, where that put fails; who put before the event is kept would have put something
-- where keeping fails.
use Rattle.std.specs.Prelude.{◌≡◌, ℕ, Some, List, [], ◌∷◌, ◌++◌}
use Rattle.pool_base.specs.Calls.{Faulted}
use Rattle.pool_io.specs.declared.sink.SinkFailed.{SinkFailed}
use Rattle.pool_history.specs.declared.refusals.BookError.{BookError}
use Rattle.pool_history.specs.Calls.{PoolCall}
use Rattle.session_steps.specs.declared.manner.Manner.{Manner}
use Rattle.session_steps.specs.States.{State, Put, new_state, nothing_put}
use Rattle.session_steps.specs.Steps as frames
use Rattle.session_steps.specs.Steps.{SessionStep, bytes_in_steps, put_in, turns_in}
use Rattle.v1_translate.specs.State.{Terms}
use Rattle.v1_sessions.specs.States.{LineState, new_line_state}
use Rattle.v1_sessions.specs.Steps as lines
use Rattle.v1_sessions.specs.Steps.{LineStep, bytes_of, put_of, turns_of}

-- a session of frames takes no turn and puts nothing behind a put that failed, nor behind a call that is a
-- fault, of which nothing is put either
pub record FramesInOrder (steps : List SessionStep) : Type 0 where
  pub put : (front back : List SessionStep) (step : SessionStep) (cause : SinkFailed)
      → steps ≡ front ++ step ∷ back → (put_in step).fault ≡ Some cause
      → (turns_in back ≡ []) × (bytes_in_steps back ≡ [])
  pub kept : (front back : List SessionStep) (call : PoolCall) (put : Put) (cause : BookError)
      → steps ≡ front ++ frames.Called call put ∷ back → call.outcome ≡ Faulted cause
      → (put ≡ nothing_put) × (turns_in back ≡ []) × (bytes_in_steps back ≡ [])

-- so does one of lines
pub record LinesInOrder (steps : List LineStep) : Type 0 where
  pub put : (front back : List LineStep) (step : LineStep) (cause : SinkFailed)
      → steps ≡ front ++ step ∷ back → (put_of step).fault ≡ Some cause
      → (turns_of back ≡ []) × (bytes_of back ≡ [])
  pub kept : (front back : List LineStep) (call : PoolCall) (put : Put) (cause : BookError)
      → steps ≡ front ++ lines.Called call put ∷ back → call.outcome ≡ Faulted cause
      → (put ≡ nothing_put) × (turns_of back ≡ []) × (bytes_of back ≡ [])

-- whatever session it is, as the rows of all commands that serve have it
abbrev pub FramesStandInOrder : Type 0
FramesStandInOrder =
    (worker : ℕ) (manner : Manner) (steps : List SessionStep) (last : State)
    → frames.Follows worker (new_state manner) steps last → FramesInOrder steps

abbrev pub LinesStandInOrder : Type 0
LinesStandInOrder =
    (worker : ℕ) (terms : Terms) (manner : Manner) (steps : List LineStep) (last : LineState)
    → lines.Follows worker terms (new_line_state manner) steps last → LinesInOrder steps
