-- What a session did between two of its states (this project's own).
use Rattle.std.specs.Prelude.{◌≡◌, ◌||◌, ℕ, Bool, true, false, Option, IfSome, List, [], ◌∷◌}
use Rattle.pool_io.specs.declared.turn.Turn.{Turn}
use Rattle.pool_io.specs.Outside.{AddsBytes}
use Rattle.pool_io.specs.Steps.{BringsSteps, ReadStep, steps_of}
use Rattle.pool_network.specs.Seen.{LinkSeen}
use Rattle.pool_history.specs.Calls.{PoolCall}
use Rattle.session_steps.specs.States.{State}
use Rattle.session_steps.specs.Steps.{SessionStep, Ended, Follows, bytes_in_steps, calls_in, reads_after, turns_in, writes_after}
use Rattle.v2_sessions.specs.Answerers.{Acts}

-- the end of the input is among the steps
abbrev pub is_end : SessionStep → Bool
is_end Ended = true
is_end _ = false

abbrev pub has_ended : List SessionStep → Bool
has_ended [] = false
has_ended (step ∷ steps) = is_end step || has_ended steps

-- where the input ended, these are all the turns that were told
abbrev pub TakesAll : Bool → Option (List Turn) → List ReadStep → Type 0
TakesAll true told steps = IfSome told (λ turns. steps_of turns ≡ steps)
TakesAll false told steps = Unit {0}

-- Steps that follow from the one state to the other. The turns that were taken of the link are those
-- of the steps, so are the bytes that were put and the calls; a count of faults rose by just the
-- steps that failed.
pub record Runs {A : Type 0} (worker : A → ℕ) (does : A → PoolCall → A → Type 0)
    (from to : State) (link link' : LinkSeen) (acting acting' : A) : Type 0 where
  pub steps : List SessionStep
  pub follows : Follows (worker acting) from steps to
  pub took : BringsSteps link.source.left link'.source.left (turns_in steps)
  pub ended : TakesAll (has_ended steps) link.source.left (turns_in steps)
  pub put : AddsBytes link.sink.held link'.sink.held (bytes_in_steps steps)
  pub reads : link'.source.faults ≡ reads_after link.source.faults steps
  pub writes : link'.sink.faults ≡ writes_after link.sink.faults steps
  pub acts : Acts does acting (calls_in steps) acting'
  pub same : worker acting' ≡ worker acting
