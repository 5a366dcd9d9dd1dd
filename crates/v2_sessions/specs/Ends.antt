-- What a session's ends come from, beside its input (this project's own).
use Rattle.std.specs.Prelude.{◌≡◌, ℕ, Bool, true, false, Option, None, Some, List, [], ◌∷◌}
use Rattle.std.specs.List.{AllByRecursion, list_any}
use Rattle.pool_base.specs.Calls.{Outcome, Replied, Faulted}
use Rattle.pool_base.specs.Counts.{Rose}
use Rattle.pool_io.specs.declared.turn.Turn.{Turn}
use Rattle.pool_io.specs.Steps.{Bounds, IsAtLimit, IsFree, steps_of}
use Rattle.pool_io.specs.declared.sink.SinkFailed.{SinkFailed}
use Rattle.pool_io.specs.declared.sink.SinkFailed.TheVariants as sink
use Rattle.pool_history.specs.declared.asking.Request.{Request}
use Rattle.pool_history.specs.declared.asking.Request.TheVariants as request
use Rattle.pool_history.specs.declared.refusals.BookError.{BookError}
use Rattle.pool_history.specs.declared.replies.Reply.{Reply}
use Rattle.pool_history.specs.declared.replies.Reply.TheVariants as reply
use Rattle.pool_history.specs.Calls.{PoolCall, has_keeper_failed}
use Rattle.session_steps.specs.declared.manner.Manner.{Manner}
use Rattle.session_steps.specs.declared.ends.SessionEnd.{SessionEnd}
use Rattle.session_steps.specs.declared.ends.SessionEnd.TheVariants as end
use Rattle.session_steps.specs.States.{State, Over, most_bytes, new_state}
use Rattle.session_steps.specs.Steps.{SessionStep, Missed, Follows, calls_in, put_in, turns_in}

-- steps that begin a session and come to this end
pub record ComesTo (worker : ℕ) (manner : Manner)
    (steps : List SessionStep) (reason : SessionEnd) : Type 0 where
  pub last : State
  pub follows : Follows worker (new_state manner) steps last
  pub over : last.stage ≡ Over reason

-- the most Idle turns in a row and the most bytes of a session
abbrev pub session_bounds : ℕ → Bounds
session_bounds idle_turns = record { idle_turns = idle_turns; bytes = most_bytes }

-- the pool takes no more sessions
abbrev pub is_full : Reply → Bool
is_full (reply.PoolFull most) = true
is_full _ = false

-- a call was answered so
abbrev pub is_turned_away : Outcome Reply BookError → Bool
is_turned_away (Replied answer) = is_full answer
is_turned_away (Faulted cause) = false

-- the keeper failed at one of the calls
abbrev pub has_unkept : List PoolCall → Bool
has_unkept calls = list_any (λ call. has_keeper_failed call.outcome) calls

-- one of the calls was answered that the pool is full
abbrev pub has_turned_away : List PoolCall → Bool
has_turned_away calls = list_any (λ call. is_turned_away call.outcome) calls

-- a take failed
abbrev pub is_missed : SessionStep → Bool
is_missed Missed = true
is_missed _ = false

-- a put failed; lack of memory is no failure
abbrev pub is_unwritten : Option SinkFailed → Bool
is_unwritten None = false
is_unwritten (Some sink.Failed) = true
is_unwritten (Some sink.Memory) = false

abbrev pub has_missed : List SessionStep → Bool
has_missed steps = list_any is_missed steps

abbrev pub has_unwritten : List SessionStep → Bool
has_unwritten steps = list_any (λ step. is_unwritten (put_in step).fault) steps

-- it asks to enter
abbrev pub is_enter : Request → Bool
is_enter (request.Enter role flags) = true
is_enter _ = false

-- the first of the calls asks to enter, and no other does
abbrev pub EntersFirst : List PoolCall → Type 0
EntersFirst [] = Unit {0}
EntersFirst (call ∷ calls) =
    (is_enter call.asked ≡ true) × AllByRecursion (λ later. is_enter later.asked ≡ false) calls

-- no limit was reached, no call, take or put failed, and the pool wasn't full; memory may have been
-- wanted
pub record IsUnhindered (idle_turns : ℕ) (steps : List SessionStep) : Type 0 where
  pub within : IsAtLimit (session_bounds idle_turns) (turns_in steps) → ⊥
  pub kept : has_unkept (calls_in steps) ≡ false
  pub let_in : has_turned_away (calls_in steps) ≡ false
  pub read : has_missed steps ≡ false
  pub written : has_unwritten steps ≡ false

-- how often taking, putting and keeping have failed
pub record Failures : Type 0 where
  pub reads : ℕ
  pub writes : ℕ
  pub keeper : ℕ

-- no limit is reached by these turns, and no count rose
pub record HasNoHindrance (idle_turns : ℕ) (turns : List Turn) (old new : Failures) : Type 0 where
  pub within : IsFree (session_bounds idle_turns) (steps_of turns)
  pub reads : ¬ Rose old.reads new.reads
  pub writes : ¬ Rose old.writes new.writes
  pub keeper : ¬ Rose old.keeper new.keeper

-- all was served, or memory ran out
abbrev pub IsWellEnded : SessionEnd → Type 0
IsWellEnded end.Done = Unit {0}
IsWellEnded end.Memory = Unit {0}
IsWellEnded _ = ⊥
