-- How a session begins: its greeting, and turns up to the first that brings bytes (this project's
-- own).
use Rattle.std.specs.Prelude.{◌≡◌, ◌⊎◌, ℕ, ◌-◌, ◌<◌, ◌≤◌, None, Some, IfSome, Result, Ok, Err, List, [], ◌++◌, length, map, replicate, take}
use Rattle.pool_io.specs.declared.sink.SinkFailed.{SinkFailed}
use Rattle.pool_io.specs.Outside.{next_count}
use Rattle.pool_io.specs.Steps.{BringsSteps, ReadStep, steps_of}
use Rattle.pool_network.specs.Seen.{LinkSeen}
use Rattle.pool_history.specs.Calls.{PoolCall}
use Rattle.link_turns.specs.declared.waiting.Waiting.{Waiting}
use Rattle.link_turns.specs.Waits.{new_waiting}
use Rattle.session_steps.specs.declared.ends.SessionEnd.{SessionEnd}
use Rattle.session_steps.specs.declared.ends.SessionEnd.TheVariants as end
use Rattle.session_steps.specs.declared.manner.Manner.{Manner}
use Rattle.session_steps.specs.Answers.{greeting}
use Rattle.session_steps.specs.States.{Over, Reading, State, failed_end, new_state}
use Rattle.session_steps.specs.Steps.{bytes_of_frames}
use Rattle.v2_sessions.specs.declared.beginning.FirstPiece.{FirstPiece}
use Rattle.v2_sessions.specs.Links.{PutsOut}
use Rattle.v2_sessions.specs.Running.{Runs}

-- so many Idle turns came in a row, and behind them these steps of the reading; no take failed, and
-- nothing was put
pub record HasWaited (idles : ℕ) (come : List ReadStep) (old new : LinkSeen) : Type 0 where
  pub took : BringsSteps old.source.left new.source.left (replicate idles None ++ come)
  pub reads : new.source.faults ≡ old.source.faults
  pub sink : new.sink ≡ old.sink

-- what is still waited for after so many Idle turns
abbrev pub waited : ℕ → ℕ → Waiting
waited idle_turns idles = record (new_waiting idle_turns) { idles = idle_turns - idles }

-- and once a piece of so many bytes came
abbrev pub waiting_behind : ℕ → ℕ → Waiting
waiting_behind idle_turns count =
    record (new_waiting idle_turns) { bytes = (new_waiting idle_turns).bytes - count }

-- bytes came before too many Idle turns did: 4,096 at most
pub record FirstCame (idle_turns : ℕ) (piece : List ℕ) (waiting : Waiting) (old new : LinkSeen) :
    Type 0 where
  pub idles : ℕ
  pub few : idles < idle_turns
  pub some : 0 < length piece
  pub short : length piece ≤ 4096
  pub counted : waiting ≡ waiting_behind idle_turns (length piece)
  pub came : HasWaited idles (map Some piece) old new

-- the input ended first
pub record EndedFirst (idle_turns : ℕ) (old new : LinkSeen) : Type 0 where
  pub idles : ℕ
  pub few : idles < idle_turns
  pub came : HasWaited idles [] old new
  pub all : IfSome old.source.left (λ turns. steps_of turns ≡ replicate idles None)

-- a take failed first
pub record FailedFirst (idle_turns : ℕ) (old new : LinkSeen) : Type 0 where
  pub idles : ℕ
  pub few : idles < idle_turns
  pub took : BringsSteps old.source.left new.source.left (replicate idles None)
  pub reads : new.source.faults ≡ next_count old.source.faults
  pub sink : new.sink ≡ old.sink

-- the first bytes, as many as were counted, or what came first
abbrev pub WaitsForBytes :
    ℕ → List ℕ → LinkSeen → LinkSeen → Result FirstPiece SessionEnd → Type 0
WaitsForBytes idle_turns buffer old new (Ok first) =
    (first.count ≤ length buffer)
    × FirstCame idle_turns (take first.count buffer) first.waiting old new
WaitsForBytes idle_turns buffer old new (Err end.Done) = EndedFirst idle_turns old new
WaitsForBytes idle_turns buffer old new (Err end.ReadFault) = FailedFirst idle_turns old new
WaitsForBytes idle_turns buffer old new (Err end.IdleOut) = HasWaited idle_turns [] old new
WaitsForBytes idle_turns buffer old new (Err _) = ⊥

-- a session that was greeted waits for bytes; one that couldn't be is over
pub record GreetsAndWaits (manner : Manner) (buffer : List ℕ) (old new : LinkSeen)
    (result : Result FirstPiece SessionEnd) : Type 0 where
  pub greeted : LinkSeen
  pub puts : PutsOut (bytes_of_frames (greeting manner.role)) None old greeted
  pub waits : WaitsForBytes manner.idle_turns buffer greeted new result

pub record IsUngreeted (manner : Manner) (old new : LinkSeen)
    (result : Result FirstPiece SessionEnd) : Type 0 where
  pub cause : SinkFailed
  pub puts : PutsOut (bytes_of_frames (greeting manner.role)) (Some cause) old new
  pub ends : result ≡ Err (failed_end cause)

abbrev pub Begins :
    Manner → List ℕ → LinkSeen → LinkSeen → Result FirstPiece SessionEnd → Type 0
Begins manner buffer old new result =
    GreetsAndWaits manner buffer old new result ⊎ IsUngreeted manner old new result

-- a session to which these bytes came first
abbrev pub begun_state : Manner → Waiting → List ℕ → State
begun_state manner waiting piece =
    record (new_state manner) {
      stage = Reading;
      idle_turns = waiting.idle_turns;
      idles = waiting.idles;
      bytes = waiting.bytes;
      unmet = piece;
    }

-- steps from there to this end, with all that they did to the link and to who answers
pub record IsRestOfSession {A : Type 0} (worker : A → ℕ) (does : A → PoolCall → A → Type 0)
    (from : State) (link link' : LinkSeen) (acting acting' : A) (reason : SessionEnd) : Type 0 where
  pub last : State
  pub over : last.stage ≡ Over reason
  pub runs : Runs worker does from last link link' acting acting'
