-- What is still waited for, and what a turn that is taken of a link changes (this project's own).
use Rattle.std.specs.Prelude.{◌≡◌, ℕ, ◌+◌, ◌-◌, ◌*◌, ◌^◌, ◌<◌, ◌≤◌, Option, Some, None, List}
use Rattle.pool_io.specs.declared.source.Took.{Took}
use Rattle.pool_io.specs.declared.source.Took.TheVariants as took
use Rattle.pool_io.specs.Outside.{CountsFailure, TakesTurn, is_failed_take}
use Rattle.pool_network.specs.Seen.{LinkSeen}
use Rattle.link_turns.specs.declared.waiting.Limit.{Limit}
use Rattle.link_turns.specs.declared.waiting.Limit.TheVariants as limit
use Rattle.link_turns.specs.declared.waiting.Waiting.{Waiting}

-- the most bytes that are taken
abbrev pub most_bytes : ℕ
most_bytes = 2 ^ 40

-- before the first turn
abbrev pub new_waiting : ℕ → Waiting
new_waiting idle_turns = record { idle_turns = idle_turns; idles = idle_turns; bytes = most_bytes }

-- neither limit is reached
pub record IsBelowLimits (waiting : Waiting) : Type 0 where
  pub some : 0 < waiting.bytes
  pub waits : 0 < waiting.idles
  pub most : waiting.idles ≤ waiting.idle_turns

-- after a turn: bytes begin the row of Idle turns anew
abbrev pub waiting_after : Took → Waiting → Waiting
waiting_after (took.Bytes count) waiting =
    record waiting { idles = waiting.idle_turns; bytes = waiting.bytes - count }
waiting_after took.Idle waiting = record waiting { idles = waiting.idles - 1 }
waiting_after took.End waiting = waiting
waiting_after took.Failed waiting = waiting

-- which limit is reached, if one is
abbrev pub IsLimitOf : Waiting → Option Limit → Type 0
IsLimitOf waiting None = (0 < waiting.idles) × (0 < waiting.bytes)
IsLimitOf waiting (Some limit.IdleOut) = waiting.idles ≡ 0
IsLimitOf waiting (Some limit.BytesOut) = (0 < waiting.idles) × (waiting.bytes ≡ 0)

-- a bound on the turns that are still taken
abbrev pub turns_left : Waiting → ℕ
turns_left waiting = waiting.bytes * (waiting.idle_turns + 1) + waiting.idles

-- bytes and Idle turns bring the limits nearer
abbrev pub IsNearer : Took → Waiting → Waiting → Type 0
IsNearer (took.Bytes count) old new = turns_left new < turns_left old
IsNearer took.Idle old new = turns_left new < turns_left old
IsNearer took.End old new = Unit {0}
IsNearer took.Failed old new = Unit {0}

-- one turn was taken of a link, whose count of failed takes rose just where it failed; nothing was
-- put
pub record TakesOf (answered : Took) (buffer : List ℕ) (old new : LinkSeen) : Type 0 where
  pub turns : TakesTurn old.source.left new.source.left answered buffer
  pub counts : CountsFailure (is_failed_take answered) old.source.faults new.source.faults
  pub sink : new.sink ≡ old.sink
