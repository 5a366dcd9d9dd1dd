-- How a run of a command over a source and a sink ends (this project's own).
use Rattle.std.specs.Prelude.{ℕ, ◌≡◌, ◌⊎◌, Bool, true, false, List, Option, Some, None}
use Rattle.pool_io.specs.declared.turn.Turn.{Turn}
use Rattle.pool_io.specs.Outside.{AddsBytes}
use Rattle.pool_io.specs.Steps.{ReadStep, steps_of, BringsSteps, IsFreeBefore, IsIdleOut, IsBytesOut}
use Rattle.stream_commands.specs.Duties.{Duty}
use Rattle.stream_commands.specs.Limits.{bounds}
use Rattle.stream_commands.specs.Owing.{OwesWhole, OwesRefused, OwesAtLimit, EndsWith}
use Rattle.stream_commands.specs.declared.end.End.{End}
use Rattle.stream_commands.specs.declared.end.End.TheVariants.{Done, Refused, IdleOut, BytesOut, ReadFault, WriteFault, Memory}

-- between these turns to come and these held bytes, before and after: the steps taken, no more than
-- reach a limit, the text put, and what the end says of them
pub record EndsCommand (duty : Duty) (turns left : Option (List Turn))
    (before after : Option (List ℕ)) (end : End) : Type 0 where
  pub taken : List ReadStep
  pub within : IsFreeBefore bounds taken
  pub brought : BringsSteps turns left taken
  pub given : List ℕ
  pub put : AddsBytes before after given
  pub ends : (told : List Turn) → turns ≡ Some told → EndsWith duty taken (steps_of told) given end

-- an end that the input alone doesn't decide
abbrev pub IsOutsideEnd : End → Type 0
IsOutsideEnd Done = ⊥
IsOutsideEnd Refused = ⊥
IsOutsideEnd IdleOut = ⊥
IsOutsideEnd BytesOut = ⊥
IsOutsideEnd ReadFault = Unit {0}
IsOutsideEnd WriteFault = Unit {0}
IsOutsideEnd Memory = Unit {0}

-- the end is this one, or a fault or lack of memory came first
abbrev pub EndsAs : End → End → Type 0
EndsAs wanted end = (end ≡ wanted) ⊎ IsOutsideEnd end

-- the steps that the source tells decide the end, but for a fault or lack of memory
pub record DecideEnd (duty : Duty) (steps : List ReadStep) (end : End) : Type 0 where
  pub whole : (text : List ℕ) → OwesWhole duty steps text → EndsAs Done end
  pub refused : (text : List ℕ) → OwesRefused duty steps text → EndsAs Refused end
  pub idle_out : (text : List ℕ) → OwesAtLimit duty (IsIdleOut bounds) steps text
      → EndsAs IdleOut end
  pub bytes_out : (text : List ℕ) → OwesAtLimit duty (IsBytesOut bounds) steps text
      → EndsAs BytesOut end

-- the source failed
abbrev pub is_read_fault : Option End → Bool
is_read_fault (Some ReadFault) = true
is_read_fault (Some Done) = false
is_read_fault (Some Refused) = false
is_read_fault (Some IdleOut) = false
is_read_fault (Some BytesOut) = false
is_read_fault (Some WriteFault) = false
is_read_fault (Some Memory) = false
is_read_fault None = false

-- the sink failed
abbrev pub is_write_fault : Option End → Bool
is_write_fault (Some WriteFault) = true
is_write_fault (Some Done) = false
is_write_fault (Some Refused) = false
is_write_fault (Some IdleOut) = false
is_write_fault (Some BytesOut) = false
is_write_fault (Some ReadFault) = false
is_write_fault (Some Memory) = false
is_write_fault None = false
