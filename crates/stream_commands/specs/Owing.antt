-- What a command owes for the steps of a reading, and within which limits (this project's own).
use Rattle.std.specs.Prelude.{ℕ, ◌≡◌, ◌≤◌, ◌⊎◌, List, ◌++◌, length}
use Rattle.pool_base.specs.Lists.{Begins}
use Rattle.pool_io.specs.Steps.{ReadStep, bytes_in, IsFree, IsFreeBefore, IsIdleOut, IsBytesOut}
use Rattle.stream_commands.specs.Duties.{Duty}
use Rattle.stream_commands.specs.Limits.{bounds, JustReachesLimit}
use Rattle.stream_commands.specs.declared.end.End.{End}
use Rattle.stream_commands.specs.declared.end.End.TheVariants.{Done, Refused, IdleOut, BytesOut, ReadFault, WriteFault, Memory}

-- all steps are whole input, within the limits
pub record OwesWhole (duty : Duty) (steps : List ReadStep) (text : List ℕ) : Type 0 where
  pub owed : duty.Whole (bytes_in steps) text
  pub free : IsFree bounds steps

-- a front of the steps is refused, before a limit is reached
pub record OwesRefusal (duty : Duty) (steps : List ReadStep) (text : List ℕ) : Type 0 where
  pub front : List ReadStep
  pub rest : List ReadStep
  pub split : steps ≡ front ++ rest
  pub owed : duty.Refused (bytes_in front) text
  pub free : IsFreeBefore bounds front

-- all steps are input that is cut off, within the limits
pub record OwesCut (duty : Duty) (steps : List ReadStep) (text : List ℕ) : Type 0 where
  pub owed : duty.Cut (bytes_in steps) text
  pub free : IsFree bounds steps

-- the input is refused, by what came or by its end
abbrev pub OwesRefused : Duty → List ReadStep → List ℕ → Type 0
OwesRefused duty steps text = OwesRefusal duty steps text ⊎ OwesCut duty steps text

-- a front of the steps, which isn't refused, reaches a limit, and no shorter one does
pub record OwesAtLimit (duty : Duty) (IsOut : List ReadStep → Type 0) (steps : List ReadStep)
    (text : List ℕ) : Type 0 where
  pub front : List ReadStep
  pub rest : List ReadStep
  pub split : steps ≡ front ++ rest
  pub owed : duty.SoFar (bytes_in front) text
  pub reached : JustReachesLimit IsOut front

-- the steps so far aren't refused, and none of their fronts reaches a limit
pub record OwesSoFar (duty : Duty) (steps : List ReadStep) (text : List ℕ) : Type 0 where
  pub owed : duty.SoFar (bytes_in steps) text
  pub free : IsFree bounds steps

-- the text is owed for a front of the steps, or at an end of them
abbrev pub OwesSome : Duty → List ReadStep → List ℕ → Type 0
OwesSome duty steps text =
    ((front : List ReadStep) × (rest : List ReadStep) × (steps ≡ front ++ rest)
    × duty.SoFar (bytes_in front) text)
    ⊎ OwesRefused duty steps text
    ⊎ OwesWhole duty steps text

-- what was put is a front of a text that is owed
abbrev pub OwesFront : Duty → List ReadStep → List ℕ → Type 0
OwesFront duty steps given = (text : List ℕ) × OwesSome duty steps text × Begins given text

-- What was taken isn't refused but for its last 4,096 bytes and Idle answers. A take behind a refusal
-- might fail, and that is told only of what isn't refused.
pub record StopsAtRefusal (duty : Duty) (taken : List ReadStep) : Type 0 where
  pub before : List ReadStep
  pub last : List ReadStep
  pub split : taken ≡ before ++ last
  pub short : length last ≤ 4096
  pub text : List ℕ
  pub so_far : duty.SoFar (bytes_in before) text

-- what an end says of the steps that were taken, of all that the source had, and of the text that
-- was put
abbrev pub EndsWith : Duty → List ReadStep → List ReadStep → List ℕ → End → Type 0
EndsWith duty taken steps given Done = OwesWhole duty steps given × (taken ≡ steps)
EndsWith duty taken steps given Refused =
    OwesRefused duty steps given × StopsAtRefusal duty taken
EndsWith duty taken steps given IdleOut = OwesAtLimit duty (IsIdleOut bounds) steps given
    × JustReachesLimit (IsIdleOut bounds) taken
EndsWith duty taken steps given BytesOut = OwesAtLimit duty (IsBytesOut bounds) steps given
    × JustReachesLimit (IsBytesOut bounds) taken
EndsWith duty taken steps given ReadFault = OwesSoFar duty taken given
EndsWith duty taken steps given WriteFault = OwesFront duty steps given
EndsWith duty taken steps given Memory =
    OwesFront duty steps given × (IsIdleOut bounds taken → ⊥)
