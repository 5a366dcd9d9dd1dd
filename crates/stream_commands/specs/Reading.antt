-- What the reading of all input answers (this project's own).
use Rattle.std.specs.Prelude.{ℕ, ◌≡◌, ◌⊎◌, ◌<◌, ◌≤◌, List, ◌++◌, length, Option, Some, Result, Ok, Err, Bool, true, false}
use Rattle.pool_io.specs.declared.turn.Turn.{Turn}
use Rattle.pool_io.specs.Steps.{ReadStep, steps_of, bytes_in, IsFree, IsFreeBefore, IsIdleOut, BringsSteps}
use Rattle.stream_commands.specs.Gathering.{gathering_duty}
use Rattle.stream_commands.specs.Limits.{bounds, JustReachesLimit}
use Rattle.stream_commands.specs.Owing.{StopsAtRefusal}
use Rattle.stream_commands.specs.declared.reading.Unread.{Unread}
use Rattle.stream_commands.specs.declared.reading.Unread.TheVariants.{TooLong, IdleOut, ReadFault, Memory}

-- all steps have at most so many bytes, and none of them reaches a limit
pub record IsWhole (most : ℕ) (steps : List ReadStep) : Type 0 where
  pub short : length (bytes_in steps) ≤ most
  pub free : IsFree bounds steps

-- a front of the steps has more bytes than that, and no shorter one reaches a limit
pub record IsTooLong (most : ℕ) (steps : List ReadStep) : Type 0 where
  pub front : List ReadStep
  pub rest : List ReadStep
  pub split : steps ≡ front ++ rest
  pub over : most < length (bytes_in front)
  pub free : IsFreeBefore bounds front

-- a front of the steps, which isn't too long, ends with too many Idle answers in a row, and no
-- shorter one does
pub record IsLeftIdle (most : ℕ) (steps : List ReadStep) : Type 0 where
  pub front : List ReadStep
  pub rest : List ReadStep
  pub split : steps ≡ front ++ rest
  pub short : length (bytes_in front) ≤ most
  pub reached : JustReachesLimit (IsIdleOut bounds) front

-- What an answer says of the steps that were taken and of all that the source had. Where a read
-- failed, what was taken isn't too long: a read behind that could fail.
abbrev pub AnswersReading : ℕ → List ReadStep → List ReadStep → Result (List ℕ) Unread → Type 0
AnswersReading most taken steps (Ok bytes) =
    IsWhole most steps × (bytes ≡ bytes_in steps) × (taken ≡ steps)
AnswersReading most taken steps (Err TooLong) =
    IsTooLong most steps × StopsAtRefusal (gathering_duty most) taken
AnswersReading most taken steps (Err IdleOut) = IsLeftIdle most steps
AnswersReading most taken steps (Err ReadFault) = IsWhole most taken
AnswersReading most taken steps (Err Memory) = Unit {0}

-- between these turns to come and those: the steps taken, no more than reach a limit, and what the
-- answer says of them
pub record ReadsWhole (most : ℕ) (turns left : Option (List Turn))
    (answer : Result (List ℕ) Unread) : Type 0 where
  pub taken : List ReadStep
  pub within : IsFreeBefore bounds taken
  pub brought : BringsSteps turns left taken
  pub answers : (told : List Turn) → turns ≡ Some told
      → AnswersReading most taken (steps_of told) answer

-- an answer that the input alone doesn't decide
abbrev pub IsOutside : Result (List ℕ) Unread → Type 0
IsOutside (Ok bytes) = ⊥
IsOutside (Err TooLong) = ⊥
IsOutside (Err IdleOut) = ⊥
IsOutside (Err ReadFault) = Unit {0}
IsOutside (Err Memory) = Unit {0}

-- the steps that the source tells decide the answer, but for a fault or lack of memory
pub record DecideReading (most : ℕ) (steps : List ReadStep) (answer : Result (List ℕ) Unread) :
    Type 0 where
  pub whole : IsWhole most steps → (answer ≡ Ok (bytes_in steps)) ⊎ IsOutside answer
  pub too_long : IsTooLong most steps → (answer ≡ Err TooLong) ⊎ IsOutside answer
  pub left_idle : IsLeftIdle most steps → (answer ≡ Err IdleOut) ⊎ IsOutside answer

-- the source failed
abbrev pub is_read_fault : Result (List ℕ) Unread → Bool
is_read_fault (Ok bytes) = false
is_read_fault (Err TooLong) = false
is_read_fault (Err IdleOut) = false
is_read_fault (Err ReadFault) = true
is_read_fault (Err Memory) = false
