-- A session over a link, whichever language it speaks (this project's own).
use Rattle.std.specs.Prelude.{◌≡◌, ℕ, ◌==◌, Bool, true, false, List, ◌∷◌}
use Rattle.pool_io.specs.declared.turn.Turn.{Turn}
use Rattle.pool_io.specs.Outside.{AddsBytes}
use Rattle.pool_io.specs.Steps.{BringsSteps, ReadStep, bytes_in, steps_of}
use Rattle.pool_network.specs.Seen.{LinkSeen}
use Rattle.pool_history.specs.declared.events.Role.{Role}
use Rattle.pool_history.specs.declared.events.Role.TheVariants as role
use Rattle.pool_history.specs.Calls.{PoolCall}
use Rattle.session_steps.specs.declared.ends.SessionEnd.{SessionEnd}
use Rattle.session_steps.specs.declared.manner.Manner.{Manner}
use Rattle.session_steps.specs.States.{State, Over, new_state}
use Rattle.session_steps.specs.Steps as frames
use Rattle.session_steps.specs.Steps.{SessionStep}
use Rattle.v2_sessions.specs.Answerers.{Acts}
use Rattle.v2_sessions.specs.Good.{IsGoodInput}
use Rattle.v2_sessions.specs.Running as frames_run
use Rattle.v2_sessions.specs.Running.{TakesAll}
use Rattle.v1_translate.specs.State.{Terms}
use Rattle.v1_sessions.specs.Steps as lines
use Rattle.v1_sessions.specs.Steps.{LineStep}
use Rattle.v1_sessions.specs.Ends.{AreGoodLines, ComesToEnd}

-- a miner whose first byte is that of a JSON object speaks lines
abbrev pub speaks_lines : Role → List ℕ → Bool
speaks_lines role.Miner (byte ∷ bytes) = byte == 123
speaks_lines _ _ = false

-- the steps of a session of frames, or of one of lines
pub data Course : Type 0 where
  Framed : (steps : List SessionStep) → Course
  Lined : (steps : List LineStep) → Course

abbrev pub is_lined : Course → Bool
is_lined (Lined steps) = true
is_lined (Framed steps) = false

-- the turns that were taken, the calls, and the bytes that were put
abbrev pub turns_on : Course → List ReadStep
turns_on (Framed steps) = frames.turns_in steps
turns_on (Lined steps) = lines.turns_of steps

abbrev pub calls_on : Course → List PoolCall
calls_on (Framed steps) = frames.calls_in steps
calls_on (Lined steps) = lines.calls_of steps

abbrev pub bytes_on : Course → List ℕ
bytes_on (Framed steps) = frames.bytes_in_steps steps
bytes_on (Lined steps) = lines.bytes_of steps

-- a count of reads that failed, and one of writes, behind the steps
abbrev pub reads_on : ℕ → Course → ℕ
reads_on count (Framed steps) = frames.reads_after count steps
reads_on count (Lined steps) = lines.reads_after count steps

abbrev pub writes_on : ℕ → Course → ℕ
writes_on count (Framed steps) = frames.writes_after count steps
writes_on count (Lined steps) = lines.writes_after count steps

-- the end of the input is among the steps
abbrev pub has_ended_on : Course → Bool
has_ended_on (Framed steps) = frames_run.has_ended steps
has_ended_on (Lined steps) = lines.has_ended steps

-- steps of frames that begin a session and come to this end
pub record FramesCome (worker : ℕ) (manner : Manner) (steps : List SessionStep)
    (reason : SessionEnd) : Type 0 where
  pub last : State
  pub follows : frames.Follows worker (new_state manner) steps last
  pub over : last.stage ≡ Over reason

-- the steps begin a session and come to this end
abbrev pub CourseComes : ℕ → Terms → Manner → Course → SessionEnd → Type 0
CourseComes worker terms manner (Framed steps) reason = FramesCome worker manner steps reason
CourseComes worker terms manner (Lined steps) reason = ComesToEnd worker terms manner steps reason

-- a course that begins a session and comes to this end: it is of lines just where the bytes that were
-- taken begin as those of lines do
pub record IsCourse (worker : ℕ) (terms : Terms) (manner : Manner) (course : Course)
    (reason : SessionEnd) : Type 0 where
  pub comes : CourseComes worker terms manner course reason
  pub speaks : speaks_lines manner.role (bytes_in (turns_on course)) ≡ is_lined course

-- such a course, with all that it did to the link and to who answers
pub record IsServed {A : Type 0} (worker : A → ℕ) (does : A → PoolCall → A → Type 0)
    (terms : Terms) (manner : Manner) (link link' : LinkSeen) (acting acting' : A)
    (reason : SessionEnd) : Type 0 where
  pub course : Course
  pub is_course : IsCourse (worker acting) terms manner course reason
  pub took : BringsSteps link.source.left link'.source.left (turns_on course)
  pub ended : TakesAll (has_ended_on course) link.source.left (turns_on course)
  pub put : AddsBytes link.sink.held link'.sink.held (bytes_on course)
  pub reads : link'.source.faults ≡ reads_on link.source.faults course
  pub writes : link'.sink.faults ≡ writes_on link.sink.faults course
  pub acts : Acts does acting (calls_on course) acting'
  pub same : worker acting' ≡ worker acting

-- all that comes is good, in the language that its first byte tells
abbrev pub IsGoodIn : Bool → Manner → List Turn → Type 0
IsGoodIn true manner told = AreGoodLines told
IsGoodIn false manner told = IsGoodInput manner told

abbrev pub IsGoodSpeech : Manner → List Turn → Type 0
IsGoodSpeech manner told =
    IsGoodIn (speaks_lines manner.role (bytes_in (steps_of told))) manner told
