-- What was taken of a link, what a partner said to it, and how that ends (this project's own).
use Rattle.std.specs.Prelude.{◌≡◌, ◌⊎◌, ℕ, ◌+◌, ◌<◌, ◌≤◌, Bool, true, false, Option, Some, None, IfSome, Result, Ok, Err, List, [], ◌∷◌, ◌++◌, length, map}
use Rattle.pool_base.specs.Lists.{Begins}
use Rattle.pool_io.specs.declared.source.Took.TheVariants as took
use Rattle.pool_io.specs.declared.turn.Turn.{Turn}
use Rattle.pool_io.specs.declared.turn.Turn.TheVariants as turn
use Rattle.pool_io.specs.Outside.{AddsBytes, TakesFrom}
use Rattle.pool_io.specs.Steps.{Bounds, IsAtLimit, IsBytesOut, IsFree, IsFreeBefore, IsIdleOut, ReadStep, bytes_in, idles_after}
use Rattle.pool_network.specs.Seen.{LinkSeen}
use Rattle.link_turns.specs.declared.talking.TalkEnd.{TalkEnd}
use Rattle.link_turns.specs.declared.talking.TalkEnd.TheVariants as end
use Rattle.link_turns.specs.declared.talking.Talking.{Talking}
use Rattle.link_turns.specs.declared.waiting.Limit.TheVariants as limit
use Rattle.link_turns.specs.declared.waiting.Waiting.{Waiting}
use Rattle.link_turns.specs.Partners.{HasTakenOrEnded}
use Rattle.link_turns.specs.Waits.{IsLimitOf, most_bytes}

-- so many Idle turns in a row, or 2^40 bytes
abbrev pub bounds_of : ℕ → Bounds
bounds_of idle_turns = record { idle_turns = idle_turns; bytes = most_bytes }

-- one turn was taken: bytes, at least one and at most 4,096; none for now; or the end
abbrev pub TakesOne : List Turn → List Turn → Turn → Type 0
TakesOne old new (turn.Piece bytes) =
    (0 < length bytes) × (length bytes ≤ 4096)
    × TakesFrom old new (took.Bytes (length bytes)) bytes
TakesOne old new turn.Idle = TakesFrom old new took.Idle []
TakesOne old new turn.End = TakesFrom old new took.End []

-- these turns, the newest first, were taken one after the other
abbrev pub TakesAll : List Turn → List Turn → List Turn → Type 0
TakesAll old new [] = new ≡ old
TakesAll old new (one ∷ past) =
    (left : List Turn) × TakesAll old left past × TakesOne left new one

-- the same of what a link tells, where it tells
abbrev pub TakesTurns : Option (List Turn) → Option (List Turn) → List Turn → Type 0
TakesTurns old new past = IfSome old (λ told. (left : List Turn) × (new ≡ Some left)
    × TakesAll told left past)

-- the bytes and the Idle turns of turns, the newest turn first
abbrev pub steps_taken : List Turn → List ReadStep
steps_taken [] = []
steps_taken (turn.Piece bytes ∷ past) = steps_taken past ++ map Some bytes
steps_taken (turn.Idle ∷ past) = steps_taken past ++ None ∷ []
steps_taken (turn.End ∷ past) = steps_taken past

-- a partner of this task has taken these turns and has said these bytes
abbrev pub TakenFor : {S T : Type 0} → (S → T) → T → (S → List Turn → List ℕ → Type 0)
    → S → List Turn → List ℕ → Type 0
TakenFor asked task has_taken partner past said = (asked partner ≡ task) × has_taken partner past said

-- and it has ended so
abbrev pub EndedFor : {S T E : Type 0} → (S → T) → T → (S → List Turn → List ℕ → E → Type 0)
    → S → List Turn → List ℕ → E → Type 0
EndedFor asked task has_ended partner past said reason =
    (asked partner ≡ task) × has_ended partner past said reason

-- a front of what it said was put, whether it has ended or not
pub record PutsFront {S E : Type 0} (has_taken : S → List Turn → List ℕ → Type 0)
    (has_ended : S → List Turn → List ℕ → E → Type 0) (partner : S) (past : List Turn)
    (put : List ℕ) : Type 0 where
  pub said : List ℕ
  pub reason : Option E
  pub front : Begins put said
  pub is_said : HasTakenOrEnded has_taken has_ended partner past said reason

-- it had no memory for what it says to the last turn, or for its first words: what it said before
-- was put
abbrev pub LacksWords : {S : Type 0} → (S → List Turn → List ℕ → Type 0) → List Turn → List ℕ
    → Type 0
LacksWords has_taken [] put = put ≡ []
LacksWords {S} has_taken (last ∷ past) put = (before : S) × has_taken before past put

-- what each end says of the turns that were taken and of the bytes that were put
abbrev pub EndsWith : {S E : Type 0} → (S → List Turn → List ℕ → Type 0)
    → (S → List Turn → List ℕ → E → Type 0) → Bounds → S → List Turn → List ℕ → TalkEnd E → Type 0
EndsWith has_taken has_ended bounds partner past put (end.Ended reason) =
    has_ended partner past put reason
EndsWith has_taken has_ended bounds partner past put end.IdleOut =
    has_taken partner past put × IsIdleOut bounds (steps_taken past)
EndsWith has_taken has_ended bounds partner past put end.BytesOut =
    has_taken partner past put × IsBytesOut bounds (steps_taken past)
EndsWith has_taken has_ended bounds partner past put end.ReadFault =
    has_taken partner past put × (IsAtLimit bounds (steps_taken past) → ⊥)
EndsWith has_taken has_ended bounds partner past put end.WriteFault =
    PutsFront has_taken has_ended partner past put
EndsWith has_taken has_ended bounds partner past put end.Memory =
    PutsFront has_taken has_ended partner past put ⊎ LacksWords has_taken past put

-- a talk over a link, from its first word to its end
pub record EndsTalk {S E : Type 0} (has_taken : S → List Turn → List ℕ → Type 0)
    (has_ended : S → List Turn → List ℕ → E → Type 0) (bounds : Bounds) (first now : LinkSeen)
    (partner : S) (reason : TalkEnd E) : Type 0 where
  -- the turns that were taken, the newest first; no limit was reached before the last of them
  pub past : List Turn
  pub took : TakesTurns first.source.left now.source.left past
  pub within : IsFreeBefore bounds (steps_taken past)
  -- what was put
  pub put : List ℕ
  pub added : AddsBytes first.sink.held now.sink.held put
  pub ends : EndsWith has_taken has_ended bounds partner past put reason

-- what is still waited for after these steps
pub record HasCounted (bounds : Bounds) (waiting : Waiting) (steps : List ReadStep) : Type 0 where
  pub turns : waiting.idle_turns ≡ bounds.idle_turns
  pub idles : idles_after 0 steps + waiting.idles ≡ bounds.idle_turns
  pub bytes : length (bytes_in steps) + waiting.bytes ≡ bounds.bytes

-- a talk between two turns: all that was said was put, and no limit is reached
pub record IsTalking {S : Type 0} (has_taken : S → List Turn → List ℕ → Type 0) (bounds : Bounds)
    (waiting : Waiting) (first now : LinkSeen) (partner : S) : Type 0 where
  pub past : List Turn
  pub took : TakesTurns first.source.left now.source.left past
  pub put : List ℕ
  pub added : AddsBytes first.sink.held now.sink.held put
  pub is_said : has_taken partner past put
  pub counts : HasCounted bounds waiting (steps_taken past)
  pub free : IsFree bounds (steps_taken past)

-- how a talk's turn ended once the partner had said these words to it, and had ended or not: all of
-- them were put, or a front of them where that failed
abbrev pub Finishes : {E : Type 0} → List ℕ → Option E → Waiting → Option (List ℕ)
    → Option (List ℕ) → Option (TalkEnd E) → Type 0
Finishes words ended waiting held held' None =
    AddsBytes held held' words × (ended ≡ None) × IsLimitOf waiting None
Finishes words ended waiting held held' (Some (end.Ended reason)) =
    AddsBytes held held' words × (ended ≡ Some reason)
Finishes words ended waiting held held' (Some end.IdleOut) =
    AddsBytes held held' words × (ended ≡ None) × IsLimitOf waiting (Some limit.IdleOut)
Finishes words ended waiting held held' (Some end.BytesOut) =
    AddsBytes held held' words × (ended ≡ None) × IsLimitOf waiting (Some limit.BytesOut)
Finishes words ended waiting held held' (Some end.ReadFault) = ⊥
Finishes words ended waiting held held' (Some end.WriteFault) =
    (front : List ℕ) × Begins front words × AddsBytes held held' front
Finishes words ended waiting held held' (Some end.Memory) =
    (front : List ℕ) × Begins front words × AddsBytes held held' front

-- what a partner that took these turns said to the last one, and how that ended
pub record Answers {S E : Type 0} (has_taken : S → List Turn → List ℕ → Type 0)
    (has_ended : S → List Turn → List ℕ → E → Type 0) (waiting : Waiting) (partner : S)
    (past : List Turn) (said : List ℕ) (held held' : Option (List ℕ))
    (result : Option (TalkEnd E)) : Type 0 where
  pub words : List ℕ
  pub ended : Option E
  pub is_said : HasTakenOrEnded has_taken has_ended partner past (said ++ words) ended
  pub finishes : Finishes words ended waiting held held' result

-- a partner answers a turn, or had no memory for that
abbrev pub AnswersTurn : {S E : Type 0} → (S → List Turn → List ℕ → Type 0)
    → (S → List Turn → List ℕ → E → Type 0) → Waiting → Turn → S → S → Option (List ℕ)
    → Option (List ℕ) → Option (TalkEnd E) → Type 0
AnswersTurn has_taken has_ended waiting one old new held held' result =
    (past : List Turn) (said : List ℕ) → has_taken old past said
    → Answers has_taken has_ended waiting new (one ∷ past) said held held' result
    ⊎ ((result ≡ Some end.Memory) × (held' ≡ held))

-- a talk goes on, or it has ended
abbrev pub TalksOnOrEnds : {S E : Type 0} → (S → List Turn → List ℕ → Type 0)
    → (S → List Turn → List ℕ → E → Type 0) → Bounds → Waiting → LinkSeen → LinkSeen → S
    → Option (TalkEnd E) → Type 0
TalksOnOrEnds has_taken has_ended bounds waiting first now partner None =
    IsTalking has_taken bounds waiting first now partner
TalksOnOrEnds has_taken has_ended bounds waiting first now partner (Some reason) =
    EndsTalk has_taken has_ended bounds first now partner reason

-- the link failed at a take, or at a put
abbrev pub is_read_fault : {E : Type 0} → Option (TalkEnd E) → Bool
is_read_fault (Some end.ReadFault) = true
is_read_fault _ = false

abbrev pub is_write_fault : {E : Type 0} → Option (TalkEnd E) → Bool
is_write_fault (Some end.WriteFault) = true
is_write_fault _ = false

-- a talk begins, or it has ended
abbrev pub BeginsTalk : {S E : Type 0} → (S → List Turn → List ℕ → Type 0)
    → (S → List Turn → List ℕ → E → Type 0) → Bounds → LinkSeen → LinkSeen → S
    → Result Talking (TalkEnd E) → Type 0
BeginsTalk has_taken has_ended bounds first now partner (Ok talking) =
    IsTalking has_taken bounds talking.waiting first now partner
BeginsTalk has_taken has_ended bounds first now partner (Err reason) =
    EndsTalk has_taken has_ended bounds first now partner reason

abbrev pub reason_of : {E : Type 0} → Result Talking (TalkEnd E) → Option (TalkEnd E)
reason_of (Ok talking) = None
reason_of (Err reason) = Some reason
