-- Lines that are heard of a link, between two of its turns (this project's own).
use Rattle.std.specs.Prelude.{◌≡◌, ℕ, ◌-◌, ◌<◌, ◌≤◌, ◌==◌, if◌then◌else◌, OnOk, Result, Ok, Err, List, ◌∷◌, ◌++◌, length, take}
use Rattle.pool_io.specs.declared.source.Took.TheVariants as took
use Rattle.pool_network.specs.Seen.{LinkSeen}
use Rattle.link_turns.specs.declared.waiting.Waiting.{Waiting}
use Rattle.link_turns.specs.Waits.{TakesOf}
use Rattle.v1_lines.specs.Holding.{HoldsLongLine}
use Rattle.v1_lines.specs.Lines.{IsLineText}
use Rattle.session_steps.specs.declared.ends.SessionEnd.{SessionEnd}
use Rattle.session_steps.specs.declared.ends.SessionEnd.TheVariants as end
use Rattle.session_steps.specs.States.{input_end}
use Rattle.v2_sessions.specs.Standing.{Intake}

-- what is waited for and isn't heard yet, who hears it, and the link
pub record Hearing (T : Type 0) : Type 0 where
  pub intake : Intake
  pub talker : T
  pub link : LinkSeen

abbrev pub intake_at : Waiting → List ℕ → Intake
intake_at waiting unmet = record {
  idle_turns = waiting.idle_turns;
  idles = waiting.idles;
  bytes = waiting.bytes;
  unmet = unmet;
}

-- where these bytes came
abbrev pub with_bytes : List ℕ → Intake → Intake
with_bytes bytes intake =
    record intake {
      idles = intake.idle_turns;
      bytes = intake.bytes - length bytes;
      unmet = intake.unmet ++ bytes;
    }

-- where one Idle turn came
abbrev pub with_idle : Intake → Intake
with_idle intake = record intake { idles = intake.idles - 1 }

-- bytes begin with more than a line has, and no end
pub record BeginsLongLine (bytes : List ℕ) : Type 0 where
  pub front : List ℕ
  pub more : List ℕ
  pub whole : bytes ≡ front ++ more
  pub long : HoldsLongLine front

-- the next turn may be taken
pub record CanTakeTurn (intake : Intake) : Type 0 where
  pub text : IsLineText intake.unmet
  pub some : 0 < intake.bytes
  pub waits : 0 < intake.idles

-- so many bytes of a turn stand at the beginning of a buffer
pub record CameFirst (count : ℕ) (buffer : List ℕ) (intake : Intake) : Type 0 where
  pub there : length (take count buffer) ≡ count
  pub some : 0 < count
  pub short : count ≤ 4096
  pub within : count ≤ intake.bytes

-- a talker goes on, or is over
abbrev pub GoesOnOr : {T : Type 0} → (Hearing T → Hearing T → Type 0)
    → (Hearing T → SessionEnd → Hearing T → Type 0)
    → Hearing T → Result Unit SessionEnd → Hearing T → Type 0
GoesOnOr goes_on ends old (Ok _) new = goes_on old new
GoesOnOr goes_on ends old (Err reason) new = ends old reason new

-- the last Idle turn that is waited for ends what would go on
abbrev pub after_idle : ℕ → Result Unit SessionEnd → Result Unit SessionEnd
after_idle idles (Ok done) = if idles == 0 then Err end.IdleOut else Ok done
after_idle idles (Err reason) = Err reason

-- What holds of all who hear lines: what they do goes on from one moment to the next; bytes that
-- come are theirs to hear; and the end of the input, a take that failed, as many bytes as are taken,
-- a line that is too long, and want of memory end it.
pub record HearsLines {T : Type 0} (goes_on : Hearing T → Hearing T → Type 0)
    (ends : Hearing T → SessionEnd → Hearing T → Type 0) : Type 0 where
  pub stays : (h : Hearing T) → goes_on h h
  pub on : (a b c : Hearing T) → goes_on a b → goes_on b c → goes_on a c
  pub to_end : (a b c : Hearing T) (reason : SessionEnd) → goes_on a b → ends b reason c
      → ends a reason c
  pub brought : (h : Hearing T) (count : ℕ) (buffer : List ℕ) (link : LinkSeen)
      → CanTakeTurn h.intake → CameFirst count buffer h.intake
      → TakesOf (took.Bytes count) buffer h.link link
      → goes_on h (record h { intake = with_bytes (take count buffer) h.intake; link = link })
  pub ended : (h : Hearing T) (buffer : List ℕ) (link : LinkSeen) → CanTakeTurn h.intake
      → TakesOf took.End buffer h.link link
      → ends h (input_end h.intake.unmet) (record h { link = link })
  pub missed : (h : Hearing T) (buffer : List ℕ) (link : LinkSeen) → CanTakeTurn h.intake
      → TakesOf took.Failed buffer h.link link → ends h end.ReadFault (record h { link = link })
  pub spent : (h : Hearing T) → IsLineText h.intake.unmet → h.intake.bytes ≡ 0
      → ends h end.BytesOut h
  pub overran : (h : Hearing T) → BeginsLongLine h.intake.unmet → ends h end.LineTooLong h
  pub starved : (h : Hearing T) → ends h end.Memory h

-- it went on, with this intake then, or is over
pub record HearsOn {T : Type 0} (goes_on : Hearing T → Hearing T → Type 0)
    (ends : Hearing T → SessionEnd → Hearing T → Type 0) (before kept : Intake) (old : T)
    (link : LinkSeen) (result : Result Unit SessionEnd) (new : T) (link' : LinkSeen) : Type 0 where
  pub intake : Intake
  pub kept_is : OnOk result (intake ≡ kept)
  pub does : GoesOnOr goes_on ends (record { intake = before; talker = old; link = link }) result
      (record { intake = intake; talker = new; link = link' })

-- a line was heard: it isn't unmet any more
abbrev pub HearsLine : {T : Type 0} → (Hearing T → Hearing T → Type 0)
    → (Hearing T → SessionEnd → Hearing T → Type 0)
    → List ℕ → T → LinkSeen → Result Unit SessionEnd → T → LinkSeen → Type 0
HearsLine goes_on ends line old link result new link' =
    (before : Intake) (rest : List ℕ) → IsLineText line → before.unmet ≡ line ++ 10 ∷ rest
    → 0 < before.idles
    → HearsOn goes_on ends before (record before { unmet = rest }) old link result new link'

-- an Idle turn was heard, which the link had answered before
abbrev pub HearsIdle : {T : Type 0} → (Hearing T → Hearing T → Type 0)
    → (Hearing T → SessionEnd → Hearing T → Type 0)
    → T → LinkSeen → Result Unit SessionEnd → T → LinkSeen → Type 0
HearsIdle goes_on ends old link result new link' =
    (before : Intake) (buffer : List ℕ) (first : LinkSeen) → CanTakeTurn before
    → TakesOf took.Idle buffer first link
    → HearsOn goes_on ends before (with_idle before) old first
    (after_idle (before.idles - 1) result) new link'

-- lines were heard up to an end
pub record HearsToEnd {T : Type 0} (ends : Hearing T → SessionEnd → Hearing T → Type 0)
    (before : Intake) (old : T) (link : LinkSeen) (reason : SessionEnd) (new : T)
    (link' : LinkSeen) : Type 0 where
  pub last : Intake
  pub ends_so : ends (record { intake = before; talker = old; link = link }) reason
      (record { intake = last; talker = new; link = link' })
