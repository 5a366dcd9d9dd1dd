-- What an auditor holds of the bytes that it has read (this project's own).
use Rattle.std.specs.Prelude.{ℕ, ◌≡◌, ◌+◌, ◌-◌, ◌<◌, ◌≤◌, ◌^◌, Option, None, Some, Result, Ok, Err, List, [], ◌∷◌, ◌++◌, length}
use Rattle.pool_history.specs.declared.causes.Cause.{Cause}
use Rattle.pool_history.specs.declared.events.Event.{Event}
use Rattle.pool_history.specs.Ledger.{chain, magic_1, magic_2}
use Rattle.pool_history.specs.Legal.{cause_of}
use Rattle.pool_history.specs.Sessions.{past_of}
use Rattle.ledger_records.specs.Growing.{hash_after}
use Rattle.ledger_replay.specs.declared.error.ReplayError.{ReplayError}
use Rattle.ledger_replay.specs.declared.error.ReplayError.TheVariants as error
use Rattle.ledger_replay.specs.declared.replay.Replay.{Replay}
use Rattle.ledger_replay.specs.Replays.{HasCause, WasReplayed, event_count}
use Rattle.ledger_audit.specs.declared.auditor.Auditor.{Auditor}
use Rattle.ledger_audit.specs.declared.format.Format.{Format}
use Rattle.ledger_audit.specs.declared.format.Format.TheVariants.{Plain, Chained}
use Rattle.ledger_audit.specs.declared.records.Halt.{Halt}
use Rattle.ledger_audit.specs.declared.records.Halt.TheVariants as halt
use Rattle.ledger_audit.specs.declared.records.Records.{Records}
use Rattle.ledger_audit.specs.declared.verdict.Verdict.TheVariants as verdict
use Rattle.ledger_audit.specs.Duty.{HasDefect, IsRefusedAs}
use Rattle.ledger_audit.specs.Units.{lacking, unit_len}
use Rattle.ledger_audit.specs.Verdicts.{BeginsLegal, text_in}

-- a replay was told a history: none was begun where the history has no event
abbrev pub IsReplayOf : Option Replay → List Event → Type 0
IsReplayOf None history = history ≡ []
IsReplayOf (Some replay) history = WasReplayed replay (past_of history)

-- how many events it was told
abbrev pub told_count : Option Replay → ℕ
told_count None = 0
told_count (Some replay) = event_count replay

-- the hash is the one over a history, where the format has hashes
abbrev pub IsHashIn : Format → List ℕ → List Event → Type 0
IsHashIn Plain hash history = Unit {0}
IsHashIn Chained hash history = hash ≡ hash_after history

-- an event more was told, or this is its cause, and no more was told
abbrev pub IsReplayed : Option Replay → List Event → Event → Result Unit ReplayError → Type 0
IsReplayed replay history event (Ok done) = IsReplayOf replay (history ++ event ∷ [])
    × (cause_of (past_of history) event ≡ None)
IsReplayed replay history event (Err (error.Illegal cause)) = HasCause (past_of history) event cause
IsReplayed replay history event (Err error.Memory) = Unit {0}

-- so it is, or the verdict says its number and its cause
abbrev pub IsToldOrCaused : Option Replay → List Event → Event → Result Unit Halt → Type 0
IsToldOrCaused replay history event (Ok done) = IsReplayOf replay (history ++ event ∷ [])
    × (cause_of (past_of history) event ≡ None)
IsToldOrCaused replay history event (Err (halt.Defect v)) = (cause : Cause)
    × (v ≡ verdict.Illegal (length history) cause) × HasCause (past_of history) event cause
IsToldOrCaused replay history event (Err halt.Memory) = Unit {0}

-- the magic of a format
abbrev pub magic_of : Format → List ℕ
magic_of Plain = magic_1
magic_of Chained = magic_2

-- the hash over a record and all before it stands behind it, where the format has hashes
abbrev pub IsNextHash : Format → List ℕ → List ℕ → List ℕ → List ℕ → Type 0
IsNextHash Plain before bytes behind hash = Unit {0}
IsNextHash Chained before bytes behind hash = (hash ≡ chain before bytes) × (behind ≡ hash)

-- the format has hashes, and what stands behind the record isn't its own
pub record IsBroken (records : Records) (bytes behind : List ℕ) (told : Halt) : Type 0 where
  pub format : records.format ≡ Chained
  pub other : behind ≡ chain records.hash bytes → ⊥
  pub said : told ≡ halt.Defect (verdict.BrokenChain (told_count records.replay))

-- the records of a history were read
pub record HasReadRecords (records : Records) (history : List Event) : Type 0 where
  pub place_is : records.place ≡ length (text_in records.format history)
  pub hash_is : IsHashIn records.format records.hash history
  pub replayed : IsReplayOf records.replay history

-- they are those of the ledger at the front of bytes, and this is behind it
pub record IsBehindLedger (records : Records) (bytes behind : List ℕ) : Type 0 where
  pub history : List Event
  pub begins : BeginsLegal records.format history bytes behind
  pub read : HasReadRecords records history

-- no more events were told than bytes read
abbrev pub CountsEventsWithinPlace : Records → Type 0
CountsEventsWithinPlace records = told_count records.replay ≤ records.place

-- what comes of a record that is all that is behind a ledger: it belongs to the ledger, or it is
-- its defect
abbrev pub DecidesRecord : Records → List ℕ → Result Unit Halt → Type 0
DecidesRecord new bytes (Ok done) = IsBehindLedger new bytes []
DecidesRecord new bytes (Err (halt.Defect v)) = HasDefect bytes v
DecidesRecord new bytes (Err halt.Memory) = Unit {0}

-- how many bytes are lacking of the magic, or of what comes behind the records
abbrev pub lacking_of : Option Records → List ℕ → ℕ
lacking_of None held = 8 - length held
lacking_of (Some records) held = lacking records.format held

-- no more is held than that
abbrev pub HoldsAtMostOne : Option Records → List ℕ → Type 0
HoldsAtMostOne None held = length held ≤ 8
HoldsAtMostOne (Some records) held = length held ≤ unit_len records.format held

-- at which place of the ledger the bytes that are held begin
abbrev pub held_place : Option Records → ℕ
held_place None = 0
held_place (Some records) = records.place

-- as many events at most as bytes
abbrev pub CountsEventsWithin : Option Records → Type 0
CountsEventsWithin None = Unit {0}
CountsEventsWithin (Some records) = CountsEventsWithinPlace records

-- an auditor holds what isn't yet a record, and at most 2^40 bytes were read
pub record IsBetweenRecords (auditor : Auditor) : Type 0 where
  pub lacks : 0 < lacking_of auditor.records auditor.held.items
  pub one : HoldsAtMostOne auditor.records auditor.held.items
  pub few : held_place auditor.records + length auditor.held.items ≤ 2 ^ 40
  pub counted : CountsEventsWithin auditor.records

-- the same where what it holds may be whole
pub record HoldsSome (auditor : Auditor) : Type 0 where
  pub one : HoldsAtMostOne auditor.records auditor.held.items
  pub few : held_place auditor.records + length auditor.held.items ≤ 2 ^ 40
  pub counted : CountsEventsWithin auditor.records

-- what an auditor holds is what it has read behind the ledger at the front
abbrev pub HasReadBytes : Option Records → List ℕ → List ℕ → Type 0
HasReadBytes None held bytes = held ≡ bytes
HasReadBytes (Some records) held bytes = IsBehindLedger records bytes held

-- what comes of what may be whole: it goes on, or the bytes are refused
abbrev pub GoesOnOrIsRefused : Auditor → List ℕ → Result Unit Halt → Type 0
GoesOnOrIsRefused auditor bytes (Ok done) = HasReadBytes auditor.records auditor.held.items bytes
GoesOnOrIsRefused auditor bytes (Err (halt.Defect v)) = IsRefusedAs bytes v
GoesOnOrIsRefused auditor bytes (Err halt.Memory) = Unit {0}

-- it has read these bytes and printed nothing
pub record HoldsBytes (auditor : Auditor) (bytes text : List ℕ) : Type 0 where
  pub printed : text ≡ []
  pub read : HasReadBytes auditor.records auditor.held.items bytes

-- and what it holds isn't whole
pub record HasAudited (auditor : Auditor) (bytes text : List ℕ) : Type 0 where
  pub holds : HoldsBytes auditor bytes text
  pub lacks : 0 < lacking_of auditor.records auditor.held.items
