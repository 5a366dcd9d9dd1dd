-- What a script is (this project's own; its frames are Stratum V2's NewTemplate and SetNewPrevHash).
use Rattle.std.specs.Prelude.{◌≡◌, ◌≢◌, ℕ, ◌-◌, ◌^◌, ◌%◌, ◌==◌, true, false, Bool, if◌then◌else◌, Option, None, Some, Result, Ok, Err, List, [], ◌∷◌, ◌++◌, length, min}
use Rattle.std.specs.List.{AllByRecursion}
use Rattle.sv2_types.specs.Fields.{FieldValue, Parts}
use Rattle.sv2_frames.specs.Framing.{FrameValue, IsFrame, frame_bytes}
use Rattle.sv2_frames.specs.Stream.{stream_of}
use Rattle.sv2_messages.specs.declared.kinds.TheConstants as kinds
use Rattle.sv2_messages.specs.declared.error.MsgError.{MsgError}
use Rattle.sv2_messages.specs.Reading.{values_of}
use Rattle.sv2_messages.specs.Tables.{template_table}
use Rattle.template_msgs.specs.declared.templates.SetNewPrevHash.{SetNewPrevHash}
use Rattle.test_miner.specs.declared.script.ScriptError.{ScriptError}
use Rattle.test_miner.specs.declared.script.ScriptError.TheVariants.{Bad, Memory}
use Rattle.test_miner.specs.declared.script.ScriptTemplate.{ScriptTemplate}
use Rattle.test_miner.specs.Notices.{bytes_in, field_in, number_in}
use Rattle.test_miner.specs.ScriptValues.{ScriptValue}

-- what a frame of a script brings
pub data Entry : Type 0 where
  NewTemplate : ScriptTemplate → Entry
  Tip : SetNewPrevHash → Entry
  NoEntry : Entry

-- the hashes that a field is
abbrev pub parts_in : FieldValue → List (List ℕ)
parts_in (Parts parts) = parts
parts_in _ = []

-- what a message brings, by its kind and its fields
abbrev pub entry_of : ℕ → List FieldValue → Entry
entry_of kind fields =
    if kind == kinds.NEW_TEMPLATE
    then NewTemplate (record {
      id = number_in (field_in 0 fields);
      path = parts_in (field_in 10 fields);
    })
    else if kind == kinds.TEMPLATE_SET_NEW_PREV_HASH
    then Tip (record {
      template_id = number_in (field_in 0 fields);
      prev_hash = bytes_in (field_in 1 fields);
      header_timestamp = number_in (field_in 2 fields);
      nbits = number_in (field_in 3 fields);
      target = bytes_in (field_in 4 fields);
    })
    else NoEntry

abbrev pub entry_by : ℕ → Result (List FieldValue) MsgError → Entry
entry_by kind (Ok fields) = entry_of kind fields
entry_by kind (Err error) = NoEntry

-- what a payload brings
unfoldable pub entry_spelled : ℕ → List ℕ → Entry
entry_spelled kind payload = entry_by kind (values_of template_table kind payload)

-- what a frame brings; one with another extension bit than the channel bit brings nothing
abbrev pub entry_in : FrameValue → Entry
entry_in frame =
    if frame.ext % 0x8000 == 0 then entry_spelled frame.kind frame.payload else NoEntry

-- it brings something
abbrev pub is_entry : Entry → Bool
is_entry (NewTemplate template) = true
is_entry (Tip tip) = true
is_entry NoEntry = false

-- a frame of a script
abbrev pub IsScriptFrame : FrameValue → Type 0
IsScriptFrame frame = is_entry (entry_in frame) ≡ true

-- a script and what one frame more brings
abbrev pub with_entry : Entry → ScriptValue → ScriptValue
with_entry (NewTemplate template) script =
    record script { templates = script.templates ++ template ∷ [] }
with_entry (Tip tip) script = record script { tip = Some tip }
with_entry NoEntry script = script

abbrev pub with_frames : List FrameValue → ScriptValue → ScriptValue
with_frames [] script = script
with_frames (frame ∷ frames) script = with_frames frames (with_entry (entry_in frame) script)

-- the script of these bytes, which are these frames
abbrev pub script_of : List ℕ → List FrameValue → ScriptValue
script_of bytes frames = with_frames frames (record { bytes = bytes; templates = []; tip = None })

-- the bytes are frames of a script, and then a rest
pub record BeginsScript (bytes : List ℕ) (frames : List FrameValue) (rest : List ℕ) : Type 0 where
  pub each : AllByRecursion IsFrame frames
  pub brings : AllByRecursion IsScriptFrame frames
  pub stream : bytes ≡ stream_of frames rest

-- no frame of a script begins the bytes
abbrev pub BeginsNoScriptFrame : List ℕ → Type 0
BeginsNoScriptFrame rest =
    (rest ≢ []) × ((frame : FrameValue) (more : List ℕ) → IsFrame frame → IsScriptFrame frame
    → rest ≡ frame_bytes frame ++ more → ⊥)

-- the bytes are a script; or their first frame that is none of a script's has this number, which
-- stands still at 2^64 - 1
abbrev pub ReadsScript : List ℕ → Result ScriptValue ScriptError → Type 0
ReadsScript bytes (Ok script) =
    (frames : List FrameValue) × BeginsScript bytes frames [] × (script ≡ script_of bytes frames)
ReadsScript bytes (Err (Bad number)) =
    (frames : List FrameValue) × (rest : List ℕ) × BeginsScript bytes frames rest
    × BeginsNoScriptFrame rest × (number ≡ min (length frames) (2 ^ 64 - 1))
ReadsScript bytes (Err Memory) = Unit {0}
