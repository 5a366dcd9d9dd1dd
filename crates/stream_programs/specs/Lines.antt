-- The lines that are printed (this project's own).
use Rattle.std.specs.Prelude.{ℕ, ◌+◌, ◌%◌, ◌==◌, if◌then◌else◌, Option, None, Some, List, [], ◌∷◌, ◌++◌, length, codes, decimal}
use Rattle.std.specs.Int.{w16, to_be_bytes}
use Rattle.hex.specs.Hex.{encode_lower}
use Rattle.sv2_types.specs.declared.error.ReadError.{ReadError}
use Rattle.sv2_types.specs.declared.error.ReadError.TheVariants.{Short, LengthTooGreat, NotUtf8, CountTooGreat}
use Rattle.sv2_frames.specs.Framing.{FrameValue}
use Rattle.sv2_messages.specs.declared.error.MsgError.{MsgError}
use Rattle.sv2_messages.specs.declared.error.MsgError.TheVariants.{UnknownKind, BadField, Trailing}
use Rattle.stream_programs.specs.declared.flaw.Flaw.{Flaw}
use Rattle.stream_programs.specs.declared.flaw.Flaw.TheVariants.{Payload, Length, Cut}
use Rattle.sv2_messages.specs.Tables.{name_of}

-- a name, or a dash where there is none
abbrev pub or_dash : Option (List ℕ) → List ℕ
or_dash None = codes "-"
or_dash (Some name) = name

-- the name that a frame is listed with
abbrev pub name_for : ℕ → ℕ → List ℕ
name_for ext kind = if ext % 0x8000 == 0 then or_dash (name_of kind) else codes "-"

-- the line of a frame: its number, its extension type and kind, most significant digit first, its
-- length and its name
abbrev pub frame_line : ℕ → FrameValue → List ℕ
frame_line number frame =
    codes "frame " ++ decimal number
    ++ codes " ext " ++ encode_lower (to_be_bytes w16 frame.ext)
    ++ codes " kind " ++ encode_lower (frame.kind ∷ [])
    ++ codes " length " ++ decimal (length frame.payload)
    ++ codes " " ++ name_for frame.ext frame.kind ++ codes "\n"

-- why a field can't be read
abbrev pub cause : ReadError → List ℕ
cause Short = codes "short"
cause LengthTooGreat = codes "length"
cause NotUtf8 = codes "utf8"
cause CountTooGreat = codes "count"

-- what is wrong with a payload; a kind that isn't there is no flaw
abbrev pub defect_words : MsgError → List ℕ
defect_words (UnknownKind kind) = []
defect_words (BadField place reason) = codes " field " ++ decimal place ++ codes " " ++ cause reason
defect_words (Trailing count) = codes " trailing " ++ decimal count

-- why the listing goes no further
abbrev pub flaw_words : Flaw → List ℕ
flaw_words (Payload error) = defect_words error
flaw_words (Length len) = codes " length " ++ decimal len
flaw_words (Cut count) = codes " cut " ++ decimal count

-- the last line, where the listing goes no further
abbrev pub bad_line : ℕ → Flaw → List ℕ
bad_line number flaw = codes "bad " ++ decimal number ++ flaw_words flaw ++ codes "\n"

-- the lines of frames that are numbered from this number on
abbrev pub lines_from : ℕ → List FrameValue → List ℕ
lines_from number [] = []
lines_from number (frame ∷ frames) = frame_line number frame ++ lines_from (number + 1) frames

-- the lines of frames
abbrev pub lines_of : List FrameValue → List ℕ
lines_of frames = lines_from 0 frames
