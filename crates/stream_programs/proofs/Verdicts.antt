-- Which frames are good.
use Rattle.std.proofs.Common.{◌≡◌, ℕ, ◌%◌, Option, None, Some, Result, Err, List, refl}
use Rattle.std.specs.Prelude.{IsErrOf, ◌↔◌}
use Rattle.sv2_types.specs.Fields.{FieldType}
use Rattle.sv2_frames.specs.Framing.{FrameValue}
use Rattle.sv2_messages.specs.declared.error.MsgError.{MsgError}
use Rattle.sv2_messages.specs.declared.error.MsgError.TheVariants.{UnknownKind}
use Rattle.sv2_messages.specs.Messages.{types_of}
use Rattle.sv2_messages.specs.Reading.{IsDefectBy, IsFirstDefect}
use Rattle.sv2_messages.specs.Tables.{all_messages}
use Rattle.stream_programs.specs.Listing.{IsBad, IsGood}

-- a payload that is read, or whose kind isn't there, is good
defect_is_bad : (frame : FrameValue) (e : MsgError) (bad : IsBad frame e) → IsFirstDefect all_messages frame.kind frame.payload e
defect_is_bad frame e bad = rw bad.row bad.defect

pub good_if : (frame : FrameValue) (result : Result Unit MsgError) → ((e : MsgError) → IsErrOf result e ↔ IsFirstDefect all_messages frame.kind frame.payload e)
    → ((e : MsgError) → IsErrOf result e → (k : ℕ) × (e ≡ UnknownKind k)) → IsGood frame
good_if frame result exact only e bad =
    let unknown = only e ((exact e).1 (defect_is_bad frame e bad)) in
    rw unknown.1 at bad.defect

pub bad_if : (frame : FrameValue) (result : Result Unit MsgError) (e : MsgError) → frame.ext % 0x8000 ≡ 0 → ((d : MsgError) → IsErrOf result d ↔ IsFirstDefect all_messages frame.kind frame.payload d)
    → result ≡ Err e → ((k : ℕ) → e ≡ UnknownKind k → ⊥) → IsBad frame e
bad_if frame result e plain exact is known =
    found (types_of all_messages frame.kind) refl ((exact e).0 is)
  where
    found : (row : Option (List FieldType)) → types_of all_messages frame.kind ≡ row → IsDefectBy row frame.kind frame.payload e → IsBad frame e
    found None row defect = absurd (known frame.kind defect)
    found (Some types) row defect = record { plain = plain; types = types; row = row; defect = defect }
