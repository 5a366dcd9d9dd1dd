-- The bytes that aren't met decide what comes of them.
use Rattle.std.proofs.Common.{◌≡◌, ℕ, ◌+◌, ◌≤◌, ◌<◌, List, [], ◌++◌, length, refl, sym, ap, subst, ◌∙◌, append_assoc, append-nil, length-append, arith}
use Rattle.std.proofs.lemmas.List.{nil_from_length}
use Rattle.sv2_frames.specs.Framing.{header_of, payload_length}
use Rattle.sv2_frames.specs.Holding.{IsCutWithin, frame_end}
use Rattle.sv2_frames.proofs.Cutting.{payload_length-header}
use Rattle.sv2_frames.proofs.Standing.{frame_end-over}
use Rattle.sv2_frames.proofs.Streams.{cut_has_no_frame, heads_agree}
use Rattle.session_steps.specs.Laws.{AllBytesDecide}
use Rattle.session_steps.specs.States.{State}
use Rattle.session_steps.specs.Steps.{BeginsOver, CanMeet, Met, most_of}

-- the length that bytes say, where they begin with a header over the limit, and with a frame
over-says : (most len : ℕ) (bytes : List ℕ) → BeginsOver most len bytes → payload_length bytes ≡ len
over-says most len bytes begins =
    ap payload_length begins.header ∙ payload_length-header begins.ext begins.kind len begins.more begins.length_fits

frame-says : (s : State) (met : Met) → CanMeet s met → payload_length s.unmet ≡ length met.frame.payload
frame-says s met meets =
    ap payload_length (meets.whole ∙ append_assoc (header_of met.frame.ext met.frame.kind (length met.frame.payload)) met.frame.payload met.rest)
    ∙ payload_length-header met.frame.ext met.frame.kind (length met.frame.payload) (met.frame.payload ++ met.rest) meets.fits.length_fits

pub all_decide : AllBytesDecide
all_decide s = record {
  one_frame = λ one other meets meets'. heads_agree one.frame other.frame one.rest other.rest meets.fits meets'.fits (sym meets.whole ∙ meets'.whole);
  one_length = λ len len' over over'. sym (over-says (most_of s) len s.unmet over.begins) ∙ over-says (most_of s) len' s.unmet over'.begins;
  frame_or_header = λ met len meets over.
      let same : length met.frame.payload ≡ len = sym (frame-says s met meets) ∙ over-says (most_of s) len s.unmet over.begins in
      let most : length met.frame.payload ≤ most_of s = meets.within in
      let above : most_of s < len = over.begins.over in
      omega (arith, same, most, above);
  frame_or_wait = λ met waits meets. cut_has_no_frame s.unmet met.frame met.rest waits.cut meets.fits meets.whole;
  header_or_wait = λ len waits over. waits.not_over len over.begins;
}

-- a splitter that holds a part of a frame, and no more than up to where the frame or a header over the limit ends, holds no header over the limit
pub held_waits : (most : ℕ) (held : List ℕ) → IsCutWithin (record { held = held; limit = most }) → length held ≤ frame_end most held
    → (len : ℕ) → ¬ BeginsOver most len held
held_waits most held cut ends len begins =
    let says : payload_length held ≡ len = over-says most len held begins in
    let six : length (header_of begins.ext begins.kind len) ≡ 6 = refl in
    let parts : length held ≡ length (header_of begins.ext begins.kind len) + length begins.more =
    ap length begins.header ∙ length-append (header_of begins.ext begins.kind len) begins.more in
    let long : 6 ≤ length held = omega (arith, parts, six) in
    let above : most < payload_length held = subst (λ n. most < n) (sym says) begins.over in
    let end : frame_end most held ≡ 6 = frame_end-over most held long above in
    let none : length begins.more ≡ 0 = omega (arith, parts, six, end, ends) in
    let empty : begins.more ≡ [] = nil_from_length begins.more none in
    cut.not_over len (record {
      ext = begins.ext;
      kind = begins.kind;
      ext_fits = begins.ext_fits;
      kind_fits = begins.kind_fits;
      length_fits = begins.length_fits;
      over = begins.over;
      header = begins.header ∙ ap (λ (l : List ℕ). header_of begins.ext begins.kind len ++ l) empty ∙ append-nil (header_of begins.ext begins.kind len);
    })
