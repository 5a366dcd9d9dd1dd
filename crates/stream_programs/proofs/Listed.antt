-- Lines of frames, and frames of bytes.
use Rattle.std.proofs.Common.{◌≡◌, ℕ, ◌+◌, ◌<◌, ◌≤◌, List, [], ◌∷◌, ◌++◌, length, sym, ap, ◌∙◌, append_assoc, append-nil, arith, length-append, inl, inr}
use Rattle.std.specs.List.{flat_map, AllByRecursion}
use Rattle.sv2_frames.specs.Framing.{FrameValue, frame_bytes, header_of, IsFrame, payload_length}
use Rattle.sv2_frames.specs.Holding.{Holding, frame_end, IsCutWithin}
use Rattle.sv2_frames.specs.Stream.{stream_of}
use Rattle.sv2_frames.proofs.Cutting.{payload_length-header}
use Rattle.sv2_frames.proofs.Fronts.{fronts_agree}
use Rattle.sv2_frames.proofs.Handing.{stream_of-push}
use Rattle.sv2_frames.proofs.Standing.{frame_end-over}
use Rattle.std.proofs.lemmas.Bool.{cases_lt}
use Rattle.stream_programs.specs.Listing.{payload_limit, IsGood, ListsFrames, IsPartialFrame}
use Rattle.stream_programs.specs.Lines.{frame_line, lines_from, lines_of}

-- one frame more is one line more
lines_from-push : (number : ℕ) (frames : List FrameValue) (frame : FrameValue)
    → lines_from number (frames ++ frame ∷ []) ≡ lines_from number frames ++ frame_line (number + length frames) frame
lines_from-push number [] frame =
    let same : number ≡ number + 0 = omega arith in
    append-nil (frame_line number frame) ∙ ap (λ n. frame_line n frame) same
lines_from-push number (first ∷ frames) frame =
    let same : number + 1 + length frames ≡ number + length (first ∷ frames) = omega arith in
    ap (λ (l : List ℕ). frame_line number first ++ l) (lines_from-push (number + 1) frames frame)
    ∙ sym (append_assoc (frame_line number first) (lines_from (number + 1) frames) (frame_line (number + 1 + length frames) frame))
    ∙ ap (λ n. (frame_line number first ++ lines_from (number + 1) frames) ++ frame_line n frame) same

pub lines_of-push : (frames : List FrameValue) (frame : FrameValue) → lines_of (frames ++ frame ∷ []) ≡ lines_of frames ++ frame_line (length frames) frame
lines_of-push frames frame =
    let same : 0 + length frames ≡ length frames = omega arith in
    lines_from-push 0 frames frame ∙ ap (λ n. lines_of frames ++ frame_line n frame) same

pub all-push : {A : Type 0} (P : A → Type 0) (xs : List A) (x : A) → AllByRecursion P xs → P x → AllByRecursion P (xs ++ x ∷ [])
all-push P [] x all p = (p, tt)
all-push P (y ∷ xs) x all p = (all.0, all-push P xs x all.1 p)

-- what is held is a good frame
pub ListsFrames-push : (seen : List ℕ) (frames : List FrameValue) (frame : FrameValue) → ListsFrames seen frames (frame_bytes frame) → IsFrame frame
    → length frame.payload ≤ payload_limit → IsGood frame → ListsFrames seen (frames ++ frame ∷ []) []
ListsFrames-push seen frames frame lists fits within good = record {
  whole = lists.whole ∙ sym (stream_of-push frames frame);
  each = all-push IsFrame frames frame lists.each fits;
  within = all-push (λ f. length f.payload ≤ payload_limit) frames frame lists.within within;
  good = all-push IsGood frames frame lists.good good;
}

-- there are no more frames than bytes
count_frames : (frames : List FrameValue) (held : List ℕ) → length frames ≤ length (stream_of frames held)
count_frames [] held = omega arith
count_frames (frame ∷ frames) held =
    let split : stream_of (frame ∷ frames) held ≡ frame_bytes frame ++ stream_of frames held = append_assoc (frame_bytes frame) (flat_map frame_bytes frames) held in
    omega (arith, count_frames frames held, ap length split, length-append (frame_bytes frame) (stream_of frames held), length-append (header_of frame.ext frame.kind (length frame.payload)) frame.payload)

pub frames_below : (seen : List ℕ) (frames : List FrameValue) (held : List ℕ) → ListsFrames seen frames held → length frames ≤ length seen
frames_below seen frames held lists = omega (arith, count_frames frames held, ap length lists.whole)

-- less than a frame is held, and no header over the limit
pub partial_from : (holding : Holding) → holding.limit ≡ payload_limit → IsCutWithin holding → length holding.held ≤ frame_end payload_limit holding.held → IsPartialFrame holding.held
partial_from holding taken cut present = record {
  cut = cut.cut;
  within = λ long.
      elim (cases_lt payload_limit (payload_length holding.held)) [
        | inr few ↦ few
        | inl over ↦ absurd (not_over long over)
      ];
}
  where
    not_over : 6 ≤ length holding.held → payload_limit < payload_length holding.held → ⊥
    not_over long over =
        let f = cut.cut.frame in
        let six : length holding.held ≡ 6 = omega (arith, long, present, frame_end-over payload_limit holding.held long over) in
        let same : holding.held ≡ header_of f.ext f.kind (length f.payload) =
        (fronts_agree holding.held (header_of f.ext f.kind (length f.payload)) cut.cut.missing f.payload six cut.cut.whole).0 in
        let says : payload_length holding.held ≡ length f.payload =
        ap payload_length same ∙ payload_length-header f.ext f.kind (length f.payload) [] cut.cut.fits.length_fits in
        cut.not_over (length f.payload) (record {
          ext = f.ext;
          kind = f.kind;
          ext_fits = cut.cut.fits.ext_fits;
          kind_fits = cut.cut.fits.kind_fits;
          length_fits = cut.cut.fits.length_fits;
          over = omega (arith, taken, says, over);
          header = same;
        })
