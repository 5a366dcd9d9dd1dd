-- Bytes are good frames in one way, up to where they go no further.
use Rattle.std.proofs.Common.{◌≡◌, ℕ, ◌≤◌, List, [], ◌∷◌, ◌++◌, length, refl, sym, ap, subst, ◌∙◌, append_assoc, arith, length-append}
use Rattle.std.specs.List.{flat_map, AllByRecursion}
use Rattle.sv2_frames.specs.Framing.{FrameValue, frame_bytes, header_of, IsFrame, payload_length}
use Rattle.sv2_frames.specs.Stream.{stream_of, AreWithin}
use Rattle.sv2_frames.proofs.Cutting.{payload_length-header}
use Rattle.sv2_frames.proofs.Streams.{heads_agree, cut_has_no_frame}
use Rattle.sv2_frames.proofs.Standing.{nothing_is_cut}
use Rattle.stream_programs.specs.declared.flaw.Flaw.{Flaw}
use Rattle.stream_programs.specs.declared.flaw.Flaw.TheVariants.{Payload, Length, Cut}
use Rattle.stream_programs.specs.Listing.{payload_limit, IsGood, ListsFrames, IsPartialFrame, IsFlawed}

-- nothing was seen
pub ListsFrames-none : ListsFrames [] [] []
ListsFrames-none = record { whole = refl; each = tt; within = tt; good = tt }

-- bytes more are held
pub ListsFrames-more : (seen : List ℕ) (frames : List FrameValue) (held more : List ℕ)
    → ListsFrames seen frames held → ListsFrames (seen ++ more) frames (held ++ more)
ListsFrames-more seen frames held more lists = record {
  whole = ap (λ (l : List ℕ). l ++ more) lists.whole
      ∙ append_assoc (flat_map frame_bytes frames) held more;
  each = lists.each;
  within = lists.within;
  good = lists.good;
}

-- nothing is held
pub partial_none : IsPartialFrame []
partial_none = record {
  cut = (nothing_is_cut payload_limit).cut;
  within = λ long. absurd
      (omega arith);
}

-- no good frame within the limit begins these bytes
abbrev pub BeginsNoGoodFrame : List ℕ → Type 0
BeginsNoGoodFrame rest = (frame : FrameValue) (more : List ℕ) → IsFrame frame
    → length frame.payload ≤ payload_limit → IsGood frame → rest ≡ frame_bytes frame ++ more → ⊥

reading : (frames others : List FrameValue) (rest left : List ℕ)
    → stream_of frames rest ≡ stream_of others left
    → AllByRecursion IsFrame frames → AllByRecursion IsFrame others
    → AreWithin payload_limit frames → AreWithin payload_limit others
    → AllByRecursion IsGood frames → AllByRecursion IsGood others → BeginsNoGoodFrame rest
    → BeginsNoGoodFrame left → (frames ≡ others) × (rest ≡ left)
reading [] [] rest left same each others_each within others_within good others_good none
    none_left = (refl, same)
reading [] (g ∷ others) rest left same each others_each within others_within good others_good none
    none_left =
    absurd (none g (stream_of others left) others_each.0 others_within.0 others_good.0
    (same ∙ append_assoc (frame_bytes g) (flat_map frame_bytes others) left))
reading (f ∷ frames) [] rest left same each others_each within others_within good others_good none
    none_left =
    absurd (none_left f (stream_of frames rest) each.0 within.0 good.0
    (sym same ∙ append_assoc (frame_bytes f) (flat_map frame_bytes frames) rest))
reading (f ∷ frames) (g ∷ others) rest left same each others_each within others_within good
    others_good none none_left =
    let heads = heads_agree f g (stream_of frames rest) (stream_of others left) each.0 others_each.0
    (sym (append_assoc (frame_bytes f) (flat_map frame_bytes frames) rest) ∙ same
    ∙ append_assoc (frame_bytes g) (flat_map frame_bytes others) left) in
    let tails = reading frames others rest left heads.1 each.1 others_each.1 within.1
    others_within.1 good.1 others_good.1 none none_left in
    (ap (λ h. h ∷ frames) heads.0 ∙ ap (λ t. g ∷ t) tails.0, tails.1)

pub one_listing : (bytes : List ℕ) (frames others : List FrameValue) (rest left : List ℕ)
    → ListsFrames bytes frames rest → ListsFrames bytes others left
    → BeginsNoGoodFrame rest → BeginsNoGoodFrame left → (frames ≡ others) × (rest ≡ left)
one_listing bytes frames others rest left one other none none_left =
    reading frames others rest left (sym one.whole ∙ other.whole) one.each other.each one.within
    other.within one.good other.good none none_left

pub none_empty : BeginsNoGoodFrame []
none_empty frame more fits within good same = cc

pub none_partial : (held : List ℕ) → IsPartialFrame held → BeginsNoGoodFrame held
none_partial held partial frame more fits within good same = cut_has_no_frame held frame more
    partial.cut fits same

-- the length that a frame's header says
frame_says : (frame : FrameValue) (more : List ℕ) → IsFrame frame
    → payload_length (frame_bytes frame ++ more) ≡ length frame.payload
frame_says frame more fits =
    ap payload_length (append_assoc (header_of frame.ext frame.kind (length frame.payload))
    frame.payload more)
    ∙ payload_length-header frame.ext frame.kind (length frame.payload) (frame.payload ++ more)
    fits.length_fits

pub none_flawed : (flaw : Flaw) (held more : List ℕ) → IsFlawed flaw held
    → BeginsNoGoodFrame (held ++ more)
none_flawed (Payload error) held more flawed frame later fits within good same =
    let heads = heads_agree frame flawed.frame later more fits flawed.fits
    (sym same ∙ ap (λ (l : List ℕ). l ++ more) flawed.whole) in
    subst (λ (f : FrameValue). IsGood f) heads.0 good error flawed.bad
none_flawed (Length len) held more flawed frame later fits within good same =
    let says : payload_length (held ++ more) ≡ len =
    ap (λ (l : List ℕ). payload_length (l ++ more)) flawed.header
    ∙ payload_length-header flawed.ext flawed.kind len more flawed.length_fits in
    let other : payload_length (held ++ more) ≡ length frame.payload = ap payload_length same
    ∙ frame_says frame later fits in
    omega (arith, says, other, within, flawed.over)
none_flawed (Cut count) held more flawed frame later fits within good same = absurd flawed

-- a flawed front has six bytes at least
pub flawed_long : (flaw : Flaw) (held : List ℕ) → IsFlawed flaw held → 6 ≤ length held
flawed_long (Payload error) held flawed =
    let f = flawed.frame in
    omega (
      arith,
      ap length flawed.whole,
      length-append (header_of f.ext f.kind (length f.payload))
          f.payload,
    )
flawed_long (Length len) held flawed = omega (arith, ap length flawed.header)
flawed_long (Cut count) held flawed = absurd flawed

-- a part of a frame has no flawed front
pub partial_not_flawed : (flaw : Flaw) (held stop more : List ℕ) → IsPartialFrame held
    → IsFlawed flaw stop → held ≡ stop ++ more → ⊥
partial_not_flawed (Payload error) held stop more partial flawed same =
    cut_has_no_frame held flawed.frame more partial.cut flawed.fits
    (same ∙ ap (λ (l : List ℕ). l ++ more) flawed.whole)
partial_not_flawed (Length len) held stop more partial flawed same =
    let says : payload_length held ≡ len =
    ap payload_length same ∙ ap (λ (l : List ℕ). payload_length (l ++ more)) flawed.header
    ∙ payload_length-header flawed.ext flawed.kind len more flawed.length_fits in
    let long : 6 ≤ length held = omega (
      arith,
      ap length same,
      length-append stop more,
      ap length
          flawed.header,
    ) in
    omega (arith, says, flawed.over, partial.within long)
partial_not_flawed (Cut count) held stop more partial flawed same = absurd flawed
