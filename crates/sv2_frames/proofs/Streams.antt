-- A stream has its frames in one way.
use Rattle.std.proofs.Common.{◌≡◌, ◌⊎◌, ℕ, zero, suc, ◌+◌, ◌*◌, ◌<◌, ◌≤◌, ◌^◌, List, [], ◌∷◌, ◌++◌, length, drop, take, refl, sym, ap, ◌∙◌, inl, inr, arith}
use Rattle.std.specs.List.{flat_map}
use Rattle.std.proofs.lemmas.Bool.{cases_lt}
use Rattle.std.proofs.lemmas.List.{append_assoc, append-nil, length-append, length-take-le, nil_from_length, get_or-drop, take-append-drop}
use Rattle.sv2_frames.specs.Framing.{header_of, FrameValue, frame_bytes, frame_of, IsFrame}
use Rattle.sv2_frames.specs.Holding.{IsCut}
use Rattle.sv2_frames.specs.Stream.{stream_of, AreFramesOf}
use Rattle.sv2_frames.proofs.Fronts.{frames_agree}
use Rattle.sv2_frames.proofs.Cutting.{IsBytes, header_again, cut_short, cut_behind_header}

abbrev made : ℕ → ℕ → List ℕ → FrameValue
made ext kind payload = record { ext = ext; kind = kind; payload = payload }

-- bytes that begin with two frames begin with one
pub heads_agree : (f g : FrameValue) (x y : List ℕ) → IsFrame f → IsFrame g → frame_bytes f ++ x ≡ frame_bytes g ++ y → (f ≡ g) × (x ≡ y)
heads_agree f g x y fits fits' same =
    let parts = frames_agree f.ext f.kind g.ext g.kind f.payload g.payload x y fits fits' same in
    (ap (λ e. made e f.kind f.payload) parts.0 ∙ ap (λ k. made g.ext k f.payload) parts.1 ∙ ap (λ p. made g.ext g.kind p) parts.2, parts.3)

-- a proper prefix of a frame has no frame at its front
pub cut_has_no_frame : (rest : List ℕ) (f : FrameValue) (more : List ℕ) → IsCut rest → IsFrame f → rest ≡ frame_bytes f ++ more → ⊥
cut_has_no_frame rest f more cut fits same =
    let joined : frame_bytes f ++ (more ++ cut.missing) ≡ frame_bytes cut.frame ++ [] =
    sym (append_assoc (frame_bytes f) more cut.missing) ∙ ap (λ xs. xs ++ cut.missing) (sym same) ∙ cut.whole ∙ sym (append-nil (frame_bytes cut.frame)) in
    let none : more ++ cut.missing ≡ [] = (heads_agree f cut.frame (more ++ cut.missing) [] fits cut.fits joined).1 in
    cut.some (nil_from_length cut.missing (omega (arith, ap length none, length-append more cut.missing)))

pub frames_unique : (bytes : List ℕ) (frames others : List FrameValue) (rest left : List ℕ) → AreFramesOf bytes frames rest
    → AreFramesOf bytes others left → (frames ≡ others) × (rest ≡ left)
frames_unique bytes [] [] rest left one other = (refl, sym one.whole ∙ other.whole)
frames_unique bytes [] (g ∷ others) rest left one other =
    absurd (cut_has_no_frame rest g (stream_of others left) one.cut other.each.0
    (sym one.whole ∙ other.whole ∙ append_assoc (frame_bytes g) (flat_map frame_bytes others) left))
frames_unique bytes (f ∷ frames) [] rest left one other =
    absurd (cut_has_no_frame left f (stream_of frames rest) other.cut one.each.0
    (sym other.whole ∙ one.whole ∙ append_assoc (frame_bytes f) (flat_map frame_bytes frames) rest))
frames_unique bytes (f ∷ frames) (g ∷ others) rest left one other =
    let same : frame_bytes f ++ stream_of frames rest ≡ frame_bytes g ++ stream_of others left =
    sym (append_assoc (frame_bytes f) (flat_map frame_bytes frames) rest) ∙ sym one.whole ∙ other.whole
    ∙ append_assoc (frame_bytes g) (flat_map frame_bytes others) left in
    let heads = heads_agree f g (stream_of frames rest) (stream_of others left) one.each.0 other.each.0 same in
    let tails = frames_unique (stream_of frames rest) frames others rest left
    (record { whole = refl; each = one.each.1; cut = one.cut }) (record { whole = heads.1; each = other.each.1; cut = other.cut }) in
    (ap (λ h. h ∷ frames) heads.0 ∙ ap (λ t. g ∷ t) tails.0, tails.1)

-- bytes are a proper prefix of a frame, or begin with one
first_frame : (bytes : List ℕ) → IsBytes bytes
    → IsCut bytes ⊎ ((f : FrameValue) × (more : List ℕ) × IsFrame f × (bytes ≡ frame_bytes f ++ more) × IsBytes more)
first_frame [] fits = inl (cut_short [] fits (omega arith))
first_frame (a ∷ []) fits = inl (cut_short (a ∷ []) fits (omega arith))
first_frame (a ∷ b ∷ []) fits = inl (cut_short (a ∷ b ∷ []) fits (omega arith))
first_frame (a ∷ b ∷ k ∷ []) fits = inl (cut_short (a ∷ b ∷ k ∷ []) fits (omega arith))
first_frame (a ∷ b ∷ k ∷ l ∷ []) fits = inl (cut_short (a ∷ b ∷ k ∷ l ∷ []) fits (omega arith))
first_frame (a ∷ b ∷ k ∷ l ∷ m ∷ []) fits = inl (cut_short (a ∷ b ∷ k ∷ l ∷ m ∷ []) fits (omega arith))
first_frame (a ∷ b ∷ k ∷ l ∷ m ∷ h ∷ tail) fits =
    let bytes : List ℕ = a ∷ b ∷ k ∷ l ∷ m ∷ h ∷ tail in
    let ext : ℕ = a + 256 * b in
    let len : ℕ = l + 256 * m + 65536 * h in
    let ext_fits : ext < 2 ^ 16 = omega (arith, fits 0, fits 1) in
    let len_fits : len < 2 ^ 24 = omega (arith, fits 3, fits 4, fits 5) in
    let tail_fits : IsBytes tail = λ i. fits (suc (suc (suc (suc (suc (suc i)))))) in
    let header : bytes ≡ header_of ext k len ++ tail = header_again a b k l m h tail (fits 0) (fits 1) (fits 3) (fits 4) (fits 5) in
    elim (cases_lt (length tail) len) [
      | inl short ↦ inl (cut_behind_header ext k len bytes ext_fits (fits 2) len_fits header short)
      | inr long ↦
          let payload : List ℕ = take len tail in
          let whole : length payload ≡ len = length-take-le len tail long in
          let split : bytes ≡ frame_of ext k payload ++ drop len tail =
          header ∙ ap (λ xs. header_of ext k len ++ xs) (sym (take-append-drop len tail))
          ∙ ap (λ n. header_of ext k n ++ (payload ++ drop len tail)) (sym whole) in
          inr (
            made ext k payload,
            drop len tail,
            record { ext_fits = ext_fits; kind_fits = fits 2; length_fits = omega (arith, whole, len_fits) },
            split,
            λ i. rw get_or-drop (tail_fits (len + i)),
          )
    ]

-- by the length of the stream
pub frames_exist : (fuel : ℕ) (bytes : List ℕ) → length bytes ≤ fuel → IsBytes bytes
    → (frames : List FrameValue) × (rest : List ℕ) × AreFramesOf bytes frames rest
frames_exist zero bytes short fits = ([], bytes, record { whole = refl; each = tt; cut = cut_short bytes fits (omega arith) })
frames_exist (suc fuel) bytes short fits =
    elim (first_frame bytes fits) [
      | inl cut ↦ ([], bytes, record { whole = refl; each = tt; cut = cut })
      | inr found ↦
          let f : FrameValue = found.0 in
          let len : length bytes ≡ length (frame_bytes f) + length found.1 = ap length found.3 ∙ length-append (frame_bytes f) found.1 in
          let more = frames_exist fuel found.1 (omega (arith, len)) found.4 in (
            f ∷ more.0,
            more.1,
            record {
              whole = found.3 ∙ ap (λ xs. frame_bytes f ++ xs) more.2.whole ∙ sym (append_assoc (frame_bytes f) (flat_map frame_bytes more.0) more.1);
              each = (found.2, more.2.each);
              cut = more.2.cut;
            },
          )
    ]
