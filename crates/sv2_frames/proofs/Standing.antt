-- What bytes that end where their frame does are.
use Rattle.std.proofs.Common.{◌≡◌, ℕ, ◌+◌, ◌*◌, ◌<◌, ◌≤◌, ◌^◌, List, [], ◌∷◌, ◌++◌, length, min, take, drop, refl, sym, ap, ◌∙◌, inl, inr, arith}
use Rattle.std.proofs.lemmas.Bool.{le-ltb, lt-ltb, cases_lt}
use Rattle.std.proofs.lemmas.List.{append-nil, nil_from_length, get_or-take, get_or_past, length-take, length-append, take-append-drop}
use Rattle.sv2_frames.specs.Framing.{header_of, payload_length}
use Rattle.sv2_frames.specs.Holding.{Holding, frame_end, HoldsFrame, IsHeldFrame, IsFull, IsCutWithin}
use Rattle.sv2_frames.proofs.Cutting.{IsBytes, header_again, payload_length-header, cut_short, short_not_over}
use Rattle.sv2_frames.proofs.Feeding.{frame_end-front, frame_end-least}
use Rattle.sv2_frames.proofs.Streams.{cut_has_no_frame}

pub frame_end-over : (limit : ℕ) (bytes : List ℕ) → 6 ≤ length bytes → limit < payload_length bytes → frame_end limit bytes ≡ 6
frame_end-over limit bytes there over = rw (le-ltb (length bytes) 6 there, lt-ltb limit (payload_length bytes) over) refl

pub frame_end-within : (limit : ℕ) (bytes : List ℕ) → 6 ≤ length bytes → payload_length bytes ≤ limit
    → frame_end limit bytes ≡ 6 + payload_length bytes
frame_end-within limit bytes there within = rw (le-ltb (length bytes) 6 there, le-ltb limit (payload_length bytes) within) refl

pub IsBytes-take : (n : ℕ) (bytes : List ℕ) → IsBytes bytes → IsBytes (take n bytes)
IsBytes-take n bytes fits i =
    elim (cases_lt i n) [
      | inl inside ↦ rw (get_or-take n bytes i 0 inside) (fits i)
      | inr past ↦ rw (get_or_past (take n bytes) i 0 (omega (arith, length-take n bytes))) (omega arith)
    ]

-- bytes that end where their frame does are a frame, or a header over the limit
pub full_stands : (limit : ℕ) (held : List ℕ) → IsBytes held → 6 ≤ length held → length held ≡ frame_end limit held
    → IsFull (record { held = held; limit = limit })
full_stands limit [] fits there full = absurd (omega arith)
full_stands limit (a ∷ []) fits there full = absurd (omega arith)
full_stands limit (a ∷ b ∷ []) fits there full = absurd (omega arith)
full_stands limit (a ∷ b ∷ k ∷ []) fits there full = absurd (omega arith)
full_stands limit (a ∷ b ∷ k ∷ l ∷ []) fits there full = absurd (omega arith)
full_stands limit (a ∷ b ∷ k ∷ l ∷ m ∷ []) fits there full = absurd (omega arith)
full_stands limit (a ∷ b ∷ k ∷ l ∷ m ∷ h ∷ rest) fits there full =
    let held : List ℕ = a ∷ b ∷ k ∷ l ∷ m ∷ h ∷ rest in
    let ext : ℕ = a + 256 * b in
    let len : ℕ = l + 256 * m + 65536 * h in
    let ext_fits : ext < 2 ^ 16 = omega (arith, fits 0, fits 1) in
    let len_fits : len < 2 ^ 24 = omega (arith, fits 3, fits 4, fits 5) in
    let header : held ≡ header_of ext k len ++ rest = header_again a b k l m h rest (fits 0) (fits 1) (fits 3) (fits 4) (fits 5) in
    let says : payload_length held ≡ len = ap payload_length header ∙ payload_length-header ext k len rest len_fits in
    elim (cases_lt limit len) [
      | inl over ↦
          let end = frame_end-over limit held there (omega (arith, says, over)) in
          let none : rest ≡ [] = nil_from_length rest (omega (arith, full, end)) in
          inr (
            len,
            record {
              ext = ext;
              kind = k;
              ext_fits = ext_fits;
              kind_fits = fits 2;
              length_fits = len_fits;
              over = over;
              header = header ∙ ap (λ xs. header_of ext k len ++ xs) none;
            },
          )
      | inr within ↦
          let end = frame_end-within limit held there (omega (arith, says, within)) in
          let whole : length rest ≡ len = omega (arith, full, end, says) in
          inl (record {
            frame = record { ext = ext; kind = k; payload = rest };
            fits = record { ext_fits = ext_fits; kind_fits = fits 2; length_fits = omega (arith, whole, len_fits) };
            within = omega (arith, whole, within);
            whole = header ∙ ap (λ n. header_of ext k n ++ rest) (sym whole);
          })
    ]

-- and the other way round
pub full_is : (limit : ℕ) (held : List ℕ) → IsFull (record { held = held; limit = limit }) → (6 ≤ length held) × (length held ≡ frame_end limit held)
full_is limit held (inl frame) =
    let f = frame.frame in
    let len : length held ≡ 6 + length f.payload = ap length frame.whole ∙ omega arith in
    let says : payload_length held ≡ length f.payload =
    ap payload_length frame.whole ∙ payload_length-header f.ext f.kind (length f.payload) f.payload frame.fits.length_fits in
    let end = frame_end-within limit held (omega (arith, len)) (omega (arith, says, frame.within)) in
    (omega (arith, len), omega (arith, len, says, end))
full_is limit held (inr over) =
    let o = over.1 in
    let len : length held ≡ 6 = ap length o.header in
    let says : payload_length held ≡ over.0 = ap payload_length o.header ∙ payload_length-header o.ext o.kind over.0 [] o.length_fits in
    let end = frame_end-over limit held (omega (arith, len)) (omega (arith, says, o.over)) in
    (omega (arith, len), omega (arith, len, end))

-- what is full is not cut
pub full_not_cut : (holding : Holding) → IsFull holding → IsCutWithin holding → ⊥
full_not_cut holding (inl frame) cut =
    cut_has_no_frame holding.held frame.frame [] cut.cut frame.fits (frame.whole ∙ sym (append-nil _))
full_not_cut holding (inr over) cut = cut.not_over over.0 over.1

-- where what is held is still cut, all of the piece was taken
pub cut_takes_all : (limit taken : ℕ) (held piece new : List ℕ) → new ≡ held ++ take taken piece
    → new ≡ take (frame_end limit (held ++ piece)) (held ++ piece) → taken ≤ length piece → IsBytes new
    → IsCutWithin (record { held = new; limit = limit }) → taken ≡ length piece
cut_takes_all limit taken held piece new bytes ends fits are_bytes cut =
    let all : List ℕ = held ++ piece in
    let end : ℕ = frame_end limit all in
    let len : length new ≡ length held + taken = omega (arith, ap length bytes, length-append held (take taken piece), length-take taken piece) in
    let front : length new ≡ min end (length all) = ap length ends ∙ length-take end all in
    let whole = length-append held piece in
    elim (cases_lt taken (length piece)) [
      | inl left ↦
          let full : length new ≡ end = omega (arith, len, front, whole) in
          let there : 6 ≤ length new = omega (arith, full, frame_end-least limit all) in
          let split : all ≡ new ++ drop end all = sym (take-append-drop end all) ∙ ap (λ xs. xs ++ drop end all) (sym ends) in
          let same : frame_end limit all ≡ frame_end limit new = ap (frame_end limit) split ∙ frame_end-front limit new (drop end all) there in
          absurd (full_not_cut _ (full_stands limit new are_bytes there (full ∙ same)) cut)
      | inr done ↦ omega (arith, fits)
    ]

-- nothing is a proper prefix of a frame
pub nothing_is_cut : (limit : ℕ) → IsCutWithin (record { held = []; limit = limit })
nothing_is_cut limit = record { cut = cut_short [] (λ i. omega arith) (omega arith); not_over = short_not_over _ (omega arith) }

-- a held frame is a frame that is held
pub frame_is_held : (ext kind : ℕ) (payload : List ℕ) (holding : Holding) → IsHeldFrame ext kind payload holding → HoldsFrame holding
frame_is_held ext kind payload holding held =
    record { frame = record { ext = ext; kind = kind; payload = payload }; fits = held.fits; within = held.within; whole = held.whole }
