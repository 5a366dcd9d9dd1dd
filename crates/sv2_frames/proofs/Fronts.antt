-- Lists that begin alike.
use Rattle.std.proofs.Common.{◌≡◌, ℕ, ◌<◌, ◌^◌, ◌%◌, ◌/◌, List, ◌++◌, length, take, drop, sym, ap, ◌∙◌, refl, arith}
use Rattle.std.proofs.lemmas.List.{take_at, drop_at}
use Rattle.sv2_frames.specs.Framing.{frame_of, FrameFits}

-- two fronts of one length are one
pub fronts_agree : (p q x y : List ℕ) → length p ≡ length q → p ++ x ≡ q ++ y → (p ≡ q) × (x ≡ y)
fronts_agree p q x y len e = (
  sym (take_at p x (length p) refl) ∙ ap (take (length p)) e ∙ take_at q y (length p) (sym len),
  sym (drop_at p x (length p) refl) ∙ ap (drop (length p)) e ∙ drop_at q y (length p) (sym len),
)

-- bytes that begin with two frames begin with one and the same
pub frames_agree : (e k e' k' : ℕ) (p p' x y : List ℕ) → FrameFits e k p → FrameFits e' k' p'
    → frame_of e k p ++ x ≡ frame_of e' k' p' ++ y → (e ≡ e') × (k ≡ k') × (p ≡ p') × (x ≡ y)
frames_agree e k e' k' p p' x y fits fits' same =
    let e_low : e % 256 ≡ e' % 256 = cc in
    let e_high : e / 256 % 256 ≡ e' / 256 % 256 = cc in
    let kinds : k ≡ k' = cc in
    let low : length p % 256 ≡ length p' % 256 = cc in
    let middle : length p / 256 % 256 ≡ length p' / 256 % 256 = cc in
    let high : length p / 65536 % 256 ≡ length p' / 65536 % 256 = cc in
    let payloads : p ++ x ≡ p' ++ y = cc in
    let bound : length p < 2 ^ 24 = fits.length_fits in
    let bound' : length p' < 2 ^ 24 = fits'.length_fits in
    let lengths : length p ≡ length p' = omega arith in
    let parts = fronts_agree p p' x y lengths payloads in
    (omega (arith, fits.ext_fits, fits'.ext_fits), kinds, parts.0, parts.1)
