use Rattle.std.proofs.Common.{◌≡◌, ◌∙◌, ◌/◌, ◌*◌, ◌%◌, ◌^◌, ◌-◌, sym, arith, bit_or, slice_index}
use Rattle.std.proofs.lemmas.Simd.{shifts_fit_splat}
use Rattle.sha256_lanes.proofs.LaneFacts.{at_operator, at_splat, at_self}
use Rattle.sha256_lanes.proofs.functions.rotate_right.Goals as goal

pub overflow_shr-result : goal.overflow_shr-result
overflow_shr-result c = shifts_fit_splat 32 c.args.x 4 c.args.by (omega arith)

pub overflow_shl-result : goal.overflow_shl-result
overflow_shl-result c = shifts_fit_splat 32 c.args.x 4 (32 - c.args.by) (omega arith)

pub returns : goal.returns
returns c = λ l lt.
    let x = at_self c.args.x l c.fits-x.0 in
    let k = c.args.by in
    let right : k % 32 ≡ k = omega arith in
    let left : (32 - k % 32) % 32 ≡ 32 - k = omega arith in
    (at_operator _ lt (at_operator _ lt x (at_splat k l lt)) (at_operator _ lt x (at_splat (32 - k) l lt))).value
    ∙ (λ i. bit_or (slice_index c.args.x l / 2 ^ sym right i) ((slice_index c.args.x l * 2 ^ sym left i) % 2 ^ 32))
