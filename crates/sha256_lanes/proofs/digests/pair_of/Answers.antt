use Rattle.std.proofs.Common.{◌≡◌, ◌∙◌, ◌++◌, [], length, take, drop, replicate, sym, ap, refl, arith, length-append}
use Rattle.std.proofs.lemmas.List.{append-nil, drop_all, take_all, take_at}
use Rattle.std.proofs.lemmas.Slice.{put_mid-paste}
use Rattle.sha256_lanes.proofs.digests.pair_of.Goals as goal

pub returns : goal.returns
returns c =
    let left = c.args.left.now in
    let right = c.args.right.now in
    let first = c.copy_from_slice.new.self in
    let is : first ≡ left = c.copy_from_slice.ensures.after in
    let row = first ++ replicate 32 0 in
    let long : length first ≡ 32 = omega (arith, ap length is, c.told-left) in
    put_mid-paste 32 32 row c.copy_from_slice-2.new.self right 32 c.copy_from_slice-2.ensures.after
    refl (sym c.told-right)
    ∙ (λ t. (take_at first (replicate 32 0) 32 long ∙ is) t ++ take_all 32 right (omega (arith, c.told-right)) t
    ++ drop_all 64 row (omega (arith, long, length-append first (replicate 32 0))) t)
    ∙ append-nil (left ++ right)
