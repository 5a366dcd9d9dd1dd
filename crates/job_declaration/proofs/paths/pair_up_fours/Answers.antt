use Rattle.std.proofs.Common.{rules, ◌≡◌, ◌∙◌, ◌+◌, ◌-◌, ◌*◌, drop, take, ap, arith}
use Rattle.std.proofs.lemmas.List.{places}
use Rattle.job_declaration.specs.Tree.{row_above}
use Rattle.job_declaration.proofs.Trees.{row_above-fours}
use Rattle.job_declaration.proofs.paths.pair_up_fours.Goals as goal
use borrow.Rule.Slice.PartMut.{put_mid}

pub loop-k-preserved : goal.loop-k-preserved
loop-k-preserved c =
    let k = c.loop-k.k in
    let row = c.loop-k.row in
    let hashes = c.copy_from_slice.new.self in
    let four : 4 * k + 4 - 4 * k ≡ 4 = omega arith in
    let eight : 8 * k + 9 - (8 * k + 1) ≡ 8 = omega arith in (
      search (rules, places),
      row_above-fours (row_above (drop 1 c.args.row.now)) row _ hashes k
          (omega (arith, c.loop-k-test.true, c.loop-k.invariant.0)) c.loop-k.invariant.1
          (c.copy_from_slice.ensures.after ∙ c.hashes_above-hashes.ensures
          ∙ ap (λ n. row_above (take n (drop (8 * k + 1) row))) eight)
          (ap (λ n. put_mid (4 * k) n row hashes) four),
    )
