use Rattle.std.proofs.Common.{◌≡◌, All, length, sym, subst, ap, ◌∙◌, arith}
use Rattle.desk.proofs.Done.{done_written, paired_all, parts_long}
use Rattle.desk.proofs.running.tend_parts.Goals as goal

pub tend_each-requires-clause-some : goal.tend_each-requires-clause-some
tend_each-requires-clause-some g c κs within =
    let long = ap (λ l. length l) (c.as_mut_slice.ensures.value ∙ c.pair.ensures.paired)
    ∙ parts_long c.args.tasks.now.items c.args.passes.now.items (omega (arith, c.args.passes.now.ok.0, c.args.tasks.now.ok.0, c.requires.as_many)) in
    omega (arith, long, c.args.tasks.now.ok.0, c.requires.some)

pub tend_each-requires-clause-desk : goal.tend_each-requires-clause-desk
tend_each-requires-clause-desk g c κs within =
    subst (λ l. All (λ part. part.1.table ≡ c.args.desk.now.table) l) (sym c.as_mut_slice.ensures.value)
    (paired_all (λ pass. pass.table ≡ c.args.desk.now.table) c.args.tasks.now.items c.args.passes.now.items c.pair.new.parts.items c.pair.ensures.paired c.requires.desk)

pub unpair-requires-clause-room : goal.unpair-requires-clause-room
unpair-requires-clause-room g c =
    let long = ap (λ l. length l) c.pair.ensures.paired
    ∙ parts_long c.args.tasks.now.items c.args.passes.now.items (omega (arith, c.args.passes.now.ok.0, c.args.tasks.now.ok.0, c.requires.as_many)) in
    let parts = c.pair.new.parts.ok.0 in
    let tasks = c.pair.ensures.tasks.1 in
    let passes = c.pair.ensures.passes.1 in (
      omega (arith, long, parts, tasks, c.args.tasks.now.ok.0, c.args.tasks.now.ok.1),
      omega (arith, long, parts, passes, c.args.passes.now.ok.0, c.args.passes.now.ok.1, c.args.tasks.now.ok.0, c.requires.as_many),
    )

pub returns : goal.returns
returns g c =
    done_written _ c.pair.new.parts.len c.pair.ensures.paired (omega (arith, c.args.passes.now.ok.0, c.args.tasks.now.ok.0, c.requires.as_many)) c.as_mut_slice.ensures.value c.pair.new.parts.ok.0 c.tend_each.ensures
    c.unpair.ensures
