use Rattle.std.proofs.Common.{◌≡◌, ◌+◌, ◌<◌, length, ap, arith, subst, ◌∙◌}
use Rattle.pool_history.specs.Jobs.{last}
use Rattle.template_jobs.proofs.Listed.{first-dropped, one-more}
use Rattle.template_jobs.proofs.lists.put_last.Goals as goal

pub returns-then-as_slice-most-clause-items : goal.returns-then-as_slice-most-clause-items
returns-then-as_slice-most-clause-items c =
    let long : length c.put.new.jobs.items ≡ length c.args.jobs.now.items + 1 = ap length c.put.ensures.items ∙ one-more c.args.jobs.now.items c.args.job in
    let seen : length c.as_slice.result.now ≡ length c.put.new.jobs.items = ap length c.as_slice.ensures.value in
    let more : c.args.most < length c.put.new.jobs.items = subst (λ n. c.args.most < n) seen c.if-as_slice-most.true in
    c.remove.ensures.items ∙ first-dropped c.args.most c.put.new.jobs.items more (omega (arith, long, c.requires.few)) ∙ ap (last c.args.most) c.put.ensures.items
