use Rattle.std.proofs.Common.{sym, ◌∙◌, arith}
use Rattle.template_msgs.specs.Seen.{template_message}
use Rattle.test_miner.proofs.Meant.{solution_meant, no_solution_meant}
use Rattle.test_miner.proofs.feed.FeedCourse.solve.Goals as goal

pub returns-in-Ok : goal.returns-in-Ok
returns-in-Ok c =
    let found = rw c.in-Ok.is at c.read-read.ensures.found in
    rw (solution_meant c.args.kind c.args.payload.now (template_message c.in-Ok.message) c.args.self.now found) c.take_message.ensures

pub returns-in-Err : goal.returns-in-Err
returns-in-Err c =
    let none = no_solution_meant template_message c.read-read.result _ c.args.kind c.args.payload.now c.args.self.now (λ i. omega (arith, c.type_inv.payload i)) c.in-Err.is c.read-read.ensures.only in
    c.refuse.ensures ∙ sym none
