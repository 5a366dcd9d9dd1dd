use Rattle.std.proofs.Common.{List, ℕ, [], ap, ◌∙◌}
use Rattle.ledger_disk.specs.Memory.{PastSeen}
use Rattle.ledger_disk.specs.Moments.{Moment}
use Rattle.ledger_disk.proofs.LeftBehind.{left_last}
use Rattle.ledger_disk.proofs.past.Past.left.Goals as goal

pub returns : goal.returns
returns c =
    let moment : List ℕ → Moment = λ l. record { doing = c.latest.inside.doing; content = l } in
    left_last c.self.inside.earlier.items c.deref.result.now c.deref.ensures.value
    (moment c.deref-2.result.now) c.self.inside.latest (ap moment c.deref-2.ensures.value ∙ c.latest.view_is)
    c.args.self.log (ap (λ (p : PastSeen). p.log) c.self.view_is)
    c.tear_all-last_pick.new.left.items c.tear.new.left.items
    (c.tear_all-last_pick.ensures.left [] c.clear.ensures.items) c.tear.ensures.left
