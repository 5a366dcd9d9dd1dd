use Rattle.std.proofs.Common.{List, vec_capacity, length, ◌≤◌, ◌∷◌, ◌++◌, [], inr, sym, subst}
use Rattle.ledger_disk.specs.Memory.{HaveRoom, PastSeen}
use Rattle.ledger_disk.specs.Moments.{Moment, last_content}
use Rattle.ledger_disk.proofs.Rooms.{room_pushed}
use Rattle.ledger_disk.proofs.past.Past.push.Goals as goal

pub invariant_of-self : goal.invariant_of-self
invariant_of-self c =
    let latest = c.self.inside.latest in
    let next : Moment = record { doing = c.args.doing; content = c.args.content.items } in
    let room = vec_capacity c.self.inside.spare in
    let before : length latest.content ≤ room = subst (λ (p : PastSeen). length (last_content p.log) ≤ p.room) (sym c.self.view_is) c.requires.before in
    let fits : length c.args.content.items ≤ room = subst (λ (p : PastSeen). length c.args.content.items ≤ p.room) (sym c.self.view_is) c.requires.room in
    inr
    (subst (λ (m : Moment). HaveRoom room (m ∷ c.push_moment.new.earlier.items)) (sym c.push_moment.ensures.latest)
    (subst (λ (l : List Moment). HaveRoom room (next ∷ l)) (sym c.push_moment.ensures.earlier)
    (room_pushed room c.self.inside.earlier.items latest next c.self.invariant before fits)))
