use Rattle.std.proofs.Common.{◌≤◌, ap, subst, sym}
use Rattle.std.proofs.lemmas.Result.{on_ok_weaker}
use Rattle.channels.specs.Tables.{count_kept, room_of_list}
use Rattle.channels.proofs.Ordering.{lookup-mapped}
use Rattle.channels.proofs.table.Channels.make_room.Goals as goal

pub returns-clause-listed : goal.returns-clause-listed
returns-clause-listed c =
    on_ok_weaker c.reserve-2.result
    (λ room. subst (λ n. 1 ≤ n) (sym (ap count_kept (lookup-mapped room_of_list c.args.session c.reserve_listing.new.lists.entries)))
    c.in_ok-reserve_listing.ensures.room)
    c.reserve-2.ensures.room
