use Rattle.std.proofs.Common.{refl, arith}
use Rattle.door_threads.proofs.Lists.{listed_long}
use Rattle.pool_server.proofs.Whole.{has_served, long_parts, whole_parts}
use Rattle.pool_server.proofs.doors.run.Goals as goal

pub tend_all-book-requires-clause-some : goal.tend_all-book-requires-clause-some
tend_all-book-requires-clause-some g c =
    let long = listed_long c.args.feed c.args.doors.items c.list.new.parts.items c.list.ensures.parts in
    omega (arith, long, c.list.new.parts.ok.0)

pub tend_all-book-requires-clause-as_many : goal.tend_all-book-requires-clause-as_many
tend_all-book-requires-clause-as_many g c =
    let long = listed_long c.args.feed c.args.doors.items c.list.new.parts.items c.list.ensures.parts in
    omega (arith, long, c.list.new.parts.ok.0, c.args.doors.ok.0, c.requires.as_many)

pub tend_all-book-requires-clause-room : goal.tend_all-book-requires-clause-room
tend_all-book-requires-clause-room g c =
    let long = listed_long c.args.feed c.args.doors.items c.list.new.parts.items c.list.ensures.parts in
    omega (arith, long, c.list.new.parts.ok.0, c.args.doors.ok.0, c.requires.room.1)

pub unlist-tended-requires-clause-whole : goal.unlist-tended-requires-clause-whole
unlist-tended-requires-clause-whole g c = whole_parts c.args.feed c.args.doors.items c.list.ensures.parts c.tend_all-book.ensures

pub unlist-tended-requires-clause-room : goal.unlist-tended-requires-clause-room
unlist-tended-requires-clause-room g c =
    let long = long_parts c.args.feed c.args.doors.items c.list.ensures.parts c.tend_all-book.ensures in
    omega (arith, long, c.tend_all-book.result.1.ok.0, c.list.ensures.doors.1, c.args.doors.ok.0, c.args.doors.ok.1)

pub returns : goal.returns
returns g c =
    has_served c.args.feed c.args.doors.items c.list.ensures.parts c.tend_all-book.ensures c.unlist-tended.result c.unlist-tended.ensures c.finish.result c.finish.ensures c.args.doors refl
