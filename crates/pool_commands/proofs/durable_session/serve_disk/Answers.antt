use Rattle.std.proofs.Common.{false}
use Rattle.pool_sessions.specs.Solo.{solo_manner}
use Rattle.pool_commands.proofs.Kept.{fronts_on, serves_on}
use Rattle.pool_commands.proofs.durable_session.serve_disk.Goals as goal

pub returns-in-Ok-clause-served : goal.returns-in-Ok-clause-served
returns-in-Ok-clause-served g c =
    let served = c.serve_book-source.result in
    let events = served.book.events in
    let ledger = c.into_parts-ledger.result.0 in
    let disk = g.D.Disk.seen c.into_disk.result in
    record {
      ready = c.in-Ok.book;
      is_ready = c.in-Ok.ensures.ready;
      history = events;
      serves = serves_on (solo_manner c.args.rules false c.args.limits.idle_turns) c.in-Ok.book.events events
          (record { source = g.S.Source.seen c.args.source; sink = g.T.Sink.seen c.args.sink; keeper = c.in-Ok.book.keeper })
          (g.S.Source.seen served.source) (g.T.Sink.seen served.sink) served.book.keeper ledger disk served.end c.into_parts-ledger.ensures.keeper c.into_disk.ensures
          c.serve_book-source.ensures.served;
      recovers = fronts_on events ledger disk c.into_disk.ensures c.into_parts-ledger.ensures.recovers;
    }
