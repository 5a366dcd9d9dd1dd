use Rattle.std.proofs.Common.{arith, inl, refl}
use Rattle.ledger_audit.proofs.migrating.migrate_ledger.Goals as goal

pub returns-clause-row : goal.returns-clause-row
returns-clause-row g c =
    let given = c.in-Ok.ensures.given in
    let put = c.in-Ok-output.ensures.given in
    let source_back = c.done_source-2.ensures.back in
    let finished = c.finish-status.ensures.streams in
    let sink_told = rw given at c.in-Ok-output.ensures.told in
    let sink_back = c.done_sink.ensures.back in
    inl (record {
      source = g.H.S.Source.seen c.copy_ledger-copied.new.source;
      put = g.H.T.Sink.seen c.finish-status.new.sink;
      copied = c.copy_ledger-copied.result;
      read = g.H.Host.seen c.done_source-2.new.self;
      done = g.H.Host.seen c.finish-status.new.host;
      sources = rw (source_back, put, given) (record { lent = omega arith; back = refl });
      input = rw (source_back, put, given) refl;
      output = rw (source_back, put, given) refl;
      host = rw (source_back, put, given) refl;
      opened = rw (c.done_source-2.ensures.openings, c.in-Ok-output.ensures.called, c.in-Ok.ensures.called) refl;
      ran = rw c.in-Ok.ensures.told at c.copy_ledger-copied.ensures.ran;
      decided = rw c.in-Ok.ensures.told at c.copy_ledger-copied.ensures.decided;
      reads = rw c.in-Ok.ensures.told at c.copy_ledger-copied.ensures.reads;
      unfailed = c.copy_ledger-copied.ensures.unfailed;
      follows = rw sink_told at c.finish-status.ensures.row;
      openings = c.done_sink.ensures.openings;
      sinks = rw (sink_back, finished, source_back, put, given) (record { lent = omega arith; back = refl });
      streams = rw sink_back refl;
    })
