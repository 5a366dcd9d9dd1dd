use Rattle.std.proofs.Common.{arith, inl, refl}
use Rattle.pool_commands.proofs.durable_solo.serve_session.Goals as goal

pub returns-clause-row : goal.returns-clause-row
returns-clause-row g c =
    let served = c.serve_disk-source.result in
    let given = c.in-Ok.ensures.given in
    let put = c.in-Ok-output.ensures.given in
    let source_back = c.done_source-2.ensures.back in
    let sink_back = c.done_sink.ensures.back in
    let sink_told = rw given at c.in-Ok-output.ensures.told in
    inl (
      served.end,
      c.disk_status.ensures,
      record {
        given = record {
          source = g.H.S.Source.seen c.in-Ok.source;
          sink = g.H.T.Sink.seen c.in-Ok-output.sink;
          disk = g.V.Z.Disk.seen c.args.disk;
        };
        back = record {
          source = g.H.S.Source.seen served.source;
          sink = g.H.T.Sink.seen served.sink;
          disk = g.V.Z.Disk.seen served.disk;
        };
        given_are = λ i. record {
          source = c.in-Ok.ensures.told i;
          sink = sink_told i;
          disk = g.V.Z.Disk.seen c.args.disk;
        };
        served = c.serve_disk-source.ensures.served;
        good = c.serve_disk-source.ensures.good;
        sources = rw (sink_back, source_back, put, given) (record { lent = omega arith; back = refl });
        sinks = rw (sink_back, source_back, put, given) (record { lent = omega arith; back = refl });
        input = rw (sink_back, source_back, put, given) refl;
        output = rw (sink_back, source_back, put, given) refl;
        host = rw (sink_back, source_back, put, given) refl;
        openings = rw (c.done_sink.ensures.openings, c.done_source-2.ensures.openings, c.in-Ok-output.ensures.called, c.in-Ok.ensures.called) refl;
        disks = c.done_disk-2.ensures.back;
      },
    )
