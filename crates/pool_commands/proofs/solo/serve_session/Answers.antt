use Rattle.std.proofs.Common.{[], ◌+◌, ◌-◌, arith, inl, refl}
use Rattle.share_ledger.proofs.Recovering.{untold-recovers}
use Rattle.pool_commands.proofs.solo.serve_session.Goals as goal

pub returns-clause-row : goal.returns-clause-row
returns-clause-row g c =
    let solo = c.serve_solo-source.result in
    let given = c.in-Ok.ensures.given in
    let put = c.in-Ok-output.ensures.given in
    let source_back = c.done_source-2.ensures.back in
    let sink_back = c.done_sink.ensures.back in
    let keeper_back = c.done_keeper-2.ensures.streams in
    let sink_told = rw given at c.in-Ok-output.ensures.told in
    inl (
      solo.end,
      c.solo_status.ensures,
      record {
        given = record {
          source = g.H.S.Source.seen c.in-Ok.source;
          sink = g.H.T.Sink.seen c.in-Ok-output.sink;
          keeper = g.H.K.Keeper.seen c.args.keeper;
        };
        back = record {
          source = g.H.S.Source.seen solo.source;
          sink = g.H.T.Sink.seen solo.sink;
          keeper = g.H.K.Keeper.seen solo.keeper;
        };
        given_are = λ i. record {
          source = c.in-Ok.ensures.told i;
          sink = sink_told i;
          keeper = g.H.K.Keeper.seen c.args.keeper;
        };
        served = c.serve_solo-source.ensures.served;
        good = c.serve_solo-source.ensures.good;
        sources = rw (keeper_back, sink_back, source_back, put, given) (record { lent = omega arith; back = refl });
        sinks = rw (keeper_back, sink_back, source_back, put, given) (record { lent = omega arith; back = refl });
        input = rw (keeper_back, sink_back, source_back, put, given) refl;
        output = rw (keeper_back, sink_back, source_back, put, given) refl;
        host = rw (keeper_back, sink_back, source_back, put, given) refl;
        openings = rw (c.done_keeper-2.ensures.back, c.done_sink.ensures.openings, c.done_source-2.ensures.openings, c.in-Ok-output.ensures.called, c.in-Ok.ensures.called) refl;
      },
    )

pub serve_solo-source-requires-clause-recovers : goal.serve_solo-source-requires-clause-recovers
serve_solo-source-requires-clause-recovers g c =
    untold-recovers [] (g.H.K.Keeper.seen c.args.keeper) (g.H.K.Keeper.may_find c.args.keeper) c.requires.untold
