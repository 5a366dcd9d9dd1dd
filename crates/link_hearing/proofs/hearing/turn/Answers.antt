use Rattle.std.proofs.Common.{refl, arith, inl, inr, None}
use Rattle.pool_io.specs.declared.source.Took.TheVariants as took
use Rattle.pool_io.specs.declared.turn.Turn.TheVariants as turn
use Rattle.std.specs.Prelude.{take}
use Rattle.link_hearing.specs.Hearing.{hearing_at}
use Rattle.link_hearing.proofs.Heard.{kept, kept_below, on_any, on_kept}
use Rattle.link_hearing.proofs.hearing.turn.Goals as goal

pub returns-in-Bytes-clause-hears : goal.returns-in-Bytes-clause-hears
returns-in-Bytes-clause-hears g c =
    kept g.H.TurnHearer.hears (hearing_at c.args.waiting.now c.args.hearer.now (g.L.Link.seen c.args.link.now)) (hearing_at c.take.new.self c.piece.new.self (g.L.Link.seen c.piece.new.link))
    (turn.Piece (take c.in-Bytes.count c.take.new.buffer)) c.piece.result c.keep.result
    (record {
      answered = took.Bytes c.in-Bytes.count;
      buffer = c.take.new.buffer;
      short = (let a = c.take.auto.buffer in let b = c.requires.room in omega (arith, a, b));
      middle = g.L.Link.seen c.take.new.link;
      takes = c.in-Bytes.ensures.takes;
      is_turn = (refl, c.in-Bytes.ensures.bound.0, c.in-Bytes.ensures.bound.1);
      within = c.in-Bytes.ensures.within;
      counted = c.in-Bytes.ensures.counted;
      source = c.piece.ensures.source;
      heard = c.piece.ensures.heard;
    }) c.keep.ensures

pub returns-in-Idle-clause-hears : goal.returns-in-Idle-clause-hears
returns-in-Idle-clause-hears g c =
    kept g.H.TurnHearer.hears (hearing_at c.args.waiting.now c.args.hearer.now (g.L.Link.seen c.args.link.now)) (hearing_at c.take.new.self c.idle.new.self (g.L.Link.seen c.idle.new.link))
    turn.Idle c.idle.result c.keep-in-Idle.result
    (record {
      answered = took.Idle;
      buffer = c.take.new.buffer;
      short = (let a = c.take.auto.buffer in let b = c.requires.room in omega (arith, a, b));
      middle = g.L.Link.seen c.take.new.link;
      takes = c.in-Idle.ensures.takes;
      is_turn = refl;
      within = tt;
      counted = c.in-Idle.ensures.counted;
      source = c.idle.ensures.source;
      heard = c.idle.ensures.heard;
    }) c.keep-in-Idle.ensures

pub returns-in-End-clause-hears : goal.returns-in-End-clause-hears
returns-in-End-clause-hears g c =
    inl
    (record {
      told = turn.End;
      heard = record {
        answered = took.End;
        buffer = c.take.new.buffer;
        short = (let a = c.take.auto.buffer in let b = c.requires.room in omega (arith, a, b));
        middle = g.L.Link.seen c.take.new.link;
        takes = c.in-End.ensures.takes;
        is_turn = refl;
        within = tt;
        counted = c.in-End.ensures.counted;
        source = refl;
        heard = c.input_end.ensures.heard (g.L.Link.seen c.take.new.link).sink;
      };
    })

pub returns-in-Failed-clause-hears : goal.returns-in-Failed-clause-hears
returns-in-Failed-clause-hears g c = inr (inr (record { buffer = c.take.new.buffer; takes = c.in-Failed.ensures.takes; hearer = refl; reason_is = refl }))

pub returns-in-Bytes-clause-ready : goal.returns-in-Bytes-clause-ready
returns-in-Bytes-clause-ready g c = on_kept (g.H.TurnHearer.ready c.piece.new.self) c.piece.result c.keep.result c.take.new.self c.keep.ensures c.piece.ensures.ready

pub returns-in-Idle-clause-ready : goal.returns-in-Idle-clause-ready
returns-in-Idle-clause-ready g c = on_kept (g.H.TurnHearer.ready c.idle.new.self) c.idle.result c.keep-in-Idle.result c.take.new.self c.keep-in-Idle.ensures c.idle.ensures.ready
