use Rattle.std.proofs.Common.{◌∙◌, refl, subst}
use Rattle.session_steps.specs.Steps.{calls_in}
use Rattle.pool_sessions.specs.Solo.{CountsCalls}
use Rattle.pool_sessions.proofs.Chained.{ledger_on}
use Rattle.pool_sessions.proofs.Completing.{on_fresh, serves_session, unbegun_well}
use Rattle.pool_sessions.proofs.alone.serve_solo.Goals as goal

pub returns-in-Err-clause-served : goal.returns-in-Err-clause-served
returns-in-Err-clause-served g c =
    let unbegun = c.in-Err.ensures in
    record {
      did = record {
        source = refl;
        sink = refl;
        records = unbegun.refused;
        counts = unbegun.fault;
      };
      complete = λ turns is input free. unbegun_well c.in-Err.cause (g.K.Keeper.seen c.args.keeper).faults (g.K.Keeper.seen c.in-Err.keeper).faults unbegun.fault free.keeper;
    }

pub returns-in-Err-clause-good : goal.returns-in-Err-clause-good
returns-in-Err-clause-good g c = λ told is input. tt

pub returns-clause-served : goal.returns-clause-served
returns-clause-served g c =
    let fresh = on_fresh c.in-Ok.ensures.ok c.serve_book-source.ensures.served in
    let session = fresh.0 in
    serves_session c.serve_book-source.result.book.events c.requires.waits (record {
      steps = session.steps;
      last = session.last;
      follows = session.follows;
      over = session.over;
      took = session.took;
      ended = session.ended;
      put = session.put;
      begins = session.begins;
      turns = session.turns;
      kept = session.kept;
      reads = session.reads;
      writes = session.writes;
      ledger = rw c.into_parts-keeper.ensures.keeper
          (ledger_on (g.K.Keeper.seen c.args.keeper).records c.in-Ok.book.keeper.records c.serve_book-source.result.book.keeper.records c.in-Ok.book.events c.serve_book-source.result.book.events
          c.in-Ok.ensures.kept (λ keeps. session.ledger));
      begun = rw c.into_parts-keeper.ensures.keeper (session.begun ∙ c.in-Ok.ensures.begun);
      counts = rw c.into_parts-keeper.ensures.keeper
          (subst (λ n. CountsCalls n (calls_in session.steps) c.serve_book-source.result.book.keeper.faults) c.in-Ok.ensures.counts session.counts);
    }) c.serve_book-source.ensures.good

pub returns-clause-good : goal.returns-clause-good
returns-clause-good g c = c.serve_book-source.ensures.good
