use Rattle.session_steps.specs.Steps.{calls_in}
use Rattle.pool_sessions.specs.Calling.{CallsBook}
use Rattle.pool_sessions.proofs.Chained.{acts_seen, counts_calls}
use Rattle.pool_sessions.proofs.Completing.{serves_book}
use Rattle.pool_sessions.proofs.alone.serve_book.Goals as goal

pub returns-clause-served : goal.returns-clause-served
returns-clause-served g c =
    let begun = c.args.book in
    let session = c.converse-end.ensures.session in
    let sole = c.converse-end.new.acting in
    let calls = calls_in session.runs.steps in
    let acts = acts_seen sole (λ s. s.book) CallsBook (record { book = begun; worker = 0 }) calls session.runs.acts in
    let goes = c.sole_calls_go_on.ensures begun sole.book calls acts in
    serves_book c.requires.waits (record {
      steps = session.runs.steps;
      last = session.last;
      follows = session.runs.follows;
      over = session.over;
      took = session.runs.took;
      ended = session.runs.ended;
      put = session.runs.put;
      begins = goes.grows;
      turns = goes.turns;
      kept = c.history_is_kept-2.ensures.history;
      ledger = goes.kept c.history_is_kept.ensures.ledger;
      begun = goes.begun;
      reads = c.converse-end.ensures.reads;
      writes = c.converse-end.ensures.writes;
      counts = counts_calls begun sole.book calls acts;
    }) c.converse-end.ensures.good
