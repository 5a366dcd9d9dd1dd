use Rattle.std.proofs.Common.{◌≡◌, ◌∙◌, ◌++◌, ap, arith, refl}
use Rattle.load_command.specs.declared.generated.TheConstants.{STEPS}
use Rattle.load_command.specs.Loads.{IsLoadText, counts_text, load_rules}
use Rattle.pool_sessions.proofs.Completing.{on_fresh}
use Rattle.load_command.proofs.Loaded.{loaded, says_of, well_ended, where_told}
use Rattle.load_command.proofs.session.load_text.Goals as goal

pub returns-in-Done : goal.returns-in-Done
returns-in-Done c =
    let served = on_fresh {rules = load_rules} c.in_ok-book.ensures.events c.serve_book-book.ensures.served in
    let history = c.serve_book-book.result.book.events in
    where_told (λ text. text.items ≡ counts_text c.args.number STEPS c.into_parts-keeper.result.1.events ++ c.deref.result.now)
    (λ text. IsLoadText c.args.number STEPS text.items) c.text_of.result c.text_of.ensures
    (λ text is. loaded c.args.number STEPS c.in_ok-source.source c.of-sink.result c.in_ok-book.book.keeper _ c.serve_book-book.result.end history
    c.in_ok-source.ensures (c.of-sink.ensures ∙ c.new.ensures.items) c.in-Done.is served.0 text.items
    (says_of c.args.number STEPS c.into_parts-keeper.result.1.events history c.new-summary.result.items c.deref.result.now text.items
    c.into_parts-keeper.ensures.history c.new-summary.ensures.items (c.deref.ensures.value ∙ c.in_ok-summary.ensures.ok) is))

pub unreachable-requires : goal.unreachable-requires
unreachable-requires c =
    let served = on_fresh {rules = load_rules} c.in_ok-book.ensures.events c.serve_book-book.ensures.served in
    well_ended c.args.number STEPS c.in_ok-source.source c.of-sink.result c.serve_book-book.result.sink c.serve_book-book.result.source
    c.in_ok-book.book.keeper c.serve_book-book.result.book.keeper c.serve_book-book.result.end (omega arith) c.in_ok-source.ensures c.in_ok-book.ensures.counts
    (ap (λ k. k.faults) c.into_parts-keeper.ensures.keeper) served.1 c.in_default.not-Done c.in_default.not-Memory
