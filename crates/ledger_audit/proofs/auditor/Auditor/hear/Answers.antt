use Rattle.std.proofs.Common.{Err, rules, length, ◌++◌, ap, subst, sym, ◌∙◌}
use Rattle.ledger_audit.specs.Judging.{GoesOnOrHasVerdict}
use Rattle.std.proofs.lemmas.Bool.{eqb-true}
use Rattle.std.proofs.lemmas.Result.{err_from_is_err_and}
use Rattle.ledger_audit.proofs.Holding.{room_left}
use Rattle.ledger_audit.proofs.Judged.{all_read, nothing_read_yet, part_more, part_told}
use Rattle.ledger_audit.proofs.auditor.Auditor.hear.Goals as goal

pub loop-rest-init : goal.loop-rest-init
loop-rest-init c = record {
  between = c.requires;
  room = search rules;
  read = λ bytes has. nothing_read_yet c.args.self.now.records c.args.self.now.held.items bytes c.args.piece.now has;
}

pub loop-rest-preserved : goal.loop-rest-preserved
loop-rest-preserved c =
    let rest = c.loop-rest.rest.now in
    let count = c.in-Ok.count in
    record {
      between = c.in_ok-advance.ensures.between;
      room =
          room_left c.loop-rest.self.records c.feed.new.self.records c.advance.new.self.records c.loop-rest.self.held.items c.feed.new.self.held.items _ rest count
          c.loop-rest.invariant.room c.in_ok-advance.ensures.taken c.feed.ensures.records c.in-Ok.ensures.held c.in-Ok.ensures.within;
      read = λ bytes has.
          part_more c.loop-rest.self.records c.loop-rest.self.held.items rest (bytes ++ c.args.piece.now) count (c.loop-rest.invariant.read bytes has)
          c.feed.new.self.records c.feed.new.self.held.items c.feed.ensures.records c.in-Ok.ensures.held c.advance.new.self.records c.advance.new.self.held.items
          (λ fed. c.in_ok-advance.ensures.goes fed);
    }

pub returns-in_err-advance-clause-goes : goal.returns-in_err-advance-clause-goes
returns-in_err-advance-clause-goes c = λ bytes has.
    let p = err_from_is_err_and c.from_residual.result c.from_residual.ensures.1 in
    subst (GoesOnOrHasVerdict c.advance.new.self (bytes ++ c.args.piece.now)) (sym (p.1 ∙ ap (λ halt. Err halt) p.2))
    (part_told c.loop-rest.self.records c.loop-rest.self.held.items c.loop-rest.rest.now (bytes ++ c.args.piece.now) c.in-Ok.count (c.loop-rest.invariant.read bytes has)
    c.feed.new.self.records c.feed.new.self.held.items c.feed.ensures.records c.in-Ok.ensures.held c.in_err-advance.field-0.0 c.advance.new.self c.advance.new.self
    (λ fed. c.in_err-advance.ensures.goes fed))

pub returns-clause-goes : goal.returns-clause-goes
returns-clause-goes c = λ bytes has.
    all_read c.loop-rest.self.records c.loop-rest.self.held.items c.loop-rest.rest.now (bytes ++ c.args.piece.now)
    (eqb-true (length c.loop-rest.rest.now) 0 (sym c.is_empty.ensures ∙ c.loop-rest-test.false)) (c.loop-rest.invariant.read bytes has)
