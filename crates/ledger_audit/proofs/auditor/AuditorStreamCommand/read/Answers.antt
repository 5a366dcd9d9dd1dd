use Rattle.std.proofs.lemmas.Result.{err_from_is_err_and}
use Rattle.stream_commands.proofs.Pieces.{piece_more, piece_refused}
use Rattle.ledger_audit.specs.Auditing.{HasAudited, HoldsBytes}
use Rattle.ledger_audit.specs.Duty.{IsPrinted, IsRefusedAs}
use Rattle.ledger_audit.proofs.Holding.{fed_holds, room_left}
use Rattle.ledger_audit.proofs.auditor.AuditorStreamCommand.read.Goals as goal

pub loop-rest-preserved : goal.loop-rest-preserved
loop-rest-preserved c =
    let was = c.loop-rest.invariant.read in
    let count = c.in_ok-count.count in
    let rest = c.loop-rest.rest.now in
    record {
      between = c.in_ok-step.ensures.between;
      room =
          room_left c.loop-rest.self.records c.feed.new.self.records c.step.new.self.records c.loop-rest.self.held.items c.feed.new.self.held.items _ rest count
          c.loop-rest.invariant.room c.in_ok-step.ensures.taken c.feed.ensures.records c.in_ok-count.ensures.held c.in_ok-count.ensures.within;
      read =
          piece_more c.args.piece.now rest was.0 count was.1
          (λ bytes text. HasAudited c.args.self.now bytes text) (λ bytes text. HasAudited c.loop-rest.self bytes text) (λ bytes text. HoldsBytes c.feed.new.self bytes text)
          c.args.text.now.items c.loop-rest.text.items was.2
          (fed_holds c.loop-rest.self c.feed.new.self _ c.in_ok-count.ensures.held c.feed.ensures.records)
          (λ bytes text. HasAudited c.step.new.self bytes text) c.step.new.text.items
          (λ bytes text few. c.in_ok-step.ensures.ok bytes text);
    }

pub returns-in_err-step-clause-refused : goal.returns-in_err-step-clause-refused
returns-in_err-step-clause-refused c =
    let p = err_from_is_err_and c.from_residual-in_err-step.result c.from_residual-in_err-step.ensures.1 in
    let was = c.loop-rest.invariant.read in
    rw (p.1, p.2) (λ bad.
    piece_refused c.args.piece.now c.loop-rest.rest.now was.0 c.in_ok-count.count was.1
    (λ bytes text. HasAudited c.args.self.now bytes text) (λ bytes text. HasAudited c.loop-rest.self bytes text) (λ bytes text. HoldsBytes c.feed.new.self bytes text)
    c.args.text.now.items c.loop-rest.text.items was.2
    (fed_holds c.loop-rest.self c.feed.new.self _ c.in_ok-count.ensures.held c.feed.ensures.records)
    (λ bytes text. IsPrinted (IsRefusedAs bytes) text) c.step.new.text.items c.in_ok-count.ensures.some c.in_ok-count.ensures.within
    (λ bytes text few. c.in_err-step.ensures.refused bad bytes text))
