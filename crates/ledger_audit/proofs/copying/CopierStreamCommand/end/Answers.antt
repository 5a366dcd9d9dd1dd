use Rattle.std.proofs.Common.{◌∙◌, arith}
use Rattle.ledger_audit.proofs.Cut.{copied_text}
use Rattle.ledger_audit.proofs.copying.CopierStreamCommand.end.Goals as goal

pub returns-clause-whole : goal.returns-clause-whole
returns-clause-whole c = λ bytes given copied.
    let legal = c.in_ok-end.ensures.whole bytes given copied.audited in
    record {
      legal = record { format = legal.format; history = legal.history; whole = legal.whole };
      same =
          copied_text given c.args.text.now.items c.end.new.text.items c.truncate.new.self.items _ c.deref.result.now bytes c.len-start.result
          copied.audited.holds.printed (omega (arith, c.len-start.ensures)) c.truncate.ensures.items c.in_ok-extend_from_slice.ensures.items
          (c.deref.ensures.value ∙ copied.kept);
    }
