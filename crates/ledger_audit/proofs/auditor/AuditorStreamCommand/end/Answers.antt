use Rattle.std.proofs.Common.{◌≡◌, arith, sym, vec_len, ◌∙◌}
use Rattle.std.proofs.lemmas.Bool.{eqb-false}
use Rattle.stream_commands.specs.declared.command.Stop.TheVariants as stop
use Rattle.ledger_audit.proofs.Holding.{ends_before_magic, ends_inside}
use Rattle.ledger_audit.proofs.auditor.AuditorStreamCommand.end.Goals as goal

pub returns-in-Some-2-clause-cut : goal.returns-in-Some-2-clause-cut
returns-in-Some-2-clause-cut c = λ refused bytes given audited.
    let same : c.refuse.result ≡ stop.Refused = cc in
    ends_inside c.args.self.now bytes given c.args.text.now.items c.refuse.new.text.items audited c.in-Some-2.records c.in-Some-2.is
    (λ none. eqb-false (vec_len c.args.self.now.held) 0 (sym c.is_empty.ensures ∙ c.if-is_empty.false) (omega (arith, none))) (c.refuse.ensures same)

pub returns-in-None-clause-cut : goal.returns-in-None-clause-cut
returns-in-None-clause-cut c = λ refused bytes given audited.
    let same : c.refuse-in-None.result ≡ stop.Refused = cc in
    ends_before_magic c.args.self.now bytes given c.args.text.now.items c.refuse-in-None.new.text.items audited c.in-None.is (c.refuse-in-None.ensures same)
