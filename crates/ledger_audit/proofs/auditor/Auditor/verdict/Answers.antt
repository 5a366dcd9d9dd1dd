use Rattle.std.proofs.Common.{◌≡◌, arith, sym, vec_len, ◌∙◌}
use Rattle.std.proofs.lemmas.Bool.{eqb-false, eqb-true}
use Rattle.ledger_audit.proofs.Judged.{ends_whole, ends_within, ends_without_magic}
use Rattle.ledger_audit.proofs.auditor.Auditor.verdict.Goals as goal

pub returns-in-Some : goal.returns-in-Some
returns-in-Some c = λ bytes read.
    ends_whole c.args.self.now.records c.args.self.now.held.items bytes read c.requires c.in-Some.field-0 c.in-Some.is
    (let empty : vec_len c.args.self.now.held ≡ 0 = eqb-true (vec_len c.args.self.now.held) 0 (sym c.is_empty.ensures ∙ c.if-is_empty.true) in omega arith)

pub returns-in-Some-2 : goal.returns-in-Some-2
returns-in-Some-2 c = λ bytes read.
    ends_within c.args.self.now.records c.args.self.now.held.items bytes read c.requires c.in-Some-2.records c.in-Some-2.is
    (λ none. eqb-false (vec_len c.args.self.now.held) 0 (sym c.is_empty.ensures ∙ c.if-is_empty.false) (omega (arith, none)))

pub returns-in-None : goal.returns-in-None
returns-in-None c = λ bytes read.
    ends_without_magic c.args.self.now.records c.args.self.now.held.items bytes read c.requires c.in-None.is
