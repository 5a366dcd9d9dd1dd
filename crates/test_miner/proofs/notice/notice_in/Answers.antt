use Rattle.std.proofs.Common.{sym, ◌∙◌}
use Rattle.std.proofs.lemmas.Bool.{ne_eqb}
use Rattle.test_miner.proofs.Meant.{other_notice, same_notice}
use Rattle.test_miner.proofs.notice.notice_in.Goals as goal

pub returns-then-frame-ne0 : goal.returns-then-frame-ne0
returns-then-frame-ne0 c = sym (other_notice c.args.frame.ext c.args.frame.kind c.args.frame.payload.now (ne_eqb _ _ c.if-frame-ne0.true))

pub returns : goal.returns
returns c = c.notice_by.ensures ∙ sym (same_notice c.args.frame.ext c.args.frame.kind c.args.frame.payload.now c.if-frame-ne0.false)
