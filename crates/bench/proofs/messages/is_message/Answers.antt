use Rattle.std.proofs.Common.{sym, ◌∙◌, inl, inr}
use Rattle.sv2_messages.specs.Tables.{mining_table, template_table}
use Rattle.mining_msgs.specs.Seen.{mining_message}
use Rattle.template_msgs.specs.Seen.{template_message}
use Rattle.bench.proofs.Found.{is_found, is_read}
use Rattle.bench.proofs.messages.is_message.Goals as goal

pub returns : goal.returns
returns c = (
  λ so. inr (is_found template_message c.read-2.result template_table c.args.kind c.args.payload.now c.read-2.ensures.found (sym c.is_ok-2.ensures.value ∙ so)),
  λ is. elim is [
    | inl m ↦ absurd (let no = sym (is_read mining_message c.read.result mining_table c.args.kind c.args.payload.now c.read.ensures.only m) ∙ sym c.is_ok.ensures.value ∙ c.if-is_ok.false in cc)
    | inr m ↦ c.is_ok-2.ensures.value ∙ is_read template_message c.read-2.result template_table c.args.kind c.args.payload.now c.read-2.ensures.only m
  ],
)
