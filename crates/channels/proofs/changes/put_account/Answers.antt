use Rattle.std.proofs.Common.{length, ap, sym, ◌∙◌}
use Rattle.std.proofs.Math.Dec.{eqb}
use Rattle.channels.specs.Orders.{by_id}
use Rattle.channels.specs.Tables.{named_channel}
use Rattle.channels.proofs.Changing.{changed-by_id, first-written, later-written, unfound-changed}
use Rattle.channels.proofs.changes.put_account.Goals as goal

pub returns-then-is_empty : goal.returns-then-is_empty
returns-then-is_empty c =
    ap by_id ((c.get_mut.follows.holds _).0
    ∙ first-written c.args.account c.args.id c.in-Some.there.now _ c.args.channels.now.entries c.get_mut.ensures.unique (sym c.in-Some.ensures.value)
    (ap (λ l. eqb (length l) 0) (sym c.text.ensures.value) ∙ sym c.is_empty.ensures ∙ c.if-is_empty.true))
    ∙ changed-by_id (named_channel c.args.account) c.args.id c.args.channels.now.entries

pub returns-else-is_empty : goal.returns-else-is_empty
returns-else-is_empty c =
    ap by_id ((c.get_mut.follows.holds c.in-Some.there.now).0
    ∙ later-written c.args.account c.args.id c.in-Some.there.now c.args.channels.now.entries c.get_mut.ensures.unique (sym c.in-Some.ensures.value)
    (ap (λ l. eqb (length l) 0) (sym c.text.ensures.value) ∙ sym c.is_empty.ensures ∙ c.if-is_empty.false))
    ∙ changed-by_id (named_channel c.args.account) c.args.id c.args.channels.now.entries

pub returns-in_default : goal.returns-in_default
returns-in_default c =
    ap by_id (ap (λ m. m.entries) c.get_mut.follows.holds-at-none
    ∙ sym (unfound-changed (named_channel c.args.account) c.args.id c.args.channels.now.entries (sym c.in_default.ensures.value)))
    ∙ changed-by_id (named_channel c.args.account) c.args.id c.args.channels.now.entries
