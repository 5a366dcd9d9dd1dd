use Rattle.std.proofs.Common.{◌≡◌, [], ◌++◌, sym, subst, ◌∙◌, append-nil}
use Rattle.v2_sessions.specs.Links.{PutsOut, fault_of}
use Rattle.v1_translate.specs.Messages.{name_reaction}
use Rattle.v1_sessions.specs.States.{lines_said}
use Rattle.v1_sessions.specs.Told.{is_named}
use Rattle.v1_sessions.proofs.Lines.{with_lines_is}
use Rattle.v1_sessions.proofs.telling.tell_name.Goals as goal

pub returns-in-Ok-clause-puts : goal.returns-in-Ok-clause-puts
returns-in-Ok-clause-puts g c = λ terms.
    let says = (name_reaction c.args.v1.now (is_named c.args.reply.now)).says in
    let heard = rw (c.is_named.ensures, c.new-lines.ensures.items) at c.in-Ok.ensures in
    let whole : c.on_named.new.out.items ≡ lines_said says ++ [] = heard.lines ∙ with_lines_is [] says ∙ sym (append-nil (lines_said says)) in
    subst (λ w. PutsOut w (fault_of c.put_bytes.result) (g.L.Link.seen c.args.link.now) (g.L.Link.seen c.put_bytes.new.link)) whole
    (rw c.deref.ensures.value at c.put_bytes.ensures)
