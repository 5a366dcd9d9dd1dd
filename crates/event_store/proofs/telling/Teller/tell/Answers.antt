use Rattle.std.proofs.Common.{Some, ap, ◌∙◌}
use Rattle.event_store.specs.Told.{event_template}
use Rattle.event_store.proofs.telling.Teller.tell.Goals as goal

pub tell_template-requires-clause-accepted : goal.tell_template-requires-clause-accepted
tell_template-requires-clause-accepted c =
    rw c.get.ensures (c.requires.able.accepted c.args.place c.in-Template.template (ap event_template (c.requires.here ∙ ap Some c.in-Template.is)))
