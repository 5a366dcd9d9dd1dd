use Rattle.std.proofs.Common.{sym}
use Rattle.event_store.proofs.Walked.{unheard}
use Rattle.event_store.proofs.index.Index.audience.Goals as goal

pub returns-in_default : goal.returns-in_default
returns-in_default c =
    rw c.new.ensures.items (sym (unheard c.args.self.now.parts c.args.session c.args.place c.requires.chained (sym c.in_default.ensures)))
