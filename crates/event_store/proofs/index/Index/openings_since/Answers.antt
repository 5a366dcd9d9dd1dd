use Rattle.std.proofs.Common.{sym}
use Rattle.event_store.proofs.Walked.{unlisted}
use Rattle.event_store.proofs.index.Index.openings_since.Goals as goal

pub returns-in_default : goal.returns-in_default
returns-in_default c =
    rw c.new.ensures.items (sym (unlisted c.args.self.now.parts c.args.session c.args.from c.requires.chained (sym c.in_default.ensures)))
