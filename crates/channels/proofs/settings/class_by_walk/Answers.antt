use Rattle.std.proofs.Common.{ap, ◌∙◌}
use Rattle.std.specs.Prelude.{reverse}
use Rattle.channels.proofs.Halves.{class-found, class_or}
use Rattle.channels.proofs.settings.class_by_walk.Goals as goal

pub returns-in-Some : goal.returns-in-Some
returns-in-Some c = ap (class_or c.args.opening) c.in-Some.ensures ∙ class-found c.args.place c.args.opening (reverse c.args.settings.now)

pub returns-in-None : goal.returns-in-None
returns-in-None c = ap (class_or c.args.opening) c.in-None.ensures ∙ class-found c.args.place c.args.opening (reverse c.args.settings.now)
