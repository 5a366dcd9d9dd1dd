use Rattle.std.proofs.Common.{codes, ◌∙◌}
use Rattle.std.specs.Str.{bytes_eq}
use Rattle.v1_translate.proofs.Names.{list_any-now}
use Rattle.v1_translate.proofs.configuring.may_roll.Goals as goal

pub returns-then-rules : goal.returns-then-rules
returns-then-rules c =
    rw c.if-rules.true (c.asks_to_roll.ensures ∙ list_any-now (bytes_eq (codes "version-rolling")) c.args.names.now)
