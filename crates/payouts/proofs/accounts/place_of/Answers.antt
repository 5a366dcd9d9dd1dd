use Rattle.std.proofs.Common.{◌∙◌}
use Rattle.std.specs.String.{string_bytes}
use Rattle.payouts.proofs.Names.{placed-none, placed-some}
use Rattle.payouts.proofs.accounts.place_of.Goals as goal

pub returns-in-Some : goal.returns-in-Some
returns-in-Some c = placed-some string_bytes c.args.account.now c.args.names.now.keys c.in-Some.place c.in-Some.ensures.index

pub returns-in-None : goal.returns-in-None
returns-in-None c = c.len.ensures.len ∙ placed-none string_bytes c.args.account.now c.args.names.now.keys c.in-None.ensures.index
