use Rattle.std.proofs.Common.{◌∙◌}
use Rattle.proxy_rules.specs.Jobs.{is_of_kind}
use Rattle.proxy_core.proofs.Held.{first_gone, none_gone}
use Rattle.proxy_core.proofs.jobs.remove_first.Goals as goal

pub returns-in-Some : goal.returns-in-Some
returns-in-Some c =
    c.remove.ensures.items ∙ first_gone (is_of_kind c.args.live) c.args.held.now.items c.as_slice.result.now c.in-Some.place c.remove.result
    c.as_slice.ensures.value c.in-Some.ensures

pub returns-in-None : goal.returns-in-None
returns-in-None c = none_gone (is_of_kind c.args.live) c.args.held.now.items c.as_slice.result.now c.as_slice.ensures.value c.in-None.ensures
