use Rattle.std.proofs.Common.{ap, map, ◌∙◌}
use Rattle.serde_json.proofs.Views.{view-Object}
use Rattle.serde_json.specs.Written.{has_float, members_have_float}
use Rattle.v1_translate.proofs.Names.{configured_whole}
use Rattle.v1_translate.proofs.configuring.configured_value.Goals as goal

pub returns-clause-whole : goal.returns-clause-whole
returns-clause-whole c =
    ap has_float (view-Object c.in_ok-members.members) ∙ ap members_have_float c.in_ok-members.ensures
    ∙ configured_whole (map (λ name. name.now) c.args.names.now) c.args.mask
