use Rattle.std.proofs.Common.{ap, codes}
use Rattle.std.specs.Option.{option_and_then}
use Rattle.serde_json.specs.Find.{get}
use Rattle.serde_json.proofs.Views.{get_item_past}
use Rattle.v1_translate.proofs.configuring.mask_option.Goals as goal

pub returns-in-None : goal.returns-in-None
returns-in-None c =
    ap (option_and_then (get (codes "version-rolling.mask")))
    (get_item_past c.args.call.now.params.now 1 c.in-None.ensures.lookup.3)
