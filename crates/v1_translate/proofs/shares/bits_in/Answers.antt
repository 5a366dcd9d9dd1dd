use Rattle.std.proofs.Common.{ap}
use Rattle.serde_json.proofs.Views.{get_item_past}
use Rattle.v1_translate.specs.Submitting.{bits_in}
use Rattle.v1_translate.proofs.shares.bits_in.Goals as goal

pub returns-in-None : goal.returns-in-None
returns-in-None c = ap bits_in (get_item_past c.args.call.now.params.now 5 c.in-None.ensures.lookup.3)
