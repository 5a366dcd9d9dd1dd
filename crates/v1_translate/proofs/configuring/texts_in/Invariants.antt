use Rattle.std.proofs.Common.{◌≡◌, Some, map, take}
use Rattle.serde_json.specs.View.{items_view}
use Rattle.v1_translate.specs.Configuring as configuring
use Rattle.v1_translate.proofs.configuring.texts_in.Given as goal

abbrev pub invariant-loop-item : goal.invariant-loop-item
invariant-loop-item l =
    configuring.texts_in (items_view (take l.item-index l.items)) ≡ Some (map (λ text. text.now) l.texts.items)
