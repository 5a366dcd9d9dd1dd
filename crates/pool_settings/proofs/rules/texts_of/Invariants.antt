-- What is still to come, behind what was taken, is what all values say.
use Rattle.std.proofs.Common.{◌≡◌, ◌++◌, drop}
use Rattle.std.specs.Option.{option_map}
use Rattle.serde_json.specs.View.{items_view}
use Rattle.pool_settings.specs.Reading.{texts_of}
use Rattle.pool_settings.proofs.rules.texts_of.Given as goal

abbrev pub invariant-loop-value : goal.invariant-loop-value
invariant-loop-value l =
    option_map (λ more. l.texts.items ++ more) (texts_of (items_view (drop l.value-index l.values))) ≡ texts_of (items_view l.values)
