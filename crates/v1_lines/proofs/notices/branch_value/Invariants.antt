use Rattle.std.proofs.Common.{◌≡◌, map, take}
use Rattle.serde_json.specs.View.{view}
use Rattle.v1_lines.specs.Jobs.{hex_value}
use Rattle.v1_lines.proofs.notices.branch_value.Given as goal

abbrev pub invariant-loop-hash : goal.invariant-loop-hash
invariant-loop-hash l = map view l.texts.items ≡ map hex_value (take l.hash-index l.path)
