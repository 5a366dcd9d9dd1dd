use Rattle.std.proofs.Common.{◌≡◌, ◌≤◌, drop, length, map}
use Rattle.serde_json.specs.View.{members_view}
use Rattle.v1_translate.specs.Configuring as configuring
use Rattle.v1_translate.proofs.configuring.refused_names.Given as goal

abbrev pub invariant-loop-left : goal.invariant-loop-left
invariant-loop-left l = record {
  within : l.left ≤ length l.names;
  members : members_view l.members.entries ≡ configuring.refused_names (map (λ name. name.now) (drop l.left l.names));
}

abbrev pub decreases-loop-left : goal.decreases-loop-left
decreases-loop-left l = l.left
