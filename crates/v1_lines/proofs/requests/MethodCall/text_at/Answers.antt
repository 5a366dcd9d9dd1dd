use Rattle.std.proofs.Common.{Some, ap, ◌∙◌}
use Rattle.std.specs.Option.{option_and_then}
use Rattle.serde_json.specs.Find.{as_str}
use Rattle.serde_json.specs.View.{view}
use Rattle.serde_json.proofs.Views.{get_item_within, get_item_past}
use Rattle.v1_lines.proofs.requests.MethodCall.text_at.Goals as goal

pub returns-in-Some : goal.returns-in-Some
returns-in-Some c =
    let found = c.in-Some.ensures.lookup in
    let params = c.args.self.now.params.now in
    c.as_str.ensures
    ∙ ap (option_and_then as_str) (ap (λ v. Some (view v)) found.1 ∙ get_item_within params c.args.place c.in-Some.param.now found.3.0)

pub returns-in-None : goal.returns-in-None
returns-in-None c =
    ap (option_and_then as_str) (get_item_past c.args.self.now.params.now c.args.place c.in-None.ensures.lookup.3)
