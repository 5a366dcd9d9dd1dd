use Rattle.std.proofs.Common.{◌≡◌, length, ap, sym, ◌∙◌, arith}
use Rattle.std.proofs.lemmas.List.{length-take-le}
use Rattle.prefix_space.specs.Paths.{node_key}
use Rattle.prefix_space.proofs.Keys.{path-key}
use Rattle.prefix_space.proofs.paths.Path.key.Goals as goal

pub returns : goal.returns
returns c =
    let long : length c.args.self.now ≡ c.self.inside.len =
    ap length (sym c.self.view_is) ∙ length-take-le c.self.inside.len c.self.inside.bytes (omega (arith, c.self.invariant.most, c.self.told)) in
    c.from_be_bytes.ensures ∙ path-key c.self.inside.len c.self.inside.bytes c.self.invariant (omega (arith, long, c.requires)) ∙ ap node_key c.self.view_is
