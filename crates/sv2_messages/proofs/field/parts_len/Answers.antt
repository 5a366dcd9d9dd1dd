use Rattle.std.proofs.Common.{◌≡◌, length, ap, ◌∙◌, arith}
use Rattle.std.specs.List.{flat_map}
use Rattle.std.proofs.lemmas.List.{length-take-le}
use Rattle.sv2_types.specs.Reading.{parts_at, parts_size}
use Rattle.sv2_types.specs.Spelling.{spelled_b16m}
use Rattle.sv2_types.proofs.Items.{parts_lie}
use Rattle.sv2_messages.proofs.field.parts_len.Goals as goal

pub returns : goal.returns
returns c =
    let bytes = c.args.spelled.now in
    let joined = parts_lie c.args.count bytes (λ i. omega (arith, c.type_inv.spelled i)) (omega (arith, c.requires)) in
    let len : length (flat_map spelled_b16m (parts_at c.args.count bytes)) ≡ parts_size c.args.count bytes =
    ap length joined ∙ length-take-le (parts_size c.args.count bytes) bytes (omega (arith, c.requires)) in
    omega (arith, len, c.requires)
