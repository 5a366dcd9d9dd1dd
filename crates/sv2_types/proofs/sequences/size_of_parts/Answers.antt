use Rattle.std.proofs.Common.{◌≡◌, ◌+◌, ◌-◌, ◌≤◌, length, drop, arith, ap, ◌∙◌}
use Rattle.std.proofs.lemmas.List.{take_rest}
use Rattle.sv2_types.specs.Reading.{said, parts_size}
use Rattle.sv2_types.proofs.Items.{IsBytes, SpellsParts-front, IsCounted-more}
use Rattle.sv2_types.proofs.sequences.size_of_parts.Goals as goal

pub loop-preserved : goal.loop-preserved
loop-preserved c =
    let bytes = c.args.bytes.now in
    let rest = take_rest bytes c.loop.size in
    let says : c.said_u24-part.result ≡ said 3 (drop c.loop.size bytes) = c.said_u24-part.ensures.value ∙ ap (said 3) rest in
    let fits : 3 + said 3 (drop c.loop.size bytes) ≤ length (drop c.loop.size bytes) = omega (arith, says, ap length rest) in
    rw says (IsCounted-more bytes _ _ _ (omega arith) c.loop.invariant fits)

pub returns-clause-spelled : goal.returns-clause-spelled
returns-clause-spelled c =
    let bytes = c.args.bytes.now in
    let fits : IsBytes bytes = λ i. omega (arith, c.type_inv.bytes i) in
    let done : c.args.count - c.loop.counter ≡ 0 = omega arith in
    let whole : c.loop.size + 0 ≡ parts_size c.args.count bytes = rw done at c.loop.invariant.sum in
    let size : c.loop.size ≡ parts_size c.args.count bytes = omega (arith, whole) in
    rw size (SpellsParts-front c.args.count bytes fits (omega (arith, c.loop.invariant.within, size)))
