use Rattle.std.proofs.Common.{◌*◌, Some, arith, sym, ap, ◌∙◌}
use Rattle.std.proofs.lemmas.List.{take_rest}
use Rattle.std.proofs.lemmas.Option.{slice_get_past}
use Rattle.sv2_types.specs.Reading.{said, numbers_of}
use Rattle.sv2_types.proofs.Items.{slice_get-numbers_at}
use Rattle.sv2_types.proofs.sequences.SeqU16.get.Goals as goal

pub returns-then-at-len : goal.returns-then-at-len
returns-then-at-len c =
    let spelled = c.args.self.now.spelled.now in
    ap Some (c.said_u16.ensures.value ∙ ap (said 2) (take_rest spelled (2 * c.args.at)))
    ∙ sym (slice_get-numbers_at _ c.args.at spelled (omega arith))

pub returns-else-at-len : goal.returns-else-at-len
returns-else-at-len c = sym (slice_get_past (numbers_of c.args.self.now.spelled.now) c.args.at (omega arith))
