use Rattle.std.proofs.Common.{◌∙◌, drop, arith, length-drop}
use Rattle.std.proofs.lemmas.List.{take_all}
use Rattle.stream_programs.proofs.fronts.tail_of.Goals as goal

pub returns : goal.returns
returns c = c.copy_from_slice.ensures.after
    ∙ take_all 16 (drop 64 c.args.header.now) (omega (arith, length-drop 64 c.args.header.now))
