use Rattle.std.proofs.Common.{◌≡◌, arith}
use Rattle.v1_translate.specs.Difficulty.{exponent_up_to}
use Rattle.v1_translate.proofs.Exponents.{exponent_is}
use Rattle.v1_translate.proofs.difficulty.class_of_difficulty.Goals as goal

pub returns-then-class-lt60 : goal.returns-then-class-lt60
returns-then-class-lt60 c =
    let log = c.ilog2 in
    let same : exponent_up_to 63 c.args.difficulty ≡ log.result =
    exponent_is 63 log.result c.args.difficulty log.ensures.power_le log.ensures.next_power_gt (omega arith) in
    rw same (omega arith)

pub returns-else-class-lt60 : goal.returns-else-class-lt60
returns-else-class-lt60 c =
    let log = c.ilog2 in
    let same : exponent_up_to 63 c.args.difficulty ≡ log.result =
    exponent_is 63 log.result c.args.difficulty log.ensures.power_le log.ensures.next_power_gt (omega arith) in
    rw same (omega arith)
