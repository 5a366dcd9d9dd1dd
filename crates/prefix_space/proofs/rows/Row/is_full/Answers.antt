use Rattle.std.proofs.Common.{sym}
use Rattle.prefix_space.specs.Rows.{has_bit}
use Rattle.prefix_space.proofs.Bits.{all-bytes-fail}
use Rattle.prefix_space.proofs.rows.Row.is_full.Goals as goal

pub returns-in-Some : goal.returns-in-Some
returns-in-Some g c = sym (all-bytes-fail (has_bit c.args.self.now) c.in-Some._zero c.in-Some.ensures.value.0 c.in-Some.ensures.within)

pub returns-in-None : goal.returns-in-None
returns-in-None g c = sym c.in-None.ensures.value
