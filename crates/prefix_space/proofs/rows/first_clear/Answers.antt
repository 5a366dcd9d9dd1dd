use Rattle.std.proofs.Common.{ap, ◌∙◌, arith, rules, w64}
use Rattle.std.proofs.lemmas.Nat.Bits.{bit_at-trailing_ones, bit_at_ones}
use Rattle.std.specs.Int.{bit_at}
use Rattle.prefix_space.proofs.rows.first_clear.Goals as goal

pub returns-then-word-eq18446744073709551615-clause-value : goal.returns-then-word-eq18446744073709551615-clause-value
returns-then-word-eq18446744073709551615-clause-value c other below =
    ap (λ n. bit_at n other) c.if-word-eq18446744073709551615.true ∙ bit_at_ones 64 other below

pub returns-else-word-eq18446744073709551615-clause-value : goal.returns-else-word-eq18446744073709551615-clause-value
returns-else-word-eq18446744073709551615-clause-value c = search (rules, bit_at-trailing_ones w64 c.args.word (omega arith))
