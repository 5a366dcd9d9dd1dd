use Rattle.std.proofs.Common.{◌<◌, ◌^◌, false, not, subst, sym, ap, ◌∙◌, refl, arith}
use Rattle.prefix_space.specs.Rows.{has_bit}
use Rattle.prefix_space.proofs.Bits.{no-byte, row-more, word-none, word-some}
use Rattle.prefix_space.proofs.rows.Row.is_empty.Goals as goal

pub loop-at-init : goal.loop-at-init
loop-at-init g c byte below = absurd (omega (arith, below))

pub returns-then-word-ne0 : goal.returns-then-word-ne0
returns-then-word-ne0 g c =
    sym (ap not (word-some c.args.self.now c.loop-at.at c.loop-at-test.true
    (λ none. c.if-word-ne0.true (c.word.ensures.value ∙ none)) (subst (λ n. n < 2 ^ 64) c.word.ensures.value c.word.type_inv)))

pub loop-at-preserved : goal.loop-at-preserved
loop-at-preserved g c byte below =
    row-more c.args.self.now c.loop-at.at 0 false refl c.loop-at.invariant 64
    (word-none c.args.self.now c.loop-at.at (sym c.word.ensures.value ∙ c.if-word-ne0.false)) (omega arith) byte (omega (arith, below))

pub returns : goal.returns
returns g c = sym (ap not (no-byte (has_bit c.args.self.now) (λ byte below. c.loop-at.invariant byte (omega (arith, below, c.loop-at-test.false)))))
