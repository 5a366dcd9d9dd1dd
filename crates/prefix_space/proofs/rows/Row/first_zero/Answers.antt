use Rattle.std.proofs.Common.{◌≡◌, ℕ, ◌<◌, true, sym, ap, ◌∙◌, refl, arith}
use Rattle.std.specs.Int.{bit_at}
use Rattle.prefix_space.specs.Rows.{has_bit}
use Rattle.prefix_space.proofs.Bits.{all-bytes, row-bit, row-more}
use Rattle.prefix_space.proofs.rows.Row.first_zero.Goals as goal

pub loop-at-init : goal.loop-at-init
loop-at-init g c = record { full = λ byte below. absurd (omega (arith, below)); cost = omega arith }

pub returns-in-Some-clause-value : goal.returns-in-Some-clause-value
returns-in-Some-clause-value g c =
    let bits : (bit_at c.word-word.result c.in-Some.bit ≡ 0) × ((other : ℕ) → other < c.in-Some.bit → bit_at c.word-word.result other ≡ 1) = c.in-Some.ensures.value in (
      row-bit c.args.self.now c.loop-at.at c.in-Some.bit 0 c.in-Some.ensures.within (ap (λ w. bit_at w c.in-Some.bit) (sym c.word-word.ensures.value) ∙ bits.0),
      λ byte below. row-more c.args.self.now c.loop-at.at 1 true refl c.loop-at.invariant.full c.in-Some.bit
          (λ bit before. ap (λ w. bit_at w bit) (sym c.word-word.ensures.value) ∙ bits.1 bit before) (omega (arith, c.in-Some.ensures.within)) byte below,
    )

pub returns-in-Some-clause-cost : goal.returns-in-Some-clause-cost
returns-in-Some-clause-cost g c = omega (arith, c.loop-at.invariant.cost, c.word-word.ensures.cost, c.loop-at-test.true)

pub loop-at-preserved : goal.loop-at-preserved
loop-at-preserved g c = record {
  full = λ byte below.
      row-more c.args.self.now c.loop-at.at 1 true refl c.loop-at.invariant.full 64
      (λ bit before. ap (λ w. bit_at w bit) (sym c.word-word.ensures.value) ∙ c.in_default.ensures.value bit before) (omega arith) byte (omega (arith, below));
  cost = omega (arith, c.loop-at.invariant.cost, c.word-word.ensures.cost);
}

pub returns-clause-value : goal.returns-clause-value
returns-clause-value g c = all-bytes (has_bit c.args.self.now) (λ byte below. c.loop-at.invariant.full byte (omega (arith, below, c.loop-at-test.false)))

pub returns-clause-cost : goal.returns-clause-cost
returns-clause-cost g c = omega (arith, c.loop-at.invariant.cost, c.loop-at.auto.at-end)
