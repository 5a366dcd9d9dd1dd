use Rattle.std.proofs.Common.{◌≡◌, ◌*◌, ◌/◌, length, rules, arith, refl}
use Rattle.sv2_types.specs.Fields.{SEQ0_64K_U16, Numbers}
use Rattle.sv2_types.specs.Spelling.{spelled_u16, spelled_seq_u16}
use Rattle.sv2_types.specs.Reading.{numbers_of}
use Rattle.sv2_types.proofs.Items.{length-numbers_at}
use Rattle.sv2_types.proofs.Moved.{content_of, length-content, moved_head, finds_at_err, only_value}
use Rattle.sv2_types.proofs.reading.Reader.seq_u16.Goals as goal

pub returns-in_err-part-clause-only : goal.returns-in_err-part-clause-only
returns-in_err-part-clause-only c =
    finds_at_err SEQ0_64K_U16 (λ v. Numbers (numbers_of v.spelled.now)) _ c.from_residual.result _ c.from_residual.ensures.1 (search rules)

pub returns-clause-spelled : goal.returns-clause-spelled
returns-clause-spelled c =
    let part = c.in_ok-part.part.now in
    let body = content_of 2 part in
    let len = length-content 2 (2 * c.said_u16-count.result) part c.in_ok-part.ensures.count in
    let counted : c.said_u16-count.result ≡ length (numbers_of body) = omega (arith, length-numbers_at (length body / 2) body, len) in
    rw c.of.ensures.spelled
    (moved_head 2 _ _ spelled_u16 part _ _ _ _ c.in_ok-part.ensures.taken (omega (arith, c.in_ok-part.ensures.count)) c.rest.ensures c.said_u16-count.ensures.spelled counted c.of.ensures.numbers)

pub returns-clause-fits : goal.returns-clause-fits
returns-clause-fits c =
    let part = c.in_ok-part.part.now in
    let body = content_of 2 part in
    let len = length-content 2 (2 * c.said_u16-count.result) part c.in_ok-part.ensures.count in
    rw c.of.ensures.spelled
    (omega (arith, length-numbers_at (length body / 2) body, len, c.said_u16-count.ensures.below), c.of.ensures.fits)

pub returns-clause-only : goal.returns-clause-only
returns-clause-only c =
    let numbers = numbers_of c.of.result.spelled.now in
    only_value SEQ0_64K_U16 (Numbers numbers) (spelled_seq_u16 numbers) c.args.self.now c.take.new.self
    (record { admits = returns-clause-fits c; form = refl }) (returns-clause-spelled c)
