use Rattle.std.proofs.Common.{arith, refl, sym}
use Rattle.std.proofs.lemmas.Grind.{common_steps}
use Rattle.sv2_types.specs.Fields.{SEQ0_64K_B0_16M, Parts}
use Rattle.sv2_types.specs.Spelling.{spelled_u16, spelled_seq_bytes}
use Rattle.sv2_types.specs.Reading.{parts_at}
use Rattle.sv2_types.proofs.Items.{length-parts_at}
use Rattle.sv2_types.proofs.Moved.{content_of, moved_head, finds_at_err, only_value}
use Rattle.sv2_types.proofs.reading.Reader.seq_bytes.Goals as goal

pub returns-in_err-size-clause-only : goal.returns-in_err-size-clause-only
returns-in_err-size-clause-only c =
    finds_at_err SEQ0_64K_B0_16M (λ v. Parts (parts_at v.count v.spelled.now)) _ c.from_residual.result _ c.from_residual.ensures.1 (grind (arith, common_steps))

pub returns-clause-spelled : goal.returns-clause-spelled
returns-clause-spelled c =
    let part = c.in_ok-part.part.now in
    let counted = sym (length-parts_at c.said_u16-count.result (content_of 2 part)) in
    rw (c.of.ensures.spelled, c.of.ensures.count)
    (moved_head 2 _ _ spelled_u16 part _ _ _ _ c.in_ok-part.ensures.taken (omega (arith, c.in_ok-part.ensures.count)) c.rest-rest.ensures c.said_u16-count.ensures.spelled counted c.of.ensures.parts)

pub returns-clause-fits : goal.returns-clause-fits
returns-clause-fits c =
    rw (c.of.ensures.spelled, c.of.ensures.count)
    (omega (arith, length-parts_at c.said_u16-count.result (content_of 2 c.in_ok-part.part.now), c.said_u16-count.ensures.below), c.of.ensures.fits)

pub returns-clause-only : goal.returns-clause-only
returns-clause-only c =
    let parts = parts_at c.of.result.count c.of.result.spelled.now in
    only_value SEQ0_64K_B0_16M (Parts parts) (spelled_seq_bytes parts) c.args.self.now c.take.new.self
    (record { admits = returns-clause-fits c; form = refl }) (returns-clause-spelled c)
