use Rattle.std.proofs.Common.{◌≡◌, ◌*◌, length, rules, arith, refl}
use Rattle.sv2_types.specs.Fields.{SEQ0_64K_U256, Parts}
use Rattle.sv2_types.specs.Spelling.{spelled_u16, spelled_seq64k_u256}
use Rattle.sv2_types.proofs.Moved.{length-content, moved_head, finds_at_err, only_value}
use Rattle.sv2_types.proofs.reading.Reader.seq64k_u256.Goals as goal

pub returns-in_err-part-clause-only : goal.returns-in_err-part-clause-only
returns-in_err-part-clause-only c =
    finds_at_err SEQ0_64K_U256 (λ v. Parts v.items.now) _ c.from_residual.result _ c.from_residual.ensures.1 (search rules)

pub returns-clause-spelled : goal.returns-clause-spelled
returns-clause-spelled c =
    let part = c.in_ok-part.part.now in
    let len = length-content 2 (32 * c.said_u16-count.result) part c.in_ok-part.ensures.count in
    let counted : c.said_u16-count.result ≡ length c.hashes_of.result.now = omega (arith, c.hashes_of.ensures.count, len) in
    rw c.of.ensures
    (moved_head 2 _ _ spelled_u16 part _ _ _ _ c.in_ok-part.ensures.taken (omega (arith, c.in_ok-part.ensures.count)) c.rest.ensures c.said_u16-count.ensures.spelled counted c.hashes_of.ensures.items)

pub returns-clause-only : goal.returns-clause-only
returns-clause-only c =
    let items = c.of.result.items.now in
    only_value SEQ0_64K_U256 (Parts items) (spelled_seq64k_u256 items) c.args.self.now c.take.new.self
    (record { admits = search rules; form = refl }) (returns-clause-spelled c)
