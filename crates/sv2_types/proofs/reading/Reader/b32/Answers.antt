use Rattle.std.proofs.Common.{ℕ, List, rules, refl}
use Rattle.sv2_types.specs.Fields.{B0_32, Bytes}
use Rattle.sv2_types.specs.Spelling.{spelled_u8, spelled_b255}
use Rattle.sv2_types.proofs.Moved.{content_of, moved_content, only_value}
use Rattle.sv2_types.proofs.reading.Reader.b32.Goals as goal

pub returns-clause-spelled : goal.returns-clause-spelled
returns-clause-spelled c =
    moved_content 1 _ spelled_u8 _ _ _ _ c.in_ok-part.ensures.taken c.in_ok-part.ensures.count c.rest.ensures c.said_u8-len.ensures.spelled

pub returns-clause-only : goal.returns-clause-only
returns-clause-only c =
    let v : List ℕ = content_of 1 c.in_ok-part.part.now in
    only_value B0_32 (Bytes v) (spelled_b255 v) _ _ (record { admits = search rules; form = refl }) (returns-clause-spelled c)
