use Rattle.std.proofs.Common.{rules, refl}
use Rattle.sv2_types.specs.Fields.{F32, Bytes}
use Rattle.sv2_types.proofs.Moved.{only_value}
use Rattle.sv2_types.proofs.reading.Reader.f32_bytes.Goals as goal

pub returns-clause-only : goal.returns-clause-only
returns-clause-only c =
    rw c.array_of.ensures (only_value F32 (Bytes _) _ _ _ (record { admits = search rules; form = refl }) c.in_ok-part.ensures.taken)
