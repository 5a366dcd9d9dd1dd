-- The fields of a list, from a place on.
use Rattle.std.proofs.Common.{List}
use Rattle.sv2_messages.specs.declared.field.Field.{Field}
use Rattle.sv2_messages.specs.Messages.{AreAdmitted}
use Rattle.sv2_messages.specs.Writing.{types_in, values_in}

-- each value is one of its type
abbrev pub Admitted : List Field → Type 0
Admitted list = AreAdmitted (types_in list) (values_in list)
