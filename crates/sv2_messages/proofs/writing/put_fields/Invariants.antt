use Rattle.std.proofs.Common.{◌≡◌, ◌++◌, drop}
use Rattle.pool_base.specs.Lists.{Begins}
use Rattle.sv2_messages.specs.Writing.{spellings_of}
use Rattle.sv2_messages.proofs.Lists.{Admitted}
use Rattle.sv2_messages.proofs.writing.put_fields.Given as goal

abbrev pub invariant-loop-field : goal.invariant-loop-field
invariant-loop-field l = record {
  begins : Begins l.fn.out.items l.out.items;
  whole : l.out.items ++ spellings_of (drop l.field-index l.fields) ≡ l.fn.out.items ++ spellings_of l.fields;
  admitted : Admitted (drop l.field-index l.fields);
}
