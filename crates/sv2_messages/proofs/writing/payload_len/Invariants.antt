use Rattle.std.proofs.Common.{◌≡◌, ◌+◌, ◌<◌, ◌^◌, length, drop}
use Rattle.sv2_messages.specs.Writing.{spellings_of}
use Rattle.sv2_messages.proofs.Lists.{Admitted}
use Rattle.sv2_messages.proofs.writing.payload_len.Given as goal

abbrev pub invariant-loop-field : goal.invariant-loop-field
invariant-loop-field l = record {
  below : l.len < 2 ^ 24;
  ahead : length (spellings_of l.fields) ≡ l.len + length (spellings_of (drop l.field-index l.fields));
  all : Admitted (drop l.field-index l.fields) → Admitted l.fields;
  rest : Admitted l.fields → Admitted (drop l.field-index l.fields);
}
