use Rattle.std.proofs.Common.{refl}
use Rattle.declare_msgs.specs.Seen.{declare_message}
use Rattle.sv2_messages.specs.Tables.{declare_table}
use Rattle.job_declaration.proofs.Reading.{none_read}
use Rattle.job_declaration.proofs.declarer.Declarer.on_frame.Goals as goal

pub returns-in-Err-clause-ok : goal.returns-in-Err-clause-ok
returns-in-Err-clause-ok c = record {
  none = none_read declare_message declare_table c.args.frame.now.kind c.args.frame.now.payload.now c.read-read.result c.in-Err.field-0 c.in-Err.is c.read-read.ensures.only;
  kind_told = refl;
  same = refl;
}
