use Rattle.std.proofs.Common.{sym}
use Rattle.sv2_types.proofs.Items.{length-parts_at}
use Rattle.sv2_types.proofs.sequences.SeqBytes.len.Goals as goal

pub returns-clause-parts : goal.returns-clause-parts
returns-clause-parts c = sym (length-parts_at c.args.self.now.count c.args.self.now.spelled.now)
