use Rattle.std.proofs.Common.{sym}
use Rattle.sv2_types.proofs.Items.{length-numbers_at}
use Rattle.sv2_types.proofs.sequences.SeqU16.len.Goals as goal

pub returns-clause-count : goal.returns-clause-count
returns-clause-count c = sym (length-numbers_at _ c.args.self.now.spelled.now)
