use Rattle.std.proofs.Common.{arith}
use Rattle.sv2_messages.specs.Tables.{template_table}
use Rattle.sv2_messages.proofs.Answering.{found, only, refused}
use Rattle.template_msgs.specs.Seen.{template_message}
use Rattle.template_msgs.proofs.reading.read.Goals as goal

pub returns-clause-found : goal.returns-clause-found
returns-clause-found c = found template_message _ template_table _ _ (λ i. omega (arith, c.type_inv.payload i)) c.read_by_kind.ensures

pub returns-clause-only : goal.returns-clause-only
returns-clause-only c = only template_message _ template_table _ _ c.read_by_kind.ensures

pub returns-clause-refused : goal.returns-clause-refused
returns-clause-refused c = refused template_message _ template_table _ _ (λ i. omega (arith, c.type_inv.payload i)) c.read_by_kind.ensures
