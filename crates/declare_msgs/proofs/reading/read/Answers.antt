use Rattle.std.proofs.Common.{arith}
use Rattle.sv2_messages.specs.Tables.{declare_table}
use Rattle.sv2_messages.proofs.Answering.{found, only, refused}
use Rattle.declare_msgs.specs.Seen.{declare_message}
use Rattle.declare_msgs.proofs.reading.read.Goals as goal

pub returns-clause-found : goal.returns-clause-found
returns-clause-found c = found declare_message _ declare_table _ _ (λ i. omega (arith, c.type_inv.payload i)) c.read_by_kind.ensures

pub returns-clause-only : goal.returns-clause-only
returns-clause-only c = only declare_message _ declare_table _ _ c.read_by_kind.ensures

pub returns-clause-refused : goal.returns-clause-refused
returns-clause-refused c = refused declare_message _ declare_table _ _ (λ i. omega (arith, c.type_inv.payload i)) c.read_by_kind.ensures
