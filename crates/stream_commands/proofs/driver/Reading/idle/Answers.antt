use Rattle.std.proofs.Common.{arith}
use Rattle.stream_commands.proofs.Driving.{idle_ends, answered_idle}
use Rattle.stream_commands.proofs.driver.Reading.idle.Goals as goal

pub returns-then-self-eq-IDLE_TURNS-clause-goes : goal.returns-then-self-eq-IDLE_TURNS-clause-goes
returns-then-self-eq-IDLE_TURNS-clause-goes g c = λ before now steps answered.
    idle_ends (g.C.StreamCommand.duty (g.C.StreamCommand.asked c.args.self.now.command)) (g.C.StreamCommand.has_read c.args.self.now.command) (g.met.C.StreamCommand.owes_so_far c.args.self.now.command)
    c.args.self.now.tally before now steps answered (omega (arith, c.if-self-eq-IDLE_TURNS.true))

pub returns-else-self-eq-IDLE_TURNS-clause-goes : goal.returns-else-self-eq-IDLE_TURNS-clause-goes
returns-else-self-eq-IDLE_TURNS-clause-goes g c = λ before now steps answered.
    answered_idle (g.C.StreamCommand.duty (g.C.StreamCommand.asked c.args.self.now.command)) (g.C.StreamCommand.has_read c.args.self.now.command) (g.met.C.StreamCommand.owes_so_far c.args.self.now.command)
    c.args.self.now.tally before now steps answered (omega (arith, c.requires.idles, c.if-self-eq-IDLE_TURNS.false)) c.requires.taken
