use Rattle.pool_server.specs.Shifts.{serving_of}
use Rattle.pool_server.proofs.Attending.{shift_of, visits_each}
use Rattle.pool_server.proofs.working.SessionServer.serve_door.Goals as goal

pub returns-clause-same : goal.returns-clause-same
returns-clause-same g c =
    (visits_each (λ s. serving_of s.terms.now s.manner s.asker.now.pass.now s.asker.now.faults) (λ s. s.asker.ghost_name) (λ s. s.asker.now.pass.ghost_name) c.args.self.now c.work.new.server
    c.work.ensures.worked.answers c.work.ensures.worked.served).1

pub returns-clause-pass : goal.returns-clause-pass
returns-clause-pass g c =
    (visits_each (λ s. serving_of s.terms.now s.manner s.asker.now.pass.now s.asker.now.faults) (λ s. s.asker.ghost_name) (λ s. s.asker.now.pass.ghost_name) c.args.self.now c.work.new.server
    c.work.ensures.worked.answers c.work.ensures.worked.served).2

pub returns-clause-worked : goal.returns-clause-worked
returns-clause-worked g c =
    shift_of (λ s. serving_of s.terms.now s.manner s.asker.now.pass.now s.asker.now.faults) (λ s. s.asker.ghost_name) (λ s. s.asker.now.pass.ghost_name) c.args.self.now c.work.new.server
    c.work.ensures.worked
