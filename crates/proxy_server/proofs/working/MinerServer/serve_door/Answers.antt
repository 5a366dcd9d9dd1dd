use Rattle.proxy_server.specs.Shifts.{serving_at}
use Rattle.proxy_server.proofs.Attended.{names_stay, shift_of}
use Rattle.proxy_server.proofs.working.MinerServer.serve_door.Goals as goal

pub returns-clause-same : goal.returns-clause-same
returns-clause-same g c =
    (names_stay (λ s. serving_at s.idle_turns s.caller.now.pass.now) (λ s. s.caller.ghost_name) (λ s. s.caller.now.pass.ghost_name) c.args.self.now c.work.new.server c.work.ensures.worked).0

pub returns-clause-pass : goal.returns-clause-pass
returns-clause-pass g c =
    (names_stay (λ s. serving_at s.idle_turns s.caller.now.pass.now) (λ s. s.caller.ghost_name) (λ s. s.caller.now.pass.ghost_name) c.args.self.now c.work.new.server c.work.ensures.worked).1

pub returns-clause-worked : goal.returns-clause-worked
returns-clause-worked g c =
    shift_of (λ s. serving_at s.idle_turns s.caller.now.pass.now) (λ s. s.caller.ghost_name) (λ s. s.caller.now.pass.ghost_name) c.args.self.now c.work.new.server c.work.ensures.worked
