use Rattle.proxy_server.specs.Parts.{seeing_of, service_of}
use Rattle.proxy_server.proofs.Whole.{attended_same}
use Rattle.proxy_server.proofs.parts.AttendingTendingProxyThreadPartL.tend.Goals as goal

pub returns-clause-same : goal.returns-clause-same
returns-clause-same g c =
    attended_same (seeing_of g.D.Door.seen g.D.L.Link.seen (service_of c.args.self.now.limits)) (c.args.part.now, c.args.pass.now) (c.attend.new.part, c.attend.new.pass) c.attend.ensures
