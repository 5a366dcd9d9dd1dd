use Rattle.std.proofs.Common.{arith, inl, refl, subst}
use Rattle.pool_io.specs.Seen.{SinkSeen}
use Rattle.pool_commands.specs.DurableAuditing.{AuditsDisk}
use Rattle.pool_commands.proofs.durable_audit.audit_to_output.Goals as goal

pub returns-clause-row : goal.returns-clause-row
returns-clause-row g c =
    let given = c.in-Ok.ensures.given in
    let sink_back = c.done_sink.ensures.back in
    let back = g.V.Z.Disk.seen c.audit_disk-disk.result.0 in
    let put = g.H.T.Sink.seen c.audit_disk-disk.new.sink in
    inl (record {
      back = back;
      sink = put;
      audits = subst (λ (s : SinkSeen). AuditsDisk (g.V.Z.Disk.seen c.args.disk) back s put c.audit_disk-disk.result.1) c.in-Ok.ensures.told c.audit_disk-disk.ensures;
      sinks = rw (sink_back, given) (record { lent = omega arith; back = refl });
      streams = rw (sink_back, given) refl;
      openings = rw (c.done_sink.ensures.openings, c.in-Ok.ensures.called) refl;
      disks = c.done_disk-2.ensures.back;
    })
