use Rattle.std.proofs.Common.{ℕ, subst}
use Rattle.sv2_frames.specs.Holding.{IsCutWithin}
use Rattle.proxy_server.proofs.Uplinks.{where_on}
use Rattle.proxy_server.proofs.upstream.UpstreamLinkTurnHearer.piece.Goals as goal

pub returns-clause-heard : goal.returns-clause-heard
returns-clause-heard g c = (
  c.frames.ensures.same,
  (
    c.frames.ensures.leads,
    λ on.
        subst (λ (limit : ℕ). IsCutWithin (record { held = c.frames.new.self.splitter.held; limit = limit })) c.frames.ensures.limit
        (where_on c.frames.result _ c.frames.ensures.cut on),
  ),
)
