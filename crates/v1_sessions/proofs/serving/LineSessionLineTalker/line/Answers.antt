use Rattle.std.proofs.Common.{refl}
use Rattle.v1_sessions.proofs.Moves.{line_hears}
use Rattle.v1_sessions.proofs.serving.LineSessionLineTalker.line.Goals as goal

pub returns-clause-hears : goal.returns-clause-hears
returns-clause-hears g c = λ before rest text unmet some.
    let hears = c.hear_line.ensures.runs before rest text unmet some in
    record {
      intake = hears.intake;
      kept_is = hears.kept_is;
      does = line_hears g.A.Acting.worker g.A.Acting.does (λ s. s.terms.now) (λ s. s.conversation.now) (λ s. s.acting.now) (λ s. s.acting.ghost_name)
          c.args.self.now _ refl refl (g.L.Link.seen c.args.link.now) (g.L.Link.seen c.hear_line.new.link) before hears.intake c.hear_line.result hears.leads;
    }
