use Rattle.std.proofs.Common.{◌-◌, refl}
use Rattle.line_turns.specs.Hearing.{after_idle, with_idle}
use Rattle.v1_sessions.proofs.Moves.{idle_hears, idle_leads, on_any}
use Rattle.v1_sessions.proofs.serving.LineSessionLineTalker.idle.Goals as goal

pub returns-clause-hears : goal.returns-clause-hears
returns-clause-hears g c = λ before buffer first can takes.
    record {
      intake = with_idle before;
      kept_is = on_any (with_idle before) (after_idle (before.idles - 1) c.news.result);
      does = idle_hears g.A.Acting.worker g.A.Acting.does (λ s. s.terms.now) (λ s. s.conversation.now) (λ s. s.acting.now) (λ s. s.acting.ghost_name)
          c.args.self.now _ refl refl first (g.L.Link.seen c.news.new.link) before (with_idle before) (before.idles - 1) c.news.result
          (idle_leads c.args.self.now.terms.now before buffer c.args.self.now.conversation.now c.news.new.self c.news.result can takes (c.news.ensures.runs (with_idle before)));
    }
