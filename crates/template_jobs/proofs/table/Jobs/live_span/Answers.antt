use Rattle.template_jobs.proofs.Spans.{table-within}
use Rattle.template_jobs.proofs.table.Jobs.live_span.Goals as goal

pub returns-clause-within : goal.returns-clause-within
returns-clause-within c = table-within c.self.inside.span _ c.args.self.now c.self.view_is c.self.invariant.live_within c.self.invariant.custom_within
