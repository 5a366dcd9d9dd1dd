use Rattle.stream_programs.proofs.Frames.{cut_listed}
use Rattle.stream_programs.proofs.lister.ListerStreamCommand.end.Goals as goal

pub returns-clause-cut : goal.returns-clause-cut
returns-clause-cut c = λ same bytes given listed.
    cut_listed bytes given _ _ c.args.self.now c.held-count.result c.held-count.ensures.count c.if-count-eq0.false c.in_ok-put_bad_line.ensures listed
