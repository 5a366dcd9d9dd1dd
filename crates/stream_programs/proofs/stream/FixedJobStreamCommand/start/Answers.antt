use Rattle.stream_programs.proofs.Streaming.{answers_none}
use Rattle.stream_programs.proofs.stream.FixedJobStreamCommand.start.Goals as goal

pub returns-clause-none : goal.returns-clause-none
returns-clause-none c = answers_none _ c.in_ok-splitter.ensures.empty c.new-2.ensures.remembers
