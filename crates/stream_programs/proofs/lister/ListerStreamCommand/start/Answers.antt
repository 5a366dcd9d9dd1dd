use Rattle.std.proofs.Common.{refl}
use Rattle.stream_programs.proofs.Frames.{lists_none}
use Rattle.stream_programs.proofs.lister.ListerStreamCommand.start.Goals as goal

pub returns-clause-none : goal.returns-clause-none
returns-clause-none c = lists_none _ c.in_ok-new.ensures.empty refl
