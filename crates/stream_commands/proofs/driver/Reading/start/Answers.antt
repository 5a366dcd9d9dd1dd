use Rattle.stream_commands.proofs.Driving.{answered_first}
use Rattle.stream_commands.proofs.driver.Reading.start.Goals as goal

pub returns-clause-answered : goal.returns-clause-answered
returns-clause-answered g c = answered_first _ c.in_ok-start.ensures.none
