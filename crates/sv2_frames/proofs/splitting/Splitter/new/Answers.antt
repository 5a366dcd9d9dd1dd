use Rattle.sv2_frames.proofs.Standing.{nothing_is_cut}
use Rattle.sv2_frames.proofs.splitting.Splitter.new.Goals as goal

pub returns-clause-cut : goal.returns-clause-cut
returns-clause-cut c = nothing_is_cut c.args.limit
