use Rattle.test_miner.proofs.Fitting.{success_fits}
use Rattle.test_miner.proofs.feed_machine.put_success.Goals as goal

pub frame-requires : goal.frame-requires
frame-requires c = success_fits
