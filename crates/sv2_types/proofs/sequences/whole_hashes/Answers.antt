use Rattle.sv2_types.proofs.Items.{all_from_told}
use Rattle.sv2_types.proofs.sequences.whole_hashes.Goals as goal

pub returns-clause-fits : goal.returns-clause-fits
returns-clause-fits c = all_from_told c.args.items.now c.told-items
