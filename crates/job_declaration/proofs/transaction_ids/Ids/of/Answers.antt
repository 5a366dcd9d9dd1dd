use Rattle.job_declaration.proofs.Knowing.{few_of_front}
use Rattle.job_declaration.proofs.transaction_ids.Ids.of.Goals as goal

pub invariant_of-result : goal.invariant_of-result
invariant_of-result c =
    few_of_front 65536 c.loop-ids.ids-index c.args.transactions.now c.loop-ids.map.entries
    c.requires c.loop-ids.invariant
