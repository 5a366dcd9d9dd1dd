use Rattle.std.proofs.Common.{rules}
use Rattle.std.proofs.lemmas.List.Sorted.{IsPartitionPoint-from_clause}
use Rattle.std.specs.Prelude.{nat_lt}
use Rattle.event_store.proofs.places.count_before.Goals as goal

pub returns-clause-parted : goal.returns-clause-parted
returns-clause-parted c =
    IsPartitionPoint-from_clause (λ at. nat_lt at c.args.from) c.args.places.now c.partition_point.result
    c.partition_point.ensures.partitioned c.requires (λ a r after called. search rules)
