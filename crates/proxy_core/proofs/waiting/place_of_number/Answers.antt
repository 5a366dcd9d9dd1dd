use Rattle.std.proofs.Common.{rules}
use Rattle.std.proofs.lemmas.List.Sorted.{IsPartitionPoint-from_clause}
use Rattle.std.specs.Prelude.{nat_lt}
use Rattle.proxy_rules.specs.State.{SentOn}
use Rattle.proxy_core.proofs.waiting.place_of_number.Goals as goal

pub returns-clause-place : goal.returns-clause-place
returns-clause-place c =
    λ parted. IsPartitionPoint-from_clause (λ (sent : SentOn). nat_lt sent.number c.args.number) c.args.waiting.now.items c.partition_point.result
    c.partition_point.ensures.partitioned parted (λ a r after called. search rules)
