use Rattle.std.proofs.Common.{rules}
use Rattle.std.proofs.lemmas.List.Sorted.{IsPartitionPoint-from_clause, IsPartitionedBy-ltb}
use Rattle.std.specs.Prelude.{nat_lt}
use Rattle.channels.specs.declared.settings.Setting.{Setting}
use Rattle.channels.proofs.settings.count_before.Goals as goal

pub returns-clause-parted : goal.returns-clause-parted
returns-clause-parted c =
    IsPartitionPoint-from_clause (λ (setting : Setting). nat_lt setting.at c.args.place) c.args.settings.now c.partition_point.result
    c.partition_point.ensures.partitioned (IsPartitionedBy-ltb (λ (setting : Setting). setting.at) c.args.settings.now c.args.place c.requires)
    (λ a r after called. search rules)
