use Rattle.std.proofs.Common.{rules}
use Rattle.std.proofs.lemmas.List.Sorted.{IsPartitionPoint-from_clause}
use Rattle.std.specs.Prelude.{nat_lt}
use Rattle.template_jobs.specs.declared.owner.Owner.{Owner}
use Rattle.template_jobs.proofs.owner.place_of_job.Goals as goal

pub returns-clause-place : goal.returns-clause-place
returns-clause-place c =
    IsPartitionPoint-from_clause (λ (owner : Owner). nat_lt owner.job c.args.number) c.args.owners.now c.partition_point.result
    c.partition_point.ensures.partitioned c.requires (λ a r after called. search rules)
