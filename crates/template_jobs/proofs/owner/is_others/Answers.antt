use Rattle.std.proofs.Common.{ap, sym, ◌∙◌}
use Rattle.std.proofs.lemmas.Option.{slice_get-get_or, slice_get_past}
use Rattle.history_laws.specs.KeptJobs.{is_others}
use Rattle.template_jobs.specs.Owners.{other_at, own_job}
use Rattle.template_jobs.specs.declared.owner.Owner.{Owner}
use Rattle.template_jobs.proofs.Rising.{others-at, rising-parted}
use Rattle.template_jobs.proofs.owner.is_others.Goals as goal

pub place_of_job-requires : goal.place_of_job-requires
place_of_job-requires c = rising-parted c.args.number c.args.owners.now c.requires

pub returns-in-Some : goal.returns-in-Some
returns-in-Some c =
    c.is_owner_other.ensures ∙ ap (λ (owner : Owner). is_others c.args.channel c.args.number (own_job owner)) c.in-Some.ensures.lookup.1
    ∙ sym (others-at c.args.channel c.args.number c.place_of_job.result c.args.owners.now c.requires c.place_of_job.ensures.place.0 c.place_of_job.ensures.place.1 c.place_of_job.ensures.within
    ∙ ap (other_at c.args.channel c.args.number) (slice_get-get_or c.args.owners.now c.place_of_job.result c.in-Some.owner.now c.in-Some.ensures.lookup.3.0))

pub returns-in-None : goal.returns-in-None
returns-in-None c =
    sym (others-at c.args.channel c.args.number c.place_of_job.result c.args.owners.now c.requires c.place_of_job.ensures.place.0 c.place_of_job.ensures.place.1 c.place_of_job.ensures.within
    ∙ ap (other_at c.args.channel c.args.number) (slice_get_past c.args.owners.now c.place_of_job.result c.in-None.ensures.lookup.3))
