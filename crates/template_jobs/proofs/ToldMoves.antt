-- A table answers by the history that its calls stand for.
use Rattle.std.proofs.Common.{◌≡◌, ◌-◌, ◌++◌, ap, length, map, sym, ◌∙◌}
use Rattle.std.proofs.lemmas.List.{map-append}
use Rattle.history_laws.specs.KeptJobs.{KeptJobs, ReadsTheKept, is_mineable_by, kept_after, state_by}
use Rattle.history_laws.proofs.JobsKept.{kept-move, kept-suffice}
use Rattle.pool_history.specs.Jobs.{jobs_of, jobs_told}
use Rattle.pool_history.specs.Refusing.{refusal_among}
use Rattle.pool_history.specs.Sessions.{past_of, templates}
use Rattle.template_jobs.specs.HeldJobs.{as_job}
use Rattle.template_jobs.specs.Tables.{templates_of}
use Rattle.template_jobs.specs.Told.{HistoriesAreRead, MovesAreTold}
use Rattle.template_jobs.proofs.OwnCounted.{templates-counted}

pub moves-told : MovesAreTold
moves-told script move moves old new takes told =
    takes.kept ∙ ap (kept_after move) told ∙ sym (kept-move move (jobs_told moves))

pub histories-read : HistoriesAreRead
histories-read history table told =
    let reads : ReadsTheKept history (jobs_of (past_of history)) = kept-suffice history in
    let came : templates_of table ≡ templates (past_of history) =
    ap (λ (kept : KeptJobs). kept.count - length kept.own) told ∙ templates-counted (past_of history) in
    record {
      state = λ number. ap (λ (kept : KeptJobs). state_by kept number) told ∙ sym (reads.state number);
      mineable = λ channel number. ap (λ (kept : KeptJobs). is_mineable_by kept channel number) told ∙ sym (reads.mineable channel number);
      held = map-append as_job (table.future ++ table.live) table.custom
          ∙ ap (λ jobs. jobs ++ map as_job table.custom) (map-append as_job table.future table.live)
          ∙ ap (λ (kept : KeptJobs). kept.future ++ kept.live ++ kept.custom) told;
      templates = came;
      refusal = λ script template. ap (λ n. refusal_among script n (map as_job (table.future ++ table.live)) table.tip template) came
          ∙ ap (λ jobs. refusal_among script (templates (past_of history)) jobs table.tip template) (map-append as_job table.future table.live)
          ∙ ap (λ (kept : KeptJobs). refusal_among script (templates (past_of history)) (kept.future ++ kept.live) kept.tip template) told;
    }
