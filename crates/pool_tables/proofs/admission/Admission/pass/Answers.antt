use Rattle.std.proofs.Common.{◌^◌, refl, ap, sym, ◌∙◌}
use Rattle.block_header.specs.Hash.{dsha}
use Rattle.block_header.specs.Target.{is_at_most}
use Rattle.pool_history.specs.declared.templates.TipData.{TipData}
use Rattle.pool_history.specs.Crediting.{reward_of}
use Rattle.pool_history.specs.Jobs.{Job}
use Rattle.pool_tables.proofs.admission.Admission.pass.Goals as goal

pub returns-in-Some-clause-passes : goal.returns-in-Some-clause-passes
returns-in-Some-clause-passes c script past with found shows count = sym (c.in-Some.ensures.first past with found.class_is shows count)

pub returns-in-None-clause-passes : goal.returns-in-None-clause-passes
returns-in-None-clause-passes c script past with found shows count = (
  sym (c.in-None.ensures.first past with found.class_is shows count),
  record {
    header_is = refl;
    block_is = c.is_at_most_target.ensures ∙ ap (λ h. is_at_most h c.args.self.now.tip.now.target) c.requires
        ∙ ap (λ (t : TipData). is_at_most (dsha c.args.header) t.target) found.tip_is;
    work_is = c.work_of.ensures.value ∙ ap (λ z. 2 ^ z) found.class_is;
    reward_is = c.reward.ensures.value ∙ ap (λ (j : Job). reward_of j.source) found.job_is;
  },
)
