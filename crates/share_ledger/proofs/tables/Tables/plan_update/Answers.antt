use Rattle.std.proofs.Common.{rules, ◌≡◌, ◌≤◌, ◌<◌, Err, Ok, Some, true, false, length, ap, arith, subst, sym, ◌∙◌}
use Rattle.std.specs.Option.{option_map}
use Rattle.std.specs.Prelude.{nat_eq}
use Rattle.pool_history.specs.declared.asking.Request.TheVariants as request
use Rattle.pool_history.specs.declared.refusals.UpdateError.TheVariants as update_error
use Rattle.pool_history.specs.declared.replies.Reply.TheVariants as reply
use Rattle.pool_history.specs.Answering.{without_event}
use Rattle.pool_history.specs.Channels.{channel_in, channels_in, present_class}
use Rattle.pool_history.specs.Conditions.{found}
use Rattle.pool_history.specs.Refusing.{class_for, class_of_target}
use Rattle.pool_history.specs.Sessions.{rules_of}
use Rattle.channels.specs.declared.plan.ChannelPlan.{ChannelPlan}
use Rattle.channels.specs.declared.plan.ChannelPlan.TheVariants as plan
use Rattle.channels.specs.declared.table.SetError.TheVariants as set_error
use Rattle.channels.specs.Plans.{IsUnless, plan_for}
use Rattle.share_ledger.specs.declared.planning.Step.{Step}
use Rattle.share_ledger.specs.declared.planning.Step.TheVariants as step
use Rattle.share_ledger.specs.contracts.tables.Tables.{the_view}
use Rattle.share_ledger.specs.ChannelSteps.{class_step}
use Rattle.share_ledger.specs.Planning.{IsStepWithin, past_in, step_within}
use Rattle.share_ledger.specs.Tables.{LedgerTables}
use Rattle.share_ledger.proofs.ChannelSteps.{class-planned, class-unplanned, update-closed, update-far, update-made, update-same}
use Rattle.share_ledger.proofs.Within.{if_made, least_class, still}
use Rattle.share_ledger.proofs.tables.Tables.plan_update.Goals.{in-Err-Memory, in-Err-NotOpen, in-Ok}
use Rattle.share_ledger.proofs.tables.Tables.plan_update.Goals as goal

pub class_given-class-requires-clause-least : goal.class_given-class-requires-clause-least
class_given-class-requires-clause-least c = least_class _ c.self.invariant c.rules.result.now c.rules.ensures

pub returns-in_default-clause-step : goal.returns-in_default-clause-step
returns-in_default-clause-step c =
    let old : LedgerTables = the_view c.self.inside in
    subst (λ (st : Step). IsStepWithin c.args.self.now c.args.self.now c.args.session (request.Update c.args.channel c.args.target) st) (sym c.refused_update.ensures)
    (still old c.args.self.now c.args.session (request.Update c.args.channel c.args.target) (reply.UpdateRefused update_error.NotOpen) c.self.view_is
    (update-closed old c.self.invariant c.args.session c.tables_show_histories.ensures c.self.invariant.rules c.self.invariant.told.are_rules
    old.channels c.args.channel c.args.target (sym c.in_default.is ∙ c.class_of.ensures)))

pub returns-then-asked-gt60-clause-step : goal.returns-then-asked-gt60-clause-step
returns-then-asked-gt60-clause-step c =
    let old : LedgerTables = the_view c.self.inside in
    let far : 60 < class_of_target c.args.target = search rules in
    subst (λ (st : Step). IsStepWithin c.args.self.now c.args.self.now c.args.session (request.Update c.args.channel c.args.target) st)
    (sym (c.refused_update-then-asked-gt60.ensures
    ∙ ap (λ n. step.Answer (reply.UpdateRefused (update_error.TargetOutOfRange n))) c.class_of_target-asked.ensures.value))
    (still old c.args.self.now c.args.session (request.Update c.args.channel c.args.target)
    (reply.UpdateRefused (update_error.TargetOutOfRange (class_of_target c.args.target))) c.self.view_is
    (update-far old c.self.invariant c.args.session c.tables_show_histories.ensures c.self.invariant.rules c.self.invariant.told.are_rules
    old.channels c.args.channel c.args.target c.in-Some.present (sym c.in-Some.is ∙ c.class_of.ensures) far))

pub returns-then-value-clause-step : goal.returns-then-value-clause-step
returns-then-value-clause-step c =
    let old : LedgerTables = the_view c.self.inside in
    let near : class_of_target c.args.target ≤ 60 = search rules in
    let alike : nat_eq (class_for c.rules.result.now c.args.target) c.in-Some.present ≡ true = search rules in
    subst (λ n. step_within (rules_of (past_in c.args.self.now)) (past_in c.args.self.now) c.args.session (request.Update c.args.channel c.args.target)
    ≡ without_event (reply.Target c.args.channel n)) (sym c.class_given-class.ensures)
    (still old c.args.self.now c.args.session (request.Update c.args.channel c.args.target)
    (reply.Target c.args.channel (class_for c.rules.result.now c.args.target)) c.self.view_is
    (update-same old c.self.invariant c.args.session c.tables_show_histories.ensures c.rules.result.now c.rules.ensures
    old.channels c.args.channel c.args.target c.in-Some.present (sym c.in-Some.is ∙ c.class_of.ensures) near alike))

pub returns-clause-step : goal.returns-clause-step
returns-clause-step c =
    let old : LedgerTables = the_view c.self.inside in
    let near : class_of_target c.args.target ≤ 60 = search rules in
    let other : nat_eq (class_for c.rules.result.now c.args.target) c.in-Some.present ≡ false = search rules in
    let some : Some c.in-Some.present ≡ option_map present_class (channel_in (channels_in old.channels.open_channels c.args.session) c.args.channel) =
    sym c.in-Some.is ∙ c.class_of.ensures in
    let planned_class : ChannelPlan = plan.Class c.len-at.result c.args.channel c.class_given-class.result c.live_span-span.result in
    elim c.match-plan_class.branch [
      | in-Ok w ↦ rw w.result-is
          (if_made {E = Unit {0}} old c.args.self.now _ c.args.session (request.Update c.args.channel c.args.target) (Ok w.classing_step.result)
          (class_step c.args.session c.args.channel (class_for c.rules.result.now c.args.target) w.in-Ok.plan) c.self.view_is
          (w.classing_step.ensures ∙ ap (λ n. class_step c.args.session c.args.channel n w.in-Ok.plan) c.class_given-class.ensures)
          (update-made old c.self.invariant c.args.session c.tables_show_histories.ensures c.rules.result.now c.rules.ensures
          c.plan_class.new.self c.args.channel c.args.target c.in-Some.present w.in-Ok.plan c.live_span-span.result some near other
          (class-planned planned_class w.in-Ok.plan _ w.in-Ok.ensures.answer
          ∙ ap (λ n. plan.Class n c.args.channel c.class_given-class.result c.live_span-span.result) c.len-at.ensures.value
          ∙ ap (λ n. plan.Class (length old.history.events) c.args.channel n c.live_span-span.result) c.class_given-class.ensures)
          w.in-Ok.ensures.ready c.live_span-span.ensures.within c.live_span-span.ensures.value))
      | in-Err-Memory w ↦ rw w.result-is tt
      | in-Err-NotOpen w ↦ rw w.result-is
          (if_made {E = Unit {0}} old c.args.self.now _ c.args.session (request.Update c.args.channel c.args.target) (Ok w.refused_update-in-Err-NotOpen.result)
          (step.Answer (reply.UpdateRefused update_error.NotOpen)) c.self.view_is w.refused_update-in-Err-NotOpen.ensures
          (update-closed old c.self.invariant c.args.session c.tables_show_histories.ensures c.rules.result.now c.rules.ensures
          c.plan_class.new.self c.args.channel c.args.target
          (class-unplanned planned_class (channel_in (channels_in old.channels.open_channels c.args.session) c.args.channel)
          (subst (λ e. IsUnless {X = ChannelPlan} set_error.Memory (Err e) (plan_for planned_class
          (found set_error.NotOpen (channel_in (channels_in old.channels.open_channels c.args.session) c.args.channel))))
          w.in-Err-NotOpen.field-0-is w.in-Err-NotOpen.ensures.answer))))
    ]
