use Rattle.std.proofs.Common.{◌≡◌, ◌∷◌, ◌∙◌, ap, map, subst, sym}
use Rattle.pool_history.specs.Channels.{channel_in, channels_in}
use Rattle.pool_history.specs.Conditions.{found}
use Rattle.channels.specs.declared.plan.ChannelPlan.TheVariants as plan
use Rattle.channels.specs.declared.table.SetError.TheVariants as set
use Rattle.channels.specs.Cuts.{with_cut}
use Rattle.channels.specs.Plans.{CutsAsPlanned, IsAskedAsPlanned, planned_move}
use Rattle.channels.specs.Tables.{IsTold}
use Rattle.channels.proofs.Planning.{asked, told-same}
use Rattle.channels.proofs.table.Channels.set_class.Goals as goal

pub returns-in-Ok-clause-told : goal.returns-in-Ok-clause-told
returns-in-Ok-clause-told c is_asked moves within told =
    let made : c.in-Ok.plan ≡ plan.Class c.args.at c.args.channel c.args.class c.args.span =
    asked set.Memory c.in-Ok.plan (plan.Class c.args.at c.args.channel c.args.class c.args.span)
    (found set.NotOpen (channel_in (channels_in c.args.self.now.open_channels c.args.session) c.args.channel)) c.in-Ok.ensures.answer in
    subst (λ p. IsTold is_asked c.apply.new.self (planned_move p ∷ moves)) made
    (c.apply.ensures.told is_asked moves (subst (IsAskedAsPlanned is_asked) (sym made) within)
    (told-same is_asked c.args.self.now c.plan_class.new.self moves c.in-Ok.ensures.same told))

pub returns-in-Ok-clause-cut : goal.returns-in-Ok-clause-cut
returns-in-Ok-clause-cut c =
    let made : c.in-Ok.plan ≡ plan.Class c.args.at c.args.channel c.args.class c.args.span =
    asked set.Memory c.in-Ok.plan (plan.Class c.args.at c.args.channel c.args.class c.args.span)
    (found set.NotOpen (channel_in (channels_in c.args.self.now.open_channels c.args.session) c.args.channel)) c.in-Ok.ensures.answer in
    subst (λ p. CutsAsPlanned p c.plan_class.new.self c.apply.new.self) made c.apply.ensures.cut
    ∙ ap (map (with_cut c.args.at c.args.channel c.args.class c.args.span)) c.in-Ok.ensures.same.channels_stay
