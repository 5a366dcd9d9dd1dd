use Rattle.std.proofs.Common.{◌≡◌, ℕ, List, Result, Ok, ap, subst, sym, ◌∙◌}
use Rattle.std.proofs.Math.Dec.{eqb}
use Rattle.std.specs.Map.{lookup}
use Rattle.pool_history.specs.declared.refusals.NameError.{NameError}
use Rattle.pool_history.specs.declared.refusals.NameError.TheVariants as name
use Rattle.pool_history.specs.Accounts.{account_of}
use Rattle.pool_history.specs.Channels.{OpenChannel, channel_in, channels_in}
use Rattle.pool_history.specs.Refusing.{nameable}
use Rattle.channels.specs.declared.channel.Channel.{Channel}
use Rattle.channels.specs.declared.plan.ChannelPlan.TheVariants as plan
use Rattle.channels.specs.Plans.{IsUnless, naming_refusal, plan_for}
use Rattle.channels.specs.Orders.{by_id}
use Rattle.channels.proofs.Lookups.{shown_all}
use Rattle.channels.proofs.Planning.{name-found, name-refused, planned, refused}
use Rattle.channels.proofs.table.Channels.plan_name.Goals as goal

pub returns-in-Some-clause-answer : goal.returns-in-Some-clause-answer
returns-in-Some-clause-answer c =
    let entries : List (ℕ × Channel) = by_id c.self.inside.channels.entries in
    let account : List ℕ = account_of c.args.identity.now in
    refused name.Memory c.in-Some.refusal (plan.Name c.args.channel account)
    (nameable c.args.rules.now account (channel_in (channels_in c.args.self.now.open_channels c.args.session) c.args.channel))
    (sym (ap (λ table. nameable c.args.rules.now account (channel_in (channels_in table.open_channels c.args.session) c.args.channel)) c.self.view_is)
    ∙ name-refused c.args.rules.now account c.args.session c.args.channel entries c.in-Some.refusal c.name_refusal.ensures.unique
    (ap (λ text. naming_refusal c.args.rules.now text c.args.session (lookup (eqb c.args.channel) entries)) (sym c.account_in-account.ensures)
    ∙ sym c.name_refusal.ensures.refusal ∙ c.in-Some.is))

pub returns-clause-answer : goal.returns-clause-answer
returns-clause-answer c =
    let entries : List (ℕ × Channel) = by_id c.self.inside.channels.entries in
    let account : List ℕ = account_of c.args.identity.now in
    let own : (channel : OpenChannel) × (nameable c.args.rules.now account (channel_in (channels_in (shown_all entries) c.args.session) c.args.channel) ≡ Ok channel) =
    name-found c.args.rules.now account c.args.session c.args.channel entries c.name_refusal.ensures.unique
    (ap (λ text. naming_refusal c.args.rules.now text c.args.session (lookup (eqb c.args.channel) entries)) (sym c.account_in-account.ensures)
    ∙ sym c.name_refusal.ensures.refusal ∙ c.in_default.is) in
    let found : Result OpenChannel NameError = nameable c.args.rules.now account (channel_in (channels_in c.args.self.now.open_channels c.args.session) c.args.channel) in
    subst (λ text. IsUnless name.Memory (Ok (plan.Name c.args.channel text)) (plan_for (plan.Name c.args.channel account) found))
    (sym (c.in-Ok.ensures ∙ c.account_in-account.ensures))
    (planned name.Memory own.0 (plan.Name c.args.channel account) found
    (sym (ap (λ table. nameable c.args.rules.now account (channel_in (channels_in table.open_channels c.args.session) c.args.channel)) c.self.view_is) ∙ own.1))
