use Rattle.std.proofs.Common.{subst}
use Rattle.pool_history.specs.declared.asking.Request.TheVariants as request
use Rattle.pool_history.specs.declared.events.Event.TheVariants as event
use Rattle.pool_history.specs.declared.replies.Reply.TheVariants as reply
use Rattle.pool_history.specs.Channels.{channel_in, channels_in}
use Rattle.share_ledger.specs.declared.planning.Change.TheVariants as change
use Rattle.share_ledger.specs.declared.planning.Step.TheVariants as step
use Rattle.share_ledger.specs.contracts.tables.Tables.{the_view}
use Rattle.share_ledger.specs.Planning.{IsStepWithin}
use Rattle.share_ledger.specs.Tables.{LedgerTables}
use Rattle.share_ledger.proofs.ChannelSteps.{close-made, close-not, kept-none, kept-some}
use Rattle.share_ledger.proofs.tables.Tables.plan_close.Goals as goal

pub returns-in-Some : goal.returns-in-Some
returns-in-Some c =
    let old : LedgerTables = the_view c.self.inside in
    let found = kept-some _ (channel_in (channels_in old.channels.open_channels c.args.session) c.args.channel) c.in-Some.ensures in
    subst (λ (t : LedgerTables). IsStepWithin t t c.args.session (request.Close c.args.channel)
    (step.Move (record {
      event = event.Close c.args.session c.args.channel;
      change = change.Close c.args.session c.args.channel;
      reply = reply.Closed;
    }))) c.self.view_is
    (close-made old c.self.invariant c.args.session c.tables_show_histories.ensures c.self.invariant.rules c.self.invariant.told.are_rules
    c.args.channel found.0 found.1)

pub returns-in-None : goal.returns-in-None
returns-in-None c =
    let old : LedgerTables = the_view c.self.inside in
    subst (λ (t : LedgerTables). IsStepWithin t t c.args.session (request.Close c.args.channel) (step.Answer reply.NotOpen)) c.self.view_is
    (close-not old c.self.invariant c.args.session c.tables_show_histories.ensures c.self.invariant.rules c.self.invariant.told.are_rules
    c.args.channel (kept-none (channel_in (channels_in old.channels.open_channels c.args.session) c.args.channel) c.in-None.ensures))
