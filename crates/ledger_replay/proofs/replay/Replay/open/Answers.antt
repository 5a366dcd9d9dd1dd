use Rattle.std.proofs.Common.{◌≡◌, ℕ, true, List, subst}
use Rattle.pool_history.specs.declared.events.Event.{Event}
use Rattle.pool_history.specs.declared.events.Kind.{Kind}
use Rattle.pool_history.specs.Channels.{channel_moves}
use Rattle.pool_history.specs.Legal.{is_opening_account}
use Rattle.ledger_replay.specs.declared.replay.Replay.{Replay}
use Rattle.ledger_replay.specs.Replays.{IsOpened, WasReplayed, tables_of}
use Rattle.ledger_replay.proofs.OpeningsMoved.{IsChecked, open-bad, open-refused, open-taken}
use Rattle.ledger_replay.proofs.replay.Replay.open.Goals as goal

checked : (replay : Replay) (past : List Event) (session : ℕ) (kind : Kind) (text account : List ℕ) (class : ℕ) → WasReplayed replay past
    → text ≡ account → IsOpened replay session kind text class → IsChecked (tables_of replay) past session kind account class
checked replay past session kind text account class was same opens = record {
  was = was;
  may = opens.may past was;
  account_said = subst (λ a. is_opening_account replay.rules kind a ≡ true) same opens.account_said;
  in_range = opens.in_range;
}

pub returns-in-Err-next_opening-clause-judged : goal.returns-in-Err-next_opening-clause-judged
returns-in-Err-next_opening-clause-judged c past was =
    open-refused (tables_of c.args.self.now) c.next_opening.new.channels past c.args.session c.args.kind c.args.account c.args.class c.args.lead.now
    c.length_to_try-len.result c.in-Err-next_opening.refusal _
    (checked c.args.self.now past c.args.session c.args.kind c.text.result.now c.args.account c.args.class was c.text.ensures.value c.in-Ok.ensures.opens.1)
    c.length_to_try-len.ensures.same c.in-Err-next_opening.ensures.refused c.in-Err-next_opening.ensures.same c.opening_error.ensures

pub returns-then-not-is_lead-clause-judged : goal.returns-then-not-is_lead-clause-judged
returns-then-not-is_lead-clause-judged c past was =
    open-bad (tables_of c.args.self.now) c.next_opening.new.channels past c.args.session c.args.kind c.args.account c.args.class c.args.lead.now
    c.length_to_try-len.result c.in-Ok-next_opening.next.lead
    (checked c.args.self.now past c.args.session c.args.kind c.text.result.now c.args.account c.args.class was c.text.ensures.value c.in-Ok.ensures.opens.1)
    c.length_to_try-len.ensures.same c.in-Ok-next_opening.ensures.opened (cc) c.in-Ok-next_opening.ensures.same

pub returns-clause-judged : goal.returns-clause-judged
returns-clause-judged c past was =
    open-taken (tables_of c.args.self.now) c.next_opening.new.channels c.apply.new.self past c.args.session c.args.kind c.args.account c.args.class c.args.lead.now
    c.length_to_try-len.result c.in-Ok-next_opening.next.lead c.in-Ok.class
    c.other_events_leave_sessions.ensures c.other_events_leave_grants.ensures
    (checked c.args.self.now past c.args.session c.args.kind c.text.result.now c.args.account c.args.class was c.text.ensures.value c.in-Ok.ensures.opens.1)
    c.length_to_try-len.ensures.same c.in-Ok-next_opening.ensures.opened (cc) c.in-Ok.ensures.opens.0 c.in-Ok-next_opening.ensures.same
    (λ asked. c.apply.ensures.told asked (channel_moves past) tt)
