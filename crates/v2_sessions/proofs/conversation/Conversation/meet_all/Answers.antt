use Rattle.std.proofs.Common.{◌≡◌, ◌-◌, ◌++◌, [], length, take, drop, sym, ap, ◌∙◌, append-nil}
use Rattle.std.proofs.lemmas.Bool.{eqb-true}
use Rattle.std.proofs.lemmas.List.{nil_from_length}
use Rattle.std.proofs.lemmas.Result.{err_from_is_err_and}
use Rattle.v2_sessions.proofs.Chains.{runs_on}
use Rattle.v2_sessions.proofs.Turns.{fed_no_more, fed_whole}
use Rattle.v2_sessions.proofs.conversation.Conversation.meet_all.Goals as goal

pub meet-requires-clause-no_more : goal.meet-requires-clause-no_more
meet-requires-clause-no_more g c = fed_no_more _ _ _ c.feed-count.ensures.end c.feed-count.ensures.limit

pub returns-in_err-meet-clause-runs : goal.returns-in_err-meet-clause-runs
returns-in_err-meet-clause-runs g c = λ intake some.
    let rest = c.loop-rest.rest.now in
    let left = take (length rest - c.feed-count.result) (drop c.feed-count.result rest) in
    let fed = fed_whole c.loop-rest.splitter.held c.feed-count.new.self.held rest c.feed-count.result c.feed-count.ensures.bytes in
    let failed = err_from_is_err_and c.from_residual.result c.from_residual.ensures.1 in
    rw (failed.1, failed.2) (
      c.meet.new.splitter.held ++ left,
      tt,
      runs_on (c.loop-rest.invariant.runs intake some) (rw (fed, c.look_ahead.ensures) at (c.in_err-meet.ensures.runs intake left some)),
    )

pub loop-rest-preserved : goal.loop-rest-preserved
loop-rest-preserved g c = record {
  ready = c.meet.ensures.ready;
  limit = c.meet.ensures.limit;
  cut = c.in_ok-meet.ensures.cut;
  no_more = c.in_ok-meet.ensures.no_more;
  runs = λ intake some.
      let rest = c.loop-rest.rest.now in
      let left = take (length rest - c.feed-count.result) (drop c.feed-count.result rest) in
      let fed = fed_whole c.loop-rest.splitter.held c.feed-count.new.self.held rest c.feed-count.result c.feed-count.ensures.bytes in
      runs_on (c.loop-rest.invariant.runs intake some) (rw (fed, c.look_ahead.ensures) at (c.in_ok-meet.ensures.runs intake left some));
}

pub returns-clause-runs : goal.returns-clause-runs
returns-clause-runs g c = λ intake some.
    let nothing : c.loop-rest.rest.now ≡ [] = nil_from_length c.loop-rest.rest.now (eqb-true (length c.loop-rest.rest.now) 0 (sym c.is_empty.ensures ∙ c.loop-rest-test.false)) in (
      c.loop-rest.splitter.held ++ c.loop-rest.rest.now,
      ap (λ l. c.loop-rest.splitter.held ++ l) nothing ∙ append-nil c.loop-rest.splitter.held,
      c.loop-rest.invariant.runs intake some,
    )
