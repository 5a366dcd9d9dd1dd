use Rattle.std.proofs.Common.{◌≡◌, [], ◌-◌, ◌<◌, ◌++◌, length, take, drop, sym, ◌∙◌}
use Rattle.std.proofs.lemmas.Bool.{eqb-true}
use Rattle.std.proofs.lemmas.List.{nil_from_length}
use Rattle.std.proofs.lemmas.Result.{err_from_is_err_and}
use Rattle.v2_sessions.proofs.Turns.{fed_whole}
use Rattle.line_turns.specs.Hearing.{intake_at}
use Rattle.line_turns.specs.Listening.{intake_of}
use Rattle.line_turns.proofs.Heard.{bytes_heard, ends_here, goes_further}
use Rattle.line_turns.proofs.hearing.Lines.bytes.Goals as goal

pub loop-rest-preserved : goal.loop-rest-preserved
loop-rest-preserved g c =
    let rest = c.loop-rest.rest.now in
    let left = take (length rest - c.feed-count.result) (drop c.feed-count.result rest) in
    let unmet = c.loop-rest.self.reader ++ rest in
    let fed = fed_whole c.loop-rest.self.reader c.feed-count.new.self rest c.feed-count.result c.feed-count.ensures.taken.bytes in
    let waits : 0 < c.args.self.now.waiting.idles = c.requires.waits in
    record {
      ready = c.line.ensures.ready;
      waiting = c.line.ensures.waiting ∙ c.loop-rest.invariant.waiting;
      text = c.in_ok-line.ensures.text;
      so_far = goes_further g.T.LineTalker.goes_on g.T.LineTalker.ends g.met.T.LineTalker.hears_lines c.args.self.now.waiting (c.args.self.now.reader ++ c.args.piece.now)
          c.args.talker.now c.loop-rest.talker c.line.new.talker (g.L.Link.seen c.args.link.now) (g.L.Link.seen c.loop-rest.link) (g.L.Link.seen c.line.new.link)
          unmet c.loop-rest.invariant.so_far (c.line.new.self.reader ++ left)
          (c.in_ok-line.ensures.hears (intake_at c.args.self.now.waiting unmet) left (sym fed) waits);
    }

pub returns-in_err-line-clause-hears : goal.returns-in_err-line-clause-hears
returns-in_err-line-clause-hears g c =
    let rest = c.loop-rest.rest.now in
    let left = take (length rest - c.feed-count.result) (drop c.feed-count.result rest) in
    let unmet = c.loop-rest.self.reader ++ rest in
    let fed = fed_whole c.loop-rest.self.reader c.feed-count.new.self rest c.feed-count.result c.feed-count.ensures.taken.bytes in
    let failed = err_from_is_err_and c.from_residual.result c.from_residual.ensures.1 in
    rw (failed.1, failed.2)
    (ends_here g.T.LineTalker.goes_on g.T.LineTalker.ends g.met.T.LineTalker.hears_lines c.args.self.now.waiting (c.args.self.now.reader ++ c.args.piece.now)
    c.args.talker.now c.loop-rest.talker c.line.new.talker (g.L.Link.seen c.args.link.now) (g.L.Link.seen c.loop-rest.link) (g.L.Link.seen c.line.new.link)
    unmet c.loop-rest.invariant.so_far (record (intake_at c.args.self.now.waiting unmet) { unmet = c.line.new.self.reader ++ left }) (intake_of c.line.new.self) _
    (c.in_err-line.ensures.hears (intake_at c.args.self.now.waiting unmet) left (sym fed) c.requires.waits))

pub returns-clause-hears : goal.returns-clause-hears
returns-clause-hears g c =
    let nothing : c.loop-rest.rest.now ≡ [] = nil_from_length c.loop-rest.rest.now (eqb-true (length c.loop-rest.rest.now) 0 (sym c.is_empty.ensures ∙ c.loop-rest-test.false)) in
    bytes_heard g.T.LineTalker.goes_on g.T.LineTalker.ends g.met.T.LineTalker.hears_lines c.args.self.now.waiting c.loop-rest.self c.loop-rest.invariant.waiting
    (c.args.self.now.reader ++ c.args.piece.now) c.loop-rest.rest.now
    c.args.talker.now c.loop-rest.talker (g.L.Link.seen c.args.link.now) (g.L.Link.seen c.loop-rest.link) c.keep_limits.result
    c.loop-rest.invariant.so_far nothing c.loop-rest.invariant.text c.requires.waits c.keep_limits.ensures
