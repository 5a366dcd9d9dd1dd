use Rattle.std.proofs.Common.{◌≡◌, ◌==◌, ◌<◌, ◌++◌, [], false, length, take, sym, ap, ◌∙◌, append-nil, arith}
use Rattle.std.proofs.lemmas.Bool.{eqb-false, eqb-true}
use Rattle.std.proofs.lemmas.List.{nil_from_length}
use Rattle.std.proofs.lemmas.Result.{err_from_is_err_and}
use Rattle.sv2_frames.proofs.Progress.{some_taken}
use Rattle.stream_commands.proofs.Pieces.{piece_more, piece_refused}
use Rattle.stream_programs.specs.Judging.{HasAnsweredShares, HoldsRest}
use Rattle.stream_programs.specs.FixedDuty.{AnswersShares}
use Rattle.stream_programs.specs.Submitting.{IsOtherHeader}
use Rattle.stream_programs.specs.declared.stream.FixedJob.{FixedJob}
use Rattle.stream_programs.proofs.Streaming.{fed_holds}
use Rattle.stream_programs.proofs.stream.FixedJobStreamCommand.read.Goals as goal

pub loop-rest-preserved : goal.loop-rest-preserved
loop-rest-preserved c =
    let was = c.loop-rest.invariant.read in
    let ahead = c.look_ahead-left.ensures in
    let fed : FixedJob = record { judge = c.look_ahead-left.new.self.judge; splitter = c.feed-count.new.self; foreseen = c.look_ahead-left.new.self.foreseen } in
    record {
      cut = c.in_ok-frame.ensures.cut;
      read =
          piece_more c.args.piece.now c.loop-rest.rest.now was.0 c.feed-count.result was.1
          (λ bytes text. HasAnsweredShares bytes text c.args.self.now) (λ bytes text. HasAnsweredShares bytes text c.loop-rest.self) (λ bytes text. HoldsRest bytes text fed)
          c.args.text.now.items c.loop-rest.text.items was.2
          (fed_holds c.loop-rest.self fed (take c.feed-count.result c.loop-rest.rest.now)
          (c.feed-count.ensures.bytes ∙ ap (λ s. s.held ++ take c.feed-count.result c.loop-rest.rest.now) ahead.splitter)
          (c.feed-count.ensures.limit ∙ ap (λ s. s.limit) ahead.splitter) ahead.judge)
          (λ bytes text. HasAnsweredShares bytes text c.frame.new.self) c.frame.new.text.items
          (λ bytes text few. c.in_ok-frame.ensures.ok bytes text);
      class = c.frame.ensures.class ∙ ap (λ j. j.class) ahead.judge ∙ c.loop-rest.invariant.class;
      job = c.frame.ensures.job ∙ ap (λ j. j.job) ahead.judge ∙ c.loop-rest.invariant.job;
    }

pub returns-in_err-frame-clause-refused : goal.returns-in_err-frame-clause-refused
returns-in_err-frame-clause-refused c =
    let p = err_from_is_err_and c.from_residual.result c.from_residual.ensures.1 in
    let was = c.loop-rest.invariant.read in
    let ahead = c.look_ahead-left.ensures in
    let fed : FixedJob = record { judge = c.look_ahead-left.new.self.judge; splitter = c.feed-count.new.self; foreseen = c.look_ahead-left.new.self.foreseen } in
    let left : (length c.loop-rest.rest.now == 0) ≡ false = sym c.is_empty.ensures ∙ c.loop-rest-test.true in
    let long : 0 < length c.loop-rest.rest.now = omega (arith, eqb-false (length c.loop-rest.rest.now) 0 left) in
    let some = some_taken c.look_ahead-left.new.self.splitter c.loop-rest.rest.now c.feed-count.result (rw ahead.splitter c.loop-rest.invariant.cut) long c.feed-count.ensures.none.0 in
    rw (p.1, p.2) (λ other.
    piece_refused c.args.piece.now c.loop-rest.rest.now was.0 c.feed-count.result was.1
    (λ bytes text. HasAnsweredShares bytes text c.args.self.now) (λ bytes text. HasAnsweredShares bytes text c.loop-rest.self) (λ bytes text. HoldsRest bytes text fed)
    c.args.text.now.items c.loop-rest.text.items was.2
    (fed_holds c.loop-rest.self fed (take c.feed-count.result c.loop-rest.rest.now)
    (c.feed-count.ensures.bytes ∙ ap (λ s. s.held ++ take c.feed-count.result c.loop-rest.rest.now) ahead.splitter)
    (c.feed-count.ensures.limit ∙ ap (λ s. s.limit) ahead.splitter) ahead.judge)
    (AnswersShares c.args.self.now.judge.class c.args.self.now.judge.job IsOtherHeader) c.frame.new.text.items some c.feed-count.ensures.within
    (λ bytes text few holds. rw (← c.loop-rest.invariant.class, ← c.loop-rest.invariant.job, ← ap (λ j. j.class) ahead.judge, ← ap (λ j. j.job) ahead.judge) (c.in_err-frame.ensures.other other bytes text holds)))

pub returns-clause-ok : goal.returns-clause-ok
returns-clause-ok c = λ bytes given few answered.
    let was = c.loop-rest.invariant.read in
    let nothing : c.loop-rest.rest.now ≡ [] = nil_from_length c.loop-rest.rest.now (eqb-true (length c.loop-rest.rest.now) 0 (sym c.is_empty.ensures ∙ c.loop-rest-test.false)) in
    let all : was.0 ≡ c.args.piece.now = sym (append-nil was.0) ∙ ap (λ l. was.0 ++ l) (sym nothing) ∙ was.1 in
    rw (← all) (was.2 bytes given few answered)
