use Rattle.std.proofs.Common.{◌≡◌, ◌==◌, ◌<◌, ◌++◌, [], false, length, refl, sym, ap, ◌∙◌, append-nil, arith}
use Rattle.std.proofs.lemmas.Bool.{eqb-false, eqb-true}
use Rattle.std.proofs.lemmas.List.{nil_from_length}
use Rattle.std.proofs.lemmas.Result.{err_from_is_err_and}
use Rattle.sv2_frames.proofs.Progress.{some_taken}
use Rattle.stream_commands.proofs.Pieces.{piece_more, piece_refused}
use Rattle.stream_programs.specs.Tracking.{HasListedFrames, MayHoldFrame}
use Rattle.stream_programs.specs.Duty.{ListsFlaw}
use Rattle.stream_programs.specs.Listing.{IsFlawed}
use Rattle.stream_programs.specs.declared.lister.Lister.{Lister}
use Rattle.stream_programs.proofs.Frames.{fed_may_hold}
use Rattle.stream_programs.proofs.lister.ListerStreamCommand.read.Goals as goal

pub loop-rest-preserved : goal.loop-rest-preserved
loop-rest-preserved c =
    let was = c.loop-rest.invariant.read in
    let fed : Lister = record { splitter = c.feed-count.new.self; count = c.loop-rest.self.count } in
    record {
      cut = c.in_ok-frame.ensures.cut;
      read =
          piece_more c.args.piece.now c.loop-rest.rest.now was.0 c.feed-count.result was.1
          (λ bytes text. HasListedFrames bytes text c.args.self.now) (λ bytes text. HasListedFrames bytes text c.loop-rest.self) (λ bytes text. MayHoldFrame bytes text fed)
          c.args.text.now.items c.loop-rest.text.items was.2
          (fed_may_hold c.loop-rest.self fed _ _ c.feed-count.ensures.bytes c.feed-count.ensures.end c.feed-count.ensures.limit refl)
          (λ bytes text. HasListedFrames bytes text c.frame.new.self) c.frame.new.text.items
          c.in_ok-frame.ensures.ok;
    }

pub returns-in_err-frame-clause-refused : goal.returns-in_err-frame-clause-refused
returns-in_err-frame-clause-refused c =
    let p = err_from_is_err_and c.from_residual.result c.from_residual.ensures.1 in
    let was = c.loop-rest.invariant.read in
    let fed : Lister = record { splitter = c.feed-count.new.self; count = c.loop-rest.self.count } in
    let left : (length c.loop-rest.rest.now == 0) ≡ false = sym c.is_empty.ensures ∙ c.loop-rest-test.true in
    let long : 0 < length c.loop-rest.rest.now = omega (arith, eqb-false (length c.loop-rest.rest.now) 0 left) in
    let some = some_taken c.loop-rest.self.splitter c.loop-rest.rest.now c.feed-count.result c.loop-rest.invariant.cut long c.feed-count.ensures.none.0 in
    rw (p.1, p.2) (λ bad.
    piece_refused c.args.piece.now c.loop-rest.rest.now was.0 c.feed-count.result was.1
    (λ bytes text. HasListedFrames bytes text c.args.self.now) (λ bytes text. HasListedFrames bytes text c.loop-rest.self) (λ bytes text. MayHoldFrame bytes text fed)
    c.args.text.now.items c.loop-rest.text.items was.2
    (fed_may_hold c.loop-rest.self fed _ _ c.feed-count.ensures.bytes c.feed-count.ensures.end c.feed-count.ensures.limit refl)
    (ListsFlaw IsFlawed) c.frame.new.text.items some c.feed-count.ensures.within
    (λ bytes text few. c.in_err-frame.ensures.bad bad bytes text))

pub returns-clause-ok : goal.returns-clause-ok
returns-clause-ok c = λ bytes given few listed.
    let was = c.loop-rest.invariant.read in
    let nothing : c.loop-rest.rest.now ≡ [] = nil_from_length c.loop-rest.rest.now (eqb-true (length c.loop-rest.rest.now) 0 (sym c.is_empty.ensures ∙ c.loop-rest-test.false)) in
    let all : was.0 ≡ c.args.piece.now = sym (append-nil was.0) ∙ ap (λ l. was.0 ++ l) (sym nothing) ∙ was.1 in
    rw (← all) (was.2 bytes given few listed)
