use Rattle.std.proofs.Common.{◌≡◌, ◌++◌, ap, ◌∙◌, arith}
use Rattle.stream_programs.specs.declared.stream.FixedJob.{FixedJob}
use Rattle.stream_programs.specs.Submitting.{BeginsShare, HasFourByteFields, share_payload}
use Rattle.stream_programs.specs.Answers.{answer_of}
use Rattle.stream_programs.proofs.Streaming.{judged, frame_from}
use Rattle.stream_programs.proofs.stream.FixedJob.frame.Goals as goal

pub returns-clause-ok : goal.returns-clause-ok
returns-clause-ok c = λ bytes given holds.
    let frame = c.in-Ok-Some.frame in
    let share = c.unwrap-share.result in
    let held = (rw c.in-Ok-Some.field-0-is at c.in-Ok-Some.ensures).frame in
    let begins : BeginsShare c.args.self.now.splitter.held = c.if-holds_other.ensures in
    let payload : frame.payload.now ≡ share_payload share = rw c.unwrap-share.ensures at c.read_share.ensures in
    let fits : HasFourByteFields share = record { channel = omega arith; sequence = omega arith; job = omega arith; nonce = omega arith; ntime = omega arith; version = omega arith } in
    let is_frame = frame_from c.args.self.now.splitter frame.ext frame.kind frame.payload.now share held begins payload fits in
    let more = c.in_ok-put_answer.ensures.ok ∙ ap (λ r. c.args.text.now.items ++ answer_of c.judge.new.self.class share r) (c.in_ok-refusal.ensures.verdict holds.shares holds.remembers) in
    let new : FixedJob = record { judge = c.judge.new.self; splitter = c.drop_frame.new.self; foreseen = c.args.self.now.foreseen } in
    judged c.args.self.now new share is_frame c.drop_frame.ensures.empty c.judge.ensures.class c.judge.ensures.job bytes given c.args.text.now.items _ holds
    (rw c.judge.ensures.class at more) (c.in_ok-refusal.ensures.remembers holds.shares holds.remembers)
