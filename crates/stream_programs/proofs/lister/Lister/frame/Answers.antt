use Rattle.std.proofs.Common.{refl}
use Rattle.stream_programs.proofs.Frames.{none_listed, over_flaw, bad_flaw, good_listed}
use Rattle.stream_programs.proofs.lister.Lister.frame.Goals as goal

pub returns-in-Ok-None-clause-ok : goal.returns-in-Ok-None-clause-ok
returns-in-Ok-None-clause-ok c = λ bytes given few holds.
    none_listed bytes _ _ ((rw c.in-Ok-None.field-0-is at c.in-Ok-None.ensures).none.0 refl) holds

pub returns-in-Err-clause-bad : goal.returns-in-Err-clause-bad
returns-in-Err-clause-bad c = λ same bytes given holds.
    over_flaw bytes given _ _ _ c.args.self.now holds c.in-Err.field-0.0 c.in-Err.ensures.too_long c.in_ok-put_bad_line-in-Err.ensures

pub returns-in-Err-verdict-clause-bad : goal.returns-in-Err-verdict-clause-bad
returns-in-Err-verdict-clause-bad c = λ same bytes given holds.
    let frame = c.in-Ok-Some.frame in
    bad_flaw bytes given _ _ _ c.args.self.now holds frame.ext frame.kind frame.payload.now (rw c.in-Ok-Some.field-0-is at c.in-Ok-Some.ensures).frame
    _ c.in-Err-verdict.ensures.bad c.in_ok-put_bad_line-in-Err-verdict.ensures

pub returns-clause-ok : goal.returns-clause-ok
returns-clause-ok c = λ bytes given few holds.
    let frame = c.in-Ok-Some.frame in
    good_listed bytes given _ _ _ _ holds frame.ext frame.kind frame.payload.now (rw c.in-Ok-Some.field-0-is at c.in-Ok-Some.ensures).frame
    few c.in-Ok.ensures.good c.in_ok-put_frame_line-in-Ok.ensures c.saturating_add-self.ensures c.drop_frame.ensures.empty
