use Rattle.std.proofs.Common.{arith}
use Rattle.stream_programs.proofs.Sharing.{length_decides}
use Rattle.stream_programs.proofs.submission.brings_share.Goals as goal

pub returns-then-header-eq-SUBMIT_SHARES_STANDARD : goal.returns-then-header-eq-SUBMIT_SHARES_STANDARD
returns-then-header-eq-SUBMIT_SHARES_STANDARD c =
    let both = c.if-header-eq-SUBMIT_SHARES_STANDARD.true in
    length_decides c.args.header.ext c.args.header.kind c.args.header.len (omega arith) c.requires both.0 both.1
