use Rattle.std.proofs.Common.{sym, ◌∙◌}
use Rattle.ledger_resume.proofs.Cut.{cut_before, cut_by, cut_short, never}
use Rattle.ledger_resume.proofs.refusing.is_cut_as_piece.Goals as goal

pub returns-then-bytes-start : goal.returns-then-bytes-start
returns-then-bytes-start c = (
  λ same. absurd (never same),
  λ long. absurd (cut_before c.args.is_first c.start_of-start.result c.args.bytes.now c.start_of-start.ensures c.if-bytes-start.true long),
)

pub returns-in-Some : goal.returns-in-Some
returns-in-Some c =
    let cut = cut_by c.args.is_first c.start_of-start.result c.args.bytes.now c.start_of-start.ensures c.in-Some.len c.in-Some.ensures.value in (
      λ same. cut.0 (c.is_long_as.ensures.0 same),
      λ long. c.is_long_as.ensures.1 (cut.1 long),
    )

pub returns-in-None : goal.returns-in-None
returns-in-None c = (
  λ same. absurd (never same),
  λ long. absurd (cut_short c.args.is_first c.start_of-start.result c.args.bytes.now c.start_of-start.ensures c.in-None.ensures.none long),
)
