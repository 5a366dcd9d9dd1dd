use Rattle.std.proofs.Common.{length, ap, arith, inr, refl, sym, subst, ◌∙◌}
use Rattle.std.specs.Prelude.{nat_eq}
use Rattle.ledger_resume.specs.Cutting.{IsCutAsPiece}
use Rattle.ledger_resume.proofs.Cut.{cut_more, cut_otherwise, never, none_cut, not_all, place_more}
use Rattle.ledger_resume.proofs.refusing.first_cut_otherwise.Goals as goal

pub loop-index-init : goal.loop-index-init
loop-index-init c = record { place_is = refl; cut = λ history ledger. none_cut history }

pub loop-index-preserved : goal.loop-index-preserved
loop-index-preserved c =
    let one = c.index-records-index.result in
    record {
      place_is =
          omega (
            arith,
            c.in-Some.ensures,
            place_more c.args.records.now c.loop-index.index one c.loop-index.place c.loop-index-test.true c.index-records-index.is c.loop-index.invariant.place_is,
            ap length c.bytes-in-loop-index.ensures,
          );
      cut = λ history ledger.
          cut_more c.args.records.now history ledger c.loop-index.index one c.loop-index-test.true c.index-records-index.is (c.loop-index.invariant.cut history ledger)
          (subst (IsCutAsPiece (nat_eq c.loop-index.index 0)) c.bytes.ensures (c.is_cut_as_piece.ensures.0 c.if-not-is_cut_as_piece.false));
    }

pub returns-then-not-is_cut_as_piece : goal.returns-then-not-is_cut_as_piece
returns-then-not-is_cut_as_piece c =
    let history = c.requires.ledger.0 in
    let ledger = c.requires.ledger.1 in
    inr
    (cut_otherwise c.args.records.now history ledger c.loop-index.index c.index-records-index.result c.loop-index-test.true c.index-records-index.is
    (c.loop-index.invariant.cut history ledger)
    (λ long. never (sym c.if-not-is_cut_as_piece.true
    ∙ c.is_cut_as_piece.ensures.1 (subst (IsCutAsPiece (nat_eq c.loop-index.index 0)) (sym c.bytes.ensures) long)))
    c.loop-index.place c.loop-index.invariant.place_is)

pub unreachable-requires : goal.unreachable-requires
unreachable-requires c =
    not_all c.args.records.now c.requires.ledger.0 c.requires.ledger.1 c.loop-index.index c.loop-index-test.false
    (c.loop-index.invariant.cut c.requires.ledger.0 c.requires.ledger.1) c.requires.none
