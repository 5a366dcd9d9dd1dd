use Rattle.std.proofs.Common.{◌∷◌, ◌∙◌, arith, subst, sym}
use Rattle.std.proofs.lemmas.Result.{err_from_is_err_and}
use Rattle.ledger_audit.specs.Copying.{KeepsFront, KeepsRecords}
use Rattle.ledger_audit.proofs.Cut.{copied_all, copied_front, copied_one, whole-longer}
use Rattle.ledger_audit.proofs.pieces.append_records.Goals as goal

pub returns-in_err-hash-clause-kept : goal.returns-in_err-hash-clause-kept
returns-in_err-hash-clause-kept g c =
    let p = err_from_is_err_and c.from_residual.result c.from_residual.ensures.1 in
    subst (λ r. KeepsRecords c.args.format c.args.records.now (g.K.Keeper.seen c.args.keeper.now).records (g.K.Keeper.seen c.append_piece.new.keeper).records r) (sym p.1)
    (λ first more are.
    subst (λ r. KeepsFront (first ∷ more) (g.K.Keeper.seen c.args.keeper.now).records r) (sym c.in_err-hash.ensures.refused)
    (copied_front c.args.format first more _ _ _ _ _ _ (c.loop-record.invariant.copying first more are)))

pub loop-record-preserved : goal.loop-record-preserved
loop-record-preserved g c = record {
  short = omega arith;
  counted = omega (arith, c.loop-record.invariant.counted, whole-longer c.args.format c.loop-record.rest.now c.in-Some.record.now c.in-Some.behind.now c.in-Some.ensures.found);
  faults = c.in_ok-hash.ensures.counts ∙ c.loop-record.invariant.faults;
  copying = λ first more are.
      copied_one c.args.format first more _ _ _ _ _ _ (c.loop-record.invariant.copying first more are) c.in-Some.record.now c.in-Some.behind.now c.in_ok-hash.hash
      (g.K.Keeper.seen c.append_piece.new.keeper).records c.in-Some.ensures.found c.in_ok-hash.ensures.hash c.in_ok-hash.ensures.kept;
}

pub returns-clause-kept : goal.returns-clause-kept
returns-clause-kept g c = λ first more are.
    copied_all c.args.format first more _ _ _ _ _ _ (c.loop-record.invariant.copying first more are) c.in_default.ensures.none
