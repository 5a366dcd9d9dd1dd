use Rattle.std.proofs.Common.{refl, sym, ◌∙◌}
use Rattle.test_miner.proofs.Standing.{end_holds}
use Rattle.test_miner.proofs.miner.MinerPartner.input_end.Goals as goal

pub returns-clause-told : goal.returns-clause-told
returns-clause-told c = λ past told taken.
    (end_holds c.args.self.now _ past told taken.0 refl refl c.cut_off.ensures, sym c.end.ensures ∙ c.unwrap.ensures)
