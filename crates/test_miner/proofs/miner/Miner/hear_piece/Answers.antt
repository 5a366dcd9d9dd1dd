use Rattle.std.proofs.Common.{refl}
use Rattle.std.proofs.lemmas.List.{append-nil}
use Rattle.test_miner.proofs.Heard.{piece_heard}
use Rattle.test_miner.proofs.miner.Miner.hear_piece.Goals as goal

pub returns-clause-heard : goal.returns-clause-heard
returns-clause-heard c =
    let run = rw (append-nil c.args.piece.now) at c.run-end.ensures in
    piece_heard c.args.self.now _ c.args.piece.now c.run-end.result c.requires run refl c.if-self.false
