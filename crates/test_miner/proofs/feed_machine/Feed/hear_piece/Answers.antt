use Rattle.std.proofs.lemmas.List.{append-nil}
use Rattle.test_miner.proofs.FeedStanding.{feed_heard}
use Rattle.test_miner.proofs.feed_machine.Feed.hear_piece.Goals as goal

pub returns : goal.returns
returns c =
    let run = rw (append-nil c.args.piece.now) at c.run-end.ensures in
    feed_heard c.args.self.now _ c.args.piece.now c.run-end.result c.requires run c.if-self.false
