use Rattle.command_line.proofs.FiveWords.{is_mine}
use Rattle.command_line.proofs.words.mine_numbers.Goals as goal

pub returns-clause-found : goal.returns-clause-found
returns-clause-found c =
    is_mine c.args.words.now c.mine-item.result c.user-item.result c.class-item.result c.count-item.result c.in_ok-class.class c.in_ok-count.count
    c.in-len5.len_at_least c.in-len5.len_below c.mine-item.is c.user-item.is c.class-item.is c.count-item.is (c.says.ensures.0 c.if-not-says.false)
    (c.is_user.ensures.0 c.if-not-is_user.false) c.in_ok-class.ensures.found c.in_ok-count.ensures.found
