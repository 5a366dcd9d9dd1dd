use Rattle.command_line.proofs.FiveWords.{is_proxy}
use Rattle.command_line.proofs.words.proxy_count.Goals as goal

pub returns-clause-found : goal.returns-clause-found
returns-clause-found c =
    is_proxy c.args.words.now c.proxy-item.result c.user-item.result c.count-item.result c.in_ok-count.count
    c.in-len5.len_at_least c.in-len5.len_below c.proxy-item.is c.user-item.is c.count-item.is (c.says.ensures.0 c.if-not-says.false)
    (c.has_account.ensures.0 c.if-not-has_account.false) c.in_ok-count.ensures.found
