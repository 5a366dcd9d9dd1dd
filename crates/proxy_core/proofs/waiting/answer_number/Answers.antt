use Rattle.proxy_core.proofs.Rising.{taken_rising}
use Rattle.proxy_core.proofs.waiting.answer_number.Goals as goal

pub returns-in-Some-clause-rising : goal.returns-in-Some-clause-rising
returns-in-Some-clause-rising c =
    taken_rising c.args.number c.args.waiting.now.items c.take_number.result c.take_number.new.waiting.items c.take_number.ensures

pub returns-in-None-clause-rising : goal.returns-in-None-clause-rising
returns-in-None-clause-rising c =
    taken_rising c.args.number c.args.waiting.now.items c.take_number.result c.take_number.new.waiting.items c.take_number.ensures
