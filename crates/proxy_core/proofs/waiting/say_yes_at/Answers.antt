use Rattle.v1_translate.specs.Lines.{yes}
use Rattle.v1_translate.specs.State.{Answer}
use Rattle.proxy_rules.specs.Miners.{with_line}
use Rattle.proxy_core.proofs.Callers.{none_at, ok_at}
use Rattle.proxy_core.proofs.waiting.say_yes_at.Goals as goal

pub returns-in-Some : goal.returns-in-Some
returns-in-Some c =
    ok_at c.say_yes.result c.args.caller (with_line (Answer c.args.id yes)) c.args.miners.now.items c.as_slice.result.now c.in-Some.place c.index_mut.result.now c.say_yes.new.self
    c.as_slice.ensures.value c.in-Some.ensures c.index_mut.ensures.value c.say_yes.ensures

pub returns-in-None : goal.returns-in-None
returns-in-None c = none_at c.args.caller (with_line (Answer c.args.id yes)) c.args.miners.now.items c.as_slice.result.now c.as_slice.ensures.value c.in-None.ensures
