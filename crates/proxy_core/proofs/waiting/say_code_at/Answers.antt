use Rattle.v1_translate.specs.State.{CodeRefusal}
use Rattle.proxy_rules.specs.Miners.{with_line}
use Rattle.proxy_core.proofs.Callers.{none_at, ok_at}
use Rattle.proxy_core.proofs.waiting.say_code_at.Goals as goal

pub returns-in-Some : goal.returns-in-Some
returns-in-Some c =
    ok_at c.say_code.result c.args.caller (with_line (CodeRefusal c.args.id c.args.code.now)) c.args.miners.now.items c.as_slice.result.now c.in-Some.place c.index_mut.result.now c.say_code.new.self
    c.as_slice.ensures.value c.in-Some.ensures c.index_mut.ensures.value c.say_code.ensures

pub returns-in-None : goal.returns-in-None
returns-in-None c = none_at c.args.caller (with_line (CodeRefusal c.args.id c.args.code.now)) c.args.miners.now.items c.as_slice.result.now c.as_slice.ensures.value c.in-None.ensures
