use Rattle.v1_sessions.proofs.telling.tell.Goals as goal

pub returns-in-Name-clause-puts : goal.returns-in-Name-clause-puts
returns-in-Name-clause-puts g c = rw c.in-Name.is (c.tell_name.ensures.puts c.args.terms.now)

pub returns-in-Name-clause-told : goal.returns-in-Name-clause-told
returns-in-Name-clause-told g c = rw c.in-Name.is (c.tell_name.ensures.told c.args.terms.now)
