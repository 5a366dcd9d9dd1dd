use Rattle.std.proofs.Common.{refl, rules}
use Rattle.v1_sessions.proofs.Counted.{lines_read, lines_written}
use Rattle.v1_sessions.proofs.Moves.{begun_is, rest_of_lines}
use Rattle.v1_sessions.proofs.serving.serve_lines.Goals as goal

pub returns-clause-rest : goal.returns-clause-rest
returns-clause-rest g c =
    let served = c.serve-end.ensures.served in
    let begins = begun_is c.new-conversation.result c.args.manner c.args.waiting c.args.piece.now c.new-conversation.ensures.talk c.new-conversation.ensures.v1 c.new-conversation.ensures.entered
    c.new-conversation.ensures.cursor in
    rest_of_lines g.A.Acting.worker g.A.Acting.does c.args.terms.now c.new-conversation.result c.args.manner c.args.waiting c.args.piece.now begins served (search rules)

pub returns-clause-reads : goal.returns-clause-reads
returns-clause-reads g c = lines_read refl (returns-clause-rest g c)

pub returns-clause-writes : goal.returns-clause-writes
returns-clause-writes g c = lines_written refl (returns-clause-rest g c)
