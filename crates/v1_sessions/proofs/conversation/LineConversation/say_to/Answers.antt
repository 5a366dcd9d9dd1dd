use Rattle.v1_sessions.proofs.Moves.{says_to}
use Rattle.v1_sessions.proofs.conversation.LineConversation.say_to.Goals as goal

pub returns : goal.returns
returns c =
    says_to c.args.terms.now c.args.line.now c.args.self.now c.hear_line.new.self c.args.lines.now.items c.hear_line.new.out.items c.in_ok-ask.ask c.channel.result c.wish_for.result
    c.in_ok-ask.ensures.says c.in_ok-ask.ensures.asks c.channel.ensures c.wish_for.ensures.request c.wish_for.ensures.wish
