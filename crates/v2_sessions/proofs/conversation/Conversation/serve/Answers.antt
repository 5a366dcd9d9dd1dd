use Rattle.v2_sessions.proofs.Chains.{runs_on}
use Rattle.v2_sessions.proofs.conversation.Conversation.serve.Goals as goal

pub returns-in-Ok-clause-serves : goal.returns-in-Ok-clause-serves
returns-in-Ok-clause-serves g c =
    let reads = c.in-Ok.ensures.reads in
    let serves = c.listen.ensures.serves in
    record { intake = serves.intake; runs = runs_on (rw reads.kept_is at reads.runs) serves.runs }
