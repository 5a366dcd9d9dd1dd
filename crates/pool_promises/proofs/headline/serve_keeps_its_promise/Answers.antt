use Rattle.pool_promises.proofs.KeptPromises.{serve_keeps}
use Rattle.pool_promises.proofs.headline.serve_keeps_its_promise.Goals as goal

pub returns : goal.returns
returns c =
    serve_keeps c.calls_are_judged.ensures c.conditions_stand_by_themselves.ensures c.credits_are_called.ensures c.spaces_are_disjoint.ensures
    c.rewards_are_conserved.ensures c.no_share_twice.ensures c.served_callers_are_answered.ensures c.summaries_are_of_blocks.ensures
