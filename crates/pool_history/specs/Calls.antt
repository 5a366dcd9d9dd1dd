-- The calls of a pool: those of any machine, over its histories, which answers as its history says
-- (this project's own).
-- Computed on four calls with a fault and a poll among them (`CallRows`).
use Rattle.std.specs.Prelude.{Bool, true, false, List}
use Rattle.pool_base.specs.Calls.{Call, Faulted, GoodCalls, IsGoodCall, Outcome, Replied}
use Rattle.pool_history.specs.declared.asking.Request.{Request}
use Rattle.pool_history.specs.declared.events.Event.{Event}
use Rattle.pool_history.specs.declared.refusals.BookError.{BookError}
use Rattle.pool_history.specs.declared.refusals.BookError.TheVariants.{KeeperFault, Memory}
use Rattle.pool_history.specs.declared.replies.Reply.{Reply}
use Rattle.pool_history.specs.Answering.{Answer}

-- a fault that is a lack of memory: no count of faults has to rise for it
abbrev pub wants_memory : BookError → Bool
wants_memory KeeperFault = false
wants_memory Memory = true

-- the keeper's fault; lack of memory is none
abbrev pub blames_keeper : BookError → Bool
blames_keeper KeeperFault = true
blames_keeper Memory = false

-- the keeper failed at a call
abbrev pub has_keeper_failed : Outcome Reply BookError → Bool
has_keeper_failed (Replied answer) = false
has_keeper_failed (Faulted cause) = blames_keeper cause

-- a call of a pool
abbrev pub PoolCall : Type 0
PoolCall = Call Event Request Reply BookError

-- a good one: what it added and its reply are the answer to its request after the events before it,
-- or it is a fault
abbrev pub IsGoodPoolCall : List Event → PoolCall → Type 0
IsGoodPoolCall history call = IsGoodCall Answer wants_memory history call

-- all calls are good
abbrev pub GoodPoolCalls : List Event → List PoolCall → Type 0
GoodPoolCalls history calls = GoodCalls Answer wants_memory history calls
