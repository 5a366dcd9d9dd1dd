-- Legal histories that have a ledger, and that answers keep them so (this project's own).
use Rattle.std.specs.Prelude.{IsTrue, ◌≡◌, ℕ, List, [], ◌∷◌, ◌++◌}
use Rattle.std.specs.List.{AllByRecursion}
use Rattle.pool_history.specs.declared.asking.Request.{Request}
use Rattle.pool_history.specs.declared.events.Event.{Event}
use Rattle.pool_history.specs.declared.events.Event.TheVariants as event
use Rattle.pool_history.specs.declared.replies.Reply.{Reply}
use Rattle.pool_history.specs.declared.settings.Rules.{Rules}
use Rattle.pool_history.specs.Accounts.{are_in_range}
use Rattle.pool_history.specs.Answering.{Answer}
use Rattle.pool_base.specs.Calls.{Parted}
use Rattle.pool_history.specs.Calls.{GoodPoolCalls, PoolCall}
use Rattle.pool_history.specs.Ledger.{ledger_text}
use Rattle.pool_history.specs.Legal.{Legal}
use Rattle.ledger_records.specs.OneLedger.{AllCanBeKept}
use Rattle.ledger_records.specs.Requests.{IsWellFormedRequest}
use Rattle.ledger_records.specs.WellFormed.{AreRules, IsU32}

-- a history is legal and has a ledger; neither says the other
pub record IsKept (history : List Event) : Type 0 where
  pub legal : Legal history
  pub has_ledger : AllCanBeKept history

-- the ledger of a history: the history is legal and has records, and these bytes are its text of
-- format 2. Legality alone wouldn't do: its numbers have no end, and a worker of 2^32 has the bytes
-- of worker 0
pub record IsLedgerOf (history : List Event) (bytes : List ℕ) : Type 0 where
  pub kept : IsKept history
  pub text : bytes ≡ ledger_text history

-- so bytes are the ledger of one history
abbrev pub KeptLedgersAreOfOneHistory : Type 0
KeptLedgersAreOfOneHistory =
    (one other : List Event) (bytes : List ℕ) → IsLedgerOf one bytes → IsLedgerOf other bytes
    → one ≡ other

-- such a Start alone is kept: its fields are of their types and its rules are in their ranges
abbrev pub StartsAreKept : Type 0
StartsAreKept =
    (rules : Rules) → AreRules rules → IsTrue (are_in_range rules) → IsKept (event.Start rules ∷ [])

-- each of these events can be kept, and with them the history is legal and has a ledger
pub record KeepsOn (history events : List Event) : Type 0 where
  pub each : AllCanBeKept events
  pub kept : IsKept (history ++ events)

-- so do those of an answer to a request whose fields are of their types
abbrev pub AnswersCanBeKept : Type 0
AnswersCanBeKept =
    (history : List Event) (worker : ℕ) (asked : Request) (events : List Event) (answer : Reply)
    → IsKept history → IsU32 worker → IsWellFormedRequest asked
    → Answer history worker asked events answer → KeepsOn history events

-- a call of a worker whose request's fields are of their types
pub record IsWellFormedCall (call : PoolCall) : Type 0 where
  pub worker_fits : IsU32 call.worker
  pub asked_fits : IsWellFormedRequest call.asked

-- so do calls that part a history from its first events on, whatever was asked, in whatever order,
-- and whatever failed
abbrev pub CallsCanBeKept : Type 0
CallsCanBeKept =
    (start history : List Event) (least most : ℕ) (calls : List PoolCall)
    → Parted start history least most calls
    → GoodPoolCalls history calls → AllByRecursion IsWellFormedCall calls → IsKept start
    → IsKept history
