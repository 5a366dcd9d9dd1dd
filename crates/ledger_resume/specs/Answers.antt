-- That a resumed book answers as one that never stopped (this project's own).
use Rattle.std.specs.Prelude.{◌≡◌, ℕ, List}
use Rattle.pool_history.specs.declared.asking.Request.{Request}
use Rattle.pool_history.specs.declared.events.Event.{Event}
use Rattle.pool_history.specs.declared.replies.Reply.{Reply}
use Rattle.share_ledger.specs.Books.{IsReplied}
use Rattle.ledger_resume.specs.Histories.{IsHistoryOf}

-- Where two books have the history of the same records, as the one that was resumed from them and the
-- one that kept them and went on, a worker's request that both reply to is replied alike by both, and
-- leaves both with one history: so they reply alike for ever.
abbrev pub ResumedBooksAnswerAlike : Type 0
ResumedBooksAnswerAlike =
    (records : List (List ℕ)) (unstopped resumed : List Event) (worker : ℕ) (asked : Request)
    (later later_resumed : List Event) (reply reply_resumed : Reply)
    → IsHistoryOf records unstopped → IsHistoryOf records resumed
    → IsReplied unstopped later worker asked reply
    → IsReplied resumed later_resumed worker asked reply_resumed
    → (reply_resumed ≡ reply) × (later_resumed ≡ later)
