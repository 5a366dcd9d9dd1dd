-- Two books of one history answer alike.
use Rattle.std.proofs.Common.{◌≡◌, ℕ, List, ◌++◌, ap, subst, sym, ◌∙◌}
use Rattle.pool_history.specs.declared.asking.Request.{Request}
use Rattle.pool_history.specs.declared.events.Event.{Event}
use Rattle.pool_history.specs.declared.replies.Reply.{Reply}
use Rattle.ledger_audit.specs.Judging.{in_a_row}
use Rattle.ledger_records.proofs.Records.{ledgers}
use Rattle.share_ledger.specs.Books.{IsReplied}
use Rattle.ledger_resume.specs.Answers.{ResumedBooksAnswerAlike}
use Rattle.ledger_resume.specs.Histories.{IsHistoryOf}

-- records are of one history
one_history : (records : List (List ℕ)) (one other : List Event) → IsHistoryOf records one → IsHistoryOf records other → one ≡ other
one_history records one other is also = ledgers one other is.kept.has_ledger also.kept.has_ledger (sym (ap in_a_row is.pieces) ∙ ap in_a_row also.pieces)

-- and a history has one answer
one_answer : (history later others : List Event) (worker : ℕ) (asked : Request) (reply other : Reply) → IsReplied history later worker asked reply
    → IsReplied history others worker asked other → (other ≡ reply) × (others ≡ later)
one_answer history later others worker asked reply other is also = (
  also.2.reply_is ∙ sym is.2.reply_is,
  also.1 ∙ ap (λ added. history ++ added) (also.2.events_are ∙ sym is.2.events_are) ∙ sym is.1,
)

pub alike : ResumedBooksAnswerAlike
alike records unstopped resumed worker asked later later_resumed reply reply_resumed is also replied replied_resumed =
    one_answer unstopped later later_resumed worker asked reply reply_resumed replied
    (subst (λ history. IsReplied history later_resumed worker asked reply_resumed) (sym (one_history records unstopped resumed is also)) replied_resumed)
