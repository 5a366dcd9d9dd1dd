-- The text that `serve` prints when all sessions are over (this project's own).
use Rattle.std.specs.Prelude.{ℕ, List, ◌++◌, codes}
use Rattle.pool_history.specs.declared.events.Event.{Event}
use Rattle.pool_history.specs.Sessions.{past_of}
use Rattle.pool_history.specs.Summary.{summary_of, summary_text}
use Rattle.session_steps.specs.declared.ends.SessionEnd.{SessionEnd}
use Rattle.session_steps.specs.declared.ends.SessionEnd.TheVariants as end

-- the word for how a session ended
abbrev pub word_of_end : SessionEnd → List ℕ
word_of_end end.Done = codes "done"
word_of_end (end.CutFrame bytes) = codes "cut"
word_of_end (end.TooLong length) = codes "too-long"
word_of_end end.BadSetup = codes "bad-setup"
word_of_end (end.BadMessage kind) = codes "bad-message"
word_of_end end.LineTooLong = codes "line-too-long"
word_of_end end.IdleOut = codes "idle-out"
word_of_end end.BytesOut = codes "bytes-out"
word_of_end end.PoolFull = codes "pool-full"
word_of_end end.ReadFault = codes "read-fault"
word_of_end end.WriteFault = codes "write-fault"
word_of_end end.LedgerFault = codes "ledger-fault"
word_of_end end.Memory = codes "memory"

-- that it has served, how the feed's session ended, and the summary of the history
abbrev pub report_text : SessionEnd → List Event → List ℕ
report_text feed_end history =
    codes "served\nfeed " ++ word_of_end feed_end ++ codes "\n"
    ++ summary_text (summary_of (past_of history))
