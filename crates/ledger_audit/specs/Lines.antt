-- The lines of an audit (this project's own). Compared in the tests.
use Rattle.std.specs.Prelude.{ℕ, List, [], ◌∷◌, ◌++◌, codes}
use Rattle.std.specs.Fmt.{decimal}
use Rattle.pool_history.specs.declared.causes.Cause.{Cause}
use Rattle.pool_history.specs.declared.causes.Cause.TheVariants as cause
use Rattle.pool_history.specs.Codes.{share_code}
use Rattle.pool_history.specs.Summary.{line}
use Rattle.ledger_audit.specs.declared.verdict.Verdict.{Verdict}
use Rattle.ledger_audit.specs.declared.verdict.Verdict.TheVariants as verdict

-- the word of a cause
abbrev pub cause_text : Cause → List ℕ
cause_text cause.BadStart = codes "bad-start"
cause_text cause.PoolFull = codes "pool-full"
cause_text cause.BadFlags = codes "bad-flags"
cause_text cause.NoSession = codes "no-session"
cause_text cause.BadRole = codes "bad-role"
cause_text cause.BadTemplate = codes "bad-template"
cause_text cause.BadTip = codes "bad-tip"
cause_text cause.UnknownUser = codes "unknown-user"
cause_text cause.BadClass = codes "bad-class"
cause_text cause.TooManyChannels = codes "too-many-channels"
cause_text cause.BadLead = codes "bad-lead"
cause_text cause.BadName = codes "bad-name"
cause_text cause.NotOpen = codes "not-open"
cause_text (cause.Share failed) = share_code failed
cause_text cause.TooManyGrants = codes "too-many-grants"
cause_text cause.BadPath = codes "bad-path"
cause_text cause.BadToken = codes "bad-token"
cause_text cause.StalePrevHash = codes "stale-prev-hash"
cause_text cause.BadNtime = codes "bad-ntime"
cause_text cause.BadCoinbase = codes "bad-coinbase"

-- an illegal record, with its number and the word of its cause
abbrev pub illegal_line : ℕ → List ℕ → List ℕ
illegal_line number word = codes "illegal " ++ decimal number ++ 32 ∷ word ++ 10 ∷ []

-- the line of a verdict
abbrev pub verdict_line : Verdict → List ℕ
verdict_line verdict.Legal = codes "legal" ++ 10 ∷ []
verdict_line (verdict.Illegal number cause) = illegal_line number (cause_text cause)
verdict_line (verdict.BrokenChain number) = line (codes "broken chain") number
verdict_line (verdict.NotALedger place) = line (codes "not a ledger at") place
