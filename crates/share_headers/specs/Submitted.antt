-- The header that a submission stands for (Stratum V2, "SubmitSharesStandard" and
-- "SubmitSharesExtended").
-- Computed on Bitcoin's blocks 0 and 100,000 and on a worked share (the crate's tests).
use Rattle.std.specs.Prelude.{◌≡◌, ℕ, List, take}
use Rattle.pool_history.specs.declared.shares.Submission.{Submission}
use Rattle.pool_history.specs.Headers.{Briefing, header_by}
use Rattle.pool_history.specs.Judging.{Admitted, briefing_of, rebuilt_header, share_of}

-- the extranonce as it was sent
abbrev pub submitted_extranonce : Submission → List ℕ
submitted_extranonce sub = take sub.extranonce_len sub.extranonce

-- the header of a submission by what a channel and a job give
abbrev pub submitted_header : Briefing → Submission → List ℕ
submitted_header brief sub =
    header_by brief sub.version sub.ntime sub.nonce (submitted_extranonce sub)

-- by what its channel, its live job and the last tip give, that is the header which the history
-- rebuilds for the share
abbrev pub SubmittedIsRebuilt : Type 0
SubmittedIsRebuilt =
    (script : List ℕ) (found : Admitted) (sub : Submission)
    → submitted_header (briefing_of script found.channel found.job.source found.tip) sub
    ≡ rebuilt_header script found (share_of sub)
