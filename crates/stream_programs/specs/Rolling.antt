-- What a submission rolls of the job's header.
use Rattle.std.specs.Prelude.{◌==◌, Bool, ◌&&◌}
use Rattle.mining_msgs.specs.declared.shares.SubmitSharesStandard.{SubmitSharesStandard}
use Rattle.stream_programs.specs.declared.submission.Rolled.{Rolled}

-- what a submission rolls of the header
abbrev pub rolled_of : SubmitSharesStandard → Rolled
rolled_of s = record { version = s.version; ntime = s.ntime; nonce = s.nonce }

-- two headers of one job are the same
abbrev pub is_same : Rolled → Rolled → Bool
is_same a b = (a.version == b.version) && (a.ntime == b.ntime) && (a.nonce == b.nonce)
