-- Which frames a session takes (Stratum V2, "Message Types"; which role sends what is this project's
-- own).
use Rattle.std.specs.Prelude.{ℕ, ◌%◌, ◌==◌, ◌&&◌, ◌||◌, Bool, false, not, is_none, Option, None, Some}
use Rattle.sv2_frames.specs.Framing.{FrameValue}
use Rattle.sv2_messages.specs.declared.kinds.TheConstants as kinds
use Rattle.pool_history.specs.declared.events.Role.{Role}
use Rattle.pool_history.specs.Legal.{selects_work}
use Rattle.pool_history.specs.Sessions.{feeds, mines}
use Rattle.session_steps.specs.Talks.{Talk}

-- openings, updates, closings and shares
abbrev pub is_miners_kind : ℕ → Bool
is_miners_kind kind =
    (kind == kinds.OPEN_STANDARD_MINING_CHANNEL) || (kind == kinds.OPEN_EXTENDED_MINING_CHANNEL)
    || (kind == kinds.UPDATE_CHANNEL) || (kind == kinds.CLOSE_CHANNEL)
    || (kind == kinds.SUBMIT_SHARES_STANDARD) || (kind == kinds.SUBMIT_SHARES_EXTENDED)

-- templates and tips
abbrev pub is_feeds_kind : ℕ → Bool
is_feeds_kind kind = (kind == kinds.NEW_TEMPLATE) || (kind == kinds.TEMPLATE_SET_NEW_PREV_HASH)

-- tokens, and jobs of a miner's own
abbrev pub is_own_jobs_kind : ℕ → Bool
is_own_jobs_kind kind =
    (kind == kinds.SET_CUSTOM_MINING_JOB) || (kind == kinds.ALLOCATE_MINING_JOB_TOKEN)

-- what a role sends of its work
abbrev pub is_work_kind : Role → ℕ → Bool
is_work_kind role kind = (is_miners_kind kind && mines role) || (is_feeds_kind kind && feeds role)

-- a miner asks for its setup, and a feed answers the pool's
abbrev pub is_setup_kind : Role → ℕ → Bool
is_setup_kind role kind =
    ((kind == kinds.SETUP_CONNECTION) && mines role)
    || (((kind == kinds.SETUP_CONNECTION_SUCCESS) || (kind == kinds.SETUP_CONNECTION_ERROR))
    && not (mines role))

-- a miner brings jobs of its own where its setup says so
abbrev pub brings_own_jobs : Role → Option ℕ → Bool
brings_own_jobs role None = false
brings_own_jobs role (Some flags) = mines role && selects_work flags

-- the kinds that are taken, by the flags of the setup: those of the work, before the setup is done
-- those of a setup, and where the setup says so those of a miner's own jobs
abbrev pub takes_kind : Role → Option ℕ → ℕ → Bool
takes_kind role flags kind =
    is_work_kind role kind || (is_none flags && is_setup_kind role kind)
    || (is_own_jobs_kind kind && brings_own_jobs role flags)

-- declarations, and the transactions that they lack
abbrev pub is_declared_kind : ℕ → Bool
is_declared_kind kind =
    (kind == kinds.DECLARE_MINING_JOB) || (kind == kinds.PROVIDE_MISSING_TRANSACTIONS_SUCCESS)

-- they are taken of a miner that brings jobs of its own, where the pool takes any
abbrev pub takes_declared : Talk → ℕ → Bool
takes_declared talk kind =
    is_declared_kind kind && (talk.declares && brings_own_jobs talk.role talk.flags)

-- a frame is taken where its kind is, and no bit of its extension type but the channel bit is set
abbrev pub is_taken : Talk → FrameValue → Bool
is_taken talk frame =
    (frame.ext % 0x8000 == 0)
    && (takes_kind talk.role talk.flags frame.kind || takes_declared talk frame.kind)
