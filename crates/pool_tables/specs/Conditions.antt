-- Single conditions of a share, over what is kept (this project's own).
use Rattle.std.specs.Prelude.{ℕ, ◌+◌, ◌==◌, ◌&&◌, Bool, length, nat_le, nat_lt}
use Rattle.pool_history.specs.Judging.{agree, is_standard}
use Rattle.channels.specs.Tables.{KeptChannel}

-- a channel is the session's, has an account, and is standard where the share is
abbrev pub serves_kept : ℕ → Bool → KeptChannel → Bool
serves_kept session standard channel =
    channel.session == session && nat_lt 0 (length channel.account)
    && agree (is_standard channel.kind) standard

-- a time is within so many seconds behind the least one
abbrev pub is_within_window : ℕ → ℕ → ℕ → Bool
is_within_window least window ntime = nat_le least ntime && nat_le ntime (least + window)
