-- The conditions of channels by what is kept of them (this project's own).
use Rattle.std.specs.Prelude.{ℕ, ◌==◌, ◌&&◌, Bool, false, not, Option, None, Some, List}
use Rattle.channels.specs.Tables.{KeptChannel}
use Rattle.pool_history.specs.declared.settings.Rules.{Rules}
use Rattle.pool_history.specs.Accounts.{is_known}
use Rattle.pool_history.specs.Judging.{is_standard}
use Rattle.pool_history.specs.Legal.{is_nameless}

-- a channel may get this account
abbrev pub may_get_kept : Rules → List ℕ → Option KeptChannel → Bool
may_get_kept rules account None = false
may_get_kept rules account (Some channel) =
    is_nameless channel.kind channel.account && is_known rules account

-- a channel's class may become this one, which is in its range
abbrev pub may_become_kept : ℕ → Option KeptChannel → Bool
may_become_kept class None = false
may_become_kept class (Some channel) = not (class == channel.class)

-- a credit counts as standard where its channel is
abbrev pub is_standard_kept : Option KeptChannel → Bool
is_standard_kept None = false
is_standard_kept (Some channel) = is_standard channel.kind
