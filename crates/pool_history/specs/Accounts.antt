-- Accounts, and the ranges of the rules (this project's own).
-- Computed on accounts with a blank, of V1 and of a list, and on a list with one user twice
-- (`IllegalEvents`).
use Rattle.std.specs.Prelude.{ℕ, ◌^◌, ◌==◌, ◌&&◌, ◌||◌, Bool, true, false, not, Option, None, Some, List, [], ◌∷◌, length, nat_lt, nat_le}
use Rattle.std.specs.List.{before_first, list_all, list_any}
use Rattle.std.specs.Str.{bytes_eq}
use Rattle.pool_history.specs.declared.settings.Rules.{Rules}

-- the account of a user: the part before the first point, or all
abbrev pub account_of : List ℕ → List ℕ
account_of identity = before_first (λ byte. byte == 46) identity

-- a visible ASCII character
abbrev pub is_visible : ℕ → Bool
is_visible byte = nat_le 0x21 byte && nat_le byte 0x7e

-- 1 to 255 visible characters
abbrev pub is_account : List ℕ → Bool
is_account account =
    nat_le 1 (length account) && nat_le (length account) 255 && list_all is_visible account

-- a list is empty
abbrev pub is_empty : {X : Type 0} → List X → Bool
is_empty [] = true
is_empty (x ∷ xs) = false

-- an account is known where all are, or where it is listed
abbrev pub is_known : Rules → List ℕ → Bool
is_known rules account =
    is_account account && (is_empty rules.users || list_any (bytes_eq account) rules.users)

-- an account that may be listed
abbrev pub is_user : List ℕ → Bool
is_user account = is_account account && not (list_any (λ byte. byte == 46) account)

-- no account stands twice
abbrev pub are_distinct : List (List ℕ) → Bool
are_distinct [] = true
are_distinct (account ∷ accounts) =
    not (list_any (bytes_eq account) accounts) && are_distinct accounts

-- a window is there and in its range, or there is none
abbrev pub is_window : Option ℕ → Bool
is_window None = true
is_window (Some window) = nat_le 1 window && nat_lt window (2 ^ 64)

-- the rules are in the ranges that settings have
abbrev pub are_in_range : Rules → Bool
are_in_range rules =
    nat_le 1 (length rules.pool_script) && nat_le (length rules.pool_script) 100
    && nat_le rules.least_class 60 && nat_le rules.fee 10000
    && is_window rules.window && nat_le rules.ntime_window 86400 && nat_le 1 rules.credit_limit
    && nat_le rules.credit_limit 16777215
    && nat_le (length rules.users) 1000 && list_all is_user rules.users && are_distinct rules.users
