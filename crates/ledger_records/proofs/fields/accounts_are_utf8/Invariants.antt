use Rattle.std.proofs.Common.{take}
use Rattle.std.specs.List.{AllByRecursion}
use Rattle.std.specs.Str.{IsUtf8}
use Rattle.ledger_records.proofs.fields.accounts_are_utf8.Given as goal

-- the accounts so far are UTF-8
abbrev pub invariant-loop-account : goal.invariant-loop-account
invariant-loop-account l = AllByRecursion IsUtf8 (take l.account-index l.accounts)
