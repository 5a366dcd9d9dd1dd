-- the accounts so far are written
use Rattle.std.proofs.Common.{◌≡◌, ◌++◌, take}
use Rattle.std.specs.List.{flat_map}
use Rattle.sv2_types.specs.Spelling.{spelled_str255}
use Rattle.ledger_records.proofs.record_fields.put_accounts.Given as goal

abbrev pub invariant-loop-account : goal.invariant-loop-account
invariant-loop-account l = l.out.items ≡ l.fn.out.items ++ flat_map spelled_str255 (take l.account-index l.accounts)
