-- the accounts so far are those in front of what is left
use Rattle.std.proofs.Common.{◌≡◌, ◌++◌, length, drop}
use Rattle.std.specs.List.{flat_map, AllByRecursion}
use Rattle.sv2_types.specs.Spelling.{spelled_str255}
use Rattle.ledger_records.specs.WellFormed.{IsText}
use Rattle.ledger_records.proofs.users.read_users.Given as goal

abbrev pub invariant-loop-place : goal.invariant-loop-place
invariant-loop-place l = record {
  same : l.reader.bytes ≡ l.accounts;
  counted : length l.users.items ≡ l._place;
  spelled : l.accounts ≡ flat_map spelled_str255 l.users.items ++ drop l.reader.at l.accounts;
  texts : AllByRecursion IsText l.users.items;
}
