-- What was copied is what was walked through.
use Rattle.std.proofs.Common.{◌≡◌, take}
use Rattle.v1_translate.proofs.terms.copy_users.Given as goal

abbrev pub invariant-loop-account : goal.invariant-loop-account
invariant-loop-account l = l.accounts.items ≡ take l.account-index l.known
