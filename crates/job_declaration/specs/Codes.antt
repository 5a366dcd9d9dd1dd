-- The codes of refused declarations (this project's own).
use Rattle.std.specs.Prelude.{ℕ, List, codes}
use Rattle.job_declaration.specs.declared.refusals.DeclareError.{DeclareError}
use Rattle.job_declaration.specs.declared.refusals.DeclareError.TheVariants as refusal

abbrev pub declare_code : DeclareError → List ℕ
declare_code refusal.Token = codes "invalid-mining-job-token"
declare_code refusal.Coinbase = codes "invalid-coinbase"
declare_code refusal.Transactions = codes "invalid-transactions"
declare_code refusal.TooManyGrants = codes "too-many-grants"
