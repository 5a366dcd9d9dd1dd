use Rattle.std.proofs.Common.{◌≤◌, ◌^◌, arith}
use Rattle.std.proofs.Math.Nat.{pow-le-pow_right}
use Rattle.pool_tables.proofs.passing.work_of.Goals as goal

pub returns-clause-small : goal.returns-clause-small
returns-clause-small c =
    let powers : 2 ^ c.value.result ≤ 2 ^ 60 = pow-le-pow_right {n = 2} (omega arith) c.value.ensures.most in
    omega (arith, powers)
