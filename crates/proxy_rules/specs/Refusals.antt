-- The codes by which a proxy refuses its miners (this project's own, but for those that Stratum V2
-- has).
use Rattle.std.specs.Prelude.{ℕ, List, codes}
use Rattle.proxy_rules.specs.declared.refusals.ProxyRefusal.{ProxyRefusal}
use Rattle.proxy_rules.specs.declared.refusals.ProxyRefusal.TheVariants.{NoUpstream, NoSpace, WrongSize, UpstreamLost, TooManyShares}

abbrev pub code_of : ProxyRefusal → List ℕ
code_of NoUpstream = codes "no upstream"
code_of NoSpace = codes "no-extranonce-space"
code_of WrongSize = codes "invalid-extranonce-size"
code_of UpstreamLost = codes "upstream lost"
code_of TooManyShares = codes "too many shares"
