-- Which language a session speaks, by the first of its bytes.
use Rattle.std.proofs.Common.{◌≡◌, ℕ, ◌<◌, true, false, List, [], ◌∷◌, ◌++◌, length, refl, arith}
use Rattle.pool_history.specs.declared.events.Role.{Role}
use Rattle.pool_history.specs.declared.events.Role.TheVariants as role
use Rattle.pool_sessions.specs.Courses.{speaks_lines}

-- what comes behind the first bytes says nothing of it
pub speaks_front : (r : Role) (piece more : List ℕ) → 0 < length piece → speaks_lines r (piece ++ more) ≡ speaks_lines r piece
speaks_front role.Miner (byte ∷ bytes) more some = refl
speaks_front role.Miner [] more some = absurd (omega (arith, some))
speaks_front role.Feed piece more some = refl
speaks_front role.Solo piece more some = refl

-- nobody speaks lines who said nothing
pub speaks_none : (r : Role) (bytes : List ℕ) → bytes ≡ [] → speaks_lines r bytes ≡ false
speaks_none role.Miner [] none = refl
speaks_none role.Miner (byte ∷ bytes) none = cc
speaks_none role.Feed bytes none = refl
speaks_none role.Solo bytes none = refl

-- lines are spoken by miners alone
pub speaks_miner : (r : Role) (bytes : List ℕ) → speaks_lines r bytes ≡ true → r ≡ role.Miner
speaks_miner role.Miner bytes is = refl
speaks_miner role.Feed bytes is = cc
speaks_miner role.Solo bytes is = cc
