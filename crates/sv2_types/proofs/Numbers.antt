-- What the first bytes of a spelling say.
use Rattle.std.proofs.Common.{◌≡◌, ℕ, ◌^◌, ◌<◌, List, ◌∷◌, ◌++◌, arith}
use Rattle.sv2_types.specs.Spelling.{spelled_u16, spelled_u24, spelled_u32, spelled_u64}
use Rattle.sv2_types.specs.Reading.{said}

-- a number of one byte
pub said-u8 : (n : ℕ) (rest : List ℕ) → said 1 (n ∷ rest) ≡ n
said-u8 n rest = omega arith

-- a number of two bytes
pub said-u16 : (n : ℕ) (rest : List ℕ) → n < 2 ^ 16 → said 2 (spelled_u16 n ++ rest) ≡ n
said-u16 n rest fits = omega arith

-- a number of three bytes
pub said-u24 : (n : ℕ) (rest : List ℕ) → n < 2 ^ 24 → said 3 (spelled_u24 n ++ rest) ≡ n
said-u24 n rest fits = omega arith

-- a number of four bytes
pub said-u32 : (n : ℕ) (rest : List ℕ) → n < 2 ^ 32 → said 4 (spelled_u32 n ++ rest) ≡ n
said-u32 n rest fits = omega arith

-- a number of eight bytes
pub said-u64 : (n : ℕ) (rest : List ℕ) → n < 2 ^ 64 → said 8 (spelled_u64 n ++ rest) ≡ n
said-u64 n rest fits = omega arith
