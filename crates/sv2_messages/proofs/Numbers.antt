-- The numbers that the first bytes of a list spell.
use Rattle.std.proofs.Common.{◌≡◌, ℕ, ◌+◌, ◌*◌, ◌/◌, ◌%◌, ◌^◌, ◌<◌, ◌≤◌, List, [], ◌∷◌, length, take, drop, refl, arith, inl, inr}
use Rattle.std.proofs.lemmas.Bool.{cases_lt}
use Rattle.std.proofs.lemmas.List.{get_or-drop, get_or-take, get_or_past, length-take}
use Rattle.std.proofs.lemmas.Nat.{le_bytes_2, le_bytes_4, le_bytes_8}
use Rattle.sv2_types.specs.Spelling.{spelled_u8, spelled_u16, spelled_u24, spelled_u32, spelled_u64}
use Rattle.sv2_types.specs.Reading.{said}
use Rattle.sv2_types.proofs.Items.{IsBytes}

pub IsBytes-drop : (n : ℕ) (bytes : List ℕ) → IsBytes bytes → IsBytes (drop n bytes)
IsBytes-drop n bytes fits i = rw get_or-drop (fits (n + i))

pub IsBytes-take : (n : ℕ) (bytes : List ℕ) → IsBytes bytes → IsBytes (take n bytes)
IsBytes-take n bytes fits i =
    elim (cases_lt i n) [
      | inl lt ↦ rw (get_or-take n bytes i 0 lt) (fits i)
      | inr le ↦ rw (get_or_past (take n bytes) i 0 (omega (arith, length-take n bytes))) (omega arith)
    ]

-- a number of one byte
pub spelled_u8-said : (bytes : List ℕ) → IsBytes bytes → 1 ≤ length bytes → spelled_u8 (said 1 bytes) ≡ take 1 bytes
spelled_u8-said [] fits long = absurd (omega arith)
spelled_u8-said (a ∷ bytes) fits long = let e : a + 256 * 0 ≡ a = omega arith in cc

pub said_u8-below : (bytes : List ℕ) → IsBytes bytes → said 1 bytes < 2 ^ 8
said_u8-below [] fits = omega arith
said_u8-below (a ∷ bytes) fits = omega (arith, fits 0)

-- of two bytes
pub spelled_u16-said : (bytes : List ℕ) → IsBytes bytes → 2 ≤ length bytes → spelled_u16 (said 2 bytes) ≡ take 2 bytes
spelled_u16-said [] fits long = absurd (omega arith)
spelled_u16-said (a ∷ []) fits long = absurd (omega arith)
spelled_u16-said (a ∷ b ∷ bytes) fits long = le_bytes_2 (a ∷ b ∷ []) _ refl (IsBytes-take 2 (a ∷ b ∷ bytes) fits) (omega arith)

pub said_u16-below : (bytes : List ℕ) → IsBytes bytes → said 2 bytes < 2 ^ 16
said_u16-below [] fits = omega arith
said_u16-below (a ∷ []) fits = omega (arith, fits 0)
said_u16-below (a ∷ b ∷ bytes) fits = omega (arith, fits 0, fits 1)

-- of three bytes
pub spelled_u24-said : (bytes : List ℕ) → IsBytes bytes → 3 ≤ length bytes → spelled_u24 (said 3 bytes) ≡ take 3 bytes
spelled_u24-said [] fits long = absurd (omega arith)
spelled_u24-said (a ∷ []) fits long = absurd (omega arith)
spelled_u24-said (a ∷ b ∷ []) fits long = absurd (omega arith)
spelled_u24-said (a ∷ b ∷ d ∷ bytes) fits long =
    let low : (a + 256 * (b + 256 * (d + 256 * 0))) % 256 ≡ a = omega (arith, fits 0, fits 1, fits 2) in
    let middle : (a + 256 * (b + 256 * (d + 256 * 0))) / 256 % 256 ≡ b = omega (arith, fits 0, fits 1, fits 2) in
    let high : (a + 256 * (b + 256 * (d + 256 * 0))) / 65536 % 256 ≡ d = omega (arith, fits 0, fits 1, fits 2) in
    cc

pub said_u24-below : (bytes : List ℕ) → IsBytes bytes → said 3 bytes < 2 ^ 24
said_u24-below [] fits = omega arith
said_u24-below (a ∷ []) fits = omega (arith, fits 0)
said_u24-below (a ∷ b ∷ []) fits = omega (arith, fits 0, fits 1)
said_u24-below (a ∷ b ∷ d ∷ bytes) fits = omega (arith, fits 0, fits 1, fits 2)

-- of four bytes
pub spelled_u32-said : (bytes : List ℕ) → IsBytes bytes → 4 ≤ length bytes → spelled_u32 (said 4 bytes) ≡ take 4 bytes
spelled_u32-said [] fits long = absurd (omega arith)
spelled_u32-said (a ∷ []) fits long = absurd (omega arith)
spelled_u32-said (a ∷ b ∷ []) fits long = absurd (omega arith)
spelled_u32-said (a ∷ b ∷ d ∷ []) fits long = absurd (omega arith)
spelled_u32-said (a ∷ b ∷ d ∷ e ∷ bytes) fits long =
    le_bytes_4 (a ∷ b ∷ d ∷ e ∷ []) _ refl (IsBytes-take 4 (a ∷ b ∷ d ∷ e ∷ bytes) fits) (omega arith)

pub said_u32-below : (bytes : List ℕ) → IsBytes bytes → 4 ≤ length bytes → said 4 bytes < 2 ^ 32
said_u32-below [] fits long = omega arith
said_u32-below (a ∷ []) fits long = absurd (omega arith)
said_u32-below (a ∷ b ∷ []) fits long = absurd (omega arith)
said_u32-below (a ∷ b ∷ d ∷ []) fits long = absurd (omega arith)
said_u32-below (a ∷ b ∷ d ∷ e ∷ bytes) fits long = omega (arith, fits 0, fits 1, fits 2, fits 3)

-- of eight bytes
pub spelled_u64-said : (bytes : List ℕ) → IsBytes bytes → 8 ≤ length bytes → spelled_u64 (said 8 bytes) ≡ take 8 bytes
spelled_u64-said [] fits long = absurd (omega arith)
spelled_u64-said (a ∷ []) fits long = absurd (omega arith)
spelled_u64-said (a ∷ b ∷ []) fits long = absurd (omega arith)
spelled_u64-said (a ∷ b ∷ d ∷ []) fits long = absurd (omega arith)
spelled_u64-said (a ∷ b ∷ d ∷ e ∷ []) fits long = absurd (omega arith)
spelled_u64-said (a ∷ b ∷ d ∷ e ∷ f ∷ []) fits long = absurd (omega arith)
spelled_u64-said (a ∷ b ∷ d ∷ e ∷ f ∷ g ∷ []) fits long = absurd (omega arith)
spelled_u64-said (a ∷ b ∷ d ∷ e ∷ f ∷ g ∷ h ∷ []) fits long = absurd (omega arith)
spelled_u64-said (a ∷ b ∷ d ∷ e ∷ f ∷ g ∷ h ∷ i ∷ bytes) fits long =
    le_bytes_8 (a ∷ b ∷ d ∷ e ∷ f ∷ g ∷ h ∷ i ∷ []) _ refl (IsBytes-take 8 (a ∷ b ∷ d ∷ e ∷ f ∷ g ∷ h ∷ i ∷ bytes) fits) (omega arith)

pub said_u64-below : (bytes : List ℕ) → IsBytes bytes → 8 ≤ length bytes → said 8 bytes < 2 ^ 64
said_u64-below [] fits long = omega arith
said_u64-below (a ∷ []) fits long = absurd (omega arith)
said_u64-below (a ∷ b ∷ []) fits long = absurd (omega arith)
said_u64-below (a ∷ b ∷ d ∷ []) fits long = absurd (omega arith)
said_u64-below (a ∷ b ∷ d ∷ e ∷ []) fits long = absurd (omega arith)
said_u64-below (a ∷ b ∷ d ∷ e ∷ f ∷ []) fits long = absurd (omega arith)
said_u64-below (a ∷ b ∷ d ∷ e ∷ f ∷ g ∷ []) fits long = absurd (omega arith)
said_u64-below (a ∷ b ∷ d ∷ e ∷ f ∷ g ∷ h ∷ []) fits long = absurd (omega arith)
said_u64-below (a ∷ b ∷ d ∷ e ∷ f ∷ g ∷ h ∷ i ∷ bytes) fits long =
    omega (arith, fits 0, fits 1, fits 2, fits 3, fits 4, fits 5, fits 6, fits 7)
