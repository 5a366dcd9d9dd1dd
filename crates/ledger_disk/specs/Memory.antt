-- What disks in memory keep, and what a crash leaves of them (this project's own).
use Rattle.std.specs.Prelude.{ℕ, ◌≡◌, ◌≤◌, ◌⊎◌, List, [], ◌∷◌, length, take, Result, Ok, Err}
use Rattle.ledger_disk.specs.declared.disk.DiskFailed.{DiskFailed}
use Rattle.ledger_disk.specs.declared.disk.DiskFailed.TheVariants.{Failed, Memory}
use Rattle.ledger_disk.specs.Calls.{DiskSeen, WhereTold, fresh_disk, overwritten}
use Rattle.ledger_disk.specs.Moments.{BreaksOff, MayLeave, Moment, TornCut, TornWrite}

-- the calls of a disk in memory, and what can be added to them without memory: so many calls, with
-- contents of so many bytes
pub record PastSeen : Type 0 where
  pub log : List Moment
  pub places : ℕ
  pub room : ℕ

-- the content of each of these moments has at most so many bytes
abbrev pub HaveRoom : ℕ → List Moment → Type 0
HaveRoom room [] = Unit {0}
HaveRoom room (moment ∷ moments) = (length moment.content ≤ room) × HaveRoom room moments

-- a disk in memory after a crash of the old one, with one of the contents that this may leave
abbrev pub IsLeftBy : (old new : DiskSeen) → Type 0
IsLeftBy old new =
    (left : List ℕ) × WhereTold old.log (λ log. MayLeave log left) × (new ≡ fresh_disk left)

-- what a crash leaves of one call, where so much was left before it
abbrev pub LeavesCall : Moment → (before left : List ℕ) → Type 0
LeavesCall moment before left = (left ≡ moment.content) ⊎ BreaksOff moment.doing before left

-- bytes were written over a content, or a write of them failed
abbrev pub WritesOver : ℕ → List ℕ → Result Unit DiskFailed → (old new : List ℕ) → Type 0
WritesOver at bytes (Ok done) old new = new ≡ overwritten at bytes old
WritesOver at bytes (Err Failed) old new = TornWrite at (length bytes) old new
WritesOver at bytes (Err Memory) old new = ⊥

-- a content was cut to so many bytes, or a cut failed
abbrev pub CutsOff : ℕ → Result Unit DiskFailed → (old new : List ℕ) → Type 0
CutsOff count (Ok done) old new = new ≡ take count old
CutsOff count (Err Failed) old new = TornCut count old new
CutsOff count (Err Memory) old new = ⊥
