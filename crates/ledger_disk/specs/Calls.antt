-- What contracts see of a disk, and what each call of it does (this project's own).
use Rattle.std.specs.Prelude.{ℕ, ◌+◌, ◌≡◌, Bool, true, false, List, [], ◌∷◌, ◌++◌, length, take, drop, Option, Some, Result, Ok, Err}
use Rattle.ledger_disk.specs.declared.disk.DiskFailed.{DiskFailed}
use Rattle.ledger_disk.specs.declared.disk.DiskFailed.TheVariants.{Failed, Memory}
use Rattle.ledger_disk.specs.declared.disk.Doing.TheVariants.{Wrote, CutTo, Synced}
use Rattle.ledger_disk.specs.Moments.{Moment, TornCut, TornWrite, last_content, with_call}

-- a disk
pub record DiskSeen : Type 0 where
  -- how often it has failed
  pub faults : ℕ
  -- what it did, the last call first, where it tells
  pub log : Option (List Moment)

-- of what a disk tells, if it tells, this holds
abbrev pub WhereTold : Option (List Moment) → (List Moment → Type 0) → Type 0
WhereTold told P = (log : List Moment) → told ≡ Some log → P log

-- bytes written over a content from a place on, and past its end
abbrev pub overwritten : ℕ → (bytes content : List ℕ) → List ℕ
overwritten at bytes content = take at content ++ bytes ++ drop (at + length bytes) content

-- a write of these bytes at a place: done; torn, where the disk failed; nothing, for lack of memory
abbrev pub LogsWrite : ℕ → List ℕ → Result Unit DiskFailed → List Moment → Option (List Moment) → Type 0
LogsWrite at bytes (Ok done) log new =
    new ≡ Some (with_call (Wrote at (length bytes)) (overwritten at bytes (last_content log)) log)
LogsWrite at bytes (Err Failed) log new =
    (content : List ℕ) × TornWrite at (length bytes) (last_content log) content
    × (new ≡ Some (with_call (Wrote at (length bytes)) content log))
LogsWrite at bytes (Err Memory) log new = new ≡ Some log

-- a cut to so many bytes, likewise
abbrev pub LogsCut : ℕ → Result Unit DiskFailed → List Moment → Option (List Moment) → Type 0
LogsCut count (Ok done) log new =
    new ≡ Some (with_call (CutTo count) (take count (last_content log)) log)
LogsCut count (Err Failed) log new =
    (content : List ℕ) × TornCut count (last_content log) content
    × (new ≡ Some (with_call (CutTo count) content log))
LogsCut count (Err Memory) log new = new ≡ Some log

-- a sync; one that failed did nothing
abbrev pub LogsSync : Result Unit DiskFailed → List Moment → Option (List Moment) → Type 0
LogsSync (Ok done) log new = new ≡ Some (with_call Synced (last_content log) log)
LogsSync (Err error) log new = new ≡ Some log

-- the disk failed; lack of memory is no failure
abbrev pub is_failed_call : {A : Type 0} → Result A DiskFailed → Bool
is_failed_call (Ok a) = false
is_failed_call (Err Failed) = true
is_failed_call (Err Memory) = false

-- a disk of which nothing is known but these bytes, all of them on it for good
abbrev pub fresh_disk : List ℕ → DiskSeen
fresh_disk content = record { faults = 0; log = Some (with_call Synced content []) }
