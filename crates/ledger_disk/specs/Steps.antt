-- What the steps of an append do, and what stands on the disk between two calls of a ledger.
use Rattle.std.specs.Prelude.{ℕ, ◌+◌, ◌≡◌, ◌⊎◌, ◌<◌, ◌≤◌, Bool, true, false, List, [], ◌∷◌, ◌++◌, length, take, drop, replicate, OnErr, OnOk, Option, None, Some, IfSome, Result, Ok, Err}
use Rattle.std.specs.Int.{w32, to_le_bytes}
use Rattle.ledger_disk.specs.declared.disk.DiskFailed.{DiskFailed}
use Rattle.ledger_disk.specs.declared.disk.DiskFailed.TheVariants as disk
use Rattle.ledger_disk.specs.declared.disk.Doing.TheVariants.{Wrote, Synced}
use Rattle.ledger_disk.specs.Calls.{is_failed_call, overwritten}
use Rattle.ledger_disk.specs.Moments.{Moment, TornWrite, last_content, with_call}
use Rattle.pool_io.specs.declared.keeper.KeeperFailed.{KeeperFailed}
use Rattle.pool_io.specs.declared.keeper.KeeperFailed.TheVariants as keeper
use Rattle.ledger_disk.specs.declared.steps.PutFailed.{PutFailed}
use Rattle.ledger_disk.specs.declared.steps.PutFailed.TheVariants.{Unwritten, Unsure}
use Rattle.pool_io.specs.Crashes.{FindsMore, counts_at_end}
use Rattle.ledger_disk.specs.Crashes.{FindsJust, IsSettled, LeavesOnly, LeavesStored, MayFind, StoresMore, Throughout, counts_of, stored_entries}
use Rattle.ledger_disk.specs.Entries.{AreShort, Begins, HasBehind, HasNone, IsBlank, Opens, body, front}

-- bytes were put: written and synced; written, or some of them, and not synced; or not written
abbrev pub LogsPut : ℕ → List ℕ → Result Unit PutFailed → List Moment → Option (List Moment) → Type 0
LogsPut at bytes (Ok done) log new =
    new ≡ Some (with_call Synced (overwritten at bytes (last_content log))
    (with_call (Wrote at (length bytes)) (overwritten at bytes (last_content log)) log))
LogsPut at bytes (Err (Unsure error)) log new =
    (content : List ℕ) × TornWrite at (length bytes) (last_content log) content
    × (new ≡ Some (with_call (Wrote at (length bytes)) content log))
LogsPut at bytes (Err Unwritten) log new = new ≡ Some log

-- the same, where what failed isn't told
abbrev pub LogsTry : ℕ → List ℕ → Result Unit DiskFailed → List Moment → Option (List Moment) → Type 0
LogsTry at bytes (Ok done) log new = LogsPut at bytes (Ok done) log new
LogsTry at bytes (Err error) log new =
    LogsPut at bytes (Err Unwritten) log new ⊎ LogsPut at bytes (Err (Unsure error)) log new

-- a write that lacked memory wrote nothing
abbrev pub put_failed_by : DiskFailed → PutFailed
put_failed_by disk.Failed = Unsure disk.Failed
put_failed_by disk.Memory = Unwritten

-- the disk failed while bytes were put
abbrev pub is_failed_put : Result Unit PutFailed → Bool
is_failed_put (Ok done) = false
is_failed_put (Err Unwritten) = false
is_failed_put (Err (Unsure error)) = is_failed_call {A = Unit {0}} (Err error)

-- what a ledger says where its disk failed
abbrev pub keeper_failed_by : DiskFailed → KeeperFailed
keeper_failed_by disk.Failed = keeper.Failed
keeper_failed_by disk.Memory = keeper.Memory

-- the last gate is closed, whatever a crash leaves; or it may be open, and a whole entry stands behind
-- it, which a crash may have left already
abbrev pub HasGate : Bool → List (List ℕ) → List Moment → Type 0
HasGate false entries log = LeavesOnly (Begins (front entries ++ 0 ∷ [])) log
HasGate true entries log =
    (bytes : List ℕ) × (length bytes ≤ 300100)
    × LeavesOnly (HasBehind (front entries) (body bytes ++ 0 ∷ [])) log
    × MayFind log (length entries) (Some (entries ++ bytes ∷ []))

-- the disk of a ledger that keeps these entries, its last gate being at this place
pub record HoldsLedger (gate : ℕ) (is_torn : Bool) (entries : List (List ℕ)) (log : List Moment) : Type 0 where
  pub short : AreShort entries
  pub size : length (front entries) ≡ gate
  pub stored : stored_entries log ≡ entries
  pub gated : HasGate is_torn entries log

-- the same of what a disk tells
abbrev pub IsOnDisk : ℕ → Bool → Option (List Moment) → Type 0
IsOnDisk gate is_torn told =
    IfSome told (λ log. HoldsLedger gate is_torn (stored_entries log) log)

-- the last gate was closed, or wasn't: the same is kept, and a crash leaves nothing new
pub record Shuts (gate : ℕ) (old : List Moment) (told : Option (List Moment)) (is_torn : Bool) : Type 0 where
  pub log : List Moment
  pub tells : told ≡ Some log
  pub same : stored_entries log ≡ stored_entries old
  pub during : Throughout (λ now. stored_entries now ≡ stored_entries old) old told
  pub holds : HoldsLedger gate is_torn (stored_entries log) log
  pub crash : (count : ℕ) (found : Option (List (List ℕ))) → MayFind log count found
      → MayFind old count found
      ⊎ ((count ≡ length (stored_entries old)) × (found ≡ Some (stored_entries old)))

-- at each moment of a call so many entries were stored, and behind these so many as the list says
abbrev pub CountsOn : (last : List ℕ) → ℕ → (old new : List Moment) → Type 0
CountsOn last count old new =
    (moments : ℕ) × (counts_of new ≡ last ++ (replicate moments count ++ counts_of old))

-- an entry was added behind a gate that was closed, or wasn't
pub record Adds (bytes : List ℕ) (result : Result Unit KeeperFailed) (gate : ℕ) (old : List Moment)
    (later : ℕ) (told : Option (List Moment)) (is_torn : Bool) : Type 0 where
  pub log : List Moment
  pub tells : told ≡ Some log
  pub more : OnOk result (stored_entries log ≡ stored_entries old ++ bytes ∷ [])
  pub same : OnErr result (stored_entries log ≡ stored_entries old)
  pub only : OnOk result (LeavesStored log)
  pub during : Throughout (λ now. StoresMore (stored_entries old) bytes result (stored_entries now)) old
      told
  pub counts : CountsOn (counts_at_end result (length (stored_entries old)))
      (length (stored_entries old)) old log
  pub holds : HoldsLedger later is_torn (stored_entries log) log
  pub crash : FindsMore (stored_entries old) bytes result (MayFind old) (MayFind log)

-- a ledger of no entry was made, or wasn't
pub record Makes (result : Result Unit DiskFailed) (old : List Moment) (told : Option (List Moment)) : Type 0 where
  pub log : List Moment
  pub tells : told ≡ Some log
  pub none : OnOk result (stored_entries log ≡ [])
  pub only : OnOk result (LeavesStored log)
  pub holds : OnOk result (HoldsLedger 8 false (stored_entries log) log)
  pub during : LeavesOnly IsBlank old → Throughout (λ now. stored_entries now ≡ []) old told
  pub crash : LeavesOnly IsBlank old → FindsJust [] (MayFind old) (MayFind log)

-- these entries stand on a disk before this place
pub record HoldsFront (at : ℕ) (entries : List (List ℕ)) (content : List ℕ) : Type 0 where
  pub short : AreShort entries
  pub size : length (front entries) ≡ at
  pub begins : take at content ≡ front entries

-- these entries stand on a disk, and none behind them, where the last gate is at this place
pub record HoldsEntries (gate : ℕ) (entries : List (List ℕ)) (content : List ℕ) : Type 0 where
  pub short : AreShort entries
  pub size : length (front entries) ≡ gate
  pub begins : take gate content ≡ front entries
  pub inside : gate < length content
  pub ends : HasNone (drop gate content)

-- the length of an entry was read, from its gate on
abbrev pub ReadsLength : List ℕ → Result (Option ℕ) DiskFailed → Type 0
ReadsLength bytes (Ok (Some count)) = take 5 bytes ≡ 1 ∷ to_le_bytes w32 count
ReadsLength bytes (Ok None) = HasNone bytes
ReadsLength bytes (Err error) = Unit {0}

-- an entry was read, from its gate on
abbrev pub ReadsEntry : List ℕ → Result (Option (List ℕ)) DiskFailed → Type 0
ReadsEntry bytes (Ok (Some entry)) = take (5 + length entry) bytes ≡ 1 ∷ body entry
ReadsEntry bytes (Ok None) = HasNone bytes
ReadsEntry bytes (Err error) = Unit {0}

-- the disk of a ledger was cut and its last gate closed, or not
pub record Closes (result : Result Unit DiskFailed) (gate : ℕ) (entries : List (List ℕ))
    (old : List Moment) (told : Option (List Moment)) : Type 0 where
  pub log : List Moment
  pub tells : told ≡ Some log
  pub stored : OnOk result (stored_entries log ≡ entries)
  pub only : OnOk result (LeavesStored log)
  pub holds : OnOk result (HoldsLedger gate false (stored_entries log) log)
  pub during : IsSettled old → Throughout (λ now. stored_entries now ≡ entries) old told
  pub crash : IsSettled old → FindsJust entries (MayFind old) (MayFind log)

-- the disk has become a ledger of just the entries that opening it finds
pub record BecomesLedger (gate : ℕ) (entries : List (List ℕ)) (old : List Moment)
    (told : Option (List Moment)) : Type 0 where
  pub log : List Moment
  pub tells : told ≡ Some log
  pub opens : Opens (last_content old) (Some entries)
  pub stored : stored_entries log ≡ entries
  pub only : LeavesStored log
  pub holds : HoldsLedger gate false (stored_entries log) log
