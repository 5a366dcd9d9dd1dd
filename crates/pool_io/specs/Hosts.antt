-- What contracts see of a host (this project's own).
use Rattle.std.specs.Prelude.{ℕ, ◌≡◌, ◌++◌, List, [], ◌∷◌, Option, None, IfSome, Ok, Err}
use Rattle.pool_io.specs.declared.host.HostError.{HostError}
use Rattle.pool_io.specs.declared.opening.Opening.TheVariants as opening
use Rattle.pool_io.specs.declared.turn.Turn.{Turn}
use Rattle.pool_io.specs.Lending.{Lending}
use Rattle.pool_io.specs.Openings.{Openings, openings_after, openings_after_keeper, openings_and}
use Rattle.pool_io.specs.Outside.{CountsFailure, is_failed_gift}
use Rattle.pool_io.specs.Seen.{KeeperSeen, SinkSeen, SourceSeen}

-- how often it has failed, and the streams that it gives and gave
pub record StreamsSeen : Type 0 where
  pub faults : ℕ
  -- what standard input will bring, where it is told
  pub input : Option (List Turn)
  -- what standard output holds before anything is put, where it is told
  pub output : Option (List ℕ)
  pub sources : Lending SourceSeen
  pub sinks : Lending SinkSeen

-- all of it: its streams, and what it gives and gave by name
pub record HostSeen : Type 0 where
  pub streams : StreamsSeen
  pub openings : Openings

-- one more came back, and as many are out as before
pub record CameBack {T : Type 0} (old new : Lending T) (item : T) : Type 0 where
  pub lent : new.lent ≡ old.lent
  pub back : new.back ≡ old.back ++ item ∷ []

-- as much is out as before: everything that the host gave has come back
pub record IsHandedBack (old new : HostSeen) : Type 0 where
  pub sources : new.streams.sources.lent ≡ old.streams.sources.lent
  pub sinks : new.streams.sinks.lent ≡ old.streams.sinks.lent
  pub keepers : new.openings.keepers.lent ≡ old.openings.keepers.lent

-- a call that asked for what it gives by name was refused: nothing else changed
pub record IsRefused (old new : HostSeen) (after : Openings) (error : HostError) : Type 0 where
  pub streams : new.streams ≡ record old.streams { faults = new.streams.faults }
  pub openings : new.openings ≡ after
  pub counts : CountsFailure (is_failed_gift {A = Unit {0}} (Err error)) old.streams.faults
      new.streams.faults

-- the host didn't open the file of this name
abbrev pub IsRefusedFile : List ℕ → HostSeen → HostSeen → HostError → Type 0
IsRefusedFile name old new error =
    IsRefused old new
    (openings_after {A = Unit {0}} (opening.Source name) (Err error) old.openings) error

-- it gave no keeper over a new file of this name
abbrev pub IsRefusedKeeper : List ℕ → HostSeen → HostSeen → HostError → Type 0
IsRefusedKeeper name old new error =
    IsRefused old new
    (openings_after_keeper {A = Unit {0}} (opening.Keeper name) (Err error) old.openings) error

-- The host gave a keeper over a new file of this name: it keeps nothing yet, never failed, and
-- doesn't tell what is there for good.
pub record IsKeeperGiven (name : List ℕ) (old new : HostSeen) (keeper : KeeperSeen) : Type 0 where
  pub streams : new.streams ≡ old.streams
  pub openings : new.openings ≡ openings_after_keeper {A = Unit {0}} (opening.Keeper name) (Ok tt)
      old.openings
  pub unused : IfSome keeper.records (λ records. records ≡ [])
  pub new_file : old.openings.brings name ≡ None
  pub unfailed : keeper.faults ≡ 0
  pub untold : keeper.stored ≡ None

-- it opened the file of this name and gave no output: the file came back unread
pub record IsRefusedOutput (name : List ℕ) (old new : HostSeen) (error : HostError) : Type 0 where
  pub sources : CameBack old.streams.sources new.streams.sources (record {
    faults = 0;
    left = old.openings.brings name;
  })
  pub streams : new.streams
      ≡ record old.streams { sources = new.streams.sources; faults = new.streams.faults }
  pub openings : new.openings
      ≡ openings_after {A = Unit {0}} opening.Output (Err error)
      (openings_and old.openings (opening.Source name))
  pub counts : CountsFailure (is_failed_gift {A = Unit {0}} (Err error)) old.streams.faults
      new.streams.faults
