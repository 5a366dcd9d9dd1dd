-- What the reading of a whole file does to a host, and what it answers (this project's own).
use Rattle.std.specs.Prelude.{ℕ, ◌≡◌, List, Some, Result, Ok, Err}
use Rattle.pool_io.specs.declared.opening.Opening.TheVariants as opening
use Rattle.pool_io.specs.declared.turn.Turn.{Turn}
use Rattle.pool_io.specs.Hosts.{CameBack, HostSeen, IsRefusedFile}
use Rattle.pool_io.specs.Openings.{openings_and}
use Rattle.pool_io.specs.Outside.{CountsFailure}
use Rattle.pool_io.specs.Seen.{SourceSeen}
use Rattle.pool_io.specs.Steps.{steps_of}
use Rattle.stream_commands.specs.declared.files.FileError.{FileError}
use Rattle.stream_commands.specs.declared.files.FileError.TheVariants as file_error
use Rattle.stream_commands.specs.declared.reading.Unread.{Unread}
use Rattle.stream_commands.specs.Reading.{DecideReading, ReadsWhole, is_read_fault}

-- The file was opened, read up to its end or to what ended the reading, and handed back.
pub record ReadsFile (most : ℕ) (name : List ℕ) (old new : HostSeen)
    (read : Result (List ℕ) Unread) : Type 0 where
  pub source : SourceSeen
  pub back : CameBack old.streams.sources new.streams.sources source
  pub streams : new.streams ≡ record old.streams { sources = new.streams.sources }
  pub openings : new.openings ≡ openings_and old.openings (opening.Source name)
  pub reads : ReadsWhole most (old.openings.brings name) source.left read
  -- the other way round: a told file decides what is read, but for a fault or lack of memory
  pub decided : (told : List Turn) → old.openings.brings name ≡ Some told
      → DecideReading most (steps_of told) read
  pub counts : CountsFailure (is_read_fault read) 0 source.faults

-- it was read, or the host didn't open it
abbrev pub OpensFile :
    ℕ → List ℕ → HostSeen → HostSeen → Result (List ℕ) FileError → Type 0
OpensFile most name old new (Ok bytes) = ReadsFile most name old new (Ok bytes)
OpensFile most name old new (Err (file_error.Unread cause)) =
    ReadsFile most name old new (Err cause)
OpensFile most name old new (Err (file_error.Host error)) = IsRefusedFile name old new error
