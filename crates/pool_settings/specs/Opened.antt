-- What the opening of a settings file does, and what it answers (this project's own).
use Rattle.std.specs.Prelude.{ℕ, ◌≡◌, List, Result, Ok, Err}
use Rattle.pool_io.specs.Hosts.{HostSeen, IsRefusedFile}
use Rattle.pool_settings.specs.declared.settings.Settings.{Settings}
use Rattle.pool_settings.specs.Reading.{AreInRange, AreSettings}
use Rattle.stream_commands.specs.Statuses.{status_of_refusal}
use Rattle.stream_commands.specs.declared.status.Status.{Status}
use Rattle.stream_commands.specs.declared.status.Status.TheVariants as status
use Rattle.pool_settings.specs.declared.opening.NoSettings.{NoSettings}
use Rattle.pool_settings.specs.declared.opening.NoSettings.TheVariants as no_settings
use Rattle.stream_commands.specs.Files.{ReadsFile}
use Rattle.stream_commands.specs.declared.reading.Unread.{Unread}
use Rattle.stream_commands.specs.declared.reading.Unread.TheVariants as unread

-- the most bytes of a settings file
abbrev pub most_settings_bytes : ℕ
most_settings_bytes = 65536

-- why there are no settings where not all of a file was read: a file with more bytes is none
abbrev pub cause_of_unread : Unread → NoSettings
cause_of_unread unread.TooLong = no_settings.Bad
cause_of_unread unread.IdleOut = no_settings.IdleOut
cause_of_unread unread.ReadFault = no_settings.ReadFault
cause_of_unread unread.Memory = no_settings.Memory

-- what a whole file is answered with: its settings, or Bad where it is none
abbrev pub AnswersBytes : List ℕ → Result Settings NoSettings → Type 0
AnswersBytes bytes (Ok settings) = AreSettings bytes settings × AreInRange settings
AnswersBytes bytes (Err no_settings.Bad) = (settings : Settings) → AreSettings bytes settings → ⊥
AnswersBytes bytes (Err no_settings.Memory) = Unit {0}
AnswersBytes bytes (Err no_settings.IdleOut) = ⊥
AnswersBytes bytes (Err no_settings.ReadFault) = ⊥
AnswersBytes bytes (Err (no_settings.Host error)) = ⊥

-- what the reading of a file is answered with
abbrev pub AnswersFile : Result (List ℕ) Unread → Result Settings NoSettings → Type 0
AnswersFile (Ok bytes) answer = AnswersBytes bytes answer
AnswersFile (Err cause) answer = answer ≡ Err (cause_of_unread cause)

-- The file was read up to its end, or to what ended the reading; the answer is what was read.
pub record ReadsSettings (name : List ℕ) (old new : HostSeen) (answer : Result Settings NoSettings) :
    Type 0 where
  pub read : Result (List ℕ) Unread
  pub file : ReadsFile most_settings_bytes name old new read
  pub answers : AnswersFile read answer

-- what the opening of the file of this name did, by its answer
abbrev pub OpensSettings : List ℕ → HostSeen → HostSeen → Result Settings NoSettings → Type 0
OpensSettings name old new (Err (no_settings.Host error)) =
    IsRefusedFile name old new error
OpensSettings name old new (Ok settings) =
    ReadsSettings name old new (Ok settings)
OpensSettings name old new (Err no_settings.Bad) =
    ReadsSettings name old new (Err no_settings.Bad)
OpensSettings name old new (Err no_settings.IdleOut) =
    ReadsSettings name old new (Err no_settings.IdleOut)
OpensSettings name old new (Err no_settings.ReadFault) =
    ReadsSettings name old new (Err no_settings.ReadFault)
OpensSettings name old new (Err no_settings.Memory) =
    ReadsSettings name old new (Err no_settings.Memory)

-- the status of a command that found no settings
abbrev pub status_of_no_settings : NoSettings → Status
status_of_no_settings (no_settings.Host error) = status_of_refusal error
status_of_no_settings no_settings.Bad = status.BadSettings
status_of_no_settings no_settings.IdleOut = status.Limit
status_of_no_settings no_settings.ReadFault = status.ReadFault
status_of_no_settings no_settings.Memory = status.Memory
