-- How a script is come by, or why there is none (this project's own).
use Rattle.std.specs.Prelude.{ℕ, ◌≡◌, List, Result, Ok, Err}
use Rattle.pool_io.specs.Hosts.{HostSeen}
use Rattle.stream_commands.specs.declared.files.FileError.{FileError}
use Rattle.stream_commands.specs.declared.files.FileError.TheVariants as file_error
use Rattle.stream_commands.specs.declared.reading.Unread.TheVariants as unread
use Rattle.stream_commands.specs.declared.status.Status.{Status}
use Rattle.stream_commands.specs.declared.status.Status.TheVariants as status
use Rattle.stream_commands.specs.Files.{OpensFile}
use Rattle.stream_commands.specs.Statuses.{status_of_refusal}
use Rattle.test_miner.specs.declared.script.ScriptError.TheVariants as script_error
use Rattle.test_miner.specs.Scripts.{ReadsScript}
use Rattle.test_miner.specs.ScriptValues.{ScriptValue}
use Rattle.peer_commands.specs.declared.script.NoScript.{NoScript}
use Rattle.peer_commands.specs.declared.script.NoScript.TheVariants as no_script

-- one byte less than a link takes
abbrev pub most_script_bytes : ℕ
most_script_bytes = 1099511627775

-- what a file that was read is answered with: its script, or why it is none
abbrev pub AnswersScript : Result (List ℕ) FileError → Result ScriptValue NoScript → Type 0
AnswersScript (Ok bytes) (Ok script) = ReadsScript bytes (Ok script)
AnswersScript (Ok bytes) (Err (no_script.Script error)) = ReadsScript bytes (Err error)
AnswersScript (Ok bytes) (Err (no_script.File error)) = ⊥
AnswersScript (Err error) answer = answer ≡ Err (no_script.File error)

-- the file was read, and it is answered so
pub record OpensScript (name : List ℕ) (old new : HostSeen) (answer : Result ScriptValue NoScript) :
    Type 0 where
  pub read : Result (List ℕ) FileError
  pub opens : OpensFile most_script_bytes name old new read
  pub answers : AnswersScript read answer

-- the status of a command that found no script
abbrev pub status_of_no_script : NoScript → Status
status_of_no_script (no_script.File (file_error.Host error)) = status_of_refusal error
status_of_no_script (no_script.File (file_error.Unread unread.TooLong)) = status.Limit
status_of_no_script (no_script.File (file_error.Unread unread.IdleOut)) = status.Limit
status_of_no_script (no_script.File (file_error.Unread unread.ReadFault)) = status.ReadFault
status_of_no_script (no_script.File (file_error.Unread unread.Memory)) = status.Memory
status_of_no_script (no_script.Script (script_error.Bad frame)) = status.Refused
status_of_no_script (no_script.Script script_error.Memory) = status.Memory
