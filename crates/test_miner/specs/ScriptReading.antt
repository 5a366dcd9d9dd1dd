-- How a script is read, frame by frame (this project's own).
use Rattle.std.specs.Prelude.{◌≡◌, ◌⊎◌, ℕ, ◌+◌, ◌-◌, ◌^◌, Bool, true, false, if◌then◌else◌, min}
use Rattle.sv2_frames.specs.Framing.{FrameValue}
use Rattle.test_miner.specs.declared.script.ScriptReader.{ScriptReader}
use Rattle.test_miner.specs.Scripts.{entry_in, is_entry, with_entry}

-- a frame is read: it is counted where it brings something
pub record ReadsFrame (old : ScriptReader) (frame : FrameValue) (brings : Bool) (new : ScriptReader) :
    Type 0 where
  pub said : brings ≡ is_entry (entry_in frame)
  pub script : new.script ≡ with_entry (entry_in frame) old.script
  pub counted : new.count ≡ (if brings then min (old.count + 1) (2 ^ 64 - 1) else old.count)

-- the same, or memory ran out
abbrev pub TakesScriptFrame : ScriptReader → FrameValue → Bool → ScriptReader → Type 0
TakesScriptFrame old frame more new =
    ((more ≡ false) × (new.lacks_memory ≡ true))
    ⊎ (ReadsFrame old frame more new × (new.lacks_memory ≡ old.lacks_memory))
