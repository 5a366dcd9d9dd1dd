-- What a run over the pieces of a stream does (this project's own).
use Rattle.std.specs.Prelude.{◌≡◌, ℕ, Bool, true, false, List, [], ◌++◌}
use Rattle.std.specs.List.{AllByRecursion}
use Rattle.sv2_frames.specs.declared.running.RunEnd.{RunEnd}
use Rattle.sv2_frames.specs.declared.running.RunEnd.TheVariants.{Done, Stopped, TooLong}
use Rattle.sv2_frames.specs.Framing.{FrameValue, IsFrame}
use Rattle.sv2_frames.specs.Holding.{Holding, HoldsOver, IsCutWithin}
use Rattle.sv2_frames.specs.Stream.{stream_of, AreFramesOf, AreWithin, TakesEach}

-- the end tells why the run came to it: these are the frames of the stream and its rest is held, or
-- no more were wanted, or a header over the limit is held
abbrev pub EndsRun : RunEnd → List ℕ → List FrameValue → Bool → Holding → Type 0
EndsRun Done stream frames more after =
    (more ≡ true) × AreFramesOf stream frames after.held × IsCutWithin after
EndsRun Stopped stream frames more after = (more ≡ false) × (after.held ≡ [])
EndsRun (TooLong len) stream frames more after = (more ≡ true) × HoldsOver len after

-- the stream is what was held and the bytes; these frames of it were taken, in order; then come
-- what is held and what is unread
pub record RunsOver {S : Type 0} (takes : S → FrameValue → Bool → S → Type 0) (before : Holding)
    (bytes : List ℕ) (old : S) (end : RunEnd) (after : Holding) (new : S) : Type 0 where
  pub frames : List FrameValue
  pub more : Bool
  pub unread : List ℕ
  pub took : TakesEach takes old frames more new
  pub each : AllByRecursion IsFrame frames
  pub within : AreWithin before.limit frames
  pub stream : before.held ++ bytes ≡ stream_of frames (after.held ++ unread)
  pub limit : after.limit ≡ before.limit
  pub ends : EndsRun end (before.held ++ bytes) frames more after
