-- Where the lister stands between two bytes (this project's own).
use Rattle.std.specs.Prelude.{ℕ, ◌≡◌, ◌≤◌, List, length}
use Rattle.sv2_frames.specs.Framing.{FrameValue}
use Rattle.sv2_frames.specs.Holding.{frame_end}
use Rattle.stream_programs.specs.declared.lister.Lister.{Lister}
use Rattle.stream_programs.specs.Listing.{payload_limit, ListsFrames, IsPartialFrame}
use Rattle.stream_programs.specs.Lines.{lines_of}

-- the bytes are good frames and what is held, and the text has a line for each frame
pub record TracksFrames (bytes text : List ℕ) (frames : List FrameValue) (lister : Lister) : Type 0
  where
    pub lists : ListsFrames bytes frames lister.splitter.held
    pub taken : lister.splitter.limit ≡ payload_limit
    pub counted : lister.count ≡ length frames
    pub listed : text ≡ lines_of frames

-- what is held is less than a frame
pub record HasListedFrames (bytes text : List ℕ) (lister : Lister) : Type 0 where
  pub frames : List FrameValue
  pub tracks : TracksFrames bytes text frames lister
  pub partial : IsPartialFrame lister.splitter.held

-- what is held may be a whole frame
pub record MayHoldFrame (bytes text : List ℕ) (lister : Lister) : Type 0 where
  pub frames : List FrameValue
  pub tracks : TracksFrames bytes text frames lister
  pub present : length lister.splitter.held ≤ frame_end payload_limit lister.splitter.held
