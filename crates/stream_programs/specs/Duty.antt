-- What the command owes for the bytes of its input (this project's own).
use Rattle.std.specs.Prelude.{ℕ, ◌≡◌, ◌≢◌, List, [], ◌++◌, length}
use Rattle.sv2_frames.specs.Framing.{FrameValue}
use Rattle.stream_commands.specs.Duties.{Duty, IsNothing}
use Rattle.stream_programs.specs.declared.flaw.Flaw.{Flaw}
use Rattle.stream_programs.specs.declared.flaw.Flaw.TheVariants.{Cut}
use Rattle.stream_programs.specs.Lines.{lines_of, bad_line}
use Rattle.stream_programs.specs.Listing.{ListsFrames, IsPartialFrame, IsFlawed}

-- the bytes are some good frames and then a rest of this kind, and the text has a line for each
-- frame
pub record ListsGood (IsKind : List ℕ → Type 0) (bytes text : List ℕ) : Type 0 where
  pub frames : List FrameValue
  pub rest : List ℕ
  pub lists : ListsFrames bytes frames rest
  pub is_kind : IsKind rest
  pub listed : text ≡ lines_of frames

-- the bytes are some good frames and then a rest with such a flaw, and the last line of the text
-- tells it
pub record ListsFlaw (HasFlaw : Flaw → List ℕ → Type 0) (bytes text : List ℕ) : Type 0 where
  pub frames : List FrameValue
  pub flaw : Flaw
  pub rest : List ℕ
  pub lists : ListsFrames bytes frames rest
  pub has_flaw : HasFlaw flaw rest
  pub listed : text ≡ lines_of frames ++ bad_line (length frames) flaw

-- a part of a frame, at the end of the input
pub record IsCutFrame (flaw : Flaw) (rest : List ℕ) : Type 0 where
  pub some : rest ≢ []
  pub partial : IsPartialFrame rest
  pub counted : flaw ≡ Cut (length rest)

-- The input is whole where it is good frames and nothing else; a bad frame or a header over the
-- limit refuses it, and so does its end within a frame.
abbrev pub listing_duty : Duty
listing_duty = record {
  Whole = ListsGood IsNothing;
  Refused = ListsFlaw IsFlawed;
  Cut = ListsFlaw IsCutFrame;
  SoFar = ListsGood IsPartialFrame;
}
