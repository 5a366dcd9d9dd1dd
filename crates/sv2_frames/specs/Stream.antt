-- The frames of a stream (Stratum V2, "Framing").
use Rattle.std.specs.Prelude.{◌≡◌, ℕ, ◌<◌, ◌≤◌, Bool, true, false, List, [], ◌∷◌, ◌++◌, length, slice_index, MatchBool}
use Rattle.std.specs.List.{flat_map, AllByRecursion}
use Rattle.sv2_frames.specs.Framing.{FrameValue, frame_bytes, IsFrame}
use Rattle.sv2_frames.specs.Holding.{IsCut}

-- frames one after the other, and then the rest
abbrev pub stream_of : List FrameValue → List ℕ → List ℕ
stream_of frames rest = flat_map frame_bytes frames ++ rest

-- the frames of the bytes; the rest is a proper prefix of a frame
pub record AreFramesOf (bytes : List ℕ) (frames : List FrameValue) (rest : List ℕ) : Type 0 where
  pub whole : bytes ≡ stream_of frames rest
  pub each : AllByRecursion IsFrame frames
  pub cut : IsCut rest

-- each has a payload within the limit
abbrev pub AreWithin : ℕ → List FrameValue → Type 0
AreWithin limit frames = AllByRecursion (λ frame. length frame.payload ≤ limit) frames

-- a stream has frames and a rest
abbrev pub FramesExist : Type 0
FramesExist =
    (bytes : List ℕ) → ((i : ℕ) → slice_index bytes i < 256)
    → (frames : List FrameValue) × (rest : List ℕ) × AreFramesOf bytes frames rest

-- and no others
abbrev pub FramesAreUnique : Type 0
FramesAreUnique =
    (bytes : List ℕ) (frames others : List FrameValue) (rest left : List ℕ)
    → AreFramesOf bytes frames rest → AreFramesOf bytes others left
    → (frames ≡ others) × (rest ≡ left)

-- the frames were taken one after the other, and more were wanted after each, but after the last
-- where no more were wanted
abbrev pub TakesEach :
    {S : Type 0} → (S → FrameValue → Bool → S → Type 0) → S → List FrameValue → Bool → S → Type 0
TakesEach takes old [] more new = (more ≡ true) × (new ≡ old)
TakesEach {S} takes old (frame ∷ frames) more new =
    (middle : S) × (wants : Bool) × takes old frame wants middle
    × MatchBool wants (TakesEach takes middle frames more new)
    ((frames ≡ []) × (more ≡ false) × (new ≡ middle))
