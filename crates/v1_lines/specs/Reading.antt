-- What a reader finds in a stream, whatever pieces it is fed in (this project's own).
use Rattle.std.specs.Prelude.{◌≡◌, ◌⊎◌, ℕ, ◌≤◌, List, [], ◌∷◌, ◌++◌, length, take}
use Rattle.std.specs.List.{AllByRecursion}
use Rattle.v1_lines.specs.Lines.{IsLineText, line_bytes, line_end}
use Rattle.v1_lines.specs.Holding.{IsHeldLine, HoldsLongLine}

-- of a piece so many bytes are taken, up to the end of the line that is held
pub record TakesPiece (held piece : List ℕ) (taken : ℕ) (after : List ℕ) : Type 0 where
  pub within : taken ≤ length piece
  pub bytes : after ≡ held ++ take taken piece
  pub end : after ≡ take (line_end (held ++ piece)) (held ++ piece)

-- one use of a reader: it was fed a piece and took so many bytes of it, or it gave a line, which was
-- let go of
pub data LineUse : Type 0 where
  FedPiece : List ℕ → ℕ → LineUse
  GaveLine : List ℕ → LineUse

-- uses one after the other, from what is held before them to what is held behind them
abbrev pub UsesReader : List ℕ → List LineUse → List ℕ → Type 0
UsesReader held [] after = after ≡ held
UsesReader held (FedPiece piece taken ∷ uses) after =
    (between : List ℕ) × TakesPiece held piece taken between × UsesReader between uses after
UsesReader held (GaveLine line ∷ uses) after = IsHeldLine line held × UsesReader [] uses after

-- the lines that were given
abbrev pub given_lines : List LineUse → List (List ℕ)
given_lines [] = []
given_lines (FedPiece piece taken ∷ uses) = given_lines uses
given_lines (GaveLine line ∷ uses) = line ∷ given_lines uses

-- the bytes that were taken of all pieces
abbrev pub taken_bytes : List LineUse → List ℕ
taken_bytes [] = []
taken_bytes (FedPiece piece taken ∷ uses) = take taken piece ++ taken_bytes uses
taken_bytes (GaveLine line ∷ uses) = taken_bytes uses

-- a reader is through with a stream: all of it was taken, and no whole line is left, or a line is
-- too long, behind which nothing is taken
abbrev pub IsThrough : List ℕ → List ℕ → Type 0
IsThrough held unread = (IsLineText held × (unread ≡ [])) ⊎ HoldsLongLine held

-- what is found in a stream: its lines, all of them or those before the first that is too long, and
-- what is held behind them
pub record FindsLines (stream : List ℕ) (lines : List (List ℕ)) (held : List ℕ) : Type 0 where
  pub unread : List ℕ
  pub whole : stream ≡ line_bytes lines ++ (held ++ unread)
  pub each : AllByRecursion IsLineText lines
  pub through : IsThrough held unread

-- in a stream something is found
abbrev pub LinesAreFound : Type 0
LinesAreFound =
    (stream : List ℕ) → (lines : List (List ℕ)) × (held : List ℕ) × FindsLines stream lines held

-- and nothing else
abbrev pub LinesAreUnique : Type 0
LinesAreUnique =
    (stream : List ℕ) (lines others : List (List ℕ)) (held left : List ℕ)
    → FindsLines stream lines held → FindsLines stream others left
    → (lines ≡ others) × (held ≡ left)

-- what a reader gives and holds, once it is through, is what is found in what it held and in the
-- bytes that it was fed
abbrev pub ReadersFindLines : Type 0
ReadersFindLines =
    (held after unread : List ℕ) (uses : List LineUse)
    → UsesReader held uses after → IsThrough after unread
    → FindsLines (held ++ (taken_bytes uses ++ unread)) (given_lines uses) after

-- so two readers that are through with one stream gave the same lines and hold the same, however
-- each was fed
abbrev pub CutsDontMatter : Type 0
CutsDontMatter =
    (held after unread left skipped : List ℕ) (uses others : List LineUse)
    → UsesReader held uses after → IsThrough after unread
    → UsesReader held others left → IsThrough left skipped
    → taken_bytes uses ++ unread ≡ taken_bytes others ++ skipped
    → (given_lines uses ≡ given_lines others) × (after ≡ left)
