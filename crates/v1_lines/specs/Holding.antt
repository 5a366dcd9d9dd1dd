-- What a reader of lines holds (this project's own).
use Rattle.std.specs.Prelude.{◌≡◌, ◌⊎◌, ℕ, ◌≤◌, false, List, [], ◌∷◌, ◌++◌, length, take}
use Rattle.v1_lines.specs.Lines.{has_line_feed, IsLineText, line_end}

-- just this line is held, with its end
pub record IsHeldLine (line held : List ℕ) : Type 0 where
  pub whole : held ≡ line ++ 10 ∷ []
  pub text : IsLineText line

-- a whole line is held
abbrev pub HoldsLine : List ℕ → Type 0
HoldsLine held = (line : List ℕ) × IsHeldLine line held

-- more is held than a line has, and no end
pub record HoldsLongLine (held : List ℕ) : Type 0 where
  pub one : has_line_feed held ≡ false
  pub long : length held ≡ 4097

-- nothing more is taken
abbrev pub TakesNoMore : List ℕ → Type 0
TakesNoMore held = HoldsLine held ⊎ HoldsLongLine held

-- the held bytes end where their line does, or before
abbrev pub IsOneLine : List ℕ → Type 0
IsOneLine held = length held ≤ line_end held

-- a buffer of 4,097 bytes, of which so many are held: one line at most
pub record IsLineBuffer (buffer : List ℕ) (held : ℕ) : Type 0 where
  pub room : length buffer ≡ 4097
  pub within : held ≤ 4097
  pub present : held ≤ line_end (take held buffer)
