-- A disk as a list of its calls, and what a crash may leave of it (this project's own model). What was
-- written since the last sync may hold any bytes, and the length may be any that there was since then,
-- or one between; the rest stays.
use Rattle.std.specs.Prelude.{ℕ, ◌+◌, min, max, ◌≡◌, ◌⊎◌, ◌≤◌, List, [], ◌∷◌, length, take, drop}
use Rattle.ledger_disk.specs.declared.disk.Doing.{Doing}
use Rattle.ledger_disk.specs.declared.disk.Doing.TheVariants.{Wrote, CutTo, Synced}

-- a call that was made, and what a read gives behind it
pub record Moment : Type 0 where
  pub doing : Doing
  pub content : List ℕ

-- one call more: the last call stands first
abbrev pub with_call : Doing → List ℕ → List Moment → List Moment
with_call doing content log = record { doing = doing; content = content } ∷ log

-- what a read gives; a disk of no call is empty
abbrev pub last_content : List Moment → List ℕ
last_content [] = []
last_content (moment ∷ older) = moment.content

abbrev pub content_if_synced : Doing → List ℕ → List ℕ → List ℕ
content_if_synced (Wrote at count) content before = before
content_if_synced (CutTo count) content before = before
content_if_synced Synced content before = content

-- what a read gave at the last sync
abbrev pub synced_content : List Moment → List ℕ
synced_content [] = []
synced_content (moment ∷ older) =
    content_if_synced moment.doing moment.content (synced_content older)

-- so many bytes were written from a place on, or some of them, or none: any bytes may stand there,
-- and past the old end up to the last one
pub record TornWrite (at count : ℕ) (old new : List ℕ) : Type 0 where
  pub before : take at new ≡ take at old
  pub after : drop (at + count) new ≡ drop (at + count) old
  pub no_shorter : length old ≤ length new
  pub no_longer : length new ≤ max (length old) (at + count)

-- the bytes past so many were cut off, or the last few of them, or none
pub record TornCut (count : ℕ) (old new : List ℕ) : Type 0 where
  pub no_shorter : min count (length old) ≤ length new
  pub front : take (length new) old ≡ new

-- a call that was broken off may be done, not done or done in part; a sync changes no byte
abbrev pub BreaksOff : Doing → (old new : List ℕ) → Type 0
BreaksOff (Wrote at count) old new = TornWrite at count old new
BreaksOff (CutTo count) old new = TornCut count old new
BreaksOff Synced old new = ⊥

-- what a crash may leave behind these calls: what a read gives, or, until a sync, what it might have
-- left before the last call, with this one broken off
abbrev pub MayLeave : List Moment → List ℕ → Type 0
MayLeave [] left = left ≡ []
MayLeave (moment ∷ older) left = (left ≡ moment.content)
    ⊎ ((before : List ℕ) × MayLeave older before × BreaksOff moment.doing before left)
