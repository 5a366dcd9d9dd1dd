-- How the marks of a session's openings lead from the last to the first (this project's own).
use Rattle.std.specs.Prelude.{◌≡◌, ℕ, ◌+◌, ◌<◌, ◌≤◌, Option, None, Some, List, length, map, slice_get}
use Rattle.event_store.specs.declared.marks.OpeningMark.{OpeningMark}
use Rattle.event_store.specs.Index.{IndexParts, last_opening}

-- the session of an opening, and where the session's opening before stands
pub record Link : Type 0 where
  pub session : ℕ
  pub before : Option ℕ

-- that of a mark
abbrev pub link_of : OpeningMark → Link
link_of mark = record { session = mark.session; before = mark.before }

-- how many stand up to and with a last one
abbrev pub reach : Option ℕ → ℕ
reach None = 0
reach (Some at) = at + 1

-- of those before a place, the last of a session is this one
pub record IsLastBefore (session : ℕ) (links : List Link) (end : ℕ) (last : Option ℕ) : Type 0 where
  pub within : reach last ≤ end
  pub others : (at : ℕ) (link : Link) → reach last ≤ at → at < end
      → slice_get links at ≡ Some link → link.session ≡ session → ⊥
  pub own : (at : ℕ) (link : Link) → last ≡ Some at → slice_get links at ≡ Some link
      → link.session ≡ session

-- of all openings, the last of a session is this one
abbrev pub IsLastOf : ℕ → List OpeningMark → Option ℕ → Type 0
IsLastOf session openings last =
    IsLastBefore session (map link_of openings) (length (map link_of openings)) last

-- each leads to the session's before it
abbrev pub AreLinked : List OpeningMark → Type 0
AreLinked openings =
    (at : ℕ) (link : Link) → slice_get (map link_of openings) at ≡ Some link
    → IsLastBefore link.session (map link_of openings) at link.before

-- each opening leads to the session's before it, and each session to its last
pub record AreChained (links : List Link) (lasts : ℕ → Option ℕ) : Type 0 where
  pub openings : (at : ℕ) (link : Link) → slice_get links at ≡ Some link
      → IsLastBefore link.session links at link.before
  pub sessions : (session : ℕ) → IsLastBefore session links (length links) (lasts session)

-- so are the marks
abbrev pub MarksAreChained : IndexParts → Type 0
MarksAreChained index =
    AreChained (map link_of index.openings)
    (λ session. last_opening (slice_get index.sessions session))
