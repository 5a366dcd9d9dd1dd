-- What is kept of the classes that were set for a channel, once one more is set: what may be asked
-- for within the bounds of the live jobs, and what is to come (this project's own).
use Rattle.std.specs.Prelude.{◌≡◌, ◌<◌, ◌≤◌, ◌⊎◌, ◌==◌, ℕ, Bool, true, if◌then◌else◌, List, [], ◌∷◌, nat_le, nat_lt}
use Rattle.pool_history.specs.declared.spans.LiveSpan.{LiveSpan}
use Rattle.pool_history.specs.Channels.{ClassSet, OpenChannel}

-- the last set first: the last one is written over where none became live behind its place
abbrev pub without_unasked : ℕ → List ClassSet → List ClassSet
without_unasked newest [] = []
without_unasked newest (set ∷ older) = if nat_le newest set.at then older else set ∷ older

-- and of those that were set before the oldest place the last one stays alone
abbrev pub asked_since : ℕ → List ClassSet → List ClassSet
asked_since oldest [] = []
asked_since oldest (set ∷ older) =
    if nat_lt set.at oldest then set ∷ [] else set ∷ asked_since oldest older

-- the sets that are kept where one more is set
abbrev pub cut_sets : ℕ → ℕ → LiveSpan → List ClassSet → List ClassSet
cut_sets at class span sets =
    asked_since span.oldest (record { at = at; class = class } ∷ without_unasked span.newest sets)

-- a channel as it is kept once its class is set
abbrev pub with_cut : ℕ → ℕ → ℕ → LiveSpan → OpenChannel → OpenChannel
with_cut at id class span channel =
    if channel.id == id then record channel { sets = cut_sets at class span channel.sets }
    else channel

-- what is asked for when a class is set at a place: what live jobs ask for, and what is to come
abbrev pub IsAskedWithin : (ℕ → Bool) → LiveSpan → ℕ → Type 0
IsAskedWithin is_asked span at =
    (place : ℕ) → is_asked place ≡ true
    → ((span.oldest ≤ place) × (place ≤ span.newest)) ⊎ (at < place)
