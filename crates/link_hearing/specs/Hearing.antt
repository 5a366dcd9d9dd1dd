-- The turns of a link that are heard one after the other, and how that ends (this project's own).
use Rattle.std.specs.Prelude.{◌≡◌, ◌⊎◌, ℕ, ◌<◌, ◌≤◌, Option, None, Some, Result, Ok, Err, List, [], ◌∷◌, length, take}
use Rattle.pool_io.specs.declared.source.Took.{Took}
use Rattle.pool_io.specs.declared.source.Took.TheVariants as took
use Rattle.pool_io.specs.declared.turn.Turn.{Turn}
use Rattle.pool_io.specs.declared.turn.Turn.TheVariants as turn
use Rattle.pool_io.specs.Outside.{IsWithinRoom}
use Rattle.pool_io.specs.Seen.{SinkSeen}
use Rattle.pool_network.specs.Seen.{LinkSeen}
use Rattle.link_turns.specs.declared.waiting.Limit.{Limit}
use Rattle.link_turns.specs.declared.waiting.Waiting.{Waiting}
use Rattle.link_turns.specs.Waits.{IsLimitOf, TakesOf, waiting_after}
use Rattle.session_steps.specs.declared.ends.SessionEnd.{SessionEnd}
use Rattle.session_steps.specs.declared.ends.SessionEnd.TheVariants as end
use Rattle.v2_sessions.specs.Standing.{GoesOnOrEnds, end_at_limit}

-- what is still waited for, who hears, and the link
pub record Hearing (H : Type 0) : Type 0 where
  pub waiting : Waiting
  pub hearer : H
  pub link : LinkSeen

abbrev pub hearing_at : {H : Type 0} → Waiting → H → LinkSeen → Hearing H
hearing_at waiting hearer link = record { waiting = waiting; hearer = hearer; link = link }

-- how something is over, if it is
abbrev pub end_of : Result Unit SessionEnd → Option SessionEnd
end_of (Ok done) = None
end_of (Err reason) = Some reason

-- the turn that was taken into a buffer
abbrev pub IsTurn : Took → List ℕ → Turn → Type 0
IsTurn (took.Bytes count) buffer told =
    (told ≡ turn.Piece (take count buffer)) × (0 < count) × (count ≤ length buffer)
IsTurn took.Idle buffer told = told ≡ turn.Idle
IsTurn took.End buffer told = told ≡ turn.End
IsTurn took.Failed buffer told = ⊥

-- one turn was taken of the link, within what was still waited for, and counted; it was heard, and it
-- is over so, or isn't
pub record HearsOne {H : Type 0}
    (hears : H → SinkSeen → Turn → Option SessionEnd → H → SinkSeen → Type 0) (old : Hearing H)
    (told : Turn) (over : Option SessionEnd) (new : Hearing H) : Type 0 where
  pub answered : Took
  pub buffer : List ℕ
  pub short : length buffer ≡ 4096
  pub middle : LinkSeen
  pub takes : TakesOf answered buffer old.link middle
  pub is_turn : IsTurn answered buffer told
  pub within : IsWithinRoom answered old.waiting.bytes
  pub counted : new.waiting ≡ waiting_after answered old.waiting
  pub source : new.link.source ≡ middle.source
  pub heard : hears old.hearer middle.sink told over new.hearer new.link.sink

-- turns were heard one after the other, and no limit was reached behind any of them
abbrev pub HearsEach : {H : Type 0}
    → (H → SinkSeen → Turn → Option SessionEnd → H → SinkSeen → Type 0) → Hearing H → List Turn
    → Hearing H → Type 0
HearsEach hears old [] new = new ≡ old
HearsEach {H} hears old (told ∷ turns) new =
    (middle : Hearing H) × HearsOne hears old told None middle × IsLimitOf middle.waiting None
    × HearsEach hears middle turns new

-- the last turn was heard, and it is over by it
pub record EndsByTurn {H : Type 0}
    (hears : H → SinkSeen → Turn → Option SessionEnd → H → SinkSeen → Type 0) (last : Hearing H)
    (reason : SessionEnd) (new : Hearing H) : Type 0 where
  pub told : Turn
  pub heard : HearsOne hears last told (Some reason) new

-- or a limit is reached behind it
pub record EndsByLimit {H : Type 0}
    (hears : H → SinkSeen → Turn → Option SessionEnd → H → SinkSeen → Type 0) (last : Hearing H)
    (reason : SessionEnd) (new : Hearing H) : Type 0 where
  pub told : Turn
  pub heard : HearsOne hears last told None new
  pub limit : Limit
  pub reached : IsLimitOf new.waiting (Some limit)
  pub reason_is : reason ≡ end_at_limit limit

-- or the next take failed
pub record EndsByFault {H : Type 0} (last : Hearing H) (reason : SessionEnd) (new : Hearing H) :
    Type 0 where
  pub buffer : List ℕ
  pub takes : TakesOf took.Failed buffer last.link new.link
  pub hearer : new.hearer ≡ last.hearer
  pub reason_is : reason ≡ end.ReadFault

abbrev pub EndsBy : {H : Type 0}
    → (H → SinkSeen → Turn → Option SessionEnd → H → SinkSeen → Type 0) → Hearing H → SessionEnd
    → Hearing H → Type 0
EndsBy hears last reason new =
    EndsByTurn hears last reason new ⊎ EndsByLimit hears last reason new
    ⊎ EndsByFault last reason new

-- one turn more, and it goes on, or it is over
abbrev pub TakesTurnOrEnds : {H : Type 0}
    → (H → SinkSeen → Turn → Option SessionEnd → H → SinkSeen → Type 0) → Hearing H
    → Result Unit SessionEnd → Hearing H → Type 0
TakesTurnOrEnds hears old (Ok done) new =
    (told : Turn) × HearsOne hears old told None new × IsLimitOf new.waiting None
TakesTurnOrEnds hears old (Err reason) new = EndsBy hears old reason new

-- what was heard is kept, unless a limit is reached
abbrev pub IsKept : Result Unit SessionEnd → Waiting → Result Unit SessionEnd → Type 0
IsKept (Err reason) waiting result = result ≡ Err reason
IsKept (Ok done) waiting result = GoesOnOrEnds waiting result

-- all turns were heard, up to an end
pub record HearsAll {H : Type 0}
    (hears : H → SinkSeen → Turn → Option SessionEnd → H → SinkSeen → Type 0) (old : Hearing H)
    (reason : SessionEnd) (hearer : H) (link : LinkSeen) : Type 0 where
  pub turns : List Turn
  pub last : Hearing H
  pub on : HearsEach hears old turns last
  pub left : Waiting
  pub ends : EndsBy hears last reason (hearing_at left hearer link)
