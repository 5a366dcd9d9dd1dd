-- Where the events stand that may be news (this project's own). That no other event owes a session
-- anything is proved.
use Rattle.std.specs.Prelude.{ℕ, suc, ◌≤◌, ◌==◌, ◌&&◌, Bool, true, false, if◌then◌else◌, Option, None, Some, List, [], ◌∷◌, ◌++◌, filter, length, map, min, nat_le, slice_get}
use Rattle.pool_history.specs.declared.events.Event.{Event}
use Rattle.pool_history.specs.declared.events.Event.TheVariants as event
use Rattle.event_store.specs.declared.marks.OpeningMark.{OpeningMark}
use Rattle.event_store.specs.Blocks.{is_block_event}

-- an event that may be news to any session: a template, a tip, or a credit that is a block
abbrev pub is_common : Bool → Event → Bool
is_common is_block (event.Template session template) = true
is_common is_block (event.Tip session tip) = true
is_common is_block (event.Credit session channel job nonce ntime version extranonce) = is_block
is_common is_block event = false

-- its place
abbrev pub common_place : Bool → Event → ℕ → List ℕ
common_place is_block event at = if is_common is_block event then at ∷ [] else []

-- the places of those of a history, in their order
abbrev pub common_places : List Event → List ℕ
common_places [] = []
common_places (event ∷ older) =
    common_places older ++ common_place (is_block_event older event) event (length older)

-- places from one on
abbrev pub since : ℕ → List ℕ → List ℕ
since from places = filter (nat_le from) places

-- an opening is a session's, and stands at a place or behind it
abbrev pub is_own_since : ℕ → ℕ → OpeningMark → Bool
is_own_since session from mark = mark.session == session && nat_le from mark.at

-- the places of a session's openings from one on
abbrev pub openings_since : List OpeningMark → ℕ → ℕ → List ℕ
openings_since openings session from =
    map (λ mark. mark.at) (filter (is_own_since session from) openings)

-- a mark stands at a place or behind it
abbrev pub stands_since : ℕ → Option OpeningMark → Bool
stands_since from None = false
stands_since from (Some mark) = nat_le from mark.at

-- the place of an opening's mark, where the opening does
abbrev pub if_since : ℕ → List OpeningMark → Option ℕ → Option ℕ
if_since from openings None = None
if_since from openings (Some at) =
    if stands_since from (slice_get openings at) then Some at else None

-- each place is higher than those before it, and none is lower than a least one
abbrev pub AreRisingFrom : ℕ → List ℕ → Type 0
AreRisingFrom least [] = Unit {0}
AreRisingFrom least (at ∷ places) = (least ≤ at) × AreRisingFrom (suc at) places

-- so are those of the openings
abbrev pub OpeningsRise : List OpeningMark → Type 0
OpeningsRise openings = AreRisingFrom 0 (map (λ mark. mark.at) openings)

-- the lower of two places, where there are both
abbrev pub earlier : Option ℕ → Option ℕ → Option ℕ
earlier None other = other
earlier (Some at) None = Some at
earlier (Some at) (Some other) = Some (min at other)

-- places without the first, where it is this one
abbrev pub behind : ℕ → List ℕ → List ℕ
behind at [] = []
behind at (place ∷ places) = if place == at then places else place ∷ places
