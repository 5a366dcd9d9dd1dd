-- Where calls stand (this project's own).
use Rattle.std.specs.Prelude.{◌≡◌, ℕ, ◌<◌, List, [], ◌∷◌, ◌++◌, length, take}
use Rattle.std.specs.List.{AllByRecursion, flat_map}
use Rattle.pool_base.specs.Calls.{Call, Parted, PartsFrom, RiseFrom}

-- the events before the later call begin with those before the earlier one and those that it added
pub record StandsBehind {E Q R F : Type 0} (events : List E)
    (earlier later : Call E Q R F) : Type 0 where
  pub between : List E
  pub behind : take later.front events ≡ take earlier.front events ++ earlier.added ++ between

-- of two calls that part the events, the one with the greater number stands behind the other
abbrev pub LaterCallsStandBehind : (E Q R F : Type 0) → Type 0
LaterCallsStandBehind E Q R F =
    (start events : List E) (least most : ℕ) (calls : List (Call E Q R F))
    → Parted start events least most calls
    → AllByRecursion (λ earlier.
    AllByRecursion
    (λ later. earlier.number < later.number → StandsBehind events earlier later) calls) calls

-- the events are those of the start and what the calls added, in the order of their numbers
pub record AreAll {E Q R F : Type 0} (start events : List E)
    (ordered : List (Call E Q R F)) : Type 0 where
  pub whole : events ≡ start ++ flat_map (λ call. call.added) ordered
  pub fronts : (earlier later : List (Call E Q R F)) (call : Call E Q R F)
      → ordered ≡ earlier ++ call ∷ later
      → take call.front events ≡ start ++ flat_map (λ call. call.added) earlier
  pub numbers : (earlier later : List (Call E Q R F)) (call : Call E Q R F)
      → ordered ≡ earlier ++ call ∷ later → call.number ≡ length earlier

-- so it is with the calls that part them, and the events before a call are what the calls before it
-- left
abbrev pub CallsAreAll : (E Q R F : Type 0) → Type 0
CallsAreAll E Q R F =
    (start events : List E) (least most : ℕ) (calls : List (Call E Q R F))
    → (parted : Parted start events least most calls) → AreAll start events parted.ordered

-- each call stands behind those that come before it in the list
abbrev pub StandInOrder : {E Q R F : Type 0} → List E → List (Call E Q R F) → Type 0
StandInOrder events [] = Unit {0}
StandInOrder events (call ∷ later) =
    AllByRecursion (StandsBehind events call) later × StandInOrder events later

-- so the calls of one caller do, whatever the others called: what it asks for is answered behind
-- all that it was answered before
abbrev pub CallersGoOn : (E Q R F : Type 0) → Type 0
CallersGoOn E Q R F =
    (start events : List E) (least most known now : ℕ) (own others : List (Call E Q R F))
    → Parted start events least most (own ++ others) → RiseFrom known own now
    → StandInOrder events own
