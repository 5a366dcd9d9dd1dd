-- Laws of legal histories (this project's own).
use Rattle.std.specs.Prelude.{IsTrue, ◌≡◌, ◌↔◌, ◌⊎◌, None, Some, List, [], ◌∷◌, ◌++◌, length}
use Rattle.pool_history.specs.declared.causes.Cause.{Cause}
use Rattle.pool_history.specs.declared.events.Event.{Event}
use Rattle.pool_history.specs.declared.events.Event.TheVariants as event
use Rattle.pool_history.specs.declared.settings.Rules.{Rules}
use Rattle.pool_history.specs.Accounts.{are_in_range}
use Rattle.pool_history.specs.Legal.{Legal, cause_of}
use Rattle.pool_history.specs.Sessions.{past_of, rules_of}

-- the history of no event is legal
abbrev pub EmptyIsLegal : Type 0
EmptyIsLegal = Legal []

-- a Start whose rules are in their ranges begins a legal history
abbrev pub StartIsLegal : Type 0
StartIsLegal = (rules : Rules) → IsTrue (are_in_range rules) → Legal (event.Start rules ∷ [])

-- each front of a legal history is legal
abbrev pub PrefixesAreLegal : Type 0
PrefixesAreLegal = (front back : List Event) → Legal (front ++ back) → Legal front

-- a history with one event more is legal where it was, and the event has no cause
abbrev pub OneMoreIsLegal : Type 0
OneMoreIsLegal =
    (history : List Event) (event : Event)
    → Legal (history ++ event ∷ []) ↔ (Legal history × (cause_of (past_of history) event ≡ None))

-- each event of a history, wherever it stands, has no cause after the events before it
abbrev pub NoneHasCause : List Event → Type 0
NoneHasCause history =
    (before : List Event) (event : Event) (after : List Event) → history ≡ before ++ event ∷ after
    → cause_of (past_of before) event ≡ None

-- that is what legality says
abbrev pub LegalityByPlaces : Type 0
LegalityByPlaces = (history : List Event) → Legal history ↔ NoneHasCause history

-- the first event of a history that isn't legal after those before it, with its cause
pub record FirstIllegal (history : List Event) : Type 0 where
  pub before : List Event
  pub event : Event
  pub after : List Event
  pub cause : Cause
  pub parts : history ≡ before ++ event ∷ after
  pub legal : Legal before
  pub caused : cause_of (past_of before) event ≡ Some cause

-- a history is legal, or it has a first event that isn't
abbrev pub LegalityIsDecided : Type 0
LegalityIsDecided = (history : List Event) → Legal history ⊎ FirstIllegal history

-- and not both: there is one place and one cause at most, and none where the history is legal
pub record IsOnlyFirst (history : List Event) (first : FirstIllegal history) : Type 0 where
  pub illegal : Legal history → ⊥
  pub place : (other : FirstIllegal history) → length other.before ≡ length first.before
  pub cause : (other : FirstIllegal history) → other.cause ≡ first.cause

-- so the first illegal event and its cause are determined
abbrev pub FirstIllegalIsOne : Type 0
FirstIllegalIsOne =
    (history : List Event) (first : FirstIllegal history) → IsOnlyFirst history first

-- a legal history begins with a Start, whose rules are its rules and in their ranges
pub record Starts (history : List Event) : Type 0 where
  pub rules : Rules
  pub more : List Event
  pub first : history ≡ event.Start rules ∷ more
  pub are_rules : rules_of (past_of history) ≡ Some rules
  pub in_range : IsTrue (are_in_range rules)

-- a legal history is empty or begins so
abbrev pub LegalHistoriesStart : Type 0
LegalHistoriesStart = (history : List Event) → Legal history → (history ≡ []) ⊎ Starts history
