-- The first event of a legal history is the Start of its rules.
use Rattle.std.proofs.Common.{◌⊎◌, inl, inr, ◌≡◌, ◌≤◌, Some, List, [], length, ap, ◌∙◌, arith}
use Rattle.std.specs.Prelude.{slice_index_or}
use Rattle.pool_history.specs.declared.events.Event.{Event}
use Rattle.pool_history.specs.declared.events.Event.TheVariants as event
use Rattle.pool_history.specs.declared.settings.Rules.{Rules}
use Rattle.pool_history.specs.Legal.{Legal}
use Rattle.pool_history.specs.Sessions.{past_of, rules_of}
use Rattle.history_laws.specs.Legality.{Starts}
use Rattle.history_laws.proofs.Legalities.{legal_starts}

-- an event is the Start of these rules, which are those of the history
pub record IsStart (events : List Event) (e : Event) : Type 0 where
  pub rules : Rules
  pub start : e ≡ event.Start rules
  pub are_rules : rules_of (past_of events) ≡ Some rules

-- so is what stands first
pub first-start : (events : List Event) (e : Event) → Legal events → 1 ≤ length events → e ≡ slice_index_or events 0 e → IsStart events e
first-start events e legal some is = by_start (legal_starts events legal) where
  by_start : (events ≡ []) ⊎ Starts events → IsStart events e
  by_start (inl none) = absurd (let len : length events ≡ 0 = ap length none in omega (arith, len, some))
  by_start (inr s) = record {
    rules = s.rules;
    start = is ∙ ap (λ (h : List Event). slice_index_or h 0 e) s.first;
    are_rules = s.are_rules;
  }
