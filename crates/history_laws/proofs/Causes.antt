-- What an event without a cause says.
use Rattle.std.proofs.Common.{◌≡◌, ℕ, Bool, true, false, Option, None, Some, List, [], ◌∷◌, refl, sym, ◌∙◌}
use Rattle.std.proofs.lemmas.Bool.{false≢true}
use Rattle.pool_history.specs.declared.causes.Cause.{Cause}
use Rattle.pool_history.specs.declared.causes.Cause.TheVariants as cause
use Rattle.pool_history.specs.declared.events.Event.{Event}
use Rattle.pool_history.specs.declared.events.Event.TheVariants as event
use Rattle.pool_history.specs.declared.events.Kind.{Kind}
use Rattle.pool_history.specs.declared.settings.Rules.{Rules}
use Rattle.pool_history.specs.Conditions.{or_code}
use Rattle.pool_history.specs.Legal.{cause_by, cause_in, cause_of, entered_with, is_class, is_next_lead, is_opening_account, may_mine, within}
use Rattle.pool_history.specs.Refusing.{has_too_many}
use Rattle.pool_history.specs.Sessions.{Entrance, entrance, is_present, rules_of}
use Rattle.std.specs.Prelude.{not}
use Rattle.history_laws.proofs.Legalities.{some-none}

-- a Start
abbrev pub is_start : Event → Bool
is_start (event.Start rules) = true
is_start e = false

-- any other event has the cause that the rules say
pub cause-in : (past : List Event) (e : Event) → is_start e ≡ false → cause_of past e ≡ cause_in (rules_of past) past e
cause-in [] (event.Start rules) s = absurd (false≢true (sym s))
cause-in [] e s = refl
cause-in (p ∷ past) e s = refl

-- an event that has no cause by the rules there are
pub record IsUncaused (past : List Event) (e : Event) : Type 0 where
  pub rules : Rules
  pub are_rules : rules_of past ≡ Some rules
  pub none : cause_by rules past e ≡ None

pub by_rules : (past : List Event) (e : Event) (o : Option Rules) → rules_of past ≡ o → cause_in o past e ≡ None → IsUncaused past e
by_rules past e None are n = absurd (some-none n)
by_rules past e (Some rules) are n = record { rules = rules; are_rules = are; none = n }

pub uncaused : (past : List Event) (e : Event) → is_start e ≡ false → cause_of past e ≡ None → IsUncaused past e
uncaused past e s n = by_rules past e (rules_of past) refl (sym (cause-in past e s) ∙ n)

-- each condition holds
pub provided-both : {C : Type 0} (b : Bool) (code : C) (next : Option C) → or_code b code next ≡ None → (b ≡ true) × (next ≡ None)
provided-both true code next n = (refl, n)
provided-both false code next n = absurd (some-none n)

pub within-next : (may : Entrance → Bool) (past : List Event) (session : ℕ) (next : Option Cause) → within may past session next ≡ None → next ≡ None
within-next may past session next n =
    (provided-both (entered_with may (entrance past session)) cause.BadRole next
    (provided-both (is_present past session) cause.NoSession (or_code (entered_with may (entrance past session)) cause.BadRole next) n).1).1

-- those of an Open
pub record IsOpening (rules : Rules) (past : List Event) (session : ℕ) (kind : Kind) (account : List ℕ) (class : ℕ) (lead : List ℕ) : Type 0 where
  pub account_said : is_opening_account rules kind account ≡ true
  pub in_range : is_class rules class ≡ true
  pub few : not (has_too_many past session) ≡ true
  pub next : is_next_lead past kind lead ≡ true

pub opening_of : (rules : Rules) (past : List Event) (session : ℕ) (kind : Kind) (account : List ℕ) (class : ℕ) (lead : List ℕ)
    → cause_by rules past (event.Open session kind account class lead) ≡ None → IsOpening rules past session kind account class lead
opening_of rules past session kind account class lead n =
    let last : Option Cause = or_code (is_next_lead past kind lead) cause.BadLead None in
    let third : Option Cause = or_code (not (has_too_many past session)) cause.TooManyChannels last in
    let second : Option Cause = or_code (is_class rules class) cause.BadClass third in
    let first : Option Cause = or_code (is_opening_account rules kind account) cause.UnknownUser second in
    let a : (is_opening_account rules kind account ≡ true) × (second ≡ None) =
    provided-both (is_opening_account rules kind account) cause.UnknownUser second (within-next may_mine past session first n) in
    let b : (is_class rules class ≡ true) × (third ≡ None) = provided-both (is_class rules class) cause.BadClass third a.1 in
    let c : (not (has_too_many past session) ≡ true) × (last ≡ None) = provided-both (not (has_too_many past session)) cause.TooManyChannels last b.1 in
    let d : (is_next_lead past kind lead ≡ true) × (◌≡◌ {A = Option Cause} None None) = provided-both (is_next_lead past kind lead) cause.BadLead None c.1 in
    record { account_said = a.0; in_range = b.0; few = c.0; next = d.0 }

-- in a legal past
pub legal_opening : (past : List Event) (session : ℕ) (kind : Kind) (account : List ℕ) (class : ℕ) (lead : List ℕ)
    → cause_of past (event.Open session kind account class lead) ≡ None → (rules : Rules) × IsOpening rules past session kind account class lead
legal_opening past session kind account class lead n =
    let u : IsUncaused past (event.Open session kind account class lead) = uncaused past (event.Open session kind account class lead) refl n in
    (u.rules, opening_of u.rules past session kind account class lead u.none)
