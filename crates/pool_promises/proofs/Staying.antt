-- One event more, and a session that it doesn't end.
use Rattle.std.proofs.Common.{◌≡◌, ℕ, ◌<◌, false, cond, Option, None, Some, List, [], ◌∷◌, ◌++◌, ap, ◌∙◌, arith, append-nil}
use Rattle.std.proofs.lemmas.Bool.{ne_eqb}
use Rattle.std.specs.Option.{option_to_list}
use Rattle.pool_history.specs.declared.events.Event.{Event}
use Rattle.pool_history.specs.declared.events.Event.TheVariants as event
use Rattle.pool_history.specs.declared.settings.Rules.{Rules}
use Rattle.pool_history.specs.Sessions.{Entrance, enters, entrance, past_of, present, rules_of, unless_left}
use Rattle.history_laws.specs.OneMore.{entrance_after, present_after}
use Rattle.history_laws.specs.Places.{ends_session}
use Rattle.history_laws.proofs.Entrances.{entrance-below, none-some}
use Rattle.history_laws.proofs.Legalities.{past-one}
use Rattle.history_laws.proofs.Stepping.{entrance-cons, present-cons}

-- under these rules, a session is present that was entered so
pub record IsInside (rules : Rules) (entered : Entrance) (session : ℕ) (past : List Event) : Type 0 where
  pub are_rules : rules_of past ≡ Some rules
  pub there : present past entered.worker ≡ Some session
  pub is_entered : entrance past session ≡ Some entered

-- ---- one event

pub rules_stay : (e : Event) (past : List Event) (rules : Rules) → rules_of past ≡ Some rules → rules_of (e ∷ past) ≡ Some rules
rules_stay (event.Start other) [] rules are = absurd (none-some are)
rules_stay (event.Start other) (x ∷ older) rules are = are
rules_stay e [] rules are = absurd (none-some are)
rules_stay e (x ∷ older) rules are = are

present_stays : (e : Event) (count worker session : ℕ) (seen : Option ℕ) → ends_session worker session e ≡ false → seen ≡ Some session
    → present_after e count worker seen ≡ Some session
present_stays (event.Enter entering role flags) count worker session seen ends is = ap (λ b. cond b (Some count) seen) ends ∙ is
present_stays (event.Leave left) count worker session seen ends is =
    ap (unless_left left) is ∙ ap (λ b. cond b None (Some session)) ends
present_stays e count worker session seen ends is = is

entrance_stays : (e : Event) (count session : ℕ) (seen : Option Entrance) (entered : Entrance) → session < count → seen ≡ Some entered
    → entrance_after e count session seen ≡ Some entered
entrance_stays (event.Enter worker role flags) count session seen entered below is =
    ap (λ b. cond b (Some (record { worker = worker; role = role; flags = flags })) seen) (ne_eqb count session (λ same. omega (arith, same, below))) ∙ is
entrance_stays e count session seen entered below is = is

module _ {rules : Rules} {entered : Entrance} {session : ℕ} where
  pub stays_inside : (e : Event) (past : List Event) → ends_session entered.worker session e ≡ false → IsInside rules entered session past
      → IsInside rules entered session (e ∷ past)
  stays_inside e past ends inside = record {
    are_rules = rules_stay e past rules inside.are_rules;
    there = present-cons e past entered.worker
        ∙ present_stays e (enters past) entered.worker session (present past entered.worker) ends inside.there;
    is_entered = entrance-cons e past session
        ∙ entrance_stays e (enters past) session (entrance past session) entered (entrance-below past session entered inside.is_entered) inside.is_entered;
  }

-- ---- one event at most

abbrev pub EndsNone : ℕ → ℕ → Option Event → Type 0
EndsNone worker session None = Unit {0}
EndsNone worker session (Some e) = ends_session worker session e ≡ false

module _ {rules : Rules} {entered : Entrance} {session : ℕ} where
  pub stays_behind : (history : List Event) (made : Option Event) → EndsNone entered.worker session made → IsInside rules entered session (past_of history)
      → IsInside rules entered session (past_of (history ++ option_to_list made))
  stays_behind history None ends inside = rw (append-nil history) inside
  stays_behind history (Some e) ends inside = rw (past-one history e) (stays_inside e (past_of history) ends inside)
