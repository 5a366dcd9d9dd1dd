-- What a legal history says of its rules and of the work of its credits.
use Rattle.std.proofs.Common.{◌≡◌, ℕ, ◌≤◌, ◌^◌, Bool, true, false, cond, ◌&&◌, nat_le, nat_lt, Option, None, Some, List, [], ◌∷◌, length, refl, sym, ap, ◌∙◌, pow_pos}
use Rattle.std.specs.List.{AllByRecursion, list_all}
use Rattle.std.proofs.lemmas.Bool.{and_parts, leb-true}
use Rattle.pool_history.specs.declared.causes.Cause.TheVariants as cause
use Rattle.pool_history.specs.declared.causes.Cause.{Cause}
use Rattle.pool_history.specs.declared.events.Event.{Event}
use Rattle.pool_history.specs.declared.events.Event.TheVariants as event
use Rattle.pool_history.specs.declared.settings.Rules.{Rules}
use Rattle.pool_history.specs.Accounts.{are_distinct, are_in_range, is_user, is_window}
use Rattle.pool_history.specs.Crediting.{Booked, bookings_of, booked_with, booking, admitted_class, credit_share, found_list}
use Rattle.pool_history.specs.Judging.{Admitted}
use Rattle.pool_history.specs.Legal.{LegalPast}
use Rattle.pool_history.specs.Sessions.{rules_of, script_of}
use Rattle.payout_laws.proofs.Sums.{all-append}

-- a Start that is legal has rules in range
in_range_from : (b : Bool) → cond b None (Some cause.BadStart) ≡ None → b ≡ true
in_range_from true e = refl
in_range_from false e = cc

-- nothing is some rules
no_rules : (rules : Rules) → None ≡ Some rules → ⊥
no_rules rules e = cc

same_rules : (a b : Rules) → Some a ≡ Some b → a ≡ b
same_rules a b e = cc

-- the rules of a legal past are in range
pub rules-in_range : (past : List Event) (rules : Rules) → LegalPast past → rules_of past ≡ Some rules → are_in_range rules ≡ true
rules-in_range [] rules legal is = absurd (no_rules rules is)
rules-in_range (event.Start others ∷ []) rules legal is =
    ap are_in_range (sym (same_rules others rules is)) ∙ in_range_from (are_in_range others) legal.1
rules-in_range (event.Start others ∷ e ∷ older) rules legal is = rules-in_range (e ∷ older) rules legal.0 is
rules-in_range (e ∷ []) rules legal is = absurd (no_rules rules is)
rules-in_range (e ∷ other ∷ older) rules legal is = rules-in_range (other ∷ older) rules legal.0 is

-- a legal past without rules has no events
some_cause : (c : Cause) → Some c ≡ None → ⊥
some_cause c e = cc

some_event : (e : Event) (older : List Event) → e ∷ older ≡ [] → ⊥
some_event e older is = cc

some_rules : (rules : Rules) → Some rules ≡ None → ⊥
some_rules rules e = cc

pub rules-none : (past : List Event) → LegalPast past → rules_of past ≡ None → past ≡ []
rules-none [] legal none = refl
rules-none (event.Start rules ∷ []) legal none = absurd (some_rules rules none)
rules-none (event.Start rules ∷ e ∷ older) legal none = absurd (some_event e older (rules-none (e ∷ older) legal.0 none))
rules-none (e ∷ []) legal none = absurd (some_cause cause.BadStart legal.1)
rules-none (e ∷ other ∷ older) legal none = absurd (some_event other older (rules-none (other ∷ older) legal.0 none))

-- of eleven conditions that all hold, the fourth and the fifth
fee_and_window : (a b c d e f g h i j k : Bool) → (a && b && c && d && e && f && g && h && i && j && k) ≡ true → (d ≡ true) × (e ≡ true)
fee_and_window a b c d e f g h i j k all =
    let p : (a && b && c && d && e && f && g && h && i && j ≡ true) × (k ≡ true) = and_parts (a && b && c && d && e && f && g && h && i && j) k all in
    let q : (a && b && c && d && e && f && g && h && i ≡ true) × (j ≡ true) = and_parts (a && b && c && d && e && f && g && h && i) j p.0 in
    let r : (a && b && c && d && e && f && g && h ≡ true) × (i ≡ true) = and_parts (a && b && c && d && e && f && g && h) i q.0 in
    let s : (a && b && c && d && e && f && g ≡ true) × (h ≡ true) = and_parts (a && b && c && d && e && f && g) h r.0 in
    let t : (a && b && c && d && e && f ≡ true) × (g ≡ true) = and_parts (a && b && c && d && e && f) g s.0 in
    let u : (a && b && c && d && e ≡ true) × (f ≡ true) = and_parts (a && b && c && d && e) f t.0 in
    let v : (a && b && c && d ≡ true) × (e ≡ true) = and_parts (a && b && c && d) e u.0 in
    let w : (a && b && c ≡ true) × (d ≡ true) = and_parts (a && b && c) d v.0 in
    (w.1, v.1)

-- a window has room for some work, where there is one
abbrev pub HasRoom : Option ℕ → Type 0
HasRoom None = Unit {0}
HasRoom (Some window) = 1 ≤ window

window_has_room : (window : Option ℕ) → is_window window ≡ true → HasRoom window
window_has_room None is = tt
window_has_room (Some window) is = leb-true 1 window (and_parts (nat_le 1 window) (nat_lt window (2 ^ 64)) is).0

-- the rules of payouts in range
pub record PaysFrom (rules : Rules) : Type 0 where
  pub fee : rules.fee ≤ 10000
  pub room : HasRoom rules.window

pub pays_from : (rules : Rules) → are_in_range rules ≡ true → PaysFrom rules
pays_from rules is =
    let parts : (nat_le rules.fee 10000 ≡ true) × (is_window rules.window ≡ true) = fee_and_window (nat_le 1 (length rules.pool_script)) (nat_le (length rules.pool_script) 100) (nat_le rules.least_class 60) (nat_le rules.fee 10000)
    (is_window rules.window) (nat_le rules.ntime_window 86400) (nat_le 1 rules.credit_limit) (nat_le rules.credit_limit 16777215)
    (nat_le (length rules.users) 1000) (list_all is_user rules.users) (are_distinct rules.users) is in
    record { fee = leb-true rules.fee 10000 parts.0; room = window_has_room rules.window parts.1 }

-- a credit that is booked has some work
abbrev pub HasWork : Booked → Type 0
HasWork credit = 1 ≤ credit.work

listed_has_work : (f : Admitted → Booked) (found : Option Admitted) → ((with : Admitted) → HasWork (f with)) → AllByRecursion HasWork (found_list f found)
listed_has_work f (Some with) each = (each with, tt)
listed_has_work f None each = tt

pub booked-has_work : (past : List Event) → AllByRecursion HasWork (bookings_of past)
booked-has_work [] = tt
booked-has_work (event.Credit session channel job nonce ntime version extranonce ∷ older) =
    all-append HasWork
    (found_list (λ with. booking (script_of older) (credit_share with channel job nonce ntime version extranonce) with) (booked_with older channel job))
    (bookings_of older)
    (listed_has_work (λ with. booking (script_of older) (credit_share with channel job nonce ntime version extranonce) with)
    (booked_with older channel job) (λ with. pow_pos (admitted_class with)))
    (booked-has_work older)
booked-has_work (e ∷ older) = booked-has_work older
