-- What a legal history's rules say of classes and leads.
use Rattle.std.proofs.Common.{◌≡◌, ℕ, ◌≤◌, ◌-◌, Bool, true, ◌&&◌, Some, List, [], ◌∷◌, length, max, min, refl, subst, sym, ◌∙◌, arith}
use Rattle.std.proofs.lemmas.Bool.{and_from, and_parts, leb-true, le-leb}
use Rattle.std.specs.Prelude.{nat_le}
use Rattle.std.specs.List.{list_all}
use Rattle.pool_history.specs.declared.events.Event.{Event}
use Rattle.pool_history.specs.declared.events.Event.TheVariants as event
use Rattle.pool_history.specs.declared.events.Kind.{Kind}
use Rattle.pool_history.specs.declared.events.Kind.TheVariants as kind
use Rattle.pool_history.specs.declared.settings.Rules.{Rules}
use Rattle.pool_history.specs.declared.causes.Cause.TheVariants as cause
use Rattle.pool_history.specs.Accounts.{are_distinct, are_in_range, is_user, is_window}
use Rattle.pool_history.specs.Legal.{LegalPast, is_class, is_lead_length}
use Rattle.pool_history.specs.Refusing.{class_for, class_of_target, lead_length}
use Rattle.pool_history.specs.Sessions.{rules_of}
use Rattle.history_laws.proofs.Entrances.{none-some, some-same}
use Rattle.history_laws.proofs.Legalities.{held, rules-older}

-- the rules of a legal past are in their ranges
pub legal-rules : (past : List Event) (rules : Rules) → LegalPast past → rules_of past ≡ Some rules → are_in_range rules ≡ true
legal-rules [] rules l is = absurd (none-some is)
legal-rules (event.Start first ∷ []) rules l is = subst (λ r. are_in_range r ≡ true) (some-same is) (held (are_in_range first) cause.BadStart l.1)
legal-rules (e ∷ []) rules l is = absurd (none-some is)
legal-rules (e ∷ x ∷ older) rules l is = legal-rules (x ∷ older) rules l.0 (sym (rules-older e x older) ∙ is)

and-front : (x y : Bool) → x && y ≡ true → x ≡ true
and-front x y h = (and_parts x y h).0

-- the third of eleven
third-of : (a b c d e f g h i j k : Bool) → a && b && c && d && e && f && g && h && i && j && k ≡ true → c ≡ true
third-of a b c d e f g h i j k all =
    (and_parts (a && b) c
    (and-front (a && b && c) d
    (and-front (a && b && c && d) e
    (and-front (a && b && c && d && e) f
    (and-front (a && b && c && d && e && f) g
    (and-front (a && b && c && d && e && f && g) h
    (and-front (a && b && c && d && e && f && g && h) i
    (and-front (a && b && c && d && e && f && g && h && i) j
    (and-front (a && b && c && d && e && f && g && h && i && j) k all))))))))).1

pub least-range : (rules : Rules) → are_in_range rules ≡ true → rules.least_class ≤ 60
least-range rules h = leb-true rules.least_class 60 (
    third-of (nat_le 1 (length rules.pool_script)) (nat_le (length rules.pool_script) 100) (nat_le rules.least_class 60) (nat_le rules.fee 10000)
    (is_window rules.window) (nat_le rules.ntime_window 86400) (nat_le 1 rules.credit_limit) (nat_le rules.credit_limit 16777215)
    (nat_le (length rules.users) 1000) (list_all is_user rules.users) (are_distinct rules.users) h
    )

-- the first two of eleven
first-two-of : (a b c d e f g h i j k : Bool) → a && b && c && d && e && f && g && h && i && j && k ≡ true → (a ≡ true) × (b ≡ true)
first-two-of a b c d e f g h i j k all =
    and_parts a b
    (and-front (a && b) c
    (and-front (a && b && c) d
    (and-front (a && b && c && d) e
    (and-front (a && b && c && d && e) f
    (and-front (a && b && c && d && e && f) g
    (and-front (a && b && c && d && e && f && g) h
    (and-front (a && b && c && d && e && f && g && h) i
    (and-front (a && b && c && d && e && f && g && h && i) j
    (and-front (a && b && c && d && e && f && g && h && i && j) k all)))))))))

pub script-range : (rules : Rules) → are_in_range rules ≡ true → (1 ≤ length rules.pool_script) × (length rules.pool_script ≤ 100)
script-range rules h =
    let both : (nat_le 1 (length rules.pool_script) ≡ true) × (nat_le (length rules.pool_script) 100 ≡ true) =
    first-two-of (nat_le 1 (length rules.pool_script)) (nat_le (length rules.pool_script) 100) (nat_le rules.least_class 60) (nat_le rules.fee 10000)
    (is_window rules.window) (nat_le rules.ntime_window 86400) (nat_le 1 rules.credit_limit) (nat_le rules.credit_limit 16777215)
    (nat_le (length rules.users) 1000) (list_all is_user rules.users) (are_distinct rules.users) h in
    (leb-true 1 (length rules.pool_script) both.0, leb-true (length rules.pool_script) 100 both.1)

-- the class of a target that isn't over 60 is one that a channel may have
pub class-fits : (rules : Rules) (target : List ℕ) → rules.least_class ≤ 60 → class_of_target target ≤ 60 → is_class rules (class_for rules target) ≡ true
class-fits rules target least few = fits rules.least_class (class_of_target target) least few where
  fits : (least class : ℕ) → least ≤ 60 → class ≤ 60 → nat_le least (max class least) && nat_le (max class least) 60 ≡ true
  fits least class h k = and_from (nat_le least (max class least)) (nat_le (max class least) 60)
      (le-leb least (max class least) (omega arith)) (le-leb (max class least) 60 (omega arith))

-- the length of an opening's lead is one of its kind
pub lead-fits : (k : Kind) (size : ℕ) → size ≤ 11 → is_lead_length k (lead_length k size) ≡ true
lead-fits kind.Standard size h = refl
lead-fits kind.Extended size h = and_from (nat_le 1 (min 4 (12 - size))) (nat_le (min 4 (12 - size)) 4)
    (le-leb 1 (min 4 (12 - size)) (omega arith)) (le-leb (min 4 (12 - size)) 4 (omega arith))
lead-fits kind.V1 size h = and_from (nat_le 1 (min 4 (12 - size))) (nat_le (min 4 (12 - size)) 4)
    (le-leb 1 (min 4 (12 - size)) (omega arith)) (le-leb (min 4 (12 - size)) 4 (omega arith))
