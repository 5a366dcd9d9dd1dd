-- A present session was entered by its worker.
use Rattle.std.proofs.Common.{◌≡◌, ℕ, ◌+◌, ◌<◌, Bool, true, false, cond, Option, None, Some, List, [], ◌∷◌, refl, ap, subst, ◌∙◌, arith}
use Rattle.std.proofs.Math.Dec.{eqb}
use Rattle.std.proofs.lemmas.Bool.{cond_both, eqb-true, eq-eqb, ne_eqb}
use Rattle.pool_history.specs.declared.causes.Cause.{Cause}
use Rattle.pool_history.specs.declared.causes.Cause.TheVariants as cause
use Rattle.pool_history.specs.declared.events.Event.{Event}
use Rattle.pool_history.specs.declared.events.Event.TheVariants as event
use Rattle.pool_history.specs.declared.events.Role.{Role}
use Rattle.pool_history.specs.Conditions.{or_code}
use Rattle.pool_history.specs.Legal.{entered_with, within}
use Rattle.pool_history.specs.Sessions.{Entrance, enters, entrance, is_present, is_present_as, present, unless_left, is_number}

pub some-same : {X : Type 0} {x y : X} → ◌≡◌ {A = Option X} (Some x) (Some y) → x ≡ y
some-same e = cc

pub none-some : {X : Type 0} {x : X} → ◌≡◌ {A = Option X} None (Some x) → ⊥
none-some e = cc

-- a session that was entered has a number below the count
pub entrance-below : (past : List Event) (session : ℕ) (e : Entrance) → entrance past session ≡ Some e → session < enters past
entrance-below [] session e is = absurd (none-some is)
entrance-below (event.Enter worker role flags ∷ older) session e is =
    cond_both (eqb (enters older) session) (Some (record { worker = worker; role = role; flags = flags })) (entrance older session)
    (λ found. found ≡ Some e → session < enters older + 1)
    (λ same found. omega (arith, eqb-true (enters older) session same))
    (λ other found. omega (arith, entrance-below older session e found)) is
entrance-below (e ∷ older) session entered is = entrance-below older session entered is

-- the Enter of a worker's present session is the worker's
pub record IsEnteredBy (past : List Event) (worker session : ℕ) : Type 0 where
  pub entrance_is : Entrance
  pub entered : entrance past session ≡ Some entrance_is
  pub by : entrance_is.worker ≡ worker

-- an Enter more
pub entered-now : (older : List Event) (worker : ℕ) (role : Role) (flags : ℕ) (session : ℕ) → enters older ≡ session
    → IsEnteredBy (event.Enter worker role flags ∷ older) worker session
entered-now older worker role flags session same = record {
  entrance_is = record { worker = worker; role = role; flags = flags };
  entered = ap (λ b. cond b (Some (record { worker = worker; role = role; flags = flags })) (entrance older session)) (eq-eqb (enters older) session same);
  by = refl;
}

pub entered-before : (older : List Event) (entering : ℕ) (role : Role) (flags worker session : ℕ) → IsEnteredBy older worker session
    → IsEnteredBy (event.Enter entering role flags ∷ older) worker session
entered-before older entering role flags worker session e =
    let below : session < enters older = entrance-below older session e.entrance_is e.entered in
    let later : eqb (enters older) session ≡ false = ne_eqb (enters older) session (λ same. omega (arith, same, below)) in
    record {
      entrance_is = e.entrance_is;
      entered = ap (λ b. cond b (Some (record { worker = entering; role = role; flags = flags })) (entrance older session)) later ∙ e.entered;
      by = e.by;
    }

-- what is left of a session that is still there
pub still_there : (left : ℕ) (before : Option ℕ) (session : ℕ) → unless_left left before ≡ Some session → before ≡ Some session
still_there left None session is = absurd (none-some is)
still_there left (Some other) session is =
    cond_both (eqb other left) None (Some other) (λ o. o ≡ Some session → Some other ≡ Some session)
    (λ same gone. absurd (none-some gone)) (λ stays found. found) is

pub present-entered : (past : List Event) (worker session : ℕ) → present past worker ≡ Some session → IsEnteredBy past worker session
present-entered [] worker session is = absurd (none-some is)
present-entered (event.Enter entering role flags ∷ older) worker session is =
    cond_both (eqb entering worker) (Some (enters older)) (present older worker)
    (λ found. found ≡ Some session → IsEnteredBy (event.Enter entering role flags ∷ older) worker session)
    (λ same found.
    subst (λ w. IsEnteredBy (event.Enter entering role flags ∷ older) w session) (eqb-true entering worker same)
    (entered-now older entering role flags session (some-same found)))
    (λ other found. entered-before older entering role flags worker session (present-entered older worker session found)) is
present-entered (event.Leave left ∷ older) worker session is =
    let e : IsEnteredBy older worker session = present-entered older worker session (still_there left (present older worker) session is) in
    record { entrance_is = e.entrance_is; entered = e.entered; by = e.by }
present-entered (e ∷ older) worker session is =
    let b : IsEnteredBy older worker session = present-entered older worker session is in
    record { entrance_is = b.entrance_is; entered = b.entered; by = b.by }

-- so the session is present
pub present-is : (past : List Event) (worker session : ℕ) → present past worker ≡ Some session → is_present past session ≡ true
present-is past worker session is =
    let e : IsEnteredBy past worker session = present-entered past worker session is in
    ap (is_present_as past session) e.entered
    ∙ ap (is_number session) (ap (present past) e.by ∙ is)
    ∙ eq-eqb session session refl

-- a permitted event of it has the cause that comes next
pub within-holds : (may : Entrance → Bool) (past : List Event) (worker session : ℕ) (as' : Entrance) (next : Option Cause)
    → present past worker ≡ Some session → entrance past session ≡ Some as' → may as' ≡ true → within may past session next ≡ next
within-holds may past worker session as' next there entered permitted =
    ap (λ b. or_code b cause.NoSession (or_code (entered_with may (entrance past session)) cause.BadRole next)) (present-is past worker session there)
    ∙ ap (λ o. or_code (entered_with may o) cause.BadRole next) entered
    ∙ ap (λ b. or_code b cause.BadRole next) permitted
