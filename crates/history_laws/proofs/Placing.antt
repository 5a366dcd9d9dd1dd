-- Sessions by places.
use Rattle.std.proofs.Common.{◌≡◌, ℕ, ◌<◌, true, false, cond, Option, None, Some, List, [], ◌∷◌, ◌++◌, reverse, refl, ap, subst, sym, ◌∙◌, arith, append_assoc}
use Rattle.std.proofs.Math.Dec.{eqb}
use Rattle.std.proofs.lemmas.Bool.{cond_both, eq-eqb, eqb-true, false≢true, ne_eqb}
use Rattle.std.proofs.lemmas.List.{reverse-append, reverse-reverse}
use Rattle.std.specs.List.{AllByRecursion}
use Rattle.pool_history.specs.declared.events.Event.{Event}
use Rattle.pool_history.specs.declared.events.Event.TheVariants as event
use Rattle.pool_history.specs.declared.events.Role.{Role}
use Rattle.pool_history.specs.Sessions.{Entrance, entrance, enters, is_number, is_present_as, past_of, present, unless_left}
use Rattle.pool_history.proofs.PlacesOfClasses.{all-end}
use Rattle.history_laws.specs.Places.{EntrancesByPlaces, HasEntered, PresentByPlaces, PresentIsSomeWorkers, StandsEntered, ends_session}
use Rattle.history_laws.proofs.Entrances.{entrance-below, none-some, present-is, some-same, still_there}
use Rattle.history_laws.proofs.Legalities.{past-append, past-cons}

-- a later event
pub entered-later : (past : List Event) (e : Event) (worker : ℕ) (role : Role) (flags session : ℕ) → HasEntered (reverse past) worker role flags session
    → HasEntered (reverse (e ∷ past)) worker role flags session
entered-later past e worker role flags session h = record {
  before = h.before;
  after = h.after ++ e ∷ [];
  parts = past-cons e past ∙ ap (λ l. l ++ e ∷ []) h.parts ∙ append_assoc h.before (event.Enter worker role flags ∷ h.after) (e ∷ []);
  number = h.number;
}

pub entered-at : (past : List Event) (session : ℕ) (entered : Entrance) → entrance past session ≡ Some entered
    → HasEntered (reverse past) entered.worker entered.role entered.flags session
entered-at [] session entered is = absurd (none-some is)
entered-at (event.Enter worker role flags ∷ older) session entered is =
    let now : Entrance = record { worker = worker; role = role; flags = flags } in
    cond_both (eqb (enters older) session) (Some now) (entrance older session)
    (λ found. found ≡ Some entered → HasEntered (reverse (event.Enter worker role flags ∷ older)) entered.worker entered.role entered.flags session)
    (λ same found. subst (λ e. HasEntered (reverse (event.Enter worker role flags ∷ older)) e.worker e.role e.flags session) (some-same found) (record {
      before = reverse older;
      after = [];
      parts = past-cons (event.Enter worker role flags) older;
      number = ap enters (reverse-reverse older) ∙ eqb-true (enters older) session same;
    }))
    (λ other found. entered-later older (event.Enter worker role flags) entered.worker entered.role entered.flags session (entered-at older session entered found)) is
entered-at (e ∷ older) session entered is = entered-later older e entered.worker entered.role entered.flags session (entered-at older session entered is)

-- and back: a later event leaves an entrance
pub entrance-stays : (e : Event) (past : List Event) (session : ℕ) (entered : Entrance) → entrance past session ≡ Some entered → entrance (e ∷ past) session ≡ Some entered
entrance-stays (event.Enter worker role flags) past session entered is =
    let below : session < enters past = entrance-below past session entered is in
    let later : eqb (enters past) session ≡ false = ne_eqb (enters past) session (λ same. omega (arith, same, below)) in
    ap (λ b. cond b (Some (record { worker = worker; role = role; flags = flags })) (entrance past session)) later ∙ is
entrance-stays e past session entered is = is

pub entrance-later : (later past : List Event) (session : ℕ) (entered : Entrance) → entrance past session ≡ Some entered → entrance (later ++ past) session ≡ Some entered
entrance-later [] past session entered is = is
entrance-later (e ∷ later) past session entered is = entrance-stays e (later ++ past) session entered (entrance-later later past session entered is)

pub past-middle : (before : List Event) (e : Event) (after : List Event) → past_of (before ++ e ∷ after) ≡ past_of after ++ e ∷ past_of before
past-middle before e after =
    past-append before (e ∷ after) ∙ ap (λ p. p ++ past_of before) (past-cons e after) ∙ append_assoc (past_of after) (e ∷ []) (past_of before)

pub entrances-placed : EntrancesByPlaces
entrances-placed h session entered = (
  λ is. subst (λ l. HasEntered l entered.worker entered.role entered.flags session) (reverse-reverse h) (entered-at (past_of h) session entered is),
  λ e.
      let now : Event = event.Enter entered.worker entered.role entered.flags in
      ap (λ p. entrance p session) (ap past_of e.parts ∙ past-middle e.before now e.after)
      ∙ entrance-later (past_of e.after) (now ∷ past_of e.before) session entered
      (ap (λ b. cond b (Some entered) (entrance (past_of e.before) session)) (eq-eqb (enters (past_of e.before)) session e.number)),
)

-- a present session stands
pub stands-later : (past : List Event) (e : Event) (worker session : ℕ) → ends_session worker session e ≡ false → StandsEntered (reverse past) worker session
    → StandsEntered (reverse (e ∷ past)) worker session
stands-later past e worker session stays s = record {
  before = s.before;
  role = s.role;
  flags = s.flags;
  after = s.after ++ e ∷ [];
  parts = past-cons e past ∙ ap (λ l. l ++ e ∷ []) s.parts ∙ append_assoc s.before (event.Enter worker s.role s.flags ∷ s.after) (e ∷ []);
  number = s.number;
  stays = all-end (λ x. ends_session worker session x ≡ false) s.after e s.stays stays;
}

pub left-other : (left : ℕ) (o : Option ℕ) (session : ℕ) → unless_left left o ≡ Some session → eqb session left ≡ false
left-other left None session is = absurd (none-some is)
left-other left (Some other) session is =
    cond_both (eqb other left) None (Some other) (λ o. o ≡ Some session → eqb session left ≡ false)
    (λ same gone. absurd (none-some gone)) (λ stays found. subst (λ n. eqb n left ≡ false) (some-same found) stays) is

pub stands-at : (past : List Event) (worker session : ℕ) → present past worker ≡ Some session → StandsEntered (reverse past) worker session
stands-at [] worker session is = absurd (none-some is)
stands-at (event.Enter entering role flags ∷ older) worker session is =
    cond_both (eqb entering worker) (Some (enters older)) (present older worker)
    (λ found. found ≡ Some session → StandsEntered (reverse (event.Enter entering role flags ∷ older)) worker session)
    (λ same found. record {
      before = reverse older;
      role = role;
      flags = flags;
      after = [];
      parts = past-cons (event.Enter entering role flags) older ∙ ap (λ w. reverse older ++ event.Enter w role flags ∷ []) (eqb-true entering worker same);
      number = ap enters (reverse-reverse older) ∙ some-same found;
      stays = tt;
    })
    (λ other found. stands-later older (event.Enter entering role flags) worker session other (stands-at older worker session found)) is
stands-at (event.Leave left ∷ older) worker session is =
    stands-later older (event.Leave left) worker session (left-other left (present older worker) session is)
    (stands-at older worker session (still_there left (present older worker) session is))
stands-at (e ∷ older) worker session is = stands-later older e worker session refl (stands-at older worker session is)

-- and back: an event that doesn't end a session leaves it present
pub present-stays : (e : Event) (past : List Event) (worker session : ℕ) → ends_session worker session e ≡ false → present past worker ≡ Some session
    → present (e ∷ past) worker ≡ Some session
present-stays (event.Enter entering role flags) past worker session stays is =
    ap (λ b. cond b (Some (enters past)) (present past worker)) stays ∙ is
present-stays (event.Leave left) past worker session stays is =
    ap (unless_left left) is ∙ ap (λ b. cond b None (Some session)) stays
present-stays e past worker session stays is = is

pub present-later : (later past : List Event) (worker session : ℕ) → AllByRecursion (λ e. ends_session worker session e ≡ false) later
    → present past worker ≡ Some session → present (later ++ past) worker ≡ Some session
present-later [] past worker session stays is = is
present-later (e ∷ later) past worker session stays is =
    present-stays e (later ++ past) worker session stays.0 (present-later later past worker session stays.1 is)

pub all-reverse : {X : Type 0} (P : X → Type 0) (xs : List X) → AllByRecursion P xs → AllByRecursion P (reverse xs)
all-reverse P [] a = tt
all-reverse P (x ∷ xs) a = subst (AllByRecursion P) (sym (reverse-append (x ∷ []) xs)) (all-end P (reverse xs) x (all-reverse P xs a.1) a.0)

pub present-placed : PresentByPlaces
present-placed h worker session = (
  λ is. subst (λ l. StandsEntered l worker session) (reverse-reverse h) (stands-at (past_of h) worker session is),
  λ s.
      let now : Event = event.Enter worker s.role s.flags in
      ap (λ p. present p worker) (ap past_of s.parts ∙ past-middle s.before now s.after)
      ∙ present-later (past_of s.after) (now ∷ past_of s.before) worker session (all-reverse (λ e. ends_session worker session e ≡ false) s.after s.stays)
      (ap (λ b. cond b (Some (enters (past_of s.before))) (present (past_of s.before) worker)) (eq-eqb worker worker refl) ∙ ap (λ n. Some n) s.number),
)

-- a session is present where it is some worker's
pub number-some : (session : ℕ) (o : Option ℕ) → is_number session o ≡ true → o ≡ Some session
number-some session None h = absurd (false≢true h)
number-some session (Some other) h = ap (λ n. Some n) (eqb-true other session h)

pub present-of : (past : List Event) (session : ℕ) (o : Option Entrance) → is_present_as past session o ≡ true → (worker : ℕ) × (present past worker ≡ Some session)
present-of past session None h = absurd (false≢true h)
present-of past session (Some entered) h = (entered.worker, number-some session (present past entered.worker) h)

pub present-some : PresentIsSomeWorkers
present-some h session = (
  λ is. present-of (past_of h) session (entrance (past_of h) session) is,
  λ p. present-is (past_of h) p.0 session p.1,
)
