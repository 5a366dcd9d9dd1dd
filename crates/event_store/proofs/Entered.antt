-- What is kept of the sessions of a legal history.
use Rattle.std.proofs.Common.{◌≡◌, ℕ, zero, suc, ◌+◌, ◌<◌, Bool, true, false, cond, ◌||◌, is_some, Option, None, Some, List, [], ◌∷◌, ◌++◌, length, refl, ap, subst, sym, ◌∙◌, arith, length-append}
use Rattle.std.proofs.Math.Dec.{eqb}
use Rattle.std.proofs.lemmas.Bool.{eq-eqb, eqb-false, eqb-true, false≢true, lt-ltb, ne_eqb}
use Rattle.std.proofs.lemmas.Option.{slice_get_within}
use Rattle.std.specs.Prelude.{slice_get}
use Rattle.std.specs.List.{AllByRecursion}
use Rattle.std.specs.Option.{option_or}
use Rattle.pool_history.specs.declared.causes.Cause.{Cause}
use Rattle.pool_history.specs.declared.causes.Cause.TheVariants as cause
use Rattle.pool_history.specs.declared.events.Event.{Event}
use Rattle.pool_history.specs.declared.events.Event.TheVariants as event
use Rattle.pool_history.specs.declared.events.Kind.{Kind}
use Rattle.pool_history.specs.declared.events.Role.{Role}
use Rattle.pool_history.specs.Conditions.{or_code}
use Rattle.pool_history.specs.Legal.{LegalPast, cause_of, entered_with, may_anything, within}
use Rattle.pool_history.specs.Sessions.{Entrance, enters, entrance, flags_in, flags_of, is_number, is_present, is_present_as, present, unless_left}
use Rattle.pool_history.proofs.PlacesOfClasses.{all-end, all-weaken}
use Rattle.history_laws.proofs.Causes.{IsUncaused, provided-both, uncaused}
use Rattle.history_laws.proofs.Entrances.{entrance-below, none-some}
use Rattle.event_store.specs.declared.marks.SessionMark.{SessionMark}
use Rattle.event_store.specs.Index.{changed, index_of}
use Rattle.event_store.specs.Told.{flags_at}
use Rattle.event_store.proofs.Changed.{all-changed, changed-suc, length-changed, read-changed, read-end}

-- a mark for each Enter
pub sessions-length : (past : List Event) → length (index_of past).sessions ≡ enters past
sessions-length [] = refl
sessions-length (event.Enter worker role flags ∷ older) =
    let one : length ((index_of older).sessions ++ record { at = length older; flags = flags; last = None; left = None } ∷ []) ≡ length (index_of older).sessions + 1 =
    length-append (index_of older).sessions (record { at = length older; flags = flags; last = None; left = None } ∷ []) in
    let rest : length (index_of older).sessions ≡ enters older = sessions-length older in
    omega (arith, one, rest)
sessions-length (event.Open session kind account class lead ∷ older) = length-changed _ (index_of older).sessions session ∙ sessions-length older
sessions-length (event.Leave session ∷ older) = length-changed _ (index_of older).sessions session ∙ sessions-length older
sessions-length (e ∷ older) = sessions-length older

-- a present session was entered
pub present-below : (past : List Event) (session : ℕ) → is_present past session ≡ true → session < enters past
present-below past session is = by (entrance past session) refl is where
  by : (o : Option Entrance) → entrance past session ≡ o → is_present_as past session o ≡ true → session < enters past
  by None none h = absurd (false≢true h)
  by (Some e) entered h = entrance-below past session e entered

-- an event of a session has it present
pub within-present : (may : Entrance → Bool) (past : List Event) (session : ℕ) (next : Option Cause) → within may past session next ≡ None → is_present past session ≡ true
within-present may past session next n =
    (provided-both (is_present past session) cause.NoSession (or_code (entered_with may (entrance past session)) cause.BadRole next) n).0

pub open-present : (past : List Event) (session : ℕ) (k : Kind) (account : List ℕ) (class : ℕ) (lead : List ℕ)
    → cause_of past (event.Open session k account class lead) ≡ None → is_present past session ≡ true
open-present past session k account class lead n =
    let u : IsUncaused past (event.Open session k account class lead) = uncaused past (event.Open session k account class lead) refl n in
    within-present _ past session _ u.none

pub leave-present : (past : List Event) (session : ℕ) → cause_of past (event.Leave session) ≡ None → is_present past session ≡ true
leave-present past session n =
    let u : IsUncaused past (event.Leave session) = uncaused past (event.Leave session) refl n in
    within-present may_anything past session None u.none

-- whether a session's mark says that it left
abbrev pub has_left : Option SessionMark → Bool
has_left None = false
has_left (Some mark) = is_some mark.left

some-or : (o : Option ℕ) (at : ℕ) → is_some (option_or o (Some at)) ≡ true
some-or None at = refl
some-or (Some p) at = refl

-- numbers are the same where those after them are
eqb-both : (a b : ℕ) → eqb a b ≡ eqb (suc a) (suc b)
eqb-both a b = by (eqb a b) refl where
  by : (c : Bool) → eqb a b ≡ c → eqb a b ≡ eqb (suc a) (suc b)
  by true is = is ∙ sym (eq-eqb (suc a) (suc b) (ap suc (eqb-true a b is)))
  by false is = is ∙ sym (ne_eqb (suc a) (suc b) (λ same. eqb-false a b is (omega (arith, same))))

or-true : (b : Bool) → (b || true) ≡ true
or-true true = refl
or-true false = refl

or-false : (b c : Bool) → c ≡ false → (b || c) ≡ b
or-false true c e = refl
or-false false c e = e

-- a Leave is one more
pub left-changed : (at : ℕ) (xs : List SessionMark) (s t : ℕ) → s < length xs
    → has_left (slice_get (changed (λ mark. record mark { left = option_or mark.left (Some at) }) xs s) t) ≡ (has_left (slice_get xs t) || eqb t s)
left-changed at [] s t below = absurd (omega (arith, below))
left-changed at (x ∷ xs) zero zero below = some-or x.left at ∙ sym (or-true (is_some x.left))
left-changed at (x ∷ xs) zero (suc t) below = sym (or-false (has_left (slice_get xs t)) (eqb (suc t) 0) (ne_eqb (suc t) 0 (λ e. omega (arith, e))))
left-changed at (x ∷ xs) (suc s) zero below =
    ap (λ l. has_left (slice_get l 0)) (changed-suc _ x xs s) ∙ sym (or-false (is_some x.left) (eqb 0 (suc s)) (ne_eqb 0 (suc s) (λ e. omega (arith, e))))
left-changed at (x ∷ xs) (suc s) (suc t) below =
    let less : suc s < suc (length xs) = below in
    ap (λ l. has_left (slice_get l (suc t))) (changed-suc _ x xs s) ∙ left-changed at xs s t (omega (arith, less))
    ∙ ap (λ b. has_left (slice_get xs t) || b) (eqb-both t s)

-- a session that left isn't present any more
is-number-left : (session : ℕ) (o : Option ℕ) → is_number session (unless_left session o) ≡ false
is-number-left session None = refl
is-number-left session (Some x) = by (eqb x session) refl where
  by : (b : Bool) → eqb x session ≡ b → is_number session (cond b None (Some x)) ≡ false
  by true is = refl
  by false is = is

is-number-stays : (session other : ℕ) (o : Option ℕ) → is_number session o ≡ false → is_number session (unless_left other o) ≡ false
is-number-stays session other None n = refl
is-number-stays session other (Some x) n = by (eqb x other) where
  by : (b : Bool) → is_number session (cond b None (Some x)) ≡ false
  by true = refl
  by false = n

absent-left : (older : List Event) (session : ℕ) (o : Option Entrance) → is_present_as (event.Leave session ∷ older) session o ≡ false
absent-left older session None = refl
absent-left older session (Some e) = is-number-left session (present older e.worker)

absent-leave : (older : List Event) (session other : ℕ) (o : Option Entrance) → is_present_as older session o ≡ false
    → is_present_as (event.Leave other ∷ older) session o ≡ false
absent-leave older session other None n = refl
absent-leave older session other (Some e) n = is-number-stays session other (present older e.worker) n

absent-enter : (older : List Event) (worker : ℕ) (role : Role) (flags session : ℕ) (o : Option Entrance) → session < enters older → is_present_as older session o ≡ false
    → is_present_as (event.Enter worker role flags ∷ older) session o ≡ false
absent-enter older worker role flags session None below n = refl
absent-enter older worker role flags session (Some e) below n = by (eqb worker e.worker) where
  by : (b : Bool) → is_number session (cond b (Some (enters older)) (present older e.worker)) ≡ false
  by true = ne_eqb (enters older) session (λ same. omega (arith, same, below))
  by false = n

-- a mark that says it
left-within : (xs : List SessionMark) (s : ℕ) → has_left (slice_get xs s) ≡ true → s < length xs
left-within xs s is = by (slice_get xs s) refl is where
  by : (o : Option SessionMark) → slice_get xs s ≡ o → has_left o ≡ true → s < length xs
  by None none h = absurd (false≢true h)
  by (Some m) some h = slice_get_within xs s m some

pub left-absent : (past : List Event) (session : ℕ) → LegalPast past → has_left (slice_get (index_of past).sessions session) ≡ true → is_present past session ≡ false
left-absent [] session l is = absurd (false≢true is)
left-absent (event.Enter worker role flags ∷ older) session l is =
    let before : has_left (slice_get (index_of older).sessions session) ≡ true =
    sym (read-end has_left (index_of older).sessions (record { at = length older; flags = flags; last = None; left = None }) session refl) ∙ is in
    let within : session < length (index_of older).sessions = left-within (index_of older).sessions session before in
    let long : length (index_of older).sessions ≡ enters older = sessions-length older in
    let below : session < enters older = omega (arith, within, long) in
    ap (λ b. is_present_as (event.Enter worker role flags ∷ older) session (cond b (Some (record { worker = worker; role = role; flags = flags })) (entrance older session)))
    (ne_eqb (enters older) session (λ same. omega (arith, same, below)))
    ∙ absent-enter older worker role flags session (entrance older session) below (left-absent older session l.0 before)
left-absent (event.Open opening kind account class lead ∷ older) session l is =
    left-absent older session l.0 (sym (read-changed has_left _ (λ mark. refl) (index_of older).sessions opening session) ∙ is)
left-absent (event.Leave leaving ∷ older) session l is =
    by (left-absent older session l.0) (eqb session leaving) refl where
      below : leaving < length (index_of older).sessions
      below =
          let here : leaving < enters older = present-below older leaving (leave-present older leaving l.1) in
          let long : length (index_of older).sessions ≡ enters older = sessions-length older in
          omega (arith, here, long)

      by : (has_left (slice_get (index_of older).sessions session) ≡ true → is_present older session ≡ false) → (b : Bool) → eqb session leaving ≡ b
          → is_present (event.Leave leaving ∷ older) session ≡ false
      by before true same =
          subst (λ s. is_present (event.Leave s ∷ older) session ≡ false) (eqb-true session leaving same) (absent-left older session (entrance older session))
      by before false other =
          absent-leave older session leaving (entrance older session)
          (before
          (sym (or-false (has_left (slice_get (index_of older).sessions session)) false refl) ∙ ap (λ b. has_left (slice_get (index_of older).sessions session) || b) (sym other)
          ∙ sym (left-changed (length older) (index_of older).sessions leaving session below) ∙ is))
left-absent (e ∷ older) session l is = left-absent older session l.0 is

-- places that were reached
abbrev pub IsReached : ℕ → Option ℕ → Type 0
IsReached n None = Unit {0}
IsReached n (Some at) = at < n

pub record IsSessionWithin (n : ℕ) (mark : SessionMark) : Type 0 where
  pub entered : mark.at < n
  pub left : IsReached n mark.left

pub reached-more : (n : ℕ) (o : Option ℕ) → IsReached n o → IsReached (suc n) o
reached-more n None r = tt
reached-more n (Some at) r = omega (arith, r)

session-later : (n : ℕ) (mark : SessionMark) → IsSessionWithin n mark → IsSessionWithin (suc n) mark
session-later n mark w = record {
  entered = let h : mark.at < n = w.entered in omega (arith, h);
  left = reached-more n mark.left w.left;
}

pub sessions-within : (past : List Event) → AllByRecursion (IsSessionWithin (length past)) (index_of past).sessions
sessions-within [] = tt
sessions-within (event.Enter worker role flags ∷ older) =
    all-end (IsSessionWithin (suc (length older))) (index_of older).sessions (record { at = length older; flags = flags; last = None; left = None })
    (all-weaken _ _ (session-later (length older)) (index_of older).sessions (sessions-within older)) (record { entered = omega arith; left = tt })
sessions-within (event.Open session kind account class lead ∷ older) =
    all-changed (IsSessionWithin (suc (length older))) _ (λ mark w. record { entered = w.entered; left = w.left }) (index_of older).sessions session
    (all-weaken _ _ (session-later (length older)) (index_of older).sessions (sessions-within older))
sessions-within (event.Leave session ∷ older) =
    all-changed (IsSessionWithin (suc (length older))) _ (λ mark w. record { entered = w.entered; left = or-within mark.left w.left }) (index_of older).sessions session
    (all-weaken _ _ (session-later (length older)) (index_of older).sessions (sessions-within older)) where
      or-within : (o : Option ℕ) → IsReached (suc (length older)) o → IsReached (suc (length older)) (option_or o (Some (length older)))
      or-within None r = omega arith
      or-within (Some at) r = r
sessions-within (e ∷ older) = all-weaken _ _ (session-later (length older)) (index_of older).sessions (sessions-within older)

-- the flags that are kept are those of the Enter
abbrev pub kept_flags : Option SessionMark → ℕ
kept_flags None = 0
kept_flags (Some mark) = mark.flags

read-one : (xs : List SessionMark) (m : SessionMark) (s : ℕ)
    → kept_flags (slice_get (xs ++ m ∷ []) s) ≡ cond (eqb (length xs) s) m.flags (kept_flags (slice_get xs s))
read-one [] m zero = refl
read-one [] m (suc s) = sym (ap (λ b. cond b m.flags 0) (ne_eqb 0 (suc s) (λ e. omega (arith, e))))
read-one (x ∷ xs) m zero = sym (ap (λ b. cond b m.flags x.flags) (ne_eqb (suc (length xs)) 0 (λ e. omega (arith, e))))
read-one (x ∷ xs) m (suc s) = read-one xs m s ∙ ap (λ b. cond b m.flags (kept_flags (slice_get xs s))) (eqb-both (length xs) s)

kept-flags : (past : List Event) (session : ℕ) → kept_flags (slice_get (index_of past).sessions session) ≡ flags_of past session
kept-flags [] session = refl
kept-flags (event.Enter worker role flags ∷ older) session =
    read-one (index_of older).sessions (record { at = length older; flags = flags; last = None; left = None }) session
    ∙ ap (λ n. cond (eqb n session) flags (kept_flags (slice_get (index_of older).sessions session))) (sessions-length older)
    ∙ by (kept-flags older session) (eqb (enters older) session) where
      by : kept_flags (slice_get (index_of older).sessions session) ≡ flags_of older session → (b : Bool) → cond b flags (kept_flags (slice_get (index_of older).sessions session))
          ≡ flags_in (cond b (Some (record { worker = worker; role = role; flags = flags })) (entrance older session))
      by rest true = refl
      by rest false = rest
kept-flags (event.Open opening kind account class lead ∷ older) session =
    read-changed kept_flags _ (λ mark. refl) (index_of older).sessions opening session ∙ kept-flags older session
kept-flags (event.Leave leaving ∷ older) session =
    read-changed kept_flags _ (λ mark. refl) (index_of older).sessions leaving session ∙ kept-flags older session
kept-flags (e ∷ older) session = kept-flags older session

pub all-get : {X : Type 0} (P : X → Type 0) (xs : List X) (k : ℕ) (x : X) → AllByRecursion P xs → slice_get xs k ≡ Some x → P x
all-get P [] k x a is = absurd (none-some is)
all-get P (y ∷ xs) zero x a is = subst P (some-is is) a.0 where
  some-is : {z : _} → Some y ≡ Some z → y ≡ z
  some-is e = cc
all-get P (y ∷ xs) (suc k) x a is = all-get P xs k x a.1 is

pub flags-now : (past : List Event) (session : ℕ) → flags_at (length past) (slice_get (index_of past).sessions session) ≡ flags_of past session
flags-now past session = by (slice_get (index_of past).sessions session) refl ∙ kept-flags past session where
  by : (o : Option SessionMark) → slice_get (index_of past).sessions session ≡ o → flags_at (length past) o ≡ kept_flags (slice_get (index_of past).sessions session)
  by None is = ap kept_flags (sym is)
  by (Some mark) is =
      ap (λ b. cond b mark.flags 0)
      (lt-ltb mark.at (length past) (all-get (IsSessionWithin (length past)) (index_of past).sessions session mark (sessions-within past) is).entered)
      ∙ ap kept_flags (sym is)
