-- Calls that part events stand in the order of their numbers.
use Rattle.std.proofs.Common.{◌≡◌, ℕ, ◌+◌, ◌<◌, ◌≤◌, Bool, List, [], ◌∷◌, ◌++◌, length, take, refl, ap, subst, sym, ◌∙◌, arith, append_assoc}
use Rattle.std.proofs.Math.Seq.{take-append_seam}
use Rattle.std.proofs.lemmas.List.{append-nil}
use Rattle.std.proofs.lemmas.List.Elements.{All-from_recursion, recursion_from_All}
use Rattle.std.proofs.lemmas.List.Sorted.{All-permutation, IsPermutation-sym}
use Rattle.std.specs.List.{AllByRecursion, flat_map}
use Rattle.pool_base.specs.Calls.{Call, GoodCalls, IsGoodCall, IsOutcome, Parted, PartsFrom, RiseFrom}
use Rattle.pool_base.specs.Standing.{AreAll, CallersGoOn, CallsAreAll, LaterCallsStandBehind, StandInOrder, StandsBehind}

-- facts of all elements at once
pub all-map : {X : Type 0} (P S : X → Type 0) → ((x : X) → P x → S x) → (xs : List X) → AllByRecursion P xs → AllByRecursion S xs
all-map P S f [] h = tt
all-map P S f (x ∷ xs) h = (f x h.0, all-map P S f xs h.1)

pub all-both : {X : Type 0} (P S : X → Type 0) (xs : List X) → AllByRecursion P xs → AllByRecursion S xs → AllByRecursion (λ x. P x × S x) xs
all-both P S [] h k = tt
all-both P S (x ∷ xs) h k = ((h.0, k.0), all-both P S xs h.1 k.1)

pub all-front : {X : Type 0} (P : X → Type 0) (xs ys : List X) → AllByRecursion P (xs ++ ys) → AllByRecursion P xs
all-front P [] ys h = tt
all-front P (x ∷ xs) ys h = (h.0, all-front P xs ys h.1)

-- the events are those that were reached, and what the calls added
whole-of : {E Q R F : Type 0} (reached : List E) (number least : ℕ) (events : List E) (most : ℕ) (calls : List (Call E Q R F))
    → PartsFrom reached number least events most calls → events ≡ reached ++ flat_map (λ call. call.added) calls
whole-of reached number least events most [] p = p.0 ∙ sym (append-nil reached)
whole-of reached number least events most (call ∷ calls) p =
    whole-of (reached ++ call.added) (number + 1) call.faults_after events most calls p.4
    ∙ append_assoc reached call.added (flat_map (λ c. c.added) calls)

-- the events before the first of them
first-front : {E Q R F : Type 0} (reached : List E) (number least : ℕ) (events : List E) (most : ℕ) (call : Call E Q R F) (calls : List (Call E Q R F))
    → PartsFrom reached number least events most (call ∷ calls) → take call.front events ≡ reached
first-front reached number least events most call calls p =
    ap (λ n. take n events) p.0 ∙ ap (take (length reached)) (whole-of reached number least events most (call ∷ calls) p)
    ∙ take-append_seam reached (flat_map (λ c. c.added) (call ∷ calls))

-- the events before any of them
front-of : {E Q R F : Type 0} (reached : List E) (number least : ℕ) (events : List E) (most : ℕ) (earlier later : List (Call E Q R F)) (call : Call E Q R F)
    → PartsFrom reached number least events most (earlier ++ call ∷ later) → take call.front events ≡ reached ++ flat_map (λ c. c.added) earlier
front-of reached number least events most [] later call p =
    first-front reached number least events most call later p ∙ sym (append-nil reached)
front-of reached number least events most (first ∷ earlier) later call p =
    front-of (reached ++ first.added) (number + 1) first.faults_after events most earlier later call p.4
    ∙ append_assoc reached first.added (flat_map (λ c. c.added) earlier)

-- the number of any of them
number-of : {E Q R F : Type 0} (reached : List E) (number least : ℕ) (events : List E) (most : ℕ) (earlier later : List (Call E Q R F)) (call : Call E Q R F)
    → PartsFrom reached number least events most (earlier ++ call ∷ later) → call.number ≡ number + length earlier
number-of reached number least events most [] later call p = omega (arith, p.1)
number-of reached number least events most (first ∷ earlier) later call p =
    omega (arith, number-of (reached ++ first.added) (number + 1) first.faults_after events most earlier later call p.4)

pub calls-all : {E Q R F : Type 0} → CallsAreAll E Q R F
calls-all start events least most calls parted = record {
  whole = whole-of start 0 least events most parted.ordered parted.parts;
  fronts = λ earlier later call is.
      front-of start 0 least events most earlier later call (subst (PartsFrom start 0 least events most) is parted.parts);
  numbers = λ earlier later call is.
      omega (arith, number-of start 0 least events most earlier later call (subst (PartsFrom start 0 least events most) is parted.parts));
}

-- the events before a good call
pub its-front : {E Q R F : Type 0} (answers : List E → ℕ → Q → List E → R → Type 0) (wants_memory : F → Bool) (events : List E) (call : Call E Q R F)
    → (g : IsGoodCall answers wants_memory events call) → take call.front events ≡ g.before
its-front answers wants_memory events call g =
    ap (λ n. take n events) (sym g.at_front)
    ∙ ap (take (length g.before)) (g.stands ∙ append_assoc g.before call.added g.after)
    ∙ take-append_seam g.before (call.added ++ g.after)

-- what each good call keeps, all of them do
pub kept-from : {E Q R F : Type 0} (answers : List E → ℕ → Q → List E → R → Type 0) (wants_memory : F → Bool) (P : List E → Type 0) (S : Call E Q R F → Type 0)
    → ((before : List E) (call : Call E Q R F) → S call → IsOutcome answers wants_memory before call call.outcome → P before → P (before ++ call.added))
    → (reached : List E) (number least : ℕ) (events : List E) (most : ℕ) (calls : List (Call E Q R F))
    → PartsFrom reached number least events most calls → AllByRecursion (IsGoodCall answers wants_memory events) calls → AllByRecursion S calls
    → P reached → P events
kept-from answers wants_memory P S one reached number least events most [] p g s k = subst P (sym p.0) k
kept-from answers wants_memory P S one reached number least events most (call ∷ calls) p g s k =
    let at : g.0.before ≡ reached =
    sym (its-front answers wants_memory events call g.0) ∙ first-front reached number least events most call calls p in
    kept-from answers wants_memory P S one (reached ++ call.added) (number + 1) call.faults_after events most calls p.4 g.1 s.1
    (one reached call s.0 (subst (λ b. IsOutcome answers wants_memory b call call.outcome) at g.0.outcome) k)

-- a call behind events that were reached, with a number from there on
record IsPast {E Q R F : Type 0} (reached events : List E) (number : ℕ) (call : Call E Q R F) : Type 0 where
  many : number ≤ call.number
  between : List E
  behind : take call.front events ≡ reached ++ between

one-further : {E Q R F : Type 0} (reached added events : List E) (number : ℕ) (call : Call E Q R F)
    → IsPast (reached ++ added) events (number + 1) call → IsPast reached events number call
one-further reached added events number call h =
    record { many = omega (arith, h.many); between = added ++ h.between; behind = h.behind ∙ append_assoc reached added h.between }

all-past : {E Q R F : Type 0} (reached : List E) (number least : ℕ) (events : List E) (most : ℕ) (calls : List (Call E Q R F))
    → PartsFrom reached number least events most calls → AllByRecursion (IsPast reached events number) calls
all-past reached number least events most [] p = tt
all-past reached number least events most (call ∷ calls) p = (
  record {
    many = omega (arith, p.1);
    between = [];
    behind = first-front reached number least events most call calls p ∙ sym (append-nil reached);
  },
  all-map (IsPast (reached ++ call.added) events (number + 1)) (IsPast reached events number)
      (one-further reached call.added events number) calls
      (all-past (reached ++ call.added) (number + 1) call.faults_after events most calls p.4),
)

-- of two calls the one with the greater number stands behind
abbrev InOrder : {E Q R F : Type 0} → List E → Call E Q R F → Call E Q R F → Type 0
InOrder events earlier later = earlier.number < later.number → StandsBehind events earlier later

first-behind : {E Q R F : Type 0} (reached events : List E) (number : ℕ) (call later : Call E Q R F) → take call.front events ≡ reached
    → IsPast (reached ++ call.added) events (number + 1) later → InOrder events call later
first-behind reached events number call later at h less =
    record { between = h.between; behind = h.behind ∙ ap (λ l. (l ++ call.added) ++ h.between) (sym at) }

not-behind : {E Q R F : Type 0} (reached events : List E) (number : ℕ) (call earlier : Call E Q R F) → call.number ≡ number
    → IsPast reached events (number + 1) earlier → InOrder events earlier call
not-behind reached events number call earlier is h less = absurd (omega (arith, is, h.many, less))

in-order : {E Q R F : Type 0} (reached : List E) (number least : ℕ) (events : List E) (most : ℕ) (calls : List (Call E Q R F))
    → PartsFrom reached number least events most calls → AllByRecursion (λ a. AllByRecursion (InOrder events a) calls) calls
in-order reached number least events most [] p = tt
in-order reached number least events most (call ∷ calls) p =
    let further : AllByRecursion (IsPast (reached ++ call.added) events (number + 1)) calls =
    all-past (reached ++ call.added) (number + 1) call.faults_after events most calls p.4 in
    let at : take call.front events ≡ reached = first-front reached number least events most call calls p in (
      (
        λ less. absurd (omega (arith, less)),
        all-map (IsPast (reached ++ call.added) events (number + 1)) (InOrder events call)
            (λ later h. first-behind reached events number call later at h) calls further,
      ),
      all-both (λ a. InOrder events a call) (λ a. AllByRecursion (InOrder events a) calls) calls
          (all-map (IsPast (reached ++ call.added) events (number + 1)) (λ a. InOrder events a call)
          (λ earlier h. not-behind (reached ++ call.added) events number call earlier p.1 h) calls further)
          (in-order (reached ++ call.added) (number + 1) call.faults_after events most calls p.4),
    )

-- the same of calls in another order, and back
pub all-ordered : {E Q R F : Type 0} (start events : List E) (least most : ℕ) (calls : List (Call E Q R F)) → (parted : Parted start events least most calls)
    → (P : Call E Q R F → Type 0) → AllByRecursion P calls → AllByRecursion P parted.ordered
all-ordered start events least most calls parted P h =
    recursion_from_All P parted.ordered
    (All-permutation P calls parted.ordered (IsPermutation-sym parted.ordered calls parted.same) (All-from_recursion P calls h))

all-moved : {E Q R F : Type 0} (start events : List E) (least most : ℕ) (calls : List (Call E Q R F)) → (parted : Parted start events least most calls)
    → (P : Call E Q R F → Type 0) → AllByRecursion P parted.ordered → AllByRecursion P calls
all-moved start events least most calls parted P h =
    recursion_from_All P calls (All-permutation P parted.ordered calls parted.same (All-from_recursion P parted.ordered h))

pub later-behind : {E Q R F : Type 0} → LaterCallsStandBehind E Q R F
later-behind start events least most calls parted =
    all-map (λ a. AllByRecursion (InOrder events a) parted.ordered) (λ a. AllByRecursion (InOrder events a) calls)
    (λ a h. all-moved start events least most calls parted (InOrder events a) h) calls
    (all-moved start events least most calls parted (λ a. AllByRecursion (InOrder events a) parted.ordered)
    (in-order start 0 least events most parted.ordered parted.parts))

-- one caller's numbers
above : {E Q R F : Type 0} (known : ℕ) (own : List (Call E Q R F)) (now : ℕ) → RiseFrom known own now → AllByRecursion (λ c. known ≤ c.number) own
above known [] now r = tt
above known (call ∷ own) now r =
    (r.0, all-map (λ c. call.number + 1 ≤ c.number) (λ c. known ≤ c.number) (λ c h. omega (arith, r, h)) own (above (call.number + 1) own now r.1))

meet : {E Q R F : Type 0} (events : List E) (call : Call E Q R F) (own : List (Call E Q R F)) → AllByRecursion (λ c. call.number + 1 ≤ c.number) own
    → AllByRecursion (InOrder events call) own → AllByRecursion (StandsBehind events call) own
meet events call [] h k = tt
meet events call (later ∷ own) h k = (k.0 (omega (arith, h)), meet events call own h.1 k.1)

own-order : {E Q R F : Type 0} (events : List E) (known : ℕ) (own : List (Call E Q R F)) (now : ℕ) → RiseFrom known own now
    → AllByRecursion (λ a. AllByRecursion (InOrder events a) own) own → StandInOrder events own
own-order events known [] now r h = tt
own-order events known (call ∷ own) now r h = (
  meet events call own (above (call.number + 1) own now r.1) h.0.1,
  own-order events (call.number + 1) own now r.1
      (all-map (λ a. AllByRecursion (InOrder events a) (call ∷ own)) (λ a. AllByRecursion (InOrder events a) own) (λ a k. k.1) own h.1),
)

pub callers-go_on : {E Q R F : Type 0} → CallersGoOn E Q R F
callers-go_on start events least most known now own others parted r =
    own-order events known own now r
    (all-map (λ a. AllByRecursion (InOrder events a) (own ++ others)) (λ a. AllByRecursion (InOrder events a) own)
    (λ a h. all-front (InOrder events a) own others h) own
    (all-front (λ a. AllByRecursion (InOrder events a) (own ++ others)) own others
    (later-behind start events least most (own ++ others) parted)))

pub all-kept : {E Q R F : Type 0} (answers : List E → ℕ → Q → List E → R → Type 0) (wants_memory : F → Bool) (P : List E → Type 0) (S : Call E Q R F → Type 0)
    → ((before : List E) (call : Call E Q R F) → S call → IsOutcome answers wants_memory before call call.outcome → P before → P (before ++ call.added))
    → (start events : List E) (least most : ℕ) (calls : List (Call E Q R F)) → Parted start events least most calls
    → GoodCalls answers wants_memory events calls → AllByRecursion S calls → P start → P events
all-kept answers wants_memory P S one start events least most calls parted good s k =
    kept-from answers wants_memory P S one start 0 least events most parted.ordered parted.parts
    (all-ordered start events least most calls parted (IsGoodCall answers wants_memory events) good)
    (all-ordered start events least most calls parted S s) k
