-- A reading goes on by one answer of the source.
use Rattle.std.proofs.Common.{◌≡◌, ℕ, ◌+◌, ◌<◌, ◌≤◌, List, [], ◌∷◌, ◌++◌, length, take, drop, map, Option, Some, None, refl, sym, ap, ◌∙◌, append_assoc, append-nil, arith, length-append, inl, inr}
use Rattle.std.proofs.lemmas.List.{take-append-drop, map-append, length-map}
use Rattle.pool_io.specs.declared.turn.Turn.{Turn}
use Rattle.pool_io.specs.declared.turn.Turn.TheVariants as turn
use Rattle.pool_io.specs.declared.source.Took.TheVariants.{Bytes, Idle, End}
use Rattle.pool_io.specs.Outside.{TakesTurn, TakesBytes, turns_behind, IsEnded}
use Rattle.pool_io.specs.Steps.{ReadStep, steps_of, bytes_in, idles_after, Bounds, IsAtLimit, IsFree, IsFreeBefore, BringsSteps}

pub bytes_in-append : (a b : List ReadStep) → bytes_in (a ++ b) ≡ bytes_in a ++ bytes_in b
bytes_in-append [] b = refl
bytes_in-append (Some byte ∷ a) b = ap (λ l. byte ∷ l) (bytes_in-append a b)
bytes_in-append (None ∷ a) b = bytes_in-append a b

pub bytes_in-map : (bytes : List ℕ) → bytes_in (map Some bytes) ≡ bytes
bytes_in-map [] = refl
bytes_in-map (b ∷ bytes) = ap (λ l. b ∷ l) (bytes_in-map bytes)

pub bytes_in-more : (steps : List ReadStep) (bytes : List ℕ) → bytes_in (steps ++ map Some bytes) ≡ bytes_in steps ++ bytes
bytes_in-more steps bytes = bytes_in-append steps (map Some bytes) ∙ ap (λ l. bytes_in steps ++ l) (bytes_in-map bytes)

pub bytes_in-idle : (steps : List ReadStep) → bytes_in (steps ++ None ∷ []) ≡ bytes_in steps
bytes_in-idle steps = bytes_in-append steps (None ∷ []) ∙ append-nil (bytes_in steps)

pub idles_after-append : (n : ℕ) (a b : List ReadStep) → idles_after n (a ++ b) ≡ idles_after (idles_after n a) b
idles_after-append n [] b = refl
idles_after-append n (Some byte ∷ a) b = idles_after-append 0 a b
idles_after-append n (None ∷ a) b = idles_after-append (n + 1) a b

idles_after-from_zero : (bytes : List ℕ) → idles_after 0 (map Some bytes) ≡ 0
idles_after-from_zero [] = refl
idles_after-from_zero (b ∷ bytes) = idles_after-from_zero bytes

idles_after-map : (n : ℕ) (bytes : List ℕ) → 0 < length bytes → idles_after n (map Some bytes) ≡ 0
idles_after-map n [] some = absurd (omega arith)
idles_after-map n (b ∷ bytes) some = idles_after-from_zero bytes

-- bytes end a row of Idle answers
pub idles_after-more : (steps : List ReadStep) (bytes : List ℕ) → 0 < length bytes → idles_after 0 (steps ++ map Some bytes) ≡ 0
idles_after-more steps bytes some = idles_after-append 0 steps (map Some bytes) ∙ idles_after-map (idles_after 0 steps) bytes some

pub idles_after-idle : (steps : List ReadStep) → idles_after 0 (steps ++ None ∷ []) ≡ idles_after 0 steps + 1
idles_after-idle steps = idles_after-append 0 steps (None ∷ [])

-- where a front of a list that is put together ends: in its first part, or later
data FrontOf {A : Type 0} (a b front : List A) (x : A) (rest : List A) : Type 0 where
  within : (y : A) (more : List A) → a ≡ front ++ y ∷ more → FrontOf a b front x rest
  past : (part : List A) → front ≡ a ++ part → b ≡ part ++ x ∷ rest → FrontOf a b front x rest

front_of : {A : Type 0} (a b front : List A) (x : A) (rest : List A) → a ++ b ≡ front ++ x ∷ rest → FrontOf a b front x rest
front_of [] b front x rest split = past front refl split
front_of (y ∷ a) b [] x rest split = within y a refl
front_of (y ∷ a) b (z ∷ front) x rest split =
    let head : y ≡ z = cc in
    let tail : a ++ b ≡ front ++ x ∷ rest = cc in
    elim (front_of a b front x rest tail) [
      | within w more is ↦ within w more (rw (head, is) refl)
      | past part is later ↦ past part (rw (head, is) refl) later
    ]

-- a front of bytes is bytes
front_of_map : (bytes : List ℕ) (part : List ReadStep) (x : ReadStep) (rest : List ReadStep) → map Some bytes ≡ part ++ x ∷ rest
    → (some : List ℕ) × (part ≡ map Some some) × (length some < length bytes)
front_of_map [] [] x rest split = cc
front_of_map [] (y ∷ part) x rest split = cc
front_of_map (b ∷ bytes) [] x rest split = ([], refl, omega arith)
front_of_map (b ∷ bytes) (y ∷ part) x rest split =
    let tail : map Some bytes ≡ part ++ x ∷ rest = cc in
    let head : Some b ≡ y = cc in
    let rest_is = front_of_map bytes part x rest tail in
    (b ∷ rest_is.0, ap (λ l. y ∷ l) rest_is.1 ∙ ap (λ z. z ∷ map Some rest_is.0) (sym head), omega (arith, rest_is.2))

module _ (bounds : Bounds) (steps : List ReadStep) (free : IsFree bounds steps) where
  -- an Idle answer more
  pub free_idle : IsFreeBefore bounds (steps ++ None ∷ [])
  free_idle front x rest split at =
      elim (front_of steps (None ∷ []) front x rest split) [
        | within y more is ↦ free.0 front y more is at
        | past [] is later ↦ free.1 (rw (is, append-nil steps) at at)
        | past (y ∷ []) is later ↦ cc
        | past (y ∷ (z ∷ part)) is later ↦ cc
      ]

  -- bytes more, at most as many as are left
  pub free_bytes : (bytes : List ℕ) → 0 < bounds.idle_turns → length (bytes_in steps) + length bytes ≤ bounds.bytes → IsFreeBefore bounds (steps ++ map Some bytes)
  free_bytes bytes turns fits front x rest split at =
      elim (front_of steps (map Some bytes) front x rest split) [
        | within y more is ↦ free.0 front y more is at
        | past [] is later ↦ free.1 (rw (is, append-nil steps) at at)
        | past (y ∷ part) is later ↦
            let some = front_of_map bytes (y ∷ part) x rest later in
            let whole : front ≡ steps ++ map Some some.0 = is ∙ ap (λ l. steps ++ l) some.1 in
            let positive : 0 < length some.0 = omega (arith, ap length some.1, length-map some.0 (λ (n : ℕ). Some n)) in
            elim at [
              | inl idle ↦ omega (arith, idle, ap (idles_after 0) whole, idles_after-more steps some.0 positive)
              | inr out ↦ omega (arith, out, ap (λ l. length (bytes_in l)) whole, ap length (bytes_in-more steps some.0), length-append (bytes_in steps) some.0, some.2)
            ]
      ]

-- no limit is reached by the bytes that were taken
pub within_limits : (bounds : Bounds) (steps : List ReadStep) → idles_after 0 steps < bounds.idle_turns → length (bytes_in steps) < bounds.bytes → IsAtLimit bounds steps → ⊥
within_limits bounds steps idles bytes (inl idle) = omega (arith, idle)
within_limits bounds steps idles bytes (inr out) = omega (arith, out)

steps_of-turns_behind : (bytes : List ℕ) (later : List Turn) → steps_of (turns_behind bytes later) ≡ map Some bytes ++ steps_of later
steps_of-turns_behind [] later = refl
steps_of-turns_behind (b ∷ bytes) later = refl

pub steps_of-ended : (turns : List Turn) → IsEnded turns → steps_of turns ≡ []
steps_of-ended [] ended = refl
steps_of-ended (turn.End ∷ turns) ended = refl
steps_of-ended (turn.Piece bytes ∷ turns) ended = absurd ended
steps_of-ended (turn.Idle ∷ turns) ended = absurd ended

steps_of-taken : (old new : List Turn) (n : ℕ) (buffer : List ℕ) → TakesBytes old new n buffer → steps_of old ≡ map Some (take n buffer) ++ steps_of new
steps_of-taken old new n buffer takes =
    let joined : map Some (take n takes.piece) ++ map Some (drop n takes.piece) ≡ map Some takes.piece =
    sym (map-append Some (take n takes.piece) (drop n takes.piece)) ∙ ap (map Some) (take-append-drop n takes.piece) in
    ap steps_of takes.next
    ∙ sym (
    ap (λ t. map Some (take n buffer) ++ steps_of t) takes.rest
    ∙ ap (λ l. map Some (take n buffer) ++ l) (steps_of-turns_behind (drop n takes.piece) takes.later)
    ∙ ap (λ l. map Some l ++ (map Some (drop n takes.piece) ++ steps_of takes.later)) takes.taken
    ∙ sym (append_assoc (map Some (take n takes.piece)) (map Some (drop n takes.piece)) (steps_of takes.later))
    ∙ ap (λ l. l ++ steps_of takes.later) joined)

-- nothing was taken yet
pub brought_none : (turns : Option (List Turn)) → BringsSteps turns turns []
brought_none None = tt
brought_none (Some turns) = (turns, refl, refl)

-- bytes were taken
pub brought_bytes : (turns old new : Option (List Turn)) (steps : List ReadStep) (n : ℕ) (buffer : List ℕ)
    → BringsSteps turns old steps → TakesTurn old new (Bytes n) buffer → BringsSteps turns new (steps ++ map Some (take n buffer))
brought_bytes None old new steps n buffer brought takes = tt
brought_bytes (Some told) old new steps n buffer brought takes =
    let took = rw brought.1 at takes in (
      took.0,
      took.1,
      brought.2 ∙ ap (λ l. steps ++ l) (steps_of-taken brought.0 took.0 n buffer took.2)
          ∙ sym (append_assoc steps (map Some (take n buffer)) (steps_of took.0)),
    )

-- an Idle answer came
pub brought_idle : (turns old new : Option (List Turn)) (steps : List ReadStep) (buffer : List ℕ)
    → BringsSteps turns old steps → TakesTurn old new Idle buffer → BringsSteps turns new (steps ++ None ∷ [])
brought_idle None old new steps buffer brought takes = tt
brought_idle (Some told) old new steps buffer brought takes =
    let took = rw brought.1 at takes in (
      took.0,
      took.1,
      brought.2 ∙ ap (λ l. steps ++ l) (ap steps_of took.2) ∙ sym (append_assoc steps (None ∷ []) (steps_of took.0)),
    )

-- End came: these are all steps
pub brought_all : (told : List Turn) (old new : Option (List Turn)) (steps : List ReadStep) (buffer : List ℕ)
    → BringsSteps (Some told) old steps → TakesTurn old new End buffer → steps_of told ≡ steps
brought_all told old new steps buffer brought takes =
    let took = rw brought.1 at takes in
    brought.2 ∙ ap (λ l. steps ++ l) (steps_of-ended brought.0 took.2.0) ∙ append-nil steps

-- a piece and what follows it, cut within the piece
pub cut_at : (steps : List ReadStep) (piece part left : List ℕ) (rest : List ReadStep) → piece ≡ part ++ left
    → (steps ++ map Some piece) ++ rest ≡ (steps ++ map Some part) ++ (map Some left ++ rest)
cut_at steps piece part left rest split =
    ap (λ p. (steps ++ map Some p) ++ rest) split
    ∙ ap (λ m. (steps ++ m) ++ rest) (map-append Some part left)
    ∙ ap (λ l. l ++ rest) (sym (append_assoc steps (map Some part) (map Some left)))
    ∙ append_assoc (steps ++ map Some part) (map Some left) rest

-- which of two fronts of one list is the longer
pub data Fronts {A : Type 0} (a b : List A) : Type 0 where
  longer : (part : List A) → b ≡ a ++ part → Fronts a b
  shorter : (x : A) (part : List A) → a ≡ b ++ x ∷ part → Fronts a b

pub fronts_of : {A : Type 0} (a b x y : List A) → a ++ x ≡ b ++ y → Fronts a b
fronts_of [] b x y same = longer b refl
fronts_of (p ∷ a) [] x y same = shorter p a refl
fronts_of (p ∷ a) (q ∷ b) x y same =
    let head : p ≡ q = cc in
    let tail : a ++ x ≡ b ++ y = cc in
    elim (fronts_of a b x y tail) [
      | longer part is ↦ longer part (ap (λ l. q ∷ l) is ∙ ap (λ h. h ∷ (a ++ part)) (sym head))
      | shorter z part is ↦ shorter z part (ap (λ l. p ∷ l) is ∙ ap (λ h. h ∷ (b ++ z ∷ part)) head)
    ]

-- a limit that a front reaches isn't free
pub free_of : (bounds : Bounds) (steps front rest : List ReadStep) → IsFree bounds steps → steps ≡ front ++ rest → IsAtLimit bounds front → ⊥
free_of bounds steps front [] free split at = free.1 (rw (split, append-nil front) at)
free_of bounds steps front (x ∷ rest) free split at = free.0 front x rest split at

-- a row of Idle answers ends with one
pub last_idle : (n : ℕ) (x : ReadStep) (steps : List ReadStep) → 0 < idles_after n (x ∷ steps) → (front : List ReadStep) × (x ∷ steps ≡ front ++ None ∷ [])
last_idle n (Some byte) [] some = absurd (omega arith)
last_idle n None [] some = ([], refl)
last_idle n (Some byte) (y ∷ steps) some =
    let more = last_idle 0 y steps some in (Some byte ∷ more.0, ap (λ l. Some byte ∷ l) more.1)
last_idle n None (y ∷ steps) some =
    let more = last_idle (n + 1) y steps some in (None ∷ more.0, ap (λ l. None ∷ l) more.1)
