-- Strings behind which no lead of so many more bytes is free.
use Rattle.std.proofs.Common.{◌≡◌, ℕ, zero, suc, ◌<◌, Bool, true, false, not, ◌||◌, List, [], ◌∷◌, ◌++◌, length, refl, ap, subst, sym, arith, append_assoc}
use Rattle.std.proofs.lemmas.Bool.{not-true}
use Rattle.std.proofs.lemmas.List.{append-nil}
use Rattle.std.specs.List.{AllByRecursion, list_any}
use Rattle.pool_history.specs.Spaces.{is_free, overlap}
use Rattle.prefix_space.specs.Rows.{all_bytes}
use Rattle.prefix_space.specs.Climbs.{is_front}
use Rattle.prefix_space.specs.Trees.{is_full}
use Rattle.prefix_space.proofs.Bits.{all-bytes, all-bytes-at, all-bytes-fail, all-bytes-same}
use Rattle.prefix_space.proofs.Overlaps.{any-weaken, apart-more, front-more, front-overlap, none-more}

-- only leads that overlap the string count
pub full-same : (more : ℕ) (s : List ℕ) (held others : List (List ℕ))
    → ((t : List ℕ) → list_any (overlap (s ++ t)) held ≡ list_any (overlap (s ++ t)) others) → is_full more s held ≡ is_full more s others
unfolding is_full
full-same zero s held others h =
    ap (λ any. not (not any)) (subst (λ u. list_any (overlap u) held ≡ list_any (overlap u) others) (append-nil s) (h []))
full-same (suc more) s held others h =
    all-bytes-same (λ byte. is_full more (s ++ byte ∷ []) held) (λ byte. is_full more (s ++ byte ∷ []) others)
    (λ byte below. full-same more (s ++ byte ∷ []) held others
    (λ t. subst (λ u. list_any (overlap u) held ≡ list_any (overlap u) others) (sym (append_assoc s (byte ∷ []) t)) (h (byte ∷ t))))

pub full-off : (more : ℕ) (s l : List ℕ) (held : List (List ℕ)) → overlap s l ≡ false → is_full more s (l ∷ held) ≡ is_full more s held
full-off more s l held apart = full-same more s (l ∷ held) held (λ t. ap (λ e. e || list_any (overlap (s ++ t)) held) (apart-more s t l apart))

-- a string that nothing overlaps isn't full
pub full-none : (more : ℕ) (s : List ℕ) (held : List (List ℕ)) → list_any (overlap s) held ≡ false → is_full more s held ≡ false
unfolding is_full
full-none zero s held none = ap (λ any. not (not any)) none
full-none (suc more) s held none =
    all-bytes-fail (λ byte. is_full more (s ++ byte ∷ []) held) 0 (full-none more (s ++ 0 ∷ []) held (none-more s (0 ∷ []) held none)) (omega arith)

-- one that a held lead begins is
pub full-inside : (more : ℕ) (s : List ℕ) (held : List (List ℕ)) → list_any (λ m. is_front m s) held ≡ true → is_full more s held ≡ true
unfolding is_full
full-inside zero s held any = ap (λ t. not (not t)) (any-weaken (λ m. is_front m s) (overlap s) (λ m h. front-overlap m s h) held any)
full-inside (suc more) s held any =
    all-bytes (λ byte. is_full more (s ++ byte ∷ []) held)
    (λ byte below. full-inside more (s ++ byte ∷ []) held
    (any-weaken (λ m. is_front m s) (λ m. is_front m (s ++ byte ∷ [])) (λ m h. front-more m s (byte ∷ []) h) held any))

-- with no more bytes it is full where something overlaps it
pub full-here : (s : List ℕ) (held : List (List ℕ)) (t : Bool) → list_any (overlap s) held ≡ t → is_full zero s held ≡ t
unfolding is_full
full-here s held true any = ap (λ e. not (not e)) any
full-here s held false any = ap (λ e. not (not e)) any

pub full-more : (more : ℕ) (s : List ℕ) (held : List (List ℕ)) → is_full (suc more) s held ≡ all_bytes (λ byte. is_full more (s ++ byte ∷ []) held)
unfolding is_full
full-more more s held = refl

-- no lead behind a full string is free
pub full-strings : (more : ℕ) (s t : List ℕ) (held : List (List ℕ)) → is_full more s held ≡ true → length t ≡ more → AllByRecursion (λ byte. byte < 256) t
    → is_free held (s ++ t) ≡ false
unfolding is_full
full-strings zero s [] held full long each = subst (λ u. is_free held u ≡ false) (sym (append-nil s)) (not-true (is_free held s) full)
full-strings zero s (x ∷ t) held full long each = absurd (omega (arith, long))
full-strings (suc more) s [] held full long each = absurd (omega (arith, long))
full-strings (suc more) s (x ∷ t) held full long each =
    subst (λ u. is_free held u ≡ false) (append_assoc s (x ∷ []) t)
    (full-strings more (s ++ x ∷ []) t held (all-bytes-at (λ byte. is_full more (s ++ byte ∷ []) held) x full each.0) (omega (arith, long)) each.1)
