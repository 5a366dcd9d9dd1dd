-- The owners stand in the order of their jobs' numbers, so one of them is found without a walk.
use Rattle.std.proofs.Common.{◌≡◌, ℕ, zero, suc, ◌+◌, ◌<◌, ◌≤◌, Bool, true, false, ◌==◌, ◌&&◌, ◌||◌, not, List, [], ◌∷◌, ◌++◌, length, get_or, refl, ap, sym, subst, ◌∙◌, arith}
use Rattle.std.proofs.lemmas.Bool.{lt-ltb, ltb-false, ltb-true, ne_eqb}
use Rattle.std.specs.List.Sorted.{IsPartitionedBy}
use Rattle.std.specs.List.{AllByRecursion, AllWithin, list_any}
use Rattle.std.specs.Prelude.{nat_lt, slice_get}
use Rattle.pool_history.proofs.PlacesOfClasses.{all-end, all-weaken}
use Rattle.history_laws.specs.KeptJobs.{is_others}
use Rattle.template_jobs.specs.declared.owner.Owner.{Owner}
use Rattle.template_jobs.specs.Owners.{AreRising, other_at, own_job}

-- another number is no owner's
apart : (channel number : ℕ) (owner : Owner) → (owner.job ≡ number → ⊥) → is_others channel number (own_job owner) ≡ false
apart channel number owner other = ap (λ b. b && not (owner.channel == channel)) (ne_eqb owner.job number other)

none-later : (channel number least : ℕ) (owners : List Owner) → number ≤ least → AllByRecursion (λ owner. least < owner.job) owners
    → list_any (λ owner. is_others channel number (own_job owner)) owners ≡ false
none-later channel number least [] low all = refl
none-later channel number least (owner ∷ owners) low all =
    let first : least < owner.job = all.0 in
    ap (λ b. b || list_any (λ other. is_others channel number (own_job other)) owners)
    (apart channel number owner (λ same. omega (arith, low, first, same)))
    ∙ none-later channel number least owners low all.1

or-false : (b : Bool) → b || false ≡ b
or-false true = refl
or-false false = refl

-- the owner at the place behind those with lower numbers tells it all
pub others-at : (channel number at : ℕ) (owners : List Owner) → AreRising owners
    → AllWithin (λ owner. nat_lt owner.job number ≡ true) owners 0 at
    → AllWithin (λ owner. nat_lt owner.job number ≡ false) owners at (length owners)
    → at ≤ length owners
    → list_any (λ owner. is_others channel number (own_job owner)) owners ≡ other_at channel number (slice_get owners at)
others-at channel number at [] rising low high within = refl
others-at channel number zero (owner ∷ owners) rising low high within =
    let least : number ≤ owner.job = ltb-false owner.job number (high 0 owner (omega arith) (omega arith)) in
    ap (λ b. is_others channel number (own_job owner) || b) (none-later channel number owner.job owners least rising.0)
    ∙ or-false (is_others channel number (own_job owner))
others-at channel number (suc at) (owner ∷ owners) rising low high within =
    let lower : owner.job < number = ltb-true owner.job number (low 0 owner (omega arith) (omega arith)) in
    ap (λ b. b || list_any (λ other. is_others channel number (own_job other)) owners)
    (apart channel number owner (λ same. omega (arith, lower, same)))
    ∙ others-at channel number at owners rising.1
    (λ k d from to. low (suc k) d (omega arith) (omega (arith, to)))
    (λ k d from to. high (suc k) d (omega (arith, from)) (omega (arith, to)))
    (omega (arith, within))

-- one that stands before another has a lower number
all-at : (P : Owner → Type 0) (owners : List Owner) (k : ℕ) (d : Owner) → k < length owners → AllByRecursion P owners → P (get_or owners k d)
all-at P [] k d within all = absurd (omega (arith, within))
all-at P (owner ∷ owners) zero d within all = all.0
all-at P (owner ∷ owners) (suc k) d within all = all-at P owners k d (omega (arith, within)) all.1

pub rising-at : (owners : List Owner) (i j : ℕ) (d : Owner) → AreRising owners → i ≤ j → j < length owners → (get_or owners i d).job ≤ (get_or owners j d).job
rising-at [] i j d rising order within = absurd (omega (arith, within))
rising-at (owner ∷ owners) zero zero d rising order within = omega arith
rising-at (owner ∷ owners) zero (suc j) d rising order within =
    let above : owner.job < (get_or owners j d).job = all-at (λ other. owner.job < other.job) owners j d (omega (arith, within)) rising.0 in
    omega (arith, above)
rising-at (owner ∷ owners) (suc i) zero d rising order within = absurd (omega (arith, order))
rising-at (owner ∷ owners) (suc i) (suc j) d rising order within = rising-at owners i j d rising.1 (omega (arith, order)) (omega (arith, within))

-- one more
pub rising-end : (owners : List Owner) (owner : Owner) → AreRising owners → AllByRecursion (λ other. other.job < owner.job) owners → AreRising (owners ++ owner ∷ [])
rising-end [] owner rising all = (tt, tt)
rising-end (first ∷ owners) owner rising all = (all-end (λ other. first.job < other.job) owners owner rising.0 all.0, rising-end owners owner rising.1 all.1)

-- numbers that were at most so many are at most one more
pub numbered-more : (count : ℕ) (owners : List Owner) → AllByRecursion (λ owner. owner.job ≤ count) owners → AllByRecursion (λ owner. owner.job ≤ count + 1) owners
numbered-more count owners all = all-weaken (λ owner. owner.job ≤ count) (λ owner. owner.job ≤ count + 1) (λ owner few. omega (arith, few)) owners all

-- the next number's owner stands behind the others
pub rising-next : (count channel : ℕ) (owners next : List Owner) → next ≡ owners ++ record { job = count + 1; channel = channel } ∷ []
    → AllByRecursion (λ owner. owner.job ≤ count) owners → AreRising owners → AreRising next
rising-next count channel owners next is all rising =
    subst AreRising (sym is) (rising-end owners (record { job = count + 1; channel = channel }) rising
    (all-weaken (λ owner. owner.job ≤ count) (λ owner. owner.job < count + 1) (λ owner few. omega (arith, few)) owners all))

pub numbered-next : (count channel : ℕ) (owners next : List Owner) → next ≡ owners ++ record { job = count + 1; channel = channel } ∷ []
    → AllByRecursion (λ owner. owner.job ≤ count) owners → AllByRecursion (λ owner. owner.job ≤ count + 1) next
numbered-next count channel owners next is all =
    subst (AllByRecursion (λ owner. owner.job ≤ count + 1)) (sym is)
    (all-end (λ owner. owner.job ≤ count + 1) owners (record { job = count + 1; channel = channel }) (numbered-more count owners all) (omega arith))

-- no job of a lower number stands behind one of a higher
pub rising-parted : (number : ℕ) (owners : List Owner) → AreRising owners → IsPartitionedBy (λ owner. nat_lt owner.job number) owners
rising-parted number owners rising i j d order within lower =
    let least : (get_or owners i d).job ≤ (get_or owners j d).job = rising-at owners i j d rising order within in
    lt-ltb (get_or owners i d).job number (omega (arith, least, ltb-true (get_or owners j d).job number lower))
