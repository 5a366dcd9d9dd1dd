-- A list of places and its slots, where a place is listed or taken off.
use Rattle.std.proofs.Common.{◌≡◌, ◌≢◌, ℕ, ◌+◌, ◌-◌, ◌<◌, ◌≤◌, suc, Bool, true, false, cond, nat_eq, nat_lt, get_or, set, List, [], ◌∷◌, ◌++◌, length, refl, sym, ap, ◌∙◌, subst, arith}
use Rattle.std.specs.List.{swap_remove}
use Rattle.std.proofs.lemmas.Bool.{eq-eqb, eqb-true, ltb-false, ltb-true}
use Rattle.std.proofs.lemmas.List.{get_or_append_left, get_or_default, get_or-set_other, get_or-set_same, get_or_push, length-append, length-set}
use Rattle.std.proofs.lemmas.List.Sums.{sum_by-swap_remove}
use Rattle.payouts.specs.Listings.{HasSlots, times_listed}
use Rattle.payouts.proofs.Times.{times-at, times-cons, times-find}

-- a listed place stands at its slot
pub slot-of : (places slots : List ℕ) (place : ℕ) → HasSlots places slots → 1 ≤ times_listed place places
    → (get_or slots place 0 < length places) × (get_or places (get_or slots place 0) 0 ≡ place)
slot-of places slots place is some = at (times-find place places some) where
  at : (k : ℕ) × (k < length places) × (get_or places k 0 ≡ place) → (get_or slots place 0 < length places) × (get_or places (get_or slots place 0) 0 ≡ place)
  at found = (omega (arith, slot, found.1), ap (λ n. get_or places n 0) slot ∙ found.2) where
    slot : get_or slots place 0 ≡ found.0
    slot = ap (λ p. get_or slots p 0) (sym found.2) ∙ is.stands found.0 found.1

-- a place that wasn't listed gets the slot behind the others
pub slotted-listed : (places slots places' slots' : List ℕ) (place : ℕ) → HasSlots places slots → place < length slots → times_listed place places ≡ 0
    → places' ≡ places ++ place ∷ [] → slots' ≡ set slots place (length places) → HasSlots places' slots'
slotted-listed places slots places' slots' place is within absent listed written =
    subst (λ ps. HasSlots ps slots') (sym listed) (subst (HasSlots (places ++ place ∷ [])) (sym written) (record { known = λ k l. (at k l).0; stands = λ k l. (at k l).1 }))
  where
    long : length (places ++ place ∷ []) ≡ suc (length places)
    long = length-append places (place ∷ []) ∙ omega arith

    at : (k : ℕ) → k < length (places ++ place ∷ []) → (get_or (places ++ place ∷ []) k 0 < length (set slots place (length places)))
        × (get_or (set slots place (length places)) (get_or (places ++ place ∷ []) k 0) 0 ≡ k)
    at k l = by_side (nat_lt k (length places)) refl where
      by_side : (t : Bool) → nat_lt k (length places) ≡ t → (get_or (places ++ place ∷ []) k 0 < length (set slots place (length places)))
          × (get_or (set slots place (length places)) (get_or (places ++ place ∷ []) k 0) 0 ≡ k)
      by_side true e = (omega (arith, before, is.known k below, length-set slots place (length places)), ap (λ p. get_or (set slots place (length places)) p 0) before ∙ get_or-set_other slots place (get_or places k 0) (length places) 0 other ∙ is.stands k below) where
        below : k < length places
        below = ltb-true k (length places) e

        before : get_or (places ++ place ∷ []) k 0 ≡ get_or places k 0
        before = get_or_append_left places (place ∷ []) 0 k below

        other : get_or places k 0 ≢ place
        other same = omega (arith, absent, times-at place places k below same)
      by_side false e = (omega (arith, last, within, length-set slots place (length places)), ap (λ p. get_or (set slots place (length places)) p 0) last ∙ get_or-set_same slots place (length places) 0 within ∙ sym end) where
        end : k ≡ length places
        end = omega (arith, ltb-false k (length places) e, l, long)

        last : get_or (places ++ place ∷ []) k 0 ≡ place
        last = ap (λ n. get_or (places ++ place ∷ []) n 0) end ∙ get_or_push places place 0 (length places) refl

-- the place that is taken off is followed at its slot by the last one
pub slotted-moved : (places slots places' slots' : List ℕ) (slot moved n : ℕ) → n ≡ length places → HasSlots places slots → slot < length places → length places' + 1 ≡ length places
    → ((d : ℕ) → slot + 1 < n → get_or places' slot d ≡ get_or places (n - 1) d)
    → ((k : ℕ) (d : ℕ) → k ≢ slot → k + 1 < n → get_or places' k d ≡ get_or places k d)
    → slot < length places' → moved ≡ get_or places' slot moved → slots' ≡ set slots moved slot → HasSlots places' slots'
slotted-moved places slots places' slots' slot moved n whole is within shorter put others inner read written =
    subst (HasSlots places') (sym written) (record { known = λ k l. (at k l).0; stands = λ k l. (at k l).1 })
  where
    is_end : moved ≡ get_or places (length places - 1) 0
    is_end = read ∙ put moved (omega (arith, inner, shorter, whole)) ∙ ap (λ m. get_or places (m - 1) moved) whole ∙ get_or_default places (length places - 1) moved 0 (omega (arith, within))

    known : moved < length slots
    known = subst (λ n. n < length slots) (sym is_end) (is.known (length places - 1) (omega (arith, within)))

    at : (k : ℕ) → k < length places' → (get_or places' k 0 < length (set slots moved slot)) × (get_or (set slots moved slot) (get_or places' k 0) 0 ≡ k)
    at k l = by_side (nat_eq k slot) refl where
      by_side : (t : Bool) → nat_eq k slot ≡ t → (get_or places' k 0 < length (set slots moved slot)) × (get_or (set slots moved slot) (get_or places' k 0) 0 ≡ k)
      by_side true e = (omega (arith, here, known, length-set slots moved slot), ap (λ p. get_or (set slots moved slot) p 0) here ∙ get_or-set_same slots moved slot 0 known ∙ sym same) where
        same : k ≡ slot
        same = eqb-true k slot e

        here : get_or places' k 0 ≡ moved
        here = ap (λ n. get_or places' n 0) same ∙ get_or_default places' slot 0 moved inner ∙ sym read
      by_side false e = (omega (arith, there, is.known k below, length-set slots moved slot), ap (λ p. get_or (set slots moved slot) p 0) there ∙ get_or-set_other slots moved (get_or places k 0) slot 0 apart ∙ is.stands k below) where
        other : k ≢ slot
        other same = cc (eq-eqb k slot same)

        below : k < length places
        below = omega (arith, l, shorter)

        there : get_or places' k 0 ≡ get_or places k 0
        there = others k 0 other (omega (arith, l, shorter, whole))

        apart : get_or places k 0 ≢ moved
        apart same = omega (arith, l, shorter, sym (is.stands k below) ∙ ap (λ p. get_or slots p 0) (same ∙ is_end) ∙ is.stands (length places - 1) (omega (arith, within)))

-- the last place is taken off
pub slotted-last : (places slots places' : List ℕ) (slot n : ℕ) → n ≡ length places → HasSlots places slots → slot < length places → length places' + 1 ≡ length places
    → ((k : ℕ) (d : ℕ) → k ≢ slot → k + 1 < n → get_or places' k d ≡ get_or places k d)
    → length places' ≤ slot → HasSlots places' slots
slotted-last places slots places' slot n whole is within shorter others outer = record { known = λ k l. (at k l).0; stands = λ k l. (at k l).1 } where
  at : (k : ℕ) → k < length places' → (get_or places' k 0 < length slots) × (get_or slots (get_or places' k 0) 0 ≡ k)
  at k l = (omega (arith, there, is.known k below), ap (λ p. get_or slots p 0) there ∙ is.stands k below) where
    other : k ≢ slot
    other same = omega (arith, same, l, outer)

    below : k < length places
    below = omega (arith, l, shorter)

    there : get_or places' k 0 ≡ get_or places k 0
    there = others k 0 other (omega (arith, l, shorter, whole))

-- how often places are listed then
pub times-taken : (places places' : List ℕ) (place slot other gone : ℕ) → slot < length places → get_or places slot 0 ≡ place → places' ≡ swap_remove places slot gone
    → times_listed other places ≡ times_listed other (place ∷ places')
times-taken places places' place slot other gone within at taken =
    omega (
      arith,
      times-cons other place places',
      ap (times_listed other) taken,
      sum_by-swap_remove (λ (listed : ℕ). cond (nat_eq listed other) 1 0) places slot gone within,
      ap {B = ℕ} (λ n. cond (nat_eq n other) 1 0) (get_or_default places slot gone 0 within ∙ at),
    )
