use Rattle.std.proofs.Common.{◌≡◌, ◌<◌, ◌≤◌, ◌∙◌, List, ℕ, ap, arith, get_or, length, refl, vec_len}
use Rattle.std.proofs.lemmas.List.{get_or_default}
use Rattle.payouts.specs.Listings.{HasSlots, times_listed}
use Rattle.payouts.proofs.Slotted.{slot-of, slotted-last, slotted-moved, times-taken}
use Rattle.payouts.proofs.places.unlist_place.Goals as goal

-- the place stands at its slot
found : (places slots : List ℕ) (place slot : ℕ) → HasSlots places slots → place < length slots → 1 ≤ times_listed place places → slot ≡ get_or slots place slot
    → (slot < length places) × (get_or places slot 0 ≡ place)
found places slots place slot is known some read = (omega (arith, at.0, same), ap (λ n. get_or places n 0) same ∙ at.1) where
  same : slot ≡ get_or slots place 0
  same = read ∙ get_or_default slots place slot 0 known

  at : (get_or slots place 0 < length places) × (get_or places (get_or slots place 0) 0 ≡ place)
  at = slot-of places slots place is some

pub swap_remove-place-requires : goal.swap_remove-place-requires
swap_remove-place-requires c =
    omega (arith, (found c.args.places.now.items c.args.slots.now.items c.args.place c.index-slot.result.now c.requires.slotted c.requires.known c.requires.listed c.index-slot.ensures).0)

pub returns-then-slot-len-clause-places : goal.returns-then-slot-len-clause-places
returns-then-slot-len-clause-places c =
    let at = found c.args.places.now.items c.args.slots.now.items c.args.place c.index-slot.result.now c.requires.slotted c.requires.known c.requires.listed c.index-slot.ensures in
    λ other. times-taken c.args.places.now.items c.swap_remove-place.new.self.items c.args.place c.index-slot.result.now other c.swap_remove-place.result at.0 at.1 c.swap_remove-place.ensures.items

pub returns-then-slot-len-clause-slotted : goal.returns-then-slot-len-clause-slotted
returns-then-slot-len-clause-slotted c =
    let at = found c.args.places.now.items c.args.slots.now.items c.args.place c.index-slot.result.now c.requires.slotted c.requires.known c.requires.listed c.index-slot.ensures in
    slotted-moved c.args.places.now.items c.args.slots.now.items c.swap_remove-place.new.self.items _ c.index-slot.result.now c.index-moved.result.now (vec_len c.args.places.now) (omega arith) c.requires.slotted at.0 (omega (arith, c.swap_remove-place.ensures.len))
    c.swap_remove-place.ensures.by_index.0 c.swap_remove-place.ensures.by_index.1 (omega (arith, c.if-slot-len.true, c.len.ensures)) c.index-moved.ensures refl

pub returns-else-slot-len-clause-places : goal.returns-else-slot-len-clause-places
returns-else-slot-len-clause-places c =
    let at = found c.args.places.now.items c.args.slots.now.items c.args.place c.index-slot.result.now c.requires.slotted c.requires.known c.requires.listed c.index-slot.ensures in
    λ other. times-taken c.args.places.now.items c.swap_remove-place.new.self.items c.args.place c.index-slot.result.now other c.swap_remove-place.result at.0 at.1 c.swap_remove-place.ensures.items

pub returns-else-slot-len-clause-slotted : goal.returns-else-slot-len-clause-slotted
returns-else-slot-len-clause-slotted c =
    let at = found c.args.places.now.items c.args.slots.now.items c.args.place c.index-slot.result.now c.requires.slotted c.requires.known c.requires.listed c.index-slot.ensures in
    slotted-last c.args.places.now.items c.args.slots.now.items c.swap_remove-place.new.self.items c.index-slot.result.now (vec_len c.args.places.now) (omega arith) c.requires.slotted at.0 (omega (arith, c.swap_remove-place.ensures.len))
    c.swap_remove-place.ensures.by_index.1 (omega (arith, c.if-slot-len.false, c.len.ensures))
