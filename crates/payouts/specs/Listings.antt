-- Places that are listed in no order, each with the slot at which it stands (this project's own).
use Rattle.std.specs.Prelude.{◌≡◌, ℕ, ◌<◌, if◌then◌else◌, List, length, count_by, nat_eq, nat_lt, slice_index}

-- how often a place is listed
abbrev pub times_listed : ℕ → List ℕ → ℕ
times_listed place places = count_by (λ listed. nat_eq listed place) places

-- each place that has a weight is listed once, and no other is
pub record ListsOnce (numbers places : List ℕ) : Type 0 where
  pub each : (place : ℕ) → times_listed place places
      ≡ (if nat_lt 0 (slice_index numbers place) then 1 else 0)

-- each listed place has the slot at which it stands
pub record HasSlots (places slots : List ℕ) : Type 0 where
  pub known : (slot : ℕ) → slot < length places → slice_index places slot < length slots
  pub stands : (slot : ℕ) → slot < length places
      → slice_index slots (slice_index places slot) ≡ slot

-- a weight that isn't 0 is at one of these places
abbrev pub HasWeightsAt : List ℕ → List ℕ → Type 0
HasWeightsAt numbers places =
    (place : ℕ) → times_listed place places ≡ 0 → slice_index numbers place ≡ 0

-- the places that have a weight are listed, with a slot for each account
pub record IsWeighed (numbers places slots : List ℕ) : Type 0 where
  pub once : ListsOnce numbers places
  pub slotted : HasSlots places slots
  pub same_length : length slots ≡ length numbers
