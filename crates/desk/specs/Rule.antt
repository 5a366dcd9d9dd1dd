-- The rule that ties a desk's word, its slot and what all seats know (this project's own).
use Rattle.std.specs.Prelude.{◌≡◌, ℕ, ◌+◌, ◌*◌, ◌≤◌, Bool, true, false, List, [], ◌∷◌, length, Option, Some}
use Rattle.std.specs.List.{flat_map}
use Rattle.std.specs.List.Sorted.{IsPermutation}
use mathlib.Core.Option as maybe
use lib.ListN.{get_elem?}
use Rattle.atomic_table.specs.Table.{State}
use Rattle.pool_base.specs.Lists.{Begins}
use Rattle.pool_base.specs.Calls.{Call, GoodCalls, PartsFrom}
use Rattle.desk.specs.declared.rule.Held.{Held}
use Rattle.desk.specs.Machines.{Health}
use Rattle.desk.specs.Views.{View, workers_from}

-- 1 while a seat has the turn
abbrev pub turns_out : maybe.Option ℕ → ℕ
turns_out maybe.none = 0
turns_out (maybe.some seat) = 1

-- what a seat knows fits the history
pub record FitsHistory {E Q R F : Type 0} (log : List (Call E Q R F)) (events : List E) (most : Health)
    (holder : maybe.Option ℕ) (seat : ℕ) (view : View E Q R F) : Type 0 where
  pub seen : Begins view.seen events
  pub told : Begins view.told events
  pub known : view.known ≤ length log
  pub turn : view.has_turn ≡ true
      → (holder ≡ maybe.some seat) × (view.seen ≡ events) × (view.known ≡ length log)
      × (view.base ≡ most)
  pub idle : view.workers ≡ [] → (view.calls ≡ []) × (view.has_turn ≡ false)

-- the machine is in the slot
pub record IsAtHome {E Q R F M : Type 0} (events_of : M → List E) (health_of : M → Health)
    (homes : List (maybe.Option (Option (Held M Q R F)))) (events : List E) (most : Health) : Type 0 where
  pub held : Held M Q R F
  pub there : get_elem? homes 0 ≡ maybe.some (maybe.some (Some held))
  pub events_are : events_of held.machine ≡ events
  pub health_is : health_of held.machine ≡ most

-- the seat has the turn
pub record HasTurn {E Q R F : Type 0} (views : List (View E Q R F)) (seat : ℕ) : Type 0 where
  pub view : View E Q R F
  pub there : get_elem? views seat ≡ maybe.some view
  pub has_turn : view.has_turn ≡ true

-- the word is twice the count of calls, and 1 more while a seat has the turn; all calls, one after
-- the other, are what became of the machine that was there at the start, which tells what that one told;
-- the calls and the workers of all seats are all calls and all workers
pub record IsOneHistory {E Q R F M : Type 0}
    (answers : List E → ℕ → Q → List E → R → Type 0) (wants_memory : F → Bool)
    (events_of : M → List E) (health_of : M → Health) (start : M) (count : ℕ)
    (s : State (Option (Held M Q R F)) (View E Q R F)) : Type 0 where
  pub log : List (Call E Q R F)
  pub events : List E
  pub most : Health
  pub holder : maybe.Option ℕ
  pub word : s.words ≡ (2 * length log + turns_out holder) ∷ []
  pub parts : PartsFrom (events_of start) 0 (health_of start).faults events most.faults log
  pub good : GoodCalls answers wants_memory events log
  pub tells : most.tells ≡ (health_of start).tells
  pub home : holder ≡ maybe.none → IsAtHome events_of health_of s.homes events most
  pub held : (seat : ℕ) → holder ≡ maybe.some seat → HasTurn s.views seat
  pub fits : (seat : ℕ) (view : View E Q R F) → get_elem? s.views seat ≡ maybe.some view
      → FitsHistory log events most holder seat view
  pub all_calls : IsPermutation log (flat_map (λ (view : View E Q R F). view.calls) s.views)
  pub all_workers :
      IsPermutation (workers_from 0 count) (flat_map (λ (view : View E Q R F). view.workers) s.views)
