-- What each step on a desk's table tells the seat that makes it (this project's own).
use Rattle.std.specs.Prelude.{◌≡◌, ◌≢◌, ℕ, ◌+◌, ◌/◌, ◌≤◌, Bool, true, false, List, [], ◌∷◌, ◌++◌, length, drop, Option, Some, None, Result, Ok, Err}
use Rattle.atomic_table.specs.Table.{Me, Step}
use Rattle.atomic_table.specs.Seated.{TableId}
use Rattle.pool_base.specs.Lists.{Begins}
use Rattle.pool_base.specs.Calls.{Call, IsOutcome, Outcome, Replied, Faulted}
use Rattle.desk.specs.declared.rule.Held.{Held}
use Rattle.desk.specs.declared.rule.Note.{Note}
use Rattle.desk.specs.Machines.{Health, IsLaterHealth}
use Rattle.desk.specs.Views.{View, acting_view, looking_view, longer}

-- one word and one slot
abbrev pub IsSized : TableId → Type 0
IsSized table = (table.words ≡ 1) × (table.slots ≡ 1)

-- how a call ended
abbrev pub outcome_of : {R F : Type 0} → Result R F → Outcome R F
outcome_of (Ok reply) = Replied reply
outcome_of (Err fault) = Faulted fault

-- the seat has the turn and the machine, which has all that the seat had seen
pub record IsTaken {E Q R F M : Type 0} (events_of : M → List E) (health_of : M → Health)
    (before : Me (Option (Held M Q R F)) (View E Q R F)) (count : ℕ)
    (after : Me (Option (Held M Q R F)) (View E Q R F)) : Type 0 where
  pub held : Held M Q R F
  pub is : after
      ≡ (
        acting_view before.0 count (events_of held.machine) (health_of held.machine),
        (0, Some held) ∷ before.1,
      )
  pub known : before.0.known ≤ count
  pub seen : Begins before.0.seen (events_of held.machine)

-- where the word was as expected the turn is taken; else nothing changes
abbrev pub Takes :
    {E Q R F M : Type 0} → (M → List E) → (M → Health) → Step (Option (Held M Q R F))
    → Me (Option (Held M Q R F)) (View E Q R F) → ℕ → Me (Option (Held M Q R F)) (View E Q R F)
    → Type 0
Takes events_of health_of step before found after =
    (found ≢ step.first → after ≡ before)
    × (found ≡ step.first → IsTaken events_of health_of before (found / 2) after)

-- the call that a note is of, made by a seat that has the turn
abbrev pub call_of :
    {E Q R F : Type 0} → View E Q R F → List E → Health → Note Q R F → Call E Q R F
call_of view events health note = record {
  worker = note.worker;
  number = view.known;
  front = length view.seen;
  faults_before = view.base.faults;
  faults_after = health.faults;
  asked = note.asked.value;
  outcome = outcome_of note.answer.value;
  added = drop (length view.seen) events;
}

-- the note's call is the next: its seat has the turn, and the machine answered it after all that the
-- seat had seen
pub record IsNextCall {E Q R F : Type 0} (answers : List E → ℕ → Q → List E → R → Type 0)
    (wants_memory : F → Bool)
    (view : View E Q R F) (events : List E) (health : Health) (note : Note Q R F) : Type 0 where
  pub worker : ℕ
  pub has_turn : view.has_turn ≡ true
  pub workers : view.workers ≡ worker ∷ []
  pub seen : Begins view.seen events
  pub later : IsLaterHealth view.base health
  pub outcome : IsOutcome answers wants_memory view.seen (call_of view events health note)
      (outcome_of note.answer.value)

-- a seat after a call of its own, which left these events
abbrev pub called_view : {E Q R F : Type 0} → View E Q R F → List E → Call E Q R F → View E Q R F
called_view view events call = record view {
  seen = events;
  known = view.known + 1;
  calls = view.calls ++ call ∷ [];
  has_turn = false;
}

-- a seat after it put back what it carried
abbrev pub view_noted :
    {E Q R F : Type 0} → View E Q R F → List E → Health → Option (Note Q R F) → View E Q R F
view_noted view events health None = view
view_noted view events health (Some note) =
    called_view view events (call_of view events health note)

abbrev pub view_laid :
    {E Q R F M : Type 0} → (M → List E) → (M → Health) → View E Q R F → Option (Held M Q R F) → View E Q R F
view_laid events_of health_of view None = view
view_laid events_of health_of view (Some held) =
    view_noted view (events_of held.machine) (health_of held.machine) held.note

abbrev pub view_after_put :
    {E Q R F M : Type 0} → (M → List E) → (M → Health) → View E Q R F → List (ℕ × Option (Held M Q R F))
    → View E Q R F
view_after_put events_of health_of view [] = view
view_after_put events_of health_of view (slot ∷ slots) =
    view_laid events_of health_of view slot.1

-- the machine is back in its slot, and the seat has one call more
abbrev pub Puts :
    {E Q R F M : Type 0} → (M → List E) → (M → Health) → Step (Option (Held M Q R F))
    → Me (Option (Held M Q R F)) (View E Q R F) → ℕ → Me (Option (Held M Q R F)) (View E Q R F)
    → Type 0
Puts events_of health_of step before found after =
    after ≡ (view_after_put events_of health_of before.0 before.1, [])

-- the count of calls is known, and the longer of what was seen and told begins with both
pub record HasLooked {E Q R F S : Type 0} (before : Me S (View E Q R F)) (count : ℕ)
    (after : Me S (View E Q R F)) : Type 0 where
  pub is : after ≡ (looking_view before.0 count, before.1)
  pub known : before.0.known ≤ count
  pub seen : Begins before.0.seen (longer before.0.seen before.0.told)
  pub told : Begins before.0.told (longer before.0.seen before.0.told)

abbrev pub Looks :
    {E Q R F S : Type 0} → Step S → Me S (View E Q R F) → ℕ → Me S (View E Q R F) → Type 0
Looks step before found after = HasLooked before (found / 2) after
