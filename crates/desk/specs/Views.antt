-- What a seat at a desk's table knows, and how seats share it (this project's own). No value of it
-- is made.
use Rattle.std.specs.Prelude.{ℕ, zero, suc, ◌+◌, Bool, true, false, List, [], ◌∷◌, ◌++◌, length, take, drop, max, nat_lt, cond}
use Rattle.pool_base.specs.Calls.{Call}
use Rattle.desk.specs.Machines.{Health, tells_nothing}

-- what was seen, what was told by a seat that was joined, the known number, the own calls, the
-- workers that it calls for, whether it has the turn, and the machine's health when the turn came
pub record View (E Q R F : Type 0) : Type 0 where
  pub seen : List E
  pub told : List E
  pub known : ℕ
  pub calls : List (Call E Q R F)
  pub workers : List ℕ
  pub has_turn : Bool
  pub base : Health

-- so many workers in a row
abbrev pub workers_from : ℕ → ℕ → List ℕ
workers_from first zero = []
workers_from first (suc count) = first ∷ workers_from (first + 1) count

-- a seat that made no call yet
abbrev pub fresh_view : {E Q R F : Type 0} → List E → List ℕ → View E Q R F
fresh_view start workers = record {
  seen = start;
  told = [];
  known = 0;
  calls = [];
  workers = workers;
  has_turn = false;
  base = record { faults = 0; tells = tells_nothing };
}

-- a seat that was joined
abbrev pub spent_view : {E Q R F : Type 0} → View E Q R F
spent_view = fresh_view [] []

-- a seat of its own for the first worker, and what is left
abbrev pub dealt_view : {E Q R F : Type 0} → View E Q R F → View E Q R F
dealt_view view = fresh_view view.seen (take 1 view.workers)

abbrev pub left_view : {E Q R F : Type 0} → View E Q R F → View E Q R F
left_view view = record view { workers = drop 1 view.workers }

-- a seat that has only seen and known as much
abbrev pub telling_view : {E Q R F : Type 0} → View E Q R F → View E Q R F
telling_view view = record (fresh_view view.seen []) { known = view.known }

-- a seat with another's workers and calls, which is told what that one had seen
abbrev pub joined_view : {E Q R F : Type 0} → View E Q R F → View E Q R F → View E Q R F
joined_view view other = record {
  seen = view.seen;
  told = other.seen;
  known = max view.known other.known;
  calls = other.calls ++ view.calls;
  workers = other.workers ++ view.workers;
  has_turn = view.has_turn;
  base = view.base;
}

-- the longer of two lists
abbrev pub longer : {X : Type 0} → List X → List X → List X
longer one other = cond (nat_lt (length one) (length other)) other one

-- a seat that looks at the count of calls
abbrev pub looking_view : {E Q R F : Type 0} → View E Q R F → ℕ → View E Q R F
looking_view view count =
    record view { seen = longer view.seen view.told; told = []; known = count }

-- a seat that has the turn, with so many calls before it
abbrev pub acting_view : {E Q R F : Type 0} → View E Q R F → ℕ → List E → Health → View E Q R F
acting_view view count events health =
    record view { seen = events; known = count; has_turn = true; base = health }
