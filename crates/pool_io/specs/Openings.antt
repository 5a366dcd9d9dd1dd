-- What contracts see of the calls by which a host opens things, and of what it gives by name (this
-- project's own).
use Rattle.std.specs.Prelude.{ℕ, List, [], ◌∷◌, ◌++◌, Option, None, Some, Result, Ok, Err}
use Rattle.pool_io.specs.declared.host.HostError.{HostError}
use Rattle.pool_io.specs.declared.host.HostError.TheVariants as host
use Rattle.pool_io.specs.declared.opening.Opening.{Opening}
use Rattle.pool_io.specs.declared.turn.Turn.{Turn}
use Rattle.pool_io.specs.Lending.{Lending, lent_one, with_back}
use Rattle.pool_io.specs.Seen.{KeeperSeen}

-- of a host
pub record Openings : Type 0 where
  -- the opening calls so far, in their order, where they are told
  pub calls : Option (List Opening)
  -- what a file of this name brings, where it is told
  pub brings : List ℕ → Option (List Turn)
  pub keepers : Lending KeeperSeen

-- one more call, where the calls are told
abbrev pub calls_and : Option (List Opening) → Opening → Option (List Opening)
calls_and None call = None
calls_and (Some calls) call = Some (calls ++ call ∷ [])

-- the same of all that is seen of the openings
abbrev pub openings_and : Openings → Opening → Openings
openings_and old call = record {
  calls = calls_and old.calls call;
  brings = old.brings;
  keepers = old.keepers;
}

-- once a call has answered, it is told, and nothing else has changed; one that found no memory isn't
-- told
abbrev pub openings_after : {A : Type 0} → Opening → Result A HostError → Openings → Openings
openings_after call (Ok given) old = openings_and old call
openings_after call (Err host.Failed) old = openings_and old call
openings_after call (Err host.Memory) old = old

-- the same where a keeper was asked for: one that was given is out
abbrev pub openings_after_keeper : {A : Type 0} → Opening → Result A HostError → Openings → Openings
openings_after_keeper call (Ok given) old = record {
  calls = calls_and old.calls call;
  brings = old.brings;
  keepers = lent_one old.keepers;
}
openings_after_keeper call (Err host.Failed) old = openings_and old call
openings_after_keeper call (Err host.Memory) old = old

-- a keeper that was out has come back
abbrev pub with_keeper_back : Openings → KeeperSeen → Openings
with_keeper_back old keeper = record old { keepers = with_back old.keepers keeper }
