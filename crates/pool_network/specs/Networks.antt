-- What contracts see of a network, and what one call does to it (this project's own).
use Rattle.std.specs.Prelude.{◌≡◌, ℕ, List, [], ◌∷◌, ◌++◌, Option, None, Some, Result, Ok, Err}
use Rattle.pool_io.specs.declared.host.HostError.{HostError}
use Rattle.pool_io.specs.declared.host.HostError.TheVariants as host
use Rattle.pool_io.specs.Lending.{Lending}
use Rattle.pool_io.specs.Outside.{CountsFailure, is_failed_gift}
use Rattle.pool_network.specs.declared.network.Reaching.{Reaching}
use Rattle.pool_network.specs.Seen.{DoorSeen, LinkSeen}

-- a network
pub record NetworkSeen : Type 0 where
  -- how often it has failed
  pub faults : ℕ
  -- the calls that named an address so far, in their order, where they are told
  pub calls : Option (List Reaching)
  -- the links that it will give, and the doors, where they are told
  pub to_dial : Option (List LinkSeen)
  pub to_open : Option (List DoorSeen)
  -- the links that are out, and those that came back; the same of the lists of doors
  pub links : Lending LinkSeen
  pub doors : Lending (List DoorSeen)

-- one more call, where the calls are told
abbrev pub reaching_and : Option (List Reaching) → Reaching → Option (List Reaching)
reaching_and None call = None
reaching_and (Some calls) call = Some (calls ++ call ∷ [])

-- once a call has answered, it is told; one that found no memory isn't told
abbrev pub calls_after : {A : Type 0} → Reaching → Result A HostError → Option (List Reaching)
    → Option (List Reaching)
calls_after call (Ok given) calls = reaching_and calls call
calls_after call (Err host.Failed) calls = reaching_and calls call
calls_after call (Err host.Memory) calls = calls

-- what was given are the next ones of those that are told; one that told nothing tells nothing
abbrev pub GivesNext : {A : Type 0} → Option (List A) → Option (List A) → List A → Type 0
GivesNext None new given = new ≡ None
GivesNext {A} (Some told) new given =
    (left : List A) × (new ≡ Some left) × (told ≡ given ++ left)

-- a call that named an address was refused: nothing else changed
pub record IsRefusedReaching (call : Reaching) (old new : NetworkSeen) (error : HostError) : Type 0 where
  pub stays : new ≡ record old { faults = new.faults; calls = new.calls }
  pub calls : new.calls ≡ calls_after {A = Unit {0}} call (Err error) old.calls
  pub counts : CountsFailure (is_failed_gift {A = Unit {0}} (Err error)) old.faults new.faults
