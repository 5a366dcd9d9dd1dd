-- What was done on a network (this project's own).
use Rattle.std.specs.Prelude.{◌≡◌, ℕ, ◌<◌, List}
use Rattle.pool_base.specs.Counts.{Rose}
use Rattle.pool_io.specs.declared.host.HostError.{HostError}
use Rattle.pool_network.specs.Networks.{NetworkSeen}
use Rattle.pool_network.specs.Seen.{DoorSeen, LinkSeen}
use Rattle.door_threads.specs.Failing.{SomeDoorFailed}
use Rattle.door_threads.specs.Places.{GivesBoth, IsUnserved, Places}
use Rattle.share_ledger.specs.Books.{BookSeen}
use Rattle.session_steps.specs.declared.ends.SessionEnd.{SessionEnd}
use Rattle.pool_server.specs.Parts.{Service}
use Rattle.pool_server.specs.Serving.{HasRun}
use Rattle.pool_commands.specs.declared.serve_pool.Reached.{Reached}
use Rattle.pool_commands.specs.declared.serve_pool.Reached.TheVariants as reached

-- The feed's link was served by the first worker, and each door by a later one, all on one book.
pub record ServedOnNetwork (service : Service) (places : Places) (old new : NetworkSeen)
    (begun ended : BookSeen) (reason : SessionEnd) (ledger_faults door_faults door_memory : ℕ) :
    Type 0 where
  pub link : LinkSeen
  pub link_back : LinkSeen
  pub doors : List DoorSeen
  pub doors_back : List DoorSeen
  pub gives : GivesBoth places old new link link_back doors doors_back
  pub ran : HasRun service (record { book = begun; doors = doors; feed = link })
      (record { book = ended; doors = doors_back; feed = link_back }) reason ledger_faults
      door_faults door_memory
  -- a fault of the keeper is counted only where its count rose, and one of doors only where one's did
  pub keeper_failed : 0 < ledger_faults → Rose begun.keeper.faults ended.keeper.faults
  pub doors_failed : 0 < door_faults → SomeDoorFailed doors doors_back

-- what became of a book: it was served on, or no session began
pub data ReachedSeen : Type 0 where
  Served : (ended : BookSeen) (reason : SessionEnd) (ledger_faults door_faults door_memory : ℕ)
      → ReachedSeen
  Unserved : (ended : BookSeen) (error : HostError) → ReachedSeen

abbrev pub reached_seen : {K : Type 0} → Reached K → ReachedSeen
reached_seen (reached.Ran ended reason ledger_faults door_faults door_memory) =
    Served ended reason ledger_faults door_faults door_memory
reached_seen (reached.Unserved ended error) = Unserved ended error

-- what was done with a book
abbrev pub ServesOnNetwork :
    Service → Places → NetworkSeen → NetworkSeen → BookSeen → ReachedSeen → Type 0
ServesOnNetwork service places old new begun
    (Served ended reason ledger_faults door_faults door_memory) =
    ServedOnNetwork service places old new begun ended reason ledger_faults door_faults door_memory
ServesOnNetwork service places old new begun (Unserved ended error) =
    (ended ≡ begun) × IsUnserved places old new error
