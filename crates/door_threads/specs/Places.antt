-- A link to a peer and doors at an address, as a network gives them and takes them back (this project's own).
use Rattle.std.specs.Prelude.{◌≡◌, ◌⊎◌, ℕ, List, [], ◌∷◌, map, Option, Result, Ok, Err, length}
use Rattle.pool_io.specs.declared.host.HostError.{HostError}
use Rattle.pool_io.specs.declared.host.HostError.TheVariants as host
use Rattle.pool_io.specs.Hosts.{CameBack}
use Rattle.pool_io.specs.Lending.{lent_one}
use Rattle.pool_io.specs.Outside.{CountsFailure, is_failed_gift}
use Rattle.pool_network.specs.declared.network.Reaching.{Reaching}
use Rattle.pool_network.specs.declared.network.Reaching.TheVariants as reaching
use Rattle.pool_network.specs.Networks.{GivesNext, IsRefusedReaching, NetworkSeen, calls_after}
use Rattle.pool_network.specs.Seen.{DoorSeen, LinkSeen}
use Rattle.door_threads.specs.declared.places.Opened.{Opened}

-- who is dialled, where others are let in, and at how many doors
pub record Places : Type 0 where
  pub peer : List ℕ
  pub address : List ℕ
  pub doors : ℕ

-- the network's calls once it gave a link to the peer, and once it was then asked for doors
abbrev pub calls_for_peer : Places → Option (List Reaching) → Option (List Reaching)
calls_for_peer places calls = calls_after {A = Unit {0}} (reaching.Dial places.peer) (Ok tt) calls

abbrev pub call_for_doors : Places → Reaching
call_for_doors places = reaching.Doors places.address places.doors

abbrev pub calls_for_both : Places → Option (List Reaching) → Option (List Reaching)
calls_for_both places calls =
    calls_after {A = Unit {0}} (call_for_doors places) (Ok tt) (calls_for_peer places calls)

-- a link to the peer and so many doors were given, and are out
pub record AreOpened (places : Places) (old new : NetworkSeen) (link : LinkSeen)
    (doors : List DoorSeen) : Type 0 where
  pub dialled : GivesNext old.to_dial new.to_dial (link ∷ [])
  pub opened : GivesNext old.to_open new.to_open doors
  pub as_many : length doors ≡ places.doors
  pub links : new.links ≡ lent_one old.links
  pub lists : new.doors ≡ lent_one old.doors
  pub faults : new.faults ≡ old.faults
  pub calls : new.calls ≡ calls_for_both places old.calls

-- they were given, and all came back
pub record GivesBoth (places : Places) (old new : NetworkSeen) (link link_back : LinkSeen)
    (doors doors_back : List DoorSeen) : Type 0 where
  pub dialled : GivesNext old.to_dial new.to_dial (link ∷ [])
  pub opened : GivesNext old.to_open new.to_open doors
  pub as_many : length doors ≡ places.doors
  pub links : CameBack old.links new.links link_back
  pub lists : CameBack old.doors new.doors doors_back
  pub faults : new.faults ≡ old.faults
  pub calls : new.calls ≡ calls_for_both places old.calls

-- a link was given and no doors: the link came back as it was given
pub record HasNoDoors (places : Places) (old new : NetworkSeen) (error : HostError) : Type 0 where
  pub link : LinkSeen
  pub dialled : GivesNext old.to_dial new.to_dial (link ∷ [])
  pub links : CameBack old.links new.links link
  pub stays : new ≡ record old {
    faults = new.faults;
    calls = new.calls;
    to_dial = new.to_dial;
    links = new.links;
  }
  pub calls : new.calls
      ≡ calls_after {A = Unit {0}} (call_for_doors places) (Err error)
      (calls_for_peer places old.calls)
  pub counts : CountsFailure (is_failed_gift {A = Unit {0}} (Err error)) old.faults new.faults

-- no link was given, or no doors
abbrev pub HasNoPlaces : Places → NetworkSeen → NetworkSeen → HostError → Type 0
HasNoPlaces places old new error =
    IsRefusedReaching (reaching.Dial places.peer) old new error ⊎ HasNoDoors places old new error

-- both were given, and there was no memory to serve them: they came back as they were given
pub record HasNoMemory (places : Places) (old new : NetworkSeen) (error : HostError) : Type 0 where
  pub link : LinkSeen
  pub doors : List DoorSeen
  pub gives : GivesBoth places old new link link doors doors
  pub error_is : error ≡ host.Memory

-- nobody was served
abbrev pub IsUnserved : Places → NetworkSeen → NetworkSeen → HostError → Type 0
IsUnserved places old new error =
    HasNoPlaces places old new error ⊎ HasNoMemory places old new error

-- what came of asking for both
abbrev pub OpensPlaces : {D L : Type 0} → (D → DoorSeen) → (L → LinkSeen) → Places → NetworkSeen
    → NetworkSeen → Result (Opened D L) HostError → Type 0
OpensPlaces door link places old new (Ok opened) =
    AreOpened places old new (link opened.link) (map door opened.doors.items)
OpensPlaces door link places old new (Err error) = HasNoPlaces places old new error

-- as many links and lists of doors are out as before
abbrev pub AreUnlent : NetworkSeen → NetworkSeen → Type 0
AreUnlent old new = (new.links.lent ≡ old.links.lent) × (new.doors.lent ≡ old.doors.lent)
