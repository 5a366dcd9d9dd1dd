-- What a worker did at its door, from its first asking to its last (this project's own).
use Rattle.std.specs.Prelude.{◌≡◌, ℕ, ◌-◌, ◌<◌, Bool, true, false, List, [], ◌∷◌, ◌++◌, map, Option, None, Some, Result, Ok, Err}
use Rattle.std.specs.Option.{option_map}
use Rattle.pool_io.specs.Outside.{CountsFailure}
use Rattle.pool_network.specs.declared.door.Arrival.{Arrival}
use Rattle.pool_network.specs.declared.door.Arrival.TheVariants as arrival
use Rattle.pool_network.specs.declared.door.Came.TheVariants as came
use Rattle.pool_network.specs.Doors.{AnswersSo, TakesBack}
use Rattle.pool_network.specs.Seen.{DoorSeen, LinkSeen}
use Rattle.door_threads.specs.declared.working.DoorEnd.{DoorEnd}
use Rattle.door_threads.specs.declared.working.DoorEnd.TheVariants as end

-- one answer of a door: nobody came, or somebody, whose link was served
pub data DoorAnswer : Type 0 where
  Nobody : DoorAnswer
  Somebody : (before after : LinkSeen) → DoorAnswer

-- as the door told it
abbrev pub arrival_of : DoorAnswer → Arrival LinkSeen
arrival_of Nobody = arrival.Idle
arrival_of (Somebody before after) = arrival.Caller before

-- the links that were handed back
abbrev pub links_in : List DoorAnswer → List LinkSeen
links_in [] = []
links_in (Nobody ∷ answers) = links_in answers
links_in (Somebody before after ∷ answers) = after ∷ links_in answers

-- how many Idle answers in a row are still waited for, of so many at first: the door is asked only
-- where there are some, one that came is waited for no more, and after a caller all are
abbrev pub WaitsOn : ℕ → ℕ → List DoorAnswer → ℕ → Type 0
WaitsOn door_turns turns [] now = now ≡ turns
WaitsOn door_turns turns (Nobody ∷ answers) now =
    (0 < turns) × WaitsOn door_turns (turns - 1) answers now
WaitsOn door_turns turns (Somebody before after ∷ answers) now =
    (0 < turns) × WaitsOn door_turns door_turns answers now

-- where the door tells its answers, it told these, and has the others still to come; one that told
-- nothing tells nothing
abbrev pub ComesOn :
    Option (List (Arrival LinkSeen)) → Option (List (Arrival LinkSeen)) → List DoorAnswer → Type 0
ComesOn None new answers = new ≡ None
ComesOn (Some arrivals) new answers =
    (left : List (Arrival LinkSeen)) × (new ≡ Some left) × (arrivals ≡ map arrival_of answers ++ left)

-- where it tells the links that came back, these came behind the others
abbrev pub BackWith : Option (List LinkSeen) → Option (List LinkSeen) → List DoorAnswer → Type 0
BackWith old new answers = new ≡ option_map (λ links. links ++ links_in answers) old

-- it was asked once: nobody came, or who came was served and handed back
abbrev pub DealsOnce : DoorSeen → DoorAnswer → DoorSeen → Type 0
DealsOnce before Nobody after = AnswersSo before after came.Idle
DealsOnce before (Somebody link back) after =
    (busy : DoorSeen) × AnswersSo before busy (came.Caller link) × TakesBack busy after back

-- it was asked just for these answers, each time as the one before had left it: so each who came was
-- handed back before it was asked again
abbrev pub Deals : DoorSeen → List DoorAnswer → DoorSeen → Type 0
Deals before [] after = after ≡ before
Deals before (answer ∷ answers) after =
    (next : DoorSeen) × DealsOnce before answer next × Deals next answers after

-- a door between two moments: these answers came, each who came was handed back, and the waiting went
-- on
pub record Attends (door_turns turns now : ℕ) (before after : DoorSeen) (answers : List DoorAnswer) :
    Type 0 where
  pub waits : WaitsOn door_turns turns answers now
  pub deals : Deals before answers after
  pub comes : ComesOn before.coming after.coming answers
  pub back : BackWith before.back after.back answers
  pub out : after.out ≡ before.out

-- why it stops: so many Idle answers in a row have come, and it is asked no more; or, before that, it
-- was asked once more and answered that it is closed, that it failed, or that memory was wanting
abbrev pub StopsBy : ℕ → DoorSeen → DoorSeen → DoorEnd → Type 0
StopsBy now last after end.IdleOut = (now ≡ 0) × (after ≡ last)
StopsBy now last after end.Closed = (0 < now) × AnswersSo last after came.Closed
StopsBy now last after end.Failed = (0 < now) × AnswersSo last after came.Failed
StopsBy now last after end.Memory = (0 < now) × AnswersSo last after came.Memory

-- the door failed; lack of memory is no failure
abbrev pub is_failed_end : DoorEnd → Bool
is_failed_end end.Failed = true
is_failed_end _ = false

-- all that a door was asked, up to the last but for the one that ends it
pub record IsAsked (door_turns : ℕ) (before after : DoorSeen) (answers : List DoorAnswer)
    (reason : DoorEnd) : Type 0 where
  pub now : ℕ
  pub last : DoorSeen
  pub attends : Attends door_turns door_turns now before last answers
  pub stops : StopsBy now last after reason
  pub counts : CountsFailure (is_failed_end reason) before.faults after.faults

-- each who came was served, one after the other
abbrev pub ServesEach :
    {S : Type 0} → (S → LinkSeen → LinkSeen → S → Type 0) → S → List DoorAnswer → S → Type 0
ServesEach serves old [] new = new ≡ old
ServesEach serves old (Nobody ∷ answers) new = ServesEach serves old answers new
ServesEach {S} serves old (Somebody before after ∷ answers) new =
    (middle : S) × serves old before after middle × ServesEach serves middle answers new

-- a door was asked up to an end, and each who came was served
pub record IsWorked {S : Type 0} (serves : S → LinkSeen → LinkSeen → S → Type 0) (door_turns : ℕ)
    (before after : DoorSeen) (old new : S) (reason : DoorEnd) : Type 0 where
  pub answers : List DoorAnswer
  pub asked : IsAsked door_turns before after answers reason
  pub served : ServesEach serves old answers new

-- what was done so far, and whether it goes on with so many Idle answers to wait for
pub record AttendsOn {S : Type 0} (serves : S → LinkSeen → LinkSeen → S → Type 0)
    (door_turns turns now : ℕ) (before after : DoorSeen) (old new : S) : Type 0 where
  pub answers : List DoorAnswer
  pub attends : Attends door_turns turns now before after answers
  pub served : ServesEach serves old answers new

abbrev pub GoesOnOrStops : ℕ → DoorSeen → DoorSeen → Result ℕ DoorEnd → Type 0
GoesOnOrStops now last after (Ok left) = (now ≡ left) × (0 < left) × (after ≡ last)
GoesOnOrStops now last after (Err reason) = StopsBy now last after reason

-- the door was asked once
pub record AsksDoorOnce {S : Type 0} (serves : S → LinkSeen → LinkSeen → S → Type 0)
    (door_turns turns : ℕ) (before after : DoorSeen) (old new : S) (result : Result ℕ DoorEnd) :
    Type 0 where
  pub now : ℕ
  pub last : DoorSeen
  pub attends : AttendsOn serves door_turns turns now before last old new
  pub next : GoesOnOrStops now last after result

-- one who called was served, and the link handed back
pub record IsWelcomed {S : Type 0} (serves : S → LinkSeen → LinkSeen → S → Type 0) (link : LinkSeen)
    (before after : DoorSeen) (old new : S) : Type 0 where
  pub link_back : LinkSeen
  pub served : serves old link link_back new
  pub back : TakesBack before after link_back
