-- What a proxy's worker did at its door, from its first asking to its last (this project's own).
use Rattle.std.specs.Prelude.{◌≡◌, ℕ, List, [], ◌∷◌, map}
use Rattle.pool_network.specs.Seen.{DoorSeen, LinkSeen}
use Rattle.door_threads.specs.declared.working.DoorEnd.{DoorEnd}
use Rattle.door_threads.specs.Asking.{DoorAnswer, IsAsked, Nobody, Somebody}
use Rattle.session_steps.specs.declared.ends.SessionEnd.{SessionEnd}
use Rattle.proxy_server.specs.Calls.{ProxyCall}
use Rattle.proxy_server.specs.Serving.{ServesMiner}
use Rattle.proxy_server.specs.Calling.{ProxyPass}
use Rattle.proxy_server.specs.Visits.{CallsByPass, Notes, VisitsMiner}

-- a miner's link as it came and as it went, and how it ended
pub record MinerVisit : Type 0 where
  pub before : LinkSeen
  pub after : LinkSeen
  pub ended : SessionEnd

-- one answer of a door: nobody came, or a miner, who was then served
pub data MinerAsked : Type 0 where
  Waited : MinerAsked
  Visited : (visit : MinerVisit) → MinerAsked

-- as the door saw it: the link that it let in, and how it came back
abbrev pub answer_of : MinerAsked → DoorAnswer
answer_of Waited = Nobody
answer_of (Visited visit) = Somebody visit.before visit.after

-- each who came was served, by calls that are noted behind those before
abbrev pub AreMiners : ℕ → List ProxyCall → List MinerAsked → List ProxyCall → Type 0
AreMiners idle_turns noted [] now = now ≡ noted
AreMiners idle_turns noted (Waited ∷ answers) now = AreMiners idle_turns noted answers now
AreMiners idle_turns noted (Visited visit ∷ answers) now =
    (middle : List ProxyCall)
    × ServesMiner Notes idle_turns noted visit.before visit.ended middle visit.after
    × AreMiners idle_turns middle answers now

-- A worker's whole shift at its door: each caller was served as a miner by calls of the pass, and the door
-- was asked just for these answers, up to the last but for the one that ends it.
pub record IsMinersShift (idle_turns door_turns : ℕ) (before after : DoorSeen) (old new : ProxyPass)
    (reason : DoorEnd) : Type 0 where
  pub answers : List MinerAsked
  pub miners : AreMiners idle_turns old.calls answers new.calls
  pub asked : IsAsked door_turns before after (map answer_of answers) reason
  pub calls : List ProxyCall
  pub by_pass : CallsByPass old calls new

-- who serves miners: how long one is waited for, and the pass
pub record MinersServing : Type 0 where
  pub idle_turns : ℕ
  pub pass : ProxyPass

abbrev pub serving_at : ℕ → ProxyPass → MinersServing
serving_at idle_turns pass = record { idle_turns = idle_turns; pass = pass }

-- one who called was served
pub record ServesMinerAt (old : MinersServing) (before after : LinkSeen) (new : MinersServing) :
    Type 0 where
  pub ended : SessionEnd
  pub served : VisitsMiner old.idle_turns before after ended old.pass new.pass
  pub same : new.idle_turns ≡ old.idle_turns
