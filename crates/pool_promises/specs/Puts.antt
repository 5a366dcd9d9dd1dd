-- What a link of a proxy was put, by the polls of its calls (this project's own).
use Rattle.std.specs.Prelude.{◌≡◌, ℕ, Bool, true, false, if◌then◌else◌, Option, None, Some, List, [], ◌∷◌, ◌++◌, take}
use Rattle.std.specs.declared.alloc.AllocError.{AllocError}
use Rattle.std.specs.List.{AllByRecursion}
use Rattle.pool_base.specs.Calls.{Outcome, Replied}
use Rattle.pool_base.specs.Lists.{Begins}
use Rattle.session_steps.specs.declared.ends.SessionEnd.{SessionEnd}
use Rattle.proxy_rules.specs.declared.events.ProxyEvent.{ProxyEvent}
use Rattle.proxy_rules.specs.declared.requests.ProxyReply.{ProxyReply}
use Rattle.proxy_rules.specs.declared.requests.ProxyRequest.{ProxyRequest}
use Rattle.proxy_rules.specs.declared.requests.ProxyRequest.TheVariants as request
use Rattle.proxy_rules.specs.Outputs.{output_for}
use Rattle.proxy_server.specs.Calls.{ProxyCall}
use Rattle.proxy_server.specs.Links.{IsPutEnd}
use Rattle.proxy_server.specs.Serving.{ServesMiner}
use Rattle.proxy_server.specs.Shifts.{MinerAsked, MinerVisit, Visited, Waited}
use Rattle.proxy_server.specs.Visits.{Notes}
use Rattle.proxy_server.specs.Parts.{ProxyService}
use Rattle.proxy_server.specs.ServingDoors.{HasRunProxy, ProxyHall}

-- a poll that was replied to
abbrev pub is_reply_to_poll : ProxyRequest → Outcome ProxyReply AllocError → Bool
is_reply_to_poll (request.Poll from) (Replied answer) = true
is_reply_to_poll _ _ = false

abbrev pub is_polled : ProxyCall → Bool
is_polled call = is_reply_to_poll call.asked call.outcome

-- the last of these
abbrev pub polled_or : Option ProxyCall → ProxyCall → Option ProxyCall
polled_or (Some later) call = Some later
polled_or None call = if is_polled call then Some call else None

abbrev pub last_polled : List ProxyCall → Option ProxyCall
last_polled [] = None
last_polled (call ∷ calls) = polled_or (last_polled calls) call

-- what a caller is owed up to a call: its output after the events before that
abbrev pub output_at_call : List ProxyEvent → ProxyCall → List ℕ
output_at_call events call = output_for (take call.front events) call.worker

-- the bytes are the output up to the last poll, or a front of it where a put failed or found no memory;
-- there are none where there was no poll
abbrev pub IsOutputUpTo : List ProxyEvent → Option ProxyCall → SessionEnd → List ℕ → Type 0
IsOutputUpTo events None reason bytes = bytes ≡ []
IsOutputUpTo events (Some call) reason bytes =
    Begins bytes (output_at_call events call)
    × ((IsPutEnd reason → ⊥) → bytes ≡ output_at_call events call)

-- What the upstream's link was put, where it tells what it holds.
abbrev pub UpstreamsArePutOutput : Type 0
UpstreamsArePutOutput =
    (service : ProxyService) (old new : ProxyHall) (reason : SessionEnd) (door_faults door_memory : ℕ)
    (held : List ℕ) → old.up.sink.held ≡ Some held
    → (ran : HasRunProxy service old new reason door_faults door_memory)
    → (bytes : List ℕ) × (new.up.sink.held ≡ Some (held ++ bytes))
    × IsOutputUpTo new.events (last_polled ran.up_calls) reason bytes

-- What the link of one who called was put by these calls, where it tells what it holds.
abbrev pub IsPutItsOutput : List ProxyEvent → MinerVisit → List ProxyCall → Type 0
IsPutItsOutput events visit calls =
    (held : List ℕ) → visit.before.sink.held ≡ Some held
    → (bytes : List ℕ) × (visit.after.sink.held ≡ Some (held ++ bytes))
    × IsOutputUpTo events (last_polled calls) visit.ended bytes

-- Behind the calls that were noted before, those of a shift are those of its visits, one after the other: by
-- just these calls each visitor was served, and was put its output.
abbrev pub ArePutTheirOutput :
    ℕ → List ProxyEvent → List ProxyCall → List MinerAsked → List ProxyCall → Type 0
ArePutTheirOutput idle_turns events noted [] calls = calls ≡ []
ArePutTheirOutput idle_turns events noted (Waited ∷ answers) calls =
    ArePutTheirOutput idle_turns events noted answers calls
ArePutTheirOutput idle_turns events noted (Visited visit ∷ answers) calls =
    (own : List ProxyCall) × (later : List ProxyCall) × (calls ≡ own ++ later)
    × ServesMiner Notes idle_turns noted visit.before visit.ended (noted ++ own) visit.after
    × IsPutItsOutput events visit own
    × ArePutTheirOutput idle_turns events (noted ++ own) answers later

-- So it is with the miners at each door.
abbrev pub MinersArePutOutput : Type 0
MinersArePutOutput =
    (service : ProxyService) (old new : ProxyHall) (reason : SessionEnd) (door_faults door_memory : ℕ)
    → (ran : HasRunProxy service old new reason door_faults door_memory)
    → AllByRecursion
    (λ shift. ArePutTheirOutput service.idle_turns new.events [] shift.answers shift.calls)
    ran.shifts
