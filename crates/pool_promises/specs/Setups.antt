-- Which upstreams no proxy can go on with (this project's own; the messages are those of Stratum V2,
-- "Mining Protocol").
use Rattle.std.specs.Prelude.{◌≡◌, ◌↔◌, ℕ, ◌==◌, Bool, true, false, not, if◌then◌else◌, List, [], ◌∷◌, ◌++◌}
use Rattle.std.specs.declared.alloc.AllocError.{AllocError}
use Rattle.pool_base.specs.Calls.{Outcome, Replied}
use Rattle.session_steps.specs.declared.ends.SessionEnd.{SessionEnd}
use Rattle.session_steps.specs.declared.ends.SessionEnd.TheVariants as end
use Rattle.sv2_messages.specs.declared.kinds.TheConstants as kinds
use Rattle.sv2_messages.specs.Messages.{Message}
use Rattle.proxy_rules.specs.declared.requests.ProxyReply.{ProxyReply}
use Rattle.proxy_rules.specs.declared.requests.ProxyRequest.{ProxyRequest}
use Rattle.proxy_rules.specs.declared.requests.ProxyRequest.TheVariants as request
use Rattle.proxy_rules.specs.Frames.{number_in, value_at}
use Rattle.proxy_server.specs.Calls.{ProxyCall}
use Rattle.proxy_server.specs.Frames.{is_fit_size, is_set_up}
use Rattle.proxy_server.specs.Upstreams.{IsFrameOf}
use Rattle.proxy_server.specs.Parts.{ProxyService}
use Rattle.proxy_server.specs.ServingDoors.{HasRunProxy, ProxyHall}

-- the frames that calls told a proxy
abbrev pub frame_told : ProxyRequest → Outcome ProxyReply AllocError → List (List ℕ)
frame_told (request.Up bytes) (Replied answer) = bytes ∷ []
frame_told _ _ = []

abbrev pub frames_told : List ProxyCall → List (List ℕ)
frames_told [] = []
frames_told (call ∷ calls) = frame_told call.asked call.outcome ++ frames_told calls

-- they are those of these messages, one each
abbrev pub AreFramesOf : List (List ℕ) → List Message → Type 0
AreFramesOf [] [] = Unit {0}
AreFramesOf (bytes ∷ frames) (message ∷ messages) =
    IsFrameOf bytes message × AreFramesOf frames messages
AreFramesOf _ _ = ⊥

-- the channel is refused before one was opened, or the first that is opened has a size that doesn't fit
abbrev pub is_badly_opened : List Message → Bool
is_badly_opened [] = false
is_badly_opened (message ∷ messages) =
    if message.kind == kinds.OPEN_MINING_CHANNEL_ERROR then true
    else if message.kind == kinds.OPEN_EXTENDED_MINING_CHANNEL_SUCCESS
    then not (is_fit_size (number_in (value_at 3 message.fields)))
    else is_badly_opened messages

-- the first message doesn't accept the setup with version 2, or the channel isn't opened so that a
-- proxy can go on
abbrev pub is_bad_upstream : List Message → Bool
is_bad_upstream [] = false
is_bad_upstream (message ∷ messages) =
    if is_set_up message then is_badly_opened messages else true

-- BadSetup comes exactly where the messages that the proxy was told are of such an upstream
pub record EndsByItsMessages (calls : List ProxyCall) (reason : SessionEnd) : Type 0 where
  pub messages : List Message
  pub frames : AreFramesOf (frames_told calls) messages
  pub bad : (reason ≡ end.BadSetup) ↔ (is_bad_upstream messages ≡ true)

abbrev pub BadSetupsAreExact : Type 0
BadSetupsAreExact =
    (service : ProxyService) (old new : ProxyHall) (reason : SessionEnd) (door_faults door_memory : ℕ)
    → (ran : HasRunProxy service old new reason door_faults door_memory)
    → EndsByItsMessages ran.up_calls reason
