-- What comes over a link of a proxy, what is asked for it, and what is put (this project's own).
use Rattle.std.specs.Prelude.{◌≡◌, ◌⊎◌, ℕ, ◌+◌, Bool, true, false, Option, None, Some, List, [], ◌∷◌, ◌++◌, length}
use Rattle.pool_base.specs.Lists.{Begins}
use Rattle.pool_io.specs.Outside.{AddsBytes, CountsFailure}
use Rattle.pool_io.specs.Seen.{SinkSeen}
use Rattle.sv2_frames.specs.Framing.{FrameValue, frame_bytes}
use Rattle.sv2_messages.specs.Messages.{Message}
use Rattle.v1_lines.specs.Lines.{IsLineText}
use Rattle.line_turns.specs.Hearing.{BeginsLongLine}
use Rattle.proxy_rules.specs.declared.requests.ProxyReply.TheVariants as reply
use Rattle.proxy_rules.specs.declared.requests.ProxyRequest.{ProxyRequest}
use Rattle.proxy_rules.specs.declared.requests.ProxyRequest.TheVariants as request
use Rattle.session_steps.specs.declared.ends.SessionEnd.{SessionEnd}
use Rattle.session_steps.specs.declared.ends.SessionEnd.TheVariants as end
use Rattle.session_steps.specs.Steps.{BeginsOver}
use Rattle.v2_sessions.specs.Causes.{is_write_end}
use Rattle.proxy_server.specs.Frames.{CutsFrame, TakesFrame, TakesNoMessage, is_up_frame, most_payload}
use Rattle.proxy_server.specs.Calls.{ActsEach, Fails, ProxyCall, Replies, RepliesSo}

-- how a link is read
pub data Tongue : Type 0 where
  -- a miner's lines
  Lines : Tongue
  -- the upstream's frames
  Frames : Tongue

-- an item is cut out of what came, leaving a rest
abbrev pub CutsItem : Tongue → List ℕ → List ℕ → List ℕ → Type 0
CutsItem Lines bytes line rest = IsLineText line × (bytes ≡ line ++ 10 ∷ rest)
CutsItem Frames bytes item rest =
    (frame : FrameValue) × (message : Message) × CutsFrame frame bytes rest
    × TakesFrame frame message × (item ≡ frame_bytes frame)

-- an item is cut out that nothing is asked for
abbrev pub PassesItem : Tongue → List ℕ → List ℕ → List ℕ → Type 0
PassesItem Lines bytes item rest = ⊥
PassesItem Frames bytes item rest =
    (frame : FrameValue) × CutsFrame frame bytes rest × (is_up_frame frame.ext frame.kind ≡ false)
    × (item ≡ frame_bytes frame)

-- one is cut out that is to be asked for, and can't be
abbrev pub BreaksItem : Tongue → List ℕ → SessionEnd → Type 0
BreaksItem Lines bytes reason = ⊥
BreaksItem Frames bytes reason =
    (frame : FrameValue) × (rest : List ℕ) × CutsFrame frame bytes rest × TakesNoMessage frame
    × (reason ≡ end.BadMessage frame.kind)

-- what is asked for an item
abbrev pub request_for : Tongue → List ℕ → ProxyRequest
request_for Lines line = request.Line line
request_for Frames item = request.Up item

-- too much came, without an item's end
abbrev pub Overruns : Tongue → List ℕ → SessionEnd → Type 0
Overruns Lines bytes reason = BeginsLongLine bytes × (reason ≡ end.LineTooLong)
Overruns Frames bytes reason =
    (len : ℕ) × BeginsOver most_payload len bytes × (reason ≡ end.TooLong len)

-- what came and isn't met, up to which place the caller's output was put, and whether a poll is owed
pub record LinkState : Type 0 where
  pub unmet : List ℕ
  pub cursor : ℕ
  pub owes : Bool

abbrev pub link_at : List ℕ → ℕ → Bool → LinkState
link_at unmet cursor owes = record { unmet = unmet; cursor = cursor; owes = owes }

-- an item was asked for, or passed over, or a poll was answered by bytes that were put
pub data Deed : Type 0 where
  Told : (item : List ℕ) → (call : ProxyCall) → Deed
  Passed : (item : List ℕ) → Deed
  Polled : (bytes : List ℕ) → (call : ProxyCall) → Deed

-- why deeds end within a turn: too much came, an item can't be asked for, what came is none that a proxy
-- can go on with, memory ran out before a call, a call failed, or a put did, of which the peer got a
-- front
pub data Stop : Type 0 where
  Overran : Stop
  Broke : Stop
  Refused : Stop
  Lacked : Stop
  Untold : (item : List ℕ) → (call : ProxyCall) → Stop
  Unpolled : (call : ProxyCall) → Stop
  Unput : (front : List ℕ) → (call : ProxyCall) → Stop

abbrev pub calls_in : List Deed → List ProxyCall
calls_in [] = []
calls_in (Told item call ∷ deeds) = call ∷ calls_in deeds
calls_in (Passed item ∷ deeds) = calls_in deeds
calls_in (Polled bytes call ∷ deeds) = call ∷ calls_in deeds

abbrev pub bytes_in : List Deed → List ℕ
bytes_in [] = []
bytes_in (Told item call ∷ deeds) = bytes_in deeds
bytes_in (Passed item ∷ deeds) = bytes_in deeds
bytes_in (Polled bytes call ∷ deeds) = bytes ++ bytes_in deeds

abbrev pub calls_at : Option Stop → List ProxyCall
calls_at None = []
calls_at (Some Overran) = []
calls_at (Some Broke) = []
calls_at (Some Refused) = []
calls_at (Some Lacked) = []
calls_at (Some (Untold item call)) = call ∷ []
calls_at (Some (Unpolled call)) = call ∷ []
calls_at (Some (Unput front call)) = call ∷ []

abbrev pub bytes_at : Option Stop → List ℕ
bytes_at (Some (Unput front call)) = front
bytes_at _ = []

-- one deed: an item is asked for only where no poll is owed, and owes one; a poll goes on from where
-- the output was put
abbrev pub DoesDeed : Tongue → LinkState → Deed → LinkState → Type 0
DoesDeed tongue old (Told item call) new =
    (rest : List ℕ) × (old.owes ≡ false) × CutsItem tongue old.unmet item rest
    × Replies (request_for tongue item) call × (new ≡ link_at rest old.cursor true)
DoesDeed tongue old (Passed item) new =
    (rest : List ℕ) × (old.owes ≡ false) × PassesItem tongue old.unmet item rest
    × (new ≡ link_at rest old.cursor false)
DoesDeed tongue old (Polled bytes call) new =
    (old.owes ≡ true) × RepliesSo (request.Poll old.cursor) (reply.Bytes bytes) call
    × (new ≡ link_at old.unmet (old.cursor + length bytes) false)

abbrev pub Leads : Tongue → LinkState → List Deed → LinkState → Type 0
Leads tongue old [] new = new ≡ old
Leads tongue old (deed ∷ deeds) new =
    (middle : LinkState) × DoesDeed tongue old deed middle × Leads tongue middle deeds new

-- a put failed, or had no memory
abbrev pub IsPutEnd : SessionEnd → Type 0
IsPutEnd reason = (reason ≡ end.WriteFault) ⊎ (reason ≡ end.Memory)

-- no proxy can go on with what came, which is the upstream's last frame
abbrev pub RefusesSo : Tongue → LinkState → SessionEnd → Type 0
RefusesSo Lines last reason = ⊥
RefusesSo Frames last reason = (last.owes ≡ true) × (reason ≡ end.BadSetup)

abbrev pub StopsBy : Tongue → LinkState → Stop → SessionEnd → Type 0
StopsBy tongue last Overran reason = (last.owes ≡ false) × Overruns tongue last.unmet reason
StopsBy tongue last Broke reason = (last.owes ≡ false) × BreaksItem tongue last.unmet reason
StopsBy tongue last Refused reason = RefusesSo tongue last reason
StopsBy tongue last Lacked reason = reason ≡ end.Memory
StopsBy tongue last (Untold item call) reason =
    (rest : List ℕ) × (last.owes ≡ false) × CutsItem tongue last.unmet item rest
    × Fails (request_for tongue item) call × (reason ≡ end.Memory)
StopsBy tongue last (Unpolled call) reason =
    (last.owes ≡ true) × Fails (request.Poll last.cursor) call × (reason ≡ end.Memory)
StopsBy tongue last (Unput front call) reason =
    (bytes : List ℕ) × (last.owes ≡ true)
    × RepliesSo (request.Poll last.cursor) (reply.Bytes bytes) call × Begins front bytes
    × IsPutEnd reason

-- it goes on, or it stops for a reason
abbrev pub EndsSo : Tongue → LinkState → Option Stop → Option SessionEnd → LinkState → Type 0
EndsSo tongue last None None new = new ≡ last
EndsSo tongue last (Some stop) (Some reason) new = StopsBy tongue last stop reason
EndsSo tongue last None (Some reason) new = ⊥
EndsSo tongue last (Some stop) None new = ⊥

abbrev pub is_write_over : Option SessionEnd → Bool
is_write_over None = false
is_write_over (Some reason) = is_write_end reason

-- deeds that were done one after the other, with the calls and the bytes that they were
pub record LeadsOn {A : Type 0} (tongue : Tongue) (does : A → ProxyCall → A → Type 0)
    (old : LinkState) (asking : A) (sink : SinkSeen) (over : Option SessionEnd) (new : LinkState)
    (asking' : A) (sink' : SinkSeen) : Type 0 where
  pub deeds : List Deed
  pub last : LinkState
  pub stop : Option Stop
  pub leads : Leads tongue old deeds last
  pub ends : EndsSo tongue last stop over new
  pub acts : ActsEach does asking (calls_in deeds ++ calls_at stop) asking'
  pub put : AddsBytes sink.held sink'.held (bytes_in deeds ++ bytes_at stop)
  pub counts : CountsFailure (is_write_over over) sink.faults sink'.faults

-- deeds that ask for no item
abbrev pub AskForNone : List Deed → Type 0
AskForNone [] = Unit {0}
AskForNone (Told item call ∷ deeds) = ⊥
AskForNone (Passed item ∷ deeds) = AskForNone deeds
AskForNone (Polled bytes call ∷ deeds) = AskForNone deeds

-- the poll that was owed was made, and nothing else
abbrev pub PollsOwed : {A : Type 0} → Tongue → (A → ProxyCall → A → Type 0) → List ℕ → ℕ → A → SinkSeen
    → Option SessionEnd → ℕ → A → SinkSeen → Type 0
PollsOwed tongue does unmet cursor asking sink over cursor' asking' sink' =
    (polls : LeadsOn tongue does (link_at unmet cursor true) asking sink over
    (link_at unmet cursor' false) asking' sink') × AskForNone polls.deeds

-- what is new was put whole, or a front of it
abbrev pub PutsNews : ℕ → List ℕ → SinkSeen → Option SessionEnd → ℕ → SinkSeen → Type 0
PutsNews cursor news sink None cursor' sink' =
    (cursor' ≡ cursor + length news) × AddsBytes sink.held sink'.held news
    × (sink'.faults ≡ sink.faults)
PutsNews cursor news sink (Some reason) cursor' sink' =
    (front : List ℕ) × Begins front news × AddsBytes sink.held sink'.held front × IsPutEnd reason
    × CountsFailure (is_write_end reason) sink.faults sink'.faults
