-- What hearing the upstream's link does, and that link from its first poll to its end (this project's own).
use Rattle.std.specs.Prelude.{◌≡◌, ◌⊎◌, ℕ, ◌++◌, Bool, true, false, Option, None, Some, List, [], ◌∷◌}
use Rattle.pool_io.specs.declared.turn.Turn.{Turn}
use Rattle.pool_io.specs.declared.turn.Turn.TheVariants as turn
use Rattle.pool_io.specs.Seen.{SinkSeen}
use Rattle.pool_network.specs.Seen.{LinkSeen}
use Rattle.link_turns.specs.Waits.{new_waiting}
use Rattle.link_hearing.specs.Hearing.{HearsAll, hearing_at}
use Rattle.sv2_frames.specs.Framing.{FrameValue, frame_bytes}
use Rattle.sv2_frames.specs.Holding.{IsCutWithin}
use Rattle.sv2_messages.specs.Messages.{Message, MsgOf}
use Rattle.sv2_messages.specs.Tables.{mining_table}
use Rattle.proxy_rules.specs.declared.requests.ProxyRequest.TheVariants as request
use Rattle.session_steps.specs.declared.ends.SessionEnd.{SessionEnd}
use Rattle.session_steps.specs.declared.ends.SessionEnd.TheVariants as end
use Rattle.session_steps.specs.States.{input_end}
use Rattle.proxy_server.specs.declared.phase.UpPhase.{UpPhase}
use Rattle.proxy_server.specs.declared.phase.UpPhase.TheVariants.{Unset, Unfit}
use Rattle.proxy_server.specs.Calls.{ProxyCall}
use Rattle.proxy_server.specs.Frames.{most_payload, next_phase}
use Rattle.proxy_server.specs.Links.{Deed, Frames, IsPutEnd, LeadsOn, LinkState, Passed, Polled, Told, link_at}
use Rattle.proxy_server.specs.Serving.{LeavesAtEnd}

-- an item is a frame with this message
pub record IsFrameOf (item : List ℕ) (message : Message) : Type 0 where
  pub frame : FrameValue
  pub bytes : item ≡ frame_bytes frame
  pub message_is : MsgOf mining_table frame.kind frame.payload message

-- the messages of the frames that were asked for lead from the one phase to the other; behind the one that
-- shows that no proxy can go on nothing was done
abbrev pub PhasesThrough : UpPhase → List Deed → UpPhase → Type 0
PhasesThrough old [] new = new ≡ old
PhasesThrough old (Told item call ∷ deeds) new =
    (message : Message) × IsFrameOf item message
    × (next_phase old message ≡ Unfit → deeds ≡ [])
    × PhasesThrough (next_phase old message) deeds new
PhasesThrough old (Passed item ∷ deeds) new = PhasesThrough old deeds new
PhasesThrough old (Polled bytes call ∷ deeds) new = PhasesThrough old deeds new

-- how the link stands, and the upstream's phase
pub record UpState : Type 0 where
  pub link : LinkState
  pub phase : UpPhase

abbrev pub up_at : List ℕ → ℕ → Bool → UpPhase → UpState
up_at unmet cursor owes phase = record { link = link_at unmet cursor owes; phase = phase }

-- deeds from one state to the other; BadSetup comes exactly where the upstream is unfit
pub record LeadsUp {A : Type 0} (does : A → ProxyCall → A → Type 0) (old : UpState) (asking : A)
    (sink : SinkSeen) (over : Option SessionEnd) (new : UpState) (asking' : A) (sink' : SinkSeen) :
    Type 0 where
  pub leads : LeadsOn Frames does old.link asking sink over new.link asking' sink'
  pub phases : PhasesThrough old.phase leads.deeds new.phase
  pub unfit : over ≡ Some end.BadSetup → new.phase ≡ Unfit
  pub bad : new.phase ≡ Unfit → over ≡ Some end.BadSetup

-- between two turns of the link
pub record UpStand (A : Type 0) : Type 0 where
  pub held : List ℕ
  pub cursor : ℕ
  pub phase : UpPhase
  pub asking : A

abbrev pub up_stand : {A : Type 0} → List ℕ → ℕ → UpPhase → A → UpStand A
up_stand held cursor phase asking =
    record { held = held; cursor = cursor; phase = phase; asking = asking }

-- no whole frame is held, and none that is too long begins
abbrev pub HoldsNoFrame : List ℕ → Type 0
HoldsNoFrame held = IsCutWithin (record { held = held; limit = most_payload })

-- bytes that came are cut into frames up to a last one that isn't whole; each is asked for where it is a
-- message that is taken, and followed by a poll; so is an Idle turn; at the input's end nothing more is asked
abbrev pub HearsUpstream : {A : Type 0} → (A → ProxyCall → A → Type 0) → UpStand A → SinkSeen → Turn
    → Option SessionEnd → UpStand A → SinkSeen → Type 0
HearsUpstream does old sink (turn.Piece bytes) over new sink' =
    LeadsUp does (up_at (old.held ++ bytes) old.cursor false old.phase) old.asking sink over
    (up_at new.held new.cursor false new.phase) new.asking sink'
    × (over ≡ None → HoldsNoFrame new.held)
HearsUpstream does old sink turn.Idle over new sink' =
    LeadsUp does (up_at old.held old.cursor true old.phase) old.asking sink over
    (up_at new.held new.cursor false new.phase) new.asking sink'
HearsUpstream does old sink turn.End over new sink' =
    (over ≡ Some (input_end old.held)) × (new ≡ old) × (sink' ≡ sink)

-- what was heard: a poll first, which ends the link where it fails; then its turns
pub record HearsUpLink {A : Type 0} (does : A → ProxyCall → A → Type 0) (idle_turns : ℕ) (old : A)
    (before : LinkSeen) (reason : SessionEnd) (phase : UpPhase) (new : A) (after : LinkSeen) :
    Type 0 where
  pub stand : UpStand A
  pub middle : LinkSeen
  pub held : stand.held ≡ []
  pub unset : stand.phase ≡ Unset
  pub source : middle.source ≡ before.source
  pub polled : LeadsOn Frames does (link_at [] 0 true) old before.sink None
      (link_at [] stand.cursor false) stand.asking middle.sink
  pub left : UpStand A
  pub turns : HearsAll (HearsUpstream does) (hearing_at (new_waiting idle_turns) stand middle)
      reason left after
  pub asking : left.asking ≡ new
  pub phase_is : left.phase ≡ phase

pub record HearsNoUpstream {A : Type 0} (does : A → ProxyCall → A → Type 0) (old : A)
    (before : LinkSeen) (reason : SessionEnd) (phase : UpPhase) (new : A) (after : LinkSeen) :
    Type 0 where
  pub cursor : ℕ
  pub source : after.source ≡ before.source
  pub unset : phase ≡ Unset
  pub put_end : IsPutEnd reason
  pub polled : LeadsOn Frames does (link_at [] 0 true) old before.sink (Some reason)
      (link_at [] cursor false) new after.sink

-- or there was no memory to hear it at all
pub record HearsUnable {A : Type 0} (old : A) (before : LinkSeen) (reason : SessionEnd)
    (phase : UpPhase) (new : A) (after : LinkSeen) : Type 0 where
  pub asking : new ≡ old
  pub link : after ≡ before
  pub memory : reason ≡ end.Memory
  pub unset : phase ≡ Unset

abbrev pub HearsUp : {A : Type 0} → (A → ProxyCall → A → Type 0) → ℕ → A → LinkSeen → SessionEnd
    → UpPhase → A → LinkSeen → Type 0
HearsUp does idle_turns old before reason phase new after =
    HearsUpLink does idle_turns old before reason phase new after
    ⊎ HearsNoUpstream does old before reason phase new after
    ⊎ HearsUnable old before reason phase new after

-- the upstream was heard up to an end, and its end was told
pub record ServesUpstream {A : Type 0} (does : A → ProxyCall → A → Type 0) (idle_turns : ℕ)
    (old : A) (before : LinkSeen) (ended : SessionEnd) (phase : UpPhase) (new : A)
    (after : LinkSeen) : Type 0 where
  pub reason : SessionEnd
  pub heard : A
  pub hears : HearsUp does idle_turns old before reason phase heard after
  pub leaves : LeavesAtEnd does request.UpEnd heard reason ended new
