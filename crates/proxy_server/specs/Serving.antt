-- What hearing a miner's link does, and a miner's link from its Join to its Leave (this project's own).
use Rattle.std.specs.Prelude.{◌≡◌, ◌⊎◌, ℕ, ◌++◌, true, false, Option, None, Some, Result, Ok, Err, List, [], ◌∷◌}
use Rattle.std.specs.declared.alloc.AllocError.{AllocError}
use Rattle.v1_lines.specs.Lines.{IsLineText}
use Rattle.pool_io.specs.declared.turn.Turn.{Turn}
use Rattle.pool_io.specs.declared.turn.Turn.TheVariants as turn
use Rattle.pool_io.specs.Seen.{SinkSeen}
use Rattle.pool_network.specs.Seen.{LinkSeen}
use Rattle.link_turns.specs.Waits.{new_waiting}
use Rattle.link_hearing.specs.Hearing.{HearsAll, hearing_at}
use Rattle.proxy_rules.specs.declared.requests.ProxyReply.{ProxyReply}
use Rattle.proxy_rules.specs.declared.requests.ProxyReply.TheVariants as reply
use Rattle.proxy_rules.specs.declared.requests.ProxyRequest.{ProxyRequest}
use Rattle.proxy_rules.specs.declared.requests.ProxyRequest.TheVariants as request
use Rattle.session_steps.specs.declared.ends.SessionEnd.{SessionEnd}
use Rattle.session_steps.specs.declared.ends.SessionEnd.TheVariants as end
use Rattle.session_steps.specs.States.{input_end}
use Rattle.proxy_server.specs.Calls.{ActsEach, Fails, ProxyCall, Replies, RepliesSo}
use Rattle.proxy_server.specs.Links.{LeadsOn, Lines, link_at}

-- between two turns of a miner's link: the front of a line, up to which place the miner's output was put,
-- and who asks
pub record MinerStand (A : Type 0) : Type 0 where
  pub held : List ℕ
  pub cursor : ℕ
  pub asking : A

abbrev pub stand_at : {A : Type 0} → List ℕ → ℕ → A → MinerStand A
stand_at held cursor asking = record { held = held; cursor = cursor; asking = asking }

-- deeds from one stand to the other
abbrev pub LeadsFrom : {A : Type 0} → (A → ProxyCall → A → Type 0) → List ℕ → MinerStand A → SinkSeen
    → Option SessionEnd → MinerStand A → SinkSeen → Type 0
LeadsFrom does came old sink over new sink' =
    LeadsOn Lines does (link_at (old.held ++ came) old.cursor false) old.asking sink over
    (link_at new.held new.cursor false) new.asking sink'

-- bytes that came are cut into lines, up to the front of one, which is held; each is asked for and followed
-- by a poll; so is an Idle turn; at the input's end nothing more is asked
abbrev pub HearsMiner : {A : Type 0} → (A → ProxyCall → A → Type 0) → MinerStand A → SinkSeen → Turn
    → Option SessionEnd → MinerStand A → SinkSeen → Type 0
HearsMiner does old sink (turn.Piece bytes) over new sink' =
    LeadsFrom does bytes old sink over new sink' × (over ≡ None → IsLineText new.held)
HearsMiner does old sink turn.Idle over new sink' =
    LeadsOn Lines does (link_at old.held old.cursor true) old.asking sink over
    (link_at new.held new.cursor false) new.asking sink'
HearsMiner does old sink turn.End over new sink' =
    (over ≡ Some (input_end old.held)) × (new ≡ old) × (sink' ≡ sink)

-- ---- a miner joins and leaves

-- it joined at once; or it was told that it is joined from before, and left and joined
abbrev pub IsJoining : List ProxyCall → Type 0
IsJoining (join ∷ []) =
    (answer : ProxyReply) × RepliesSo request.Join answer join × (answer ≡ reply.Again → ⊥)
IsJoining (again ∷ leave ∷ join ∷ []) =
    RepliesSo request.Join reply.Again again × Replies request.Leave leave × Replies request.Join join
IsJoining _ = ⊥

-- one of these calls failed, for want of memory
abbrev pub FailsToJoin : List ProxyCall → Type 0
FailsToJoin (join ∷ []) = Fails request.Join join
FailsToJoin (again ∷ leave ∷ []) =
    RepliesSo request.Join reply.Again again × Fails request.Leave leave
FailsToJoin (again ∷ leave ∷ join ∷ []) =
    RepliesSo request.Join reply.Again again × Replies request.Leave leave × Fails request.Join join
FailsToJoin _ = ⊥

abbrev pub JoinsOrFails : {A : Type 0} → (A → ProxyCall → A → Type 0) → A → Result Unit AllocError → A
    → Type 0
JoinsOrFails does old (Ok done) new =
    (calls : List ProxyCall) × IsJoining calls × ActsEach does old calls new
JoinsOrFails does old (Err fault) new =
    (calls : List ProxyCall) × FailsToJoin calls × ActsEach does old calls new

-- a leaving that fails is the end of a miner that was done; any other end stays
abbrev pub end_unleft : SessionEnd → SessionEnd
end_unleft end.Done = end.Memory
end_unleft reason = reason

pub record LeavesAtEnd {A : Type 0} (does : A → ProxyCall → A → Type 0) (asked : ProxyRequest)
    (old : A) (reason ended : SessionEnd) (new : A) : Type 0 where
  pub call : ProxyCall
  pub done : does old call new
  pub ends : (Replies asked call × (ended ≡ reason))
      ⊎ (Fails asked call × (ended ≡ end_unleft reason))

-- ---- a miner's link

-- what was heard of a joined miner's link: a poll first, which ends it where it fails; then its turns
pub record HearsLink {A : Type 0} (does : A → ProxyCall → A → Type 0) (idle_turns : ℕ) (old : A)
    (before : LinkSeen) (reason : SessionEnd) (new : A) (after : LinkSeen) : Type 0 where
  pub stand : MinerStand A
  pub middle : LinkSeen
  pub held : stand.held ≡ []
  pub source : middle.source ≡ before.source
  pub polled : LeadsOn Lines does (link_at [] 0 true) old before.sink None
      (link_at [] stand.cursor false) stand.asking middle.sink
  pub left : MinerStand A
  pub turns : HearsAll (HearsMiner does) (hearing_at (new_waiting idle_turns) stand middle) reason
      left after
  pub asking : left.asking ≡ new

pub record HearsNothing {A : Type 0} (does : A → ProxyCall → A → Type 0) (old : A)
    (before : LinkSeen) (reason : SessionEnd) (new : A) (after : LinkSeen) : Type 0 where
  pub cursor : ℕ
  pub source : after.source ≡ before.source
  pub polled : LeadsOn Lines does (link_at [] 0 true) old before.sink (Some reason)
      (link_at [] cursor false) new after.sink

abbrev pub HearsMinerLink : {A : Type 0} → (A → ProxyCall → A → Type 0) → ℕ → A → LinkSeen
    → SessionEnd → A → LinkSeen → Type 0
HearsMinerLink does idle_turns old before reason new after =
    HearsLink does idle_turns old before reason new after
    ⊎ HearsNothing does old before reason new after

-- it joined, was heard up to an end, and left
pub record WasServed {A : Type 0} (does : A → ProxyCall → A → Type 0) (idle_turns : ℕ) (old : A)
    (before : LinkSeen) (ended : SessionEnd) (new : A) (after : LinkSeen) : Type 0 where
  pub joining : List ProxyCall
  pub is_joining : IsJoining joining
  pub joined : A
  pub joins : ActsEach does old joining joined
  pub reason : SessionEnd
  pub heard : A
  pub hears : HearsMinerLink does idle_turns joined before reason heard after
  pub leaves : LeavesAtEnd does request.Leave heard reason ended new

-- it couldn't join, for want of memory: its link is as it came
pub record WasNotJoined {A : Type 0} (does : A → ProxyCall → A → Type 0) (old : A)
    (before : LinkSeen) (ended : SessionEnd) (new : A) (after : LinkSeen) : Type 0 where
  pub calls : List ProxyCall
  pub fails : FailsToJoin calls
  pub acts : ActsEach does old calls new
  pub link : after ≡ before
  pub memory : ended ≡ end.Memory

-- or nothing was asked at all
pub record WasNotServed {A : Type 0} (old : A) (before : LinkSeen) (ended : SessionEnd) (new : A)
    (after : LinkSeen) : Type 0 where
  pub asking : new ≡ old
  pub link : after ≡ before
  pub memory : ended ≡ end.Memory

abbrev pub ServesMiner : {A : Type 0} → (A → ProxyCall → A → Type 0) → ℕ → A → LinkSeen → SessionEnd
    → A → LinkSeen → Type 0
ServesMiner does idle_turns old before ended new after =
    WasServed does idle_turns old before ended new after
    ⊎ WasNotJoined does old before ended new after ⊎ WasNotServed old before ended new after
