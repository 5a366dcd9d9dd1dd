-- Where a session that is served stands (this project's own).
use Rattle.std.specs.Prelude.{◌≡◌, ℕ, ◌≤◌, Bool, None, Some, Result, Ok, Err, List, [], ◌++◌, length}
use Rattle.pool_io.specs.declared.source.Took.{Took}
use Rattle.link_turns.specs.declared.waiting.Limit.{Limit}
use Rattle.link_turns.specs.declared.waiting.Limit.TheVariants as limit
use Rattle.link_turns.specs.declared.waiting.Waiting.{Waiting}
use Rattle.link_turns.specs.Waits.{IsBelowLimits, IsLimitOf, waiting_after}
use Rattle.sv2_frames.specs.Holding.{Holding, IsCutWithin, frame_end}
use Rattle.session_steps.specs.declared.ends.SessionEnd.{SessionEnd}
use Rattle.session_steps.specs.declared.ends.SessionEnd.TheVariants as end
use Rattle.session_steps.specs.States.{Stage, State, end_stage, most_bytes, most_payload}
use Rattle.v2_sessions.specs.declared.conversation.Conversation.{Conversation}
use Rattle.v2_sessions.specs.declared.listening.Listener.{Listener}

-- what a session waits for and what it hasn't met: as a state has it
pub record Intake : Type 0 where
  pub idle_turns : ℕ
  pub idles : ℕ
  pub bytes : ℕ
  pub unmet : List ℕ

-- before the first turn
abbrev pub new_intake : ℕ → Intake
new_intake idle_turns = record {
  idle_turns = idle_turns;
  idles = idle_turns;
  bytes = most_bytes;
  unmet = [];
}

abbrev pub intake_of : Listener → Intake
intake_of listener = record {
  idle_turns = listener.waiting.idle_turns;
  idles = listener.waiting.idles;
  bytes = listener.waiting.bytes;
  unmet = listener.splitter.held;
}

-- with bytes that aren't met
abbrev pub intake_with : List ℕ → Listener → Intake
intake_with bytes listener =
    record (intake_of listener) { unmet = listener.splitter.held ++ bytes }

-- once a turn is counted
abbrev pub counted : Took → Listener → Listener
counted answered listener =
    record listener { waiting = waiting_after answered listener.waiting }

-- the state at a stage
abbrev pub state_at : Stage → Intake → Conversation → State
state_at stage intake conversation = record {
  talk = conversation.session;
  stage = stage;
  entered = conversation.entered;
  cursor = conversation.cursor;
  idle_turns = intake.idle_turns;
  idles = intake.idles;
  bytes = intake.bytes;
  unmet = intake.unmet;
}

-- the session goes on at this stage, or it ends
abbrev pub stage_or : Stage → Bool → Result Unit SessionEnd → Stage
stage_or stage entered (Ok _) = stage
stage_or stage entered (Err reason) = end_stage entered reason

-- a splitter holds nothing behind the end of its frame, or of a header over the limit
abbrev pub HoldsNoMore : Holding → Type 0
HoldsNoMore holding = length holding.held ≤ frame_end holding.limit holding.held

-- all frames that came are met
pub record HasMetAll (declares : Bool) (holding : Holding) : Type 0 where
  pub cut : IsCutWithin holding
  pub no_more : HoldsNoMore holding
  pub limit : holding.limit ≡ most_payload declares

-- a turn may be taken
pub record IsListening (declares : Bool) (listener : Listener) : Type 0 where
  pub met : HasMetAll declares listener.splitter
  pub below : IsBelowLimits listener.waiting

-- a limit is the end of a session
abbrev pub end_at_limit : Limit → SessionEnd
end_at_limit limit.IdleOut = end.IdleOut
end_at_limit limit.BytesOut = end.BytesOut

-- it is reached just where the session doesn't go on
abbrev pub GoesOnOrEnds : Waiting → Result Unit SessionEnd → Type 0
GoesOnOrEnds waiting (Ok _) = IsLimitOf waiting None
GoesOnOrEnds waiting (Err reason) =
    (reached : Limit) × IsLimitOf waiting (Some reached) × (reason ≡ end_at_limit reached)
