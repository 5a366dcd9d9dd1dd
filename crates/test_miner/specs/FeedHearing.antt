-- What a feed makes of the frames of its caller (this project's own; the messages are Stratum V2's
-- SetupConnection and SubmitSolution).
use Rattle.std.specs.Prelude.{ℕ, ◌%◌, ◌==◌, ◌&&◌, Bool, true, false, if◌then◌else◌, nat_le, is_none, is_some, None, Some, Result, Ok, Err, List, [], ◌∷◌, ◌++◌}
use Rattle.sv2_types.specs.Fields.{FieldValue}
use Rattle.sv2_frames.specs.Framing.{FrameValue}
use Rattle.sv2_messages.specs.declared.kinds.TheConstants as kinds
use Rattle.sv2_messages.specs.declared.error.MsgError.{MsgError}
use Rattle.sv2_messages.specs.Reading.{values_of}
use Rattle.sv2_messages.specs.Tables.{mining_table, template_table}
use Rattle.test_miner.specs.declared.feed.FeedEnd.TheVariants.{Done, BadPeer}
use Rattle.test_miner.specs.declared.feed.Verdict.{Verdict}
use Rattle.test_miner.specs.FeedStates.{FeedState}
use Rattle.test_miner.specs.Notices.{bytes_in, field_in, number_in}
use Rattle.test_miner.specs.ScriptValues.{ScriptValue}
use Rattle.test_miner.specs.Solutions.{SolutionValue, is_valid}

-- a feed that has heard nothing
abbrev pub new_feed : ScriptValue → FeedState
new_feed script = record { script = script; is_set_up = false; verdicts = []; end = None }

-- a SetupConnection for protocol 2, template distribution, with version 2 among its versions
abbrev pub asks_for_templates : ℕ → List FieldValue → Bool
asks_for_templates kind fields =
    if kind == kinds.SETUP_CONNECTION
    then number_in (field_in 0 fields) == 2 && nat_le (number_in (field_in 1 fields)) 2
    && nat_le 2 (number_in (field_in 2 fields))
    else false

abbrev pub suits_by : ℕ → Result (List FieldValue) MsgError → Bool
suits_by kind (Ok fields) = asks_for_templates kind fields
suits_by kind (Err error) = false

unfoldable pub suits : ℕ → List ℕ → Bool
suits kind payload = suits_by kind (values_of mining_table kind payload)

-- a frame that sets the feed up
abbrev pub is_setup : FrameValue → Bool
is_setup frame = if frame.ext % 0x8000 == 0 then suits frame.kind frame.payload else false

-- the caller is none that it can serve
abbrev pub cut_feed : FeedState → FeedState
cut_feed state = if is_none state.end then record state { end = Some BadPeer } else state

-- a solution is judged by the script
abbrev pub judged : SolutionValue → FeedState → FeedState
judged solution state = record state {
  verdicts = state.verdicts ++ record {
    id = solution.template_id;
    is_valid = is_valid state.script solution;
  } ∷ [];
}

-- the solution that fields are
abbrev pub solution_in : List FieldValue → SolutionValue
solution_in fields = record {
  template_id = number_in (field_in 0 fields);
  version = number_in (field_in 1 fields);
  header_timestamp = number_in (field_in 2 fields);
  header_nonce = number_in (field_in 3 fields);
  coinbase_tx = bytes_in (field_in 4 fields);
}

-- of the messages a feed hears solutions alone
abbrev pub solved_by_fields : ℕ → List FieldValue → FeedState → FeedState
solved_by_fields kind fields state =
    if kind == kinds.SUBMIT_SOLUTION then judged (solution_in fields) state else state

-- a SubmitSolution that is no message is none that it can serve
abbrev pub refused_by_kind : ℕ → FeedState → FeedState
refused_by_kind kind state =
    if kind == kinds.SUBMIT_SOLUTION then record state { end = Some BadPeer } else state

abbrev pub solved_by : ℕ → Result (List FieldValue) MsgError → FeedState → FeedState
solved_by kind (Ok fields) state = solved_by_fields kind fields state
solved_by kind (Err error) state = refused_by_kind kind state

-- what a payload leads to
unfoldable pub solved : ℕ → List ℕ → FeedState → FeedState
solved kind payload state = solved_by kind (values_of template_table kind payload) state

-- a frame behind the setup
abbrev pub hear_later : FrameValue → FeedState → FeedState
hear_later frame state =
    if frame.ext % 0x8000 == 0 then solved frame.kind frame.payload state else state

-- the first frame
abbrev pub hear_first : FrameValue → FeedState → FeedState
hear_first frame state =
    if is_setup frame then record state { is_set_up = true }
    else record state { end = Some BadPeer }

-- a frame; after the end nothing is heard
abbrev pub hear_in_feed : FrameValue → FeedState → FeedState
hear_in_feed frame state =
    if is_some state.end then state
    else if state.is_set_up then hear_later frame state
    else hear_first frame state

-- the input ends, and so many bytes of a frame are held
abbrev pub closed_feed : ℕ → FeedState → FeedState
closed_feed held state =
    if is_some state.end then state
    else if state.is_set_up && held == 0 then record state { end = Some Done }
    else record state { end = Some BadPeer }
