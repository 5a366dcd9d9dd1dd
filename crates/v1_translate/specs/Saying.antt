-- What a session writes, and what its caller is told.
use Rattle.std.specs.Prelude.{◌≡◌, ℕ, List, [], ◌∷◌, ◌++◌}
use Rattle.sv2_messages.specs.Messages.{Message, message_frame}
use Rattle.sv2_messages.specs.Tables.{mining_table}
use Rattle.v1_lines.specs.Replies.{written_line}
use Rattle.v1_translate.specs.Asked.{open_message, share_message, update_message}
use Rattle.v1_translate.specs.State.{V1State, Saying, saying_value, Asking, Silence, Open, Update, Share, Name, Reaction}
use Rattle.v1_translate.specs.declared.asking.V1Ask.{V1Ask}
use Rattle.v1_translate.specs.declared.asking.V1Ask.TheVariants as asks
use Rattle.v1_translate.specs.declared.step.V1Step.{V1Step}
use Rattle.v1_translate.specs.declared.step.V1Step.TheVariants as steps

-- the line of what is said
unfoldable pub line_of : Saying → List ℕ
line_of said = written_line (saying_value said)

-- bytes, and behind them a line for each thing that is said
abbrev pub with_lines : List ℕ → List Saying → List ℕ
with_lines before [] = before
with_lines before (said ∷ more) = with_lines (before ++ line_of said) more

-- the frame of a message
unfoldable pub frame_of_message : Message → List ℕ
frame_of_message message = message_frame mining_table message

-- what is asked, as it is handed on
abbrev pub asking_of : V1Ask → Asking
asking_of asks.Nothing = Silence
asking_of (asks.Open class) = Open class
asking_of (asks.Update channel class) = Update channel class
asking_of (asks.Share share) = Share share
asking_of (asks.Name account) = Name account

-- bytes, and behind them the frame of what is asked by a message
abbrev pub with_frame : List ℕ → Asking → List ℕ
with_frame before Silence = before
with_frame before (Open class) = before ++ frame_of_message (open_message class)
with_frame before (Update channel class) =
    before ++ frame_of_message (update_message channel class)
with_frame before (Share share) = before ++ frame_of_message (share_message share)
with_frame before (Name account) = before

-- what the caller is to do
abbrev pub step_of : Asking → V1Step
step_of Silence = steps.Said
step_of (Open class) = steps.Sent
step_of (Update channel class) = steps.Sent
step_of (Share share) = steps.Sent
step_of (Name account) = steps.Name account

-- a session reacts so, and says it: it is in the state behind that, and has put its lines
pub record Says (reaction : Reaction) (after : V1State) (before said : List ℕ) : Type 0 where
  pub state : after ≡ reaction.after
  pub lines : said ≡ with_lines before reaction.says

-- and it asks the pool for this: the caller is told so, and the frame is put
pub record Asks (asking : Asking) (step : V1Step) (before sent : List ℕ) : Type 0 where
  pub told : step ≡ step_of asking
  pub frame : sent ≡ with_frame before asking
