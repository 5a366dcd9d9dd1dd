-- The frames of a generated session (this project's own; its messages are those of Stratum V2, and its
-- numbers those of O'Neill's generator Pcg32 of stream 1).
use Rattle.std.specs.Prelude.{ℕ, suc, zero, ◌+◌, ◌/◌, ◌%◌, ◌==◌, ◌&&◌, ◌^◌, Bool, true, not, if◌then◌else◌, List, [], ◌∷◌, ◌++◌, replicate}
use Rattle.block_header.specs.Target.{target}
use Rattle.rand_pcg.specs.Lcg.{Lcg, increment_of, started}
use Rattle.rand_pcg.specs.Pcg.{multiplier_64, pcg32}
use Rattle.sv2_types.specs.Fields.{Bytes, Number, Parts, Truth}
use Rattle.sv2_messages.specs.declared.kinds.TheConstants as kinds
use Rattle.sv2_messages.specs.Messages.{Message, message_frame}
use Rattle.sv2_messages.specs.Tables.{mining_table, template_table}
use Rattle.mining_msgs.specs.PlainSetup.{plain_setup}

-- without flags
abbrev pub setup_message : Message
setup_message = plain_setup 0

abbrev pub setup_frame : List ℕ
setup_frame = message_frame mining_table setup_message

-- one of five users: `u` and a digit
abbrev pub user_name : ℕ → List ℕ
user_name number = 117 ∷ (48 + number % 5) ∷ []

-- a channel for which any target will do, rolling eight bytes
abbrev pub opening_message : ℕ → Message
opening_message number = record {
  kind = kinds.OPEN_EXTENDED_MINING_CHANNEL;
  fields =
      Number number ∷ Bytes (user_name number) ∷ Bytes (0 ∷ 0 ∷ 0 ∷ 0 ∷ []) ∷
      Bytes (target 0) ∷ Number 8 ∷ [];
}

abbrev pub opening_frame : ℕ → List ℕ
opening_frame number = message_frame mining_table (opening_message number)

-- a future template of 50 bitcoins without other outputs and without a path
abbrev pub template_message : ℕ → Message
template_message id = record {
  kind = kinds.NEW_TEMPLATE;
  fields =
      Number id ∷ Truth true ∷ Number 0x20000000 ∷ Number 2 ∷ Bytes (0x51 ∷ 0x51 ∷ []) ∷
      Number 0xffffffff ∷ Number 5000000000 ∷ Number 0 ∷ Bytes [] ∷ Number 0 ∷ Parts [] ∷ [];
}

abbrev pub template_frame : ℕ → List ℕ
template_frame id = message_frame template_table (template_message id)

-- its tip, whose previous hash has the template's number in each byte; class 9 meets its target
abbrev pub tip_message : ℕ → Message
tip_message id = record {
  kind = kinds.TEMPLATE_SET_NEW_PREV_HASH;
  fields =
      Number id ∷ Bytes (replicate 32 (id % 256)) ∷ Number 1000000 ∷ Number 0x207fffff ∷
      Bytes (target 9) ∷ [];
}

abbrev pub tip_frame : ℕ → List ℕ
tip_frame id = message_frame template_table (tip_message id)

abbrev pub job_frames : ℕ → List ℕ
job_frames id = template_frame id ++ tip_frame id

-- the submission of a share: by a number it is for one of 18 channels, of which 16 are open, and for
-- one of the jobs that came or the one after them
abbrev pub share_message : ℕ → ℕ → ℕ → Message
share_message step templates random = record {
  kind = kinds.SUBMIT_SHARES_EXTENDED;
  fields =
      Number (1 + random % 18) ∷ Number step ∷ Number (1 + random / 2 ^ 8 % (templates + 1)) ∷
      Number (random / 2 ^ 16 % 4096) ∷ Number 1000000 ∷ Number 0x20000000 ∷
      Bytes (replicate 8 0) ∷ [];
}

abbrev pub share_frame : ℕ → ℕ → ℕ → List ℕ
share_frame step templates random = message_frame mining_table (share_message step templates random)

-- how many templates came up to a step: one before the first, and one more every 2,000
abbrev pub templates_at : ℕ → ℕ
templates_at step = 1 + step / 2000

abbrev pub is_job_step : ℕ → Bool
is_job_step step = step % 2000 == 0 && not (step == 0)

abbrev pub news_frames : ℕ → List ℕ
news_frames step = if is_job_step step then job_frames (templates_at step) else []

-- the generator after so many numbers
unfoldable pub generator_after : ℕ → ℕ → Lcg
generator_after seed zero = started 64 multiplier_64 seed (increment_of 64 1)
generator_after seed (suc steps) = (pcg32 (generator_after seed steps)).1

abbrev pub random_at : ℕ → ℕ → ℕ
random_at seed step = (pcg32 (generator_after seed step)).0

abbrev pub step_frames : ℕ → ℕ → List ℕ
step_frames seed step = news_frames step ++ share_frame step (templates_at step) (random_at seed step)

-- the frames of so many openings, and of so many steps
unfoldable pub openings_frames : ℕ → List ℕ
openings_frames zero = []
openings_frames (suc count) = openings_frames count ++ opening_frame count

unfoldable pub steps_frames : ℕ → ℕ → List ℕ
steps_frames seed zero = []
steps_frames seed (suc count) = steps_frames seed count ++ step_frames seed count

-- how many shares there are, and all frames
abbrev pub load_frames : ℕ → ℕ → List ℕ
load_frames seed steps =
    setup_frame ++ openings_frames 16 ++ job_frames 1 ++ steps_frames seed steps
