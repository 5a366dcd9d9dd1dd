-- What a message that was read tells.
use Rattle.std.specs.Prelude.{Option, None, Some}
use Rattle.sv2_frames.specs.declared.framing.Frame.{Frame}
use Rattle.sv2_frames.specs.Framing.{FrameValue}
use Rattle.mining_msgs.specs.declared.channels.OpenExtendedMiningChannelSuccess.{OpenExtendedMiningChannelSuccess}
use Rattle.mining_msgs.specs.declared.message.Mining.{Mining}
use Rattle.mining_msgs.specs.declared.message.Mining.TheVariants as messages
use Rattle.v1_translate.specs.Heard.{Nothing, OpenedChannel, told_by}
use Rattle.proxy_rules.specs.Frames.{UpTold, Tells, set_up_by}

-- a frame, without where its payload lies in memory
abbrev pub frame_of : Frame → FrameValue
frame_of frame = record { ext = frame.ext; kind = frame.kind; payload = frame.payload.now }

abbrev pub told_by_message : Mining → UpTold
told_by_message (messages.SetupConnectionSuccess m) = set_up_by m.used_version
told_by_message message = Tells (told_by message)

abbrev pub told_by_read : Option Mining → UpTold
told_by_read None = Tells Nothing
told_by_read (Some message) = told_by_message message

-- the channel that a message opens
abbrev pub channel_in : OpenExtendedMiningChannelSuccess → OpenedChannel
channel_in m =
    record {
      channel = m.channel_id;
      target = m.target;
      lead = m.extranonce_prefix.now;
      rolled = m.extranonce_size;
    }
