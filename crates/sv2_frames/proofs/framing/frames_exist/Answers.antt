use Rattle.std.proofs.Common.{length, arith}
use Rattle.sv2_frames.proofs.Streams.{frames_exist}
use Rattle.sv2_frames.proofs.framing.frames_exist.Goals as goal

pub returns : goal.returns
returns c = λ bytes fits. frames_exist (length bytes) bytes (omega arith) fits
