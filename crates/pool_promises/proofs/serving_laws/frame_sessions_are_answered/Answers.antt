use Rattle.pool_promises.proofs.FrameAnswers.{frames_answered}
use Rattle.pool_promises.proofs.serving_laws.frame_sessions_are_answered.Goals as goal

pub returns : goal.returns
returns c = frames_answered
