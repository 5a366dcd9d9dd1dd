-- Submissions that are sent on, and why others aren't.
use Rattle.std.specs.Prelude.{Result, Ok, Err}
use Rattle.v1_translate.specs.State.{SentShare}
use Rattle.v1_translate.specs.Submitting as submitting
use Rattle.v1_translate.specs.declared.submissions.NotSent.{NotSent}
use Rattle.v1_translate.specs.declared.submissions.NotSent.TheVariants.{ByError, ByCode}

-- a reason, without where its text lies in memory
abbrev pub why_by : NotSent → submitting.NotSent
why_by (ByError error) = submitting.ByError error
why_by (ByCode code) = submitting.ByCode code.now

abbrev pub checked_by : Result SentShare NotSent → Result SentShare submitting.NotSent
checked_by (Ok share) = Ok share
checked_by (Err why) = Err (why_by why)
