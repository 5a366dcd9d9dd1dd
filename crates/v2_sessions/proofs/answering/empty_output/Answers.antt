use Rattle.std.proofs.Common.{◌∙◌}
use Rattle.v2_sessions.proofs.Fitting.{empty_output_bytes}
use Rattle.v2_sessions.proofs.answering.empty_output.Goals as goal

pub returns-clause-bytes : goal.returns-clause-bytes
returns-clause-bytes c =
    c.place.ensures ∙ rw c.bytes-bytes.ensures.value (empty_output_bytes c.args.script.now c.bytes-bytes.ensures.short)
