use Rattle.std.proofs.Common.{◌≡◌, Ok, Err, inl, inr, refl, ap, arith}
use Rattle.std.proofs.lemmas.Grind.{common_steps}
use Rattle.pool_io.specs.Steps.{steps_of, bytes_in}
use Rattle.stream_commands.specs.declared.end.End.TheVariants as end
use Rattle.stream_commands.specs.declared.reading.Unread.TheVariants.{TooLong, IdleOut}
use Rattle.stream_commands.proofs.Deciding.{decides}
use Rattle.stream_commands.proofs.reading.read_whole.Goals as goal

pub returns-in-Done-clause-decided : goal.returns-in-Done-clause-decided
returns-in-Done-clause-decided g c = λ told is.
    let ends = c.in-Done.ensures.ran.ends told is in
    let put = c.in-Done.ensures.ran.put in
    let same : c.into_bytes.result.items ≡ bytes_in (steps_of told) = grind (arith, common_steps, ends, put) in
    decides c.args.most (steps_of told) end.Done (Ok c.into_bytes.result.items) (c.in-Done.ensures.decided told is) (ap (λ b. Ok b) same)

pub returns-in-Refused-clause-decided : goal.returns-in-Refused-clause-decided
returns-in-Refused-clause-decided g c = λ told is.
    let decided = c.drive.ensures.decided told is in
    elim c.in-Refused.is [
      | inl same ↦ decides c.args.most (steps_of told) end.Refused (Err TooLong) (rw same at decided) refl
      | inr same ↦ decides c.args.most (steps_of told) end.BytesOut (Err TooLong) (rw same at decided) tt
    ]

pub returns-in-IdleOut-clause-decided : goal.returns-in-IdleOut-clause-decided
returns-in-IdleOut-clause-decided g c = λ told is.
    decides c.args.most (steps_of told) end.IdleOut (Err IdleOut) (c.in-IdleOut.ensures.decided told is) refl
