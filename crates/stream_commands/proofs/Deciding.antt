-- The end of a run decides the answer of a reading.
use Rattle.std.proofs.Common.{◌≡◌, ◌⊎◌, ℕ, List, refl, subst, Ok, Err, Result, inl, inr}
use Rattle.pool_io.specs.Steps.{ReadStep, bytes_in}
use Rattle.stream_commands.specs.declared.end.End.{End}
use Rattle.stream_commands.specs.declared.end.End.TheVariants as end
use Rattle.stream_commands.specs.Ending.{EndsAs, DecideEnd}
use Rattle.stream_commands.specs.declared.reading.Unread.{Unread}
use Rattle.stream_commands.specs.declared.reading.Unread.TheVariants.{TooLong, IdleOut}
use Rattle.stream_commands.specs.Gathering.{gathering_duty}
use Rattle.stream_commands.specs.Reading.{DecideReading, IsWhole, IsTooLong, IsLeftIdle, IsOutside}

-- what is answered at an end
abbrev AnswersEnd : List ReadStep → End → Result (List ℕ) Unread → Type 0
AnswersEnd steps end.Done answer = answer ≡ Ok (bytes_in steps)
AnswersEnd steps end.Refused answer = answer ≡ Err TooLong
AnswersEnd steps end.IdleOut answer = answer ≡ Err IdleOut
AnswersEnd steps end.BytesOut answer = Unit {0}
AnswersEnd steps end.ReadFault answer = IsOutside answer
AnswersEnd steps end.WriteFault answer = IsOutside answer
AnswersEnd steps end.Memory answer = IsOutside answer

module _ (most : ℕ) (steps : List ReadStep) (e : End) (decided : DecideEnd (gathering_duty most) steps e) where
  whole_done : IsWhole most steps → EndsAs end.Done e
  whole_done whole = decided.whole (bytes_in steps) record {
    owed = record { same = refl; short = whole.short };
    free = whole.free;
  }

  long_refused : IsTooLong most steps → EndsAs end.Refused e
  long_refused long = decided.refused (bytes_in steps) (inl (record {
    front = long.front;
    rest = long.rest;
    split = long.split;
    owed = long.over;
    free = long.free;
  }))

  idle_out : IsLeftIdle most steps → EndsAs end.IdleOut e
  idle_out idle = decided.idle_out (bytes_in idle.front) record {
    front = idle.front;
    rest = idle.rest;
    split = idle.split;
    owed = record { same = refl; short = idle.short };
    reached = idle.reached;
  }

moved : {a b : End} (steps : List ReadStep) (answer : Result (List ℕ) Unread) → a ≡ b
    → AnswersEnd steps a answer → AnswersEnd steps b answer
moved steps answer same is = subst (λ (x : End). AnswersEnd steps x answer) same is

-- an end that another one was wanted for has an answer from outside
as_wanted : (steps : List ReadStep) (answer wanted_answer : Result (List ℕ) Unread) (wanted e : End)
    → EndsAs wanted e → AnswersEnd steps e answer → (AnswersEnd steps wanted answer → answer ≡ wanted_answer)
    → (answer ≡ wanted_answer) ⊎ IsOutside answer
as_wanted steps answer wanted_answer wanted end.ReadFault ends is to = inr is
as_wanted steps answer wanted_answer wanted end.WriteFault ends is to = inr is
as_wanted steps answer wanted_answer wanted end.Memory ends is to = inr is
as_wanted steps answer wanted_answer wanted end.Done (inl same) is to = inl (to (moved steps answer same is))
as_wanted steps answer wanted_answer wanted end.Done (inr out) is to = absurd out
as_wanted steps answer wanted_answer wanted end.Refused (inl same) is to = inl (to (moved steps answer same is))
as_wanted steps answer wanted_answer wanted end.Refused (inr out) is to = absurd out
as_wanted steps answer wanted_answer wanted end.IdleOut (inl same) is to = inl (to (moved steps answer same is))
as_wanted steps answer wanted_answer wanted end.IdleOut (inr out) is to = absurd out
as_wanted steps answer wanted_answer wanted end.BytesOut (inl same) is to = inl (to (moved steps answer same is))
as_wanted steps answer wanted_answer wanted end.BytesOut (inr out) is to = absurd out

pub decides : (most : ℕ) (steps : List ReadStep) (e : End) (answer : Result (List ℕ) Unread)
    → DecideEnd (gathering_duty most) steps e → AnswersEnd steps e answer → DecideReading most steps answer
decides most steps e answer decided is = record {
  whole = λ whole. as_wanted steps answer (Ok (bytes_in steps)) end.Done e (whole_done most steps e decided whole) is (λ same. same);
  too_long = λ long. as_wanted steps answer (Err TooLong) end.Refused e (long_refused most steps e decided long) is (λ same. same);
  left_idle = λ idle. as_wanted steps answer (Err IdleOut) end.IdleOut e (idle_out most steps e decided idle) is (λ same. same);
}
