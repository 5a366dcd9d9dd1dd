-- Bytes have one verdict.
use Rattle.std.proofs.Common.{◌≡◌, ℕ, ◌≤◌, List, [], ◌++◌, length, take, refl, sym, ap, ◌∙◌, arith, length-append}
use Rattle.std.proofs.lemmas.List.{take-append-le}
use Rattle.stream_commands.specs.Duties.{IsNothing, IsSoundDuty}
use Rattle.stream_programs.specs.declared.judge.Job.{Job}
use Rattle.stream_programs.specs.Answers.{answers_after}
use Rattle.stream_programs.specs.Submitting.{IsPartialShare, IsOtherHeader, BeginsNoShare}
use Rattle.stream_programs.specs.FixedDuty.{AnswersShares, IsCutShare, share_duty}
use Rattle.stream_programs.specs.OneReading.{SpellShares-more, none_short, none_other, one_reading}

none_empty : BeginsNoShare []
none_empty = none_short [] (omega arith)

module _ (class : ℕ) (job : Job) where
  -- what is refused is no other reading
  other_rest : (bytes more text other : List ℕ) (IsKind : List ℕ → Type 0)
      → ((rest : List ℕ) → IsKind rest → BeginsNoShare rest)
      → (owed : AnswersShares class job IsKind (bytes ++ more) text)
      (refused : AnswersShares class job IsOtherHeader bytes other)
      → owed.rest ≡ refused.rest ++ more
  other_rest bytes more text other IsKind none owed refused =
      (one_reading (bytes ++ more) owed.shares refused.shares owed.rest (refused.rest ++ more)
      owed.spelled
      (SpellShares-more bytes refused.shares refused.rest more refused.spelled)
      (none owed.rest owed.is_kind) (none_other refused.rest more refused.is_kind)).1

  nothing_none : (rest : List ℕ) → IsNothing rest → BeginsNoShare rest
  nothing_none rest nothing = rw nothing none_empty

  whole_or_refused : (bytes more text other : List ℕ)
      → AnswersShares class job IsNothing (bytes ++ more) text
      → AnswersShares class job IsOtherHeader bytes other → ⊥
  whole_or_refused bytes more text other owed refused =
      let same = other_rest bytes more text other IsNothing nothing_none owed refused in
      omega (
        arith,
        ap length (sym owed.is_kind ∙ same),
        length-append refused.rest more,
        refused.is_kind.long,
      )

  so_far_or_refused : (bytes more text other : List ℕ)
      → AnswersShares class job IsPartialShare (bytes ++ more) text
      → AnswersShares class job IsOtherHeader bytes other → ⊥
  so_far_or_refused bytes more text other owed refused =
      let same = other_rest bytes more text other IsPartialShare
      (λ rest partial. none_short rest partial.short) owed refused in
      let long : 6 ≤ length owed.rest = omega (
        arith,
        ap length same,
        length-append refused.rest
            more,
        refused.is_kind.long,
      ) in
      let first : take 6 owed.rest ≡ take 6 refused.rest = ap (take 6) same
      ∙ take-append-le 6 refused.rest more refused.is_kind.long in
      refused.is_kind.header (rw first at (owed.is_kind.header long))

  whole_or_cut : (bytes text other : List ℕ) → AnswersShares class job IsNothing bytes text
      → AnswersShares class job IsCutShare bytes other → ⊥
  whole_or_cut bytes text other whole cut =
      let same = one_reading bytes whole.shares cut.shares whole.rest cut.rest whole.spelled
      cut.spelled (nothing_none whole.rest whole.is_kind)
      (none_short cut.rest cut.is_kind.partial.short) in
      cut.is_kind.some (sym same.1 ∙ whole.is_kind)

  pub share_duty_is_sound : IsSoundDuty (share_duty class job)
  unfolding answers_after
  share_duty_is_sound = record {
    nothing = record {
      shares = [];
      rest = [];
      spelled = refl;
      is_kind =
          record { short = omega arith; header = λ long. absurd (omega arith) };
      answered = refl;
    };
    whole_or_refused = whole_or_refused;
    so_far_or_refused = so_far_or_refused;
    whole_or_cut = whole_or_cut;
  }
