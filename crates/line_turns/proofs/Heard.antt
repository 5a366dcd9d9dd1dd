-- What is heard of a link, part by part.
use Rattle.std.proofs.Common.{◌≡◌, ℕ, ◌-◌, ◌<◌, ◌≤◌, suc, zero, List, [], ◌∷◌, ◌++◌, Result, Ok, Err, length, take, refl, sym, ap, subst, ◌∙◌, append_assoc, append-nil, arith}
use Rattle.std.proofs.Math.Dec.{eqb-suc-zero}
use Rattle.std.specs.Prelude.{OnOk, if◌then◌else◌}
use Rattle.pool_io.specs.declared.source.Took.TheVariants as took
use Rattle.pool_network.specs.Seen.{LinkSeen}
use Rattle.link_turns.specs.declared.waiting.Limit.TheVariants as limit
use Rattle.link_turns.specs.declared.waiting.Waiting.{Waiting}
use Rattle.link_turns.specs.Waits.{TakesOf, waiting_after}
use Rattle.v1_lines.specs.Holding.{HoldsLongLine, IsHeldLine}
use Rattle.v1_lines.specs.Lines.{IsLineText}
use Rattle.session_steps.specs.declared.ends.SessionEnd.{SessionEnd}
use Rattle.session_steps.specs.declared.ends.SessionEnd.TheVariants as end
use Rattle.session_steps.specs.States.{input_end}
use Rattle.v2_sessions.specs.Standing.{GoesOnOrEnds, Intake}
use Rattle.line_turns.specs.declared.hearing.Lines.{Lines}
use Rattle.line_turns.specs.Hearing.{CanTakeTurn, GoesOnOr, Hearing, HearsIdle, HearsLine, HearsLines, HearsOn, HearsToEnd, after_idle, intake_at, with_bytes}
use Rattle.line_turns.specs.Listening.{HearsHeld, HearsIdleOf, IsListening, intake_of}

module _ {T : Type 0} (goes_on : Hearing T → Hearing T → Type 0) (ends : Hearing T → SessionEnd → Hearing T → Type 0) (laws : HearsLines goes_on ends) where
  abbrev at : Intake → T → LinkSeen → Hearing T
  at intake talker link = record { intake = intake; talker = talker; link = link }

  -- ---- a line

  pub line_heard : (held line left : List ℕ) → IsHeldLine line held → (old new : T) (l l' : LinkSeen) (result : Result Unit SessionEnd)
      → HearsLine goes_on ends line old l result new l' → OnOk result (left ≡ []) → HearsHeld goes_on ends held left old l result new l'
  line_heard held line left is old new l l' result hears none before rest unmet some =
      let on = hears before rest is.text (unmet ∙ ap (λ h. h ++ rest) is.whole ∙ append_assoc line (10 ∷ []) rest) some in
      record { intake = on.intake; kept_is = kept result on.intake on.kept_is none; does = on.does }
    where
      kept : (result : Result Unit SessionEnd) (intake : Intake) → OnOk result (intake ≡ record before { unmet = rest }) → OnOk result (left ≡ [])
          → OnOk result (intake ≡ record before { unmet = left ++ rest })
      kept (Ok _) intake is none = rw none is
      kept (Err _) intake is none = tt

  pub long_heard : (held : List ℕ) → HoldsLongLine held → (old : T) (l : LinkSeen) → HearsHeld goes_on ends held held old l (Err end.LineTooLong) old l
  long_heard held long old l before rest unmet some = record {
    intake = before;
    kept_is = tt;
    does = laws.overran (at before old l) (record { front = held; more = rest; whole = unmet; long = long });
  }

  -- ---- the lines of a piece

  module _ (waiting : Waiting) (first : List ℕ) (start talker new : T) (l l' l'' : LinkSeen) (unmet : List ℕ) (so_far : goes_on (at (intake_at waiting first) start l) (at (intake_at waiting unmet) talker l')) where
    pub goes_further : (left : List ℕ) → HearsOn goes_on ends (intake_at waiting unmet) (intake_at waiting left) talker l' (Ok tt) new l''
        → goes_on (at (intake_at waiting first) start l) (at (intake_at waiting left) new l'')
    goes_further left hears =
        laws.on (at (intake_at waiting first) start l) (at (intake_at waiting unmet) talker l') (at (intake_at waiting left) new l'') so_far (rw hears.kept_is at hears.does)

    pub ends_here : (left kept : Intake) (reason : SessionEnd) → HearsOn goes_on ends (intake_at waiting unmet) left talker l' (Err reason) new l''
        → HearsOn goes_on ends (intake_at waiting first) kept start l (Err reason) new l''
    ends_here left kept reason hears = record {
      intake = hears.intake;
      kept_is = tt;
      does = laws.to_end (at (intake_at waiting first) start l) (at (intake_at waiting unmet) talker l') (at hears.intake new l'') reason so_far hears.does;
    }

  -- ---- a turn

  -- once the bytes that came are heard, the next turn is taken, or as many bytes came as are taken
  all_heard : (lines : Lines) (first rest : List ℕ) (old new : T) (l l' : LinkSeen) (result : Result Unit SessionEnd)
      → goes_on (at (intake_at lines.waiting first) old l) (at (intake_at lines.waiting (lines.reader ++ rest)) new l') → rest ≡ [] → IsLineText lines.reader → 0 < lines.waiting.idles
      → GoesOnOrEnds lines.waiting result → HearsOn goes_on ends (intake_at lines.waiting first) (intake_of lines) old l result new l'
  all_heard lines first rest old new l l' result so_far none text some limits = heard result limits
    where
      all : goes_on (at (intake_at lines.waiting first) old l) (at (intake_of lines) new l')
      all = subst (λ unmet. goes_on (at (intake_at lines.waiting first) old l) (at (intake_at lines.waiting unmet) new l'))
          (ap (λ xs. lines.reader ++ xs) none ∙ append-nil lines.reader) so_far

      heard : (result : Result Unit SessionEnd) → GoesOnOrEnds lines.waiting result → HearsOn goes_on ends (intake_at lines.waiting first) (intake_of lines) old l result new l'
      heard (Ok _) limits = record { intake = intake_of lines; kept_is = refl; does = all }
      heard (Err reason) (limit.IdleOut, is, reason_is) = absurd (omega (arith, is, some))
      heard (Err reason) (limit.BytesOut, is, reason_is) = record {
        intake = intake_of lines;
        kept_is = tt;
        does = rw reason_is
            (laws.to_end (at (intake_at lines.waiting first) old l) (at (intake_of lines) new l') (at (intake_of lines) new l') end.BytesOut all (laws.spent (at (intake_of lines) new l') text is.1));
      }

  pub bytes_heard : (waiting : Waiting) (lines : Lines) → lines.waiting ≡ waiting → (first rest : List ℕ) (old new : T) (l l' : LinkSeen) (result : Result Unit SessionEnd)
      → goes_on (at (intake_at waiting first) old l) (at (intake_at waiting (lines.reader ++ rest)) new l') → rest ≡ [] → IsLineText lines.reader → 0 < waiting.idles
      → GoesOnOrEnds lines.waiting result → HearsOn goes_on ends (intake_at waiting first) (intake_of lines) old l result new l'
  bytes_heard waiting lines same first rest old new l l' result so_far none text some limits =
      subst (λ w. HearsOn goes_on ends (intake_at w first) (intake_of lines) old l result new l') same
      (all_heard lines first rest old new l l' result
      (subst (λ w. goes_on (at (intake_at w first) old l) (at (intake_at w (lines.reader ++ rest)) new l')) (sym same) so_far) none text
      (subst (λ (w : Waiting). 0 < w.idles) (sym same) some) limits)

  -- an Idle turn, and then the next turn is taken, or there were too many
  pub idle_failed : (lines : Lines) (old new : T) (l l' : LinkSeen) (reason : SessionEnd) → HearsIdle goes_on ends old l (Err reason) new l'
      → HearsIdleOf goes_on ends lines old l (Err reason) new l'
  idle_failed lines old new l l' reason hears before buffer first can takes is =
      let on = hears before buffer first can takes in
      record { intake = on.intake; kept_is = tt; does = on.does }

  after_some : (idles : ℕ) → 0 < idles → after_idle idles (Ok tt) ≡ Ok tt
  after_some zero some = absurd (omega (arith, some))
  after_some (suc n) some = ap (λ b. if b then Err end.IdleOut else Ok tt) (eqb-suc-zero n)

  end_of_idle : (lines : Lines) (result : Result Unit SessionEnd) → 0 < lines.waiting.bytes → GoesOnOrEnds lines.waiting result
      → after_idle lines.waiting.idles (Ok tt) ≡ result
  end_of_idle lines (Ok done) some limits = after_some lines.waiting.idles limits.0
  end_of_idle lines (Err reason) some (limit.IdleOut, is, reason_is) = rw (is, reason_is) refl
  end_of_idle lines (Err reason) some (limit.BytesOut, is, reason_is) = absurd (omega (arith, some, is.1))

  pub idle_heard : (lines : Lines) (old new : T) (l l' : LinkSeen) (result : Result Unit SessionEnd) → HearsIdle goes_on ends old l (Ok tt) new l'
      → 0 < lines.waiting.bytes → GoesOnOrEnds lines.waiting result → HearsIdleOf goes_on ends lines old l result new l'
  idle_heard lines old new l l' result hears some limits before buffer first can takes is =
      let on = hears before buffer first can takes in
      let left : before.idles - 1 ≡ lines.waiting.idles = ap (λ (i : Intake). i.idles) is in
      let same : after_idle (before.idles - 1) (Ok tt) ≡ result = ap (λ n. after_idle n (Ok tt)) left ∙ end_of_idle lines result some limits in
      subst (λ r. HearsOn goes_on ends before (intake_of lines) old first r new l') same
      (subst (λ i. HearsOn goes_on ends before i old first (after_idle (before.idles - 1) (Ok tt)) new l') is on)

  module _ (lines : Lines) (listening : IsListening lines) (old : T) (l middle : LinkSeen) (buffer : List ℕ) where
    can : CanTakeTurn (intake_of lines)
    can = record { text = listening.text; some = listening.below.some; waits = listening.below.waits }

    -- bytes of a turn, and what was heard of them
    pub bytes_turned : (count : ℕ) → length (take count buffer) ≡ count → 0 < count → count ≤ 4096 → count ≤ lines.waiting.bytes
        → TakesOf (took.Bytes count) buffer l middle → (kept : Intake) (result : Result Unit SessionEnd) (new : T) (l' : LinkSeen)
        → HearsOn goes_on ends (intake_at (waiting_after (took.Bytes count) lines.waiting) (lines.reader ++ take count buffer)) kept old middle result new l'
        → HearsOn goes_on ends (intake_of lines) kept old l result new l'
    bytes_turned count there some short within takes kept result new l' hears =
        let came = laws.brought (at (intake_of lines) old l) count buffer middle can (record { there = there; some = some; short = short; within = within }) takes in
        record { intake = hears.intake; kept_is = hears.kept_is; does = on_from result hears.intake came hears.does }
      where
        bytes_are : with_bytes (take count buffer) (intake_of lines) ≡ intake_at (waiting_after (took.Bytes count) lines.waiting) (lines.reader ++ take count buffer)
        bytes_are = ap (λ n. record (with_bytes (take count buffer) (intake_of lines)) { bytes = lines.waiting.bytes - n }) there

        on_from : (result : Result Unit SessionEnd) (kept : Intake) → goes_on (at (intake_of lines) old l) (at (with_bytes (take count buffer) (intake_of lines)) old middle)
            → GoesOnOr goes_on ends (at (intake_at (waiting_after (took.Bytes count) lines.waiting) (lines.reader ++ take count buffer)) old middle) result (at kept new l')
            → GoesOnOr goes_on ends (at (intake_of lines) old l) result (at kept new l')
        on_from (Ok _) kept came does =
            laws.on (at (intake_of lines) old l) (at (with_bytes (take count buffer) (intake_of lines)) old middle) (at kept new l') came
            (subst (λ i. goes_on (at i old middle) (at kept new l')) (sym bytes_are) does)
        on_from (Err reason) kept came does =
            laws.to_end (at (intake_of lines) old l) (at (with_bytes (take count buffer) (intake_of lines)) old middle) (at kept new l') reason came
            (subst (λ i. ends (at i old middle) reason (at kept new l')) (sym bytes_are) does)

    pub idle_turned : (lines' : Lines) → lines'.reader ≡ lines.reader → lines'.waiting ≡ waiting_after took.Idle lines.waiting → TakesOf took.Idle buffer l middle
        → (result : Result Unit SessionEnd) (new : T) (l' : LinkSeen) → HearsIdleOf goes_on ends lines' old middle result new l'
        → HearsOn goes_on ends (intake_of lines) (intake_of lines') old l result new l'
    idle_turned lines' reader waiting takes result new l' hears = hears (intake_of lines) buffer l can takes (rw (reader, waiting) refl)

    pub end_turned : TakesOf took.End buffer l middle → (kept : Intake) → HearsOn goes_on ends (intake_of lines) kept old l (Err (input_end lines.reader)) old middle
    end_turned takes kept = record { intake = intake_of lines; kept_is = tt; does = laws.ended (at (intake_of lines) old l) buffer middle can takes }

    pub failed_turned : TakesOf took.Failed buffer l middle → (kept : Intake) → HearsOn goes_on ends (intake_of lines) kept old l (Err end.ReadFault) old middle
    failed_turned takes kept = record { intake = intake_of lines; kept_is = tt; does = laws.missed (at (intake_of lines) old l) buffer middle can takes }

  -- ---- up to an end

  pub turned_on : (first middle last : Intake) (start talker new : T) (l l' l'' : LinkSeen) → goes_on (at first start l) (at middle talker l')
      → HearsOn goes_on ends middle last talker l' (Ok tt) new l'' → goes_on (at first start l) (at last new l'')
  turned_on first middle last start talker new l l' l'' so_far hears =
      laws.on (at first start l) (at middle talker l') (at last new l'') so_far (rw hears.kept_is at hears.does)

  pub ended_there : (first middle last : Intake) (start talker new : T) (l l' l'' : LinkSeen) (reason : SessionEnd) → goes_on (at first start l) (at middle talker l')
      → HearsOn goes_on ends middle last talker l' (Err reason) new l'' → HearsToEnd ends first start l reason new l''
  ended_there first middle last start talker new l l' l'' reason so_far hears = record {
    last = hears.intake;
    ends_so = laws.to_end (at first start l) (at middle talker l') (at hears.intake new l'') reason so_far hears.does;
  }

  pub heard_to_end : (first middle last : Intake) (start talker new : T) (l l' l'' : LinkSeen) (reason : SessionEnd) → HearsOn goes_on ends first middle start l (Ok tt) talker l'
      → HearsToEnd ends middle talker l' reason new l'' → HearsToEnd ends first start l reason new l''
  heard_to_end first middle last start talker new l l' l'' reason hears rest = record {
    last = rest.last;
    ends_so = laws.to_end (at first start l) (at middle talker l') (at rest.last new l'') reason (rw hears.kept_is at hears.does) rest.ends_so;
  }
