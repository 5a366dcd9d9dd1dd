-- An audit gives bytes one answer.
use Rattle.std.proofs.Common.{◌≡◌, ◌⊎◌, ℕ, ◌<◌, ◌≤◌, None, Some, Option, List, [], ◌∷◌, ◌++◌, length, arith, refl, ap, subst, sym, ◌∙◌, inl, inr, ⊎_elim, append_assoc, length-append}
use Rattle.std.proofs.lemmas.Bool.{cases_lt}
use Rattle.ledger_records.proofs.Records.{formats_differ}
use Rattle.pool_history.specs.declared.events.Event.{Event}
use Rattle.pool_history.specs.Ledger.{magic_1, magic_2}
use Rattle.stream_commands.specs.Duties.{IsSoundDuty}
use Rattle.ledger_audit.specs.declared.auditor.Auditor.{Auditor}
use Rattle.ledger_audit.specs.declared.format.Format.{Format}
use Rattle.ledger_audit.specs.declared.format.Format.TheVariants.{Plain, Chained}
use Rattle.ledger_audit.specs.declared.records.Records.{Records}
use Rattle.ledger_audit.specs.declared.verdict.Verdict.{Verdict}
use Rattle.ledger_audit.specs.declared.verdict.Verdict.TheVariants as verdict
use Rattle.ledger_audit.specs.Auditing.{HasAudited, HasReadBytes, lacking_of}
use Rattle.ledger_audit.specs.Duty.{EndsEarly, HasDefect, IsAuditedLegal, IsPrinted, IsRefusedAs, IsUndecided, IsUnfinished, audit_duty}
use Rattle.ledger_audit.specs.Stops.{StopsLedgerBy}
use Rattle.ledger_audit.specs.Units.{lacking}
use Rattle.ledger_audit.specs.Verdicts.{BeginsLegal, HasNoMagic, text_in}
use Rattle.ledger_audit.specs.Lacking.{lacking-more, lacking-record}
use Rattle.ledger_audit.specs.OneVerdict.{GoesOnLegally, Stopped, has-magic, one-verdict, shorter, stops-here, two-stops}

-- what an auditor holds isn't decided
underway : (records : Option Records) (held bytes : List ℕ) → HasReadBytes records held bytes → 0 < lacking_of records held
    → (length bytes < 8) ⊎ IsUnfinished bytes
underway None held bytes read lacks = inl (omega (arith, ap length read, lacks))
underway (Some records) held bytes read lacks = inr (record {
  format = records.format;
  before = read.history;
  behind = held;
  begins = read.begins;
  undecided = lacks;
})

pub audit_owes_so_far : (auditor : Auditor) (bytes text : List ℕ) → HasAudited auditor bytes text → IsUndecided bytes text
audit_owes_so_far auditor bytes text audited = record {
  printed = audited.holds.printed;
  underway = underway auditor.records auditor.held.items bytes audited.holds.read audited.lacks;
}

-- bytes that are no magic are none, whatever follows; nor are few bytes
split-eight : (bytes more rest : List ℕ) (a b c d e f g h : ℕ) → 8 ≤ length bytes
    → bytes ++ more ≡ (a ∷ b ∷ c ∷ d ∷ e ∷ f ∷ g ∷ h ∷ []) ++ rest
    → (other : List ℕ) × (bytes ≡ (a ∷ b ∷ c ∷ d ∷ e ∷ f ∷ g ∷ h ∷ []) ++ other)
split-eight [] more rest a b c d e f g h long same = absurd (omega (arith, long))
split-eight (_ ∷ []) more rest a b c d e f g h long same = absurd (omega (arith, long))
split-eight (_ ∷ _ ∷ []) more rest a b c d e f g h long same = absurd (omega (arith, long))
split-eight (_ ∷ _ ∷ _ ∷ []) more rest a b c d e f g h long same = absurd (omega (arith, long))
split-eight (_ ∷ _ ∷ _ ∷ _ ∷ []) more rest a b c d e f g h long same = absurd (omega (arith, long))
split-eight (_ ∷ _ ∷ _ ∷ _ ∷ _ ∷ []) more rest a b c d e f g h long same = absurd (omega (arith, long))
split-eight (_ ∷ _ ∷ _ ∷ _ ∷ _ ∷ _ ∷ []) more rest a b c d e f g h long same = absurd (omega (arith, long))
split-eight (_ ∷ _ ∷ _ ∷ _ ∷ _ ∷ _ ∷ _ ∷ []) more rest a b c d e f g h long same = absurd (omega (arith, long))
split-eight (p ∷ q ∷ r ∷ s ∷ t ∷ u ∷ v ∷ w ∷ bytes) more rest a b c d e f g h long same = (bytes, cc)

pub no_magic-more : (bytes more : List ℕ) → 8 ≤ length bytes → HasNoMagic bytes → HasNoMagic (bytes ++ more)
no_magic-more bytes more eight none = record {
  plain = λ rest same. (let p = split-eight bytes more rest 83 86 50 76 69 68 71 49 eight same in none.plain p.0 p.1);
  chained = λ rest same. (let p = split-eight bytes more rest 83 86 50 76 69 68 71 50 eight same in none.chained p.0 p.1);
}

pub few_have_no_magic : (bytes : List ℕ) → length bytes < 8 → HasNoMagic bytes
few_have_no_magic bytes few = record {
  plain = λ rest same. short magic_1 rest refl same;
  chained = λ rest same. short magic_2 rest refl same;
} where
  short : (magic rest : List ℕ) → length magic ≡ 8 → bytes ≡ magic ++ rest → ⊥
  short magic rest eight same = omega (arith, few, eight, ap length same, length-append magic rest)

-- a legal front is one, whatever follows
pub begins-more : (format : Format) (before : List Event) (bytes behind more : List ℕ)
    → BeginsLegal format before bytes behind
    → BeginsLegal format before (bytes ++ more) (behind ++ more)
begins-more format before bytes behind more begins = record {
  kept = begins.kept;
  text = ap (λ b. b ++ more) begins.text ∙ append_assoc (text_in format before) behind more;
}

-- a defect is one of the longer bytes
pub stopped-more : (bytes more : List ℕ) (v : Verdict) → HasDefect bytes v → Stopped (bytes ++ more) v
stopped-more bytes more v defect = record {
  format = defect.format;
  before = defect.before;
  behind = defect.behind ++ more;
  begins = begins-more defect.format defect.before bytes defect.behind more defect.begins;
  stops = defect.stops more;
}

-- the formats are one
same_format : (f g : Format) (one other : List Event) (bytes p q : List ℕ) → BeginsLegal f one bytes p
    → BeginsLegal g other bytes q → f ≡ g
same_format Plain Plain one other bytes p q a b = refl
same_format Chained Chained one other bytes p q a b = refl
same_format Plain Chained one other bytes p q a b = absurd (formats_differ other one q p (sym b.text ∙ a.text))
same_format Chained Plain one other bytes p q a b = absurd (formats_differ one other p q (sym a.text ∙ b.text))

-- and what goes on lacks nothing
goes_on-whole : (format : Format) (before : List Event) (behind : List ℕ)
    → GoesOnLegally format before behind → lacking format behind ≡ 0
goes_on-whole format before behind more = lacking-record format more.event behind more.rest more.one more.has_hash

undecided_or_defect : (format : Format) (one other : List Event) (bytes p q : List ℕ) (v : Verdict)
    → BeginsLegal format one bytes p → 0 < lacking format p
    → BeginsLegal format other bytes q → lacking format q ≡ 0 → StopsLedgerBy format other q v → ⊥
undecided_or_defect format one other bytes p q v a lacks b whole stops =
    ⊎_elim
    (λ less. ⊎_elim (λ same. differ (ap (lacking format) (sym same.behind) ∙ whole))
    (λ more. stops-here format other q v stops more)
    (shorter format other one bytes q p b a (omega (arith, less))))
    (λ most. ⊎_elim (λ same. differ (ap (lacking format) same.behind ∙ whole))
    (λ more. differ (goes_on-whole format one p more))
    (shorter format one other bytes p q a b most))
    (cases_lt (length other) (length one))
  where
    differ : lacking format p ≡ 0 → ⊥
    differ none = omega (arith, none, lacks)

whole_or_refused : (bytes more text other : List ℕ) → IsAuditedLegal (bytes ++ more) text
    → IsPrinted (IsRefusedAs bytes) other → ⊥
whole_or_refused bytes more text other whole refused =
    ⊎_elim (λ magic. has-magic whole.format whole.history (bytes ++ more) [] whole.whole
    (no_magic-more bytes more magic.eight magic.none))
    (λ defect. not_legal refused.one defect
    (two-stops (bytes ++ more) verdict.Legal refused.one legal (stopped-more bytes more refused.one defect)))
    refused.has
  where
    legal : Stopped (bytes ++ more) verdict.Legal
    legal = record { format = whole.format; before = whole.history; behind = []; begins = whole.whole; stops = refl }

    empty : (a : List ℕ) → a ++ 0 ∷ [] ≡ [] → ⊥
    empty a same = omega (arith, ap length same, length-append a (0 ∷ []))

    not_legal : (v : Verdict) → HasDefect bytes v → verdict.Legal ≡ v → ⊥
    not_legal v defect is = empty defect.behind
        (subst (λ w. StopsLedgerBy defect.format defect.before (defect.behind ++ 0 ∷ []) w) (sym is)
        (defect.stops (0 ∷ [])))

so_far_or_refused : (bytes more text other : List ℕ) → IsUndecided (bytes ++ more) text
    → IsPrinted (IsRefusedAs bytes) other → ⊥
so_far_or_refused bytes more text other so_far refused =
    ⊎_elim (λ few. ⊎_elim (λ magic. omega (arith, few, magic.eight, length-append bytes more))
    (λ defect. has-magic defect.format defect.before bytes defect.behind defect.begins
    (few_have_no_magic bytes (omega (arith, few, length-append bytes more))))
    refused.has)
    (λ open_one. ⊎_elim
    (λ magic. has-magic open_one.format open_one.before (bytes ++ more) open_one.behind open_one.begins
    (no_magic-more bytes more magic.eight magic.none))
    (λ defect. apart open_one defect) refused.has)
    so_far.underway
  where
    apart : IsUnfinished (bytes ++ more) → HasDefect bytes refused.one → ⊥
    apart u d =
        let longer : BeginsLegal d.format d.before (bytes ++ more) (d.behind ++ more) =
        begins-more d.format d.before bytes d.behind more d.begins in
        let same : u.format ≡ d.format =
        same_format u.format d.format u.before d.before (bytes ++ more) u.behind
        (d.behind ++ more) u.begins longer in
        undecided_or_defect d.format u.before d.before (bytes ++ more) u.behind (d.behind ++ more) refused.one
        (subst (λ f. BeginsLegal f u.before (bytes ++ more) u.behind) same u.begins)
        (subst (λ f. 0 < lacking f u.behind) same u.undecided)
        longer (lacking-more d.format d.behind more d.decided) (d.stops more)

whole_or_cut : (bytes text other : List ℕ) → IsAuditedLegal bytes text → IsPrinted (EndsEarly bytes) other → ⊥
whole_or_cut bytes text other whole cut =
    differ (one-verdict bytes verdict.Legal (verdict.NotALedger cut.has.0)
    (record { format = whole.format; history = whole.history; whole = whole.whole }) cut.has.2)
  where
    differ : verdict.Legal ≡ verdict.NotALedger cut.has.0 → ⊥
    differ same = cc

pub audit_duty_is_sound : IsSoundDuty audit_duty
audit_duty_is_sound = record {
  nothing = record { printed = refl; underway = inl (omega arith) };
  whole_or_refused = whole_or_refused;
  so_far_or_refused = so_far_or_refused;
  whole_or_cut = whole_or_cut;
}
