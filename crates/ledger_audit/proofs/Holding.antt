-- What an auditor holds.
use Rattle.std.proofs.Common.{◌≡◌, ℕ, ◌+◌, ◌-◌, ◌^◌, ◌<◌, ◌≤◌, None, Some, Option, List, [], ◌∷◌, ◌++◌, length, length-drop, take, drop, arith, refl, ap, subst, sym, ◌∙◌, inl, inr, append_assoc, length-append}
use Rattle.std.proofs.lemmas.List.{length-take-le, take_rest}
use Rattle.ledger_records.specs.Records.{said_body_len}
use Rattle.pool_history.specs.Sessions.{past_of}
use Rattle.pool_history.specs.Summary.{summary_of, summary_text}
use Rattle.ledger_audit.specs.declared.auditor.Auditor.{Auditor}
use Rattle.ledger_audit.specs.declared.format.Format.{Format}
use Rattle.ledger_audit.specs.declared.records.Records.{Records}
use Rattle.ledger_audit.specs.declared.verdict.Verdict.{Verdict}
use Rattle.ledger_audit.specs.declared.verdict.Verdict.TheVariants as verdict
use Rattle.ledger_audit.specs.Auditing.{HasAudited, HasReadBytes, HoldsAtMostOne, HoldsBytes, IsBehindLedger, held_place, lacking_of}
use Rattle.ledger_audit.specs.Duty.{EndsEarly, IsAuditedLegal, IsPrinted}
use Rattle.ledger_audit.specs.Lines.{verdict_line}
use Rattle.ledger_audit.specs.Units.{lacking, unit_len}
use Rattle.ledger_audit.specs.Verdicts.{BeginsLegal}
use Rattle.ledger_audit.specs.Lacking.{lacking-record, said-more}
use Rattle.ledger_audit.specs.Sound.{begins-more, few_have_no_magic}

-- what is lacking goes no further than the record and its hash
fed_unit : (format : Format) (held part : List ℕ) → length held ≤ unit_len format held → length part ≤ lacking format held
    → length (held ++ part) ≤ unit_len format (held ++ part)
fed_unit format held part most less = by_four held refl where
  by_four : (h : List ℕ) → h ≡ held → length (held ++ part) ≤ unit_len format (held ++ part)
  by_four [] is = short (omega (arith, ap length is))
    where
      short : length held ≡ 0 → length (held ++ part) ≤ unit_len format (held ++ part)
      short none = grind (arith, length-append held part, less, none)
  by_four (a ∷ []) is = grind (arith, length-append held part, less, ap length is)
  by_four (a ∷ b ∷ []) is = grind (arith, length-append held part, less, ap length is)
  by_four (a ∷ b ∷ c ∷ []) is = grind (arith, length-append held part, less, ap length is)
  by_four (a ∷ b ∷ c ∷ d ∷ rest) is =
      let same : said_body_len (held ++ part) ≡ said_body_len held = said-more held part (omega (arith, ap length is)) in
      grind (arith, length-append held part, less, most, same, ap length is)

pub fed_one : (records : Option Records) (held piece : List ℕ) (count : ℕ) → HoldsAtMostOne records held → count ≤ lacking_of records held → count ≤ length piece
    → HoldsAtMostOne records (held ++ take count piece)
fed_one None held piece count most less within = omega (arith, most, less, length-append held (take count piece), length-take-le count piece within)
fed_one (Some records) held piece count most less within =
    fed_unit records.format held (take count piece) most (omega (arith, less, length-take-le count piece within))

-- some bytes more are held
pub fed_bytes : (records : Option Records) (held part bytes : List ℕ) → HasReadBytes records held bytes → HasReadBytes records (held ++ part) (bytes ++ part)
fed_bytes None held part bytes read = ap (λ h. h ++ part) read
fed_bytes (Some records) held part bytes read = record {
  history = read.history;
  begins = begins-more records.format read.history bytes held part read.begins;
  read = read.read;
}

pub fed_holds : (old fed : Auditor) (part : List ℕ) → fed.held.items ≡ old.held.items ++ part → fed.records ≡ old.records
    → (bytes text : List ℕ) → HasAudited old bytes text → HoldsBytes fed (bytes ++ part) text
fed_holds old fed part held records bytes text audited = record {
  printed = audited.holds.printed;
  read = subst (λ r. HasReadBytes r fed.held.items (bytes ++ part)) (sym records)
      (subst (λ h. HasReadBytes old.records h (bytes ++ part)) (sym held) (fed_bytes old.records old.held.items part bytes audited.holds.read));
}

-- what is left of the piece stays within the bytes of a run
pub room_left : (old fed new : Option Records) (held fed_held new_held rest : List ℕ) (count : ℕ)
    → held_place old + length held + length rest ≤ 2 ^ 40 → held_place new + length new_held ≡ held_place fed + length fed_held
    → fed ≡ old → fed_held ≡ held ++ take count rest → count ≤ length rest
    → held_place new + length new_held + length (take (length rest - count) (drop count rest)) ≤ 2 ^ 40
room_left old fed new held fed_held new_held rest count room taken same is within =
    omega (
      arith,
      room,
      taken,
      ap held_place same,
      ap length is,
      length-append held (take count rest),
      length-take-le count rest within,
      ap length (take_rest rest count),
      length-drop count rest,
    )

-- a line was printed, where nothing was before
pub printed_line : (Has : Verdict → Type 0) (v : Verdict) (given was now : List ℕ) → Has v → given ++ was ≡ [] → now ≡ was ++ verdict_line v → IsPrinted Has (given ++ now)
printed_line Has v given was now has none is = record {
  one = v;
  has = has;
  printed = ap (λ t. given ++ t) is ∙ sym (append_assoc given was (verdict_line v)) ∙ ap (λ t. t ++ verdict_line v) none;
}

-- the input ends
module _ (auditor : Auditor) (bytes given was now : List ℕ) (audited : HasAudited auditor bytes (given ++ was)) where
  -- before the magic did
  pub ends_before_magic : auditor.records ≡ None → now ≡ was ++ verdict_line (verdict.NotALedger 0) → IsPrinted (EndsEarly bytes) (given ++ now)
  ends_before_magic none is =
      printed_line (EndsEarly bytes) (verdict.NotALedger 0) given was now (0, refl, inl (refl, few_have_no_magic bytes few)) audited.holds.printed is
    where
      read : auditor.held.items ≡ bytes
      read = subst (λ r. HasReadBytes r auditor.held.items bytes) none audited.holds.read

      few : length bytes < 8
      few = omega (arith, ap length read, subst (λ r. 0 < lacking_of r auditor.held.items) none audited.lacks)

  module _ (records : Records) (some : auditor.records ≡ Some records) where
    pub behind : IsBehindLedger records bytes auditor.held.items
    behind = subst (λ r. HasReadBytes r auditor.held.items bytes) some audited.holds.read

    -- inside of a record or its hash
    pub ends_inside : (length auditor.held.items ≡ 0 → ⊥) → now ≡ was ++ verdict_line (verdict.NotALedger records.place) → IsPrinted (EndsEarly bytes) (given ++ now)
    ends_inside left is =
        printed_line (EndsEarly bytes) (verdict.NotALedger records.place) given was now (
          records.place,
          refl,
          inr (record {
            format = records.format;
            before = behind.history;
            behind = auditor.held.items;
            begins = behind.begins;
            some = omega (arith, left);
            place_is = behind.read.place_is;
            none = λ e rest one has. omega (arith, lacks, lacking-record records.format e auditor.held.items rest one has);
          }),
        )
        audited.holds.printed is
      where
        lacks : 0 < lacking records.format auditor.held.items
        lacks = subst (λ r. 0 < lacking_of r auditor.held.items) some audited.lacks

    -- behind the last record
    pub ends_legal : auditor.held.items ≡ [] → now ≡ (was ++ verdict_line verdict.Legal) ++ summary_text (summary_of (past_of behind.history))
        → IsAuditedLegal bytes (given ++ now)
    ends_legal none is = record {
      format = records.format;
      history = behind.history;
      whole = subst (λ h. BeginsLegal records.format behind.history bytes h) none behind.begins;
      printed = ap (λ t. given ++ t) is ∙ moved given was (verdict_line verdict.Legal) (summary_text (summary_of (past_of behind.history))) audited.holds.printed;
    } where
      moved : (g w l s : List ℕ) → g ++ w ≡ [] → g ++ ((w ++ l) ++ s) ≡ l ++ s
      moved [] [] l s none = refl
      moved [] (x ∷ w) l s none = absurd cc
      moved (x ∷ g) w l s none = absurd cc
