-- The verdict on bytes that were read in parts, and on pieces in a row.
use Rattle.std.proofs.Common.{◌≡◌, ℕ, ◌+◌, ◌-◌, ◌<◌, ◌≤◌, None, Some, Option, Err, List, [], ◌∷◌, ◌++◌, length, get_or, take, drop, arith, refl, ap, subst, sym, ◌∙◌, inl, inr, ⊎_elim, append-nil, append_assoc}
use Rattle.std.proofs.lemmas.List.{take-append-drop, take_more, take_rest}
use Rattle.std.proofs.lemmas.List.Concat.{flat_map-append}
use Rattle.ledger_audit.specs.declared.auditor.Auditor.{Auditor}
use Rattle.ledger_audit.specs.declared.format.Format.{Format}
use Rattle.ledger_audit.specs.declared.format.Format.TheVariants.{Plain, Chained}
use Rattle.ledger_audit.specs.declared.records.Halt.{Halt}
use Rattle.ledger_audit.specs.declared.records.Halt.TheVariants as halt
use Rattle.ledger_audit.specs.declared.records.Records.{Records}
use Rattle.ledger_audit.specs.declared.verdict.Verdict.{Verdict}
use Rattle.ledger_audit.specs.declared.verdict.Verdict.TheVariants as verdict
use Rattle.ledger_audit.specs.Auditing.{GoesOnOrIsRefused, HasReadBytes, IsBehindLedger, lacking_of}
use Rattle.ledger_audit.specs.Duty.{IsRefusedAs}
use Rattle.ledger_audit.specs.Judging.{GoesOnOrHasVerdict, in_a_row}
use Rattle.ledger_audit.specs.Lacking.{lacking-record}
use Rattle.ledger_audit.specs.OneVerdict.{Stopped}
use Rattle.ledger_audit.specs.Sound.{few_have_no_magic, no_magic-more, stopped-more}
use Rattle.ledger_audit.specs.Stops.{StopsByHash}
use Rattle.ledger_audit.specs.Units.{lacking}
use Rattle.ledger_audit.specs.Verdicts.{AreBroken, BeginsLegal, IsVerdictOf}
use Rattle.ledger_audit.proofs.Holding.{fed_bytes}

-- where a ledger stops, its bytes have the verdict
stopped_verdict : (bytes : List ℕ) (v : Verdict) → Stopped bytes v → IsVerdictOf bytes v
stopped_verdict bytes verdict.Legal s = record {
  format = s.format;
  history = s.before;
  whole = subst (λ b. BeginsLegal s.format s.before bytes b) s.stops s.begins;
}
stopped_verdict bytes (verdict.Illegal number cause) s = record {
  format = s.format;
  before = s.before;
  event = s.stops.event;
  behind = s.behind;
  rest = s.stops.rest;
  begins = s.begins;
  number_is = s.stops.number_is;
  one = s.stops.one;
  has_hash = s.stops.has_hash;
  chained = s.stops.is_chained;
  caused = s.stops.caused;
}
stopped_verdict bytes (verdict.BrokenChain number) s = by_format s.format s.begins s.stops where
  by_format : (f : Format) → BeginsLegal f s.before bytes s.behind → StopsByHash f s.before s.behind number → AreBroken bytes number
  by_format Plain begins stops = absurd (stops.broken tt)
  by_format Chained begins stops = record {
    before = s.before;
    event = stops.event;
    behind = s.behind;
    rest = stops.rest;
    begins = begins;
    number_is = stops.number_is;
    one = stops.one;
    has_hash = stops.has_hash;
    broken = stops.broken;
  }
stopped_verdict bytes (verdict.NotALedger place) s = inr (record {
  format = s.format;
  before = s.before;
  behind = s.behind;
  begins = s.begins;
  some = s.stops.some;
  place_is = s.stops.place_is;
  none = s.stops.none;
})

-- bytes that are refused have their verdict, whatever follows
refused_verdict : (bytes more : List ℕ) (v : Verdict) → IsRefusedAs bytes v → IsVerdictOf (bytes ++ more) v
refused_verdict bytes more v refused =
    ⊎_elim
    (λ magic. subst (IsVerdictOf (bytes ++ more)) (sym magic.said) (inl (refl, no_magic-more bytes more magic.eight magic.none)))
    (λ defect. stopped_verdict (bytes ++ more) v (stopped-more bytes more v defect)) refused

-- all of some bytes was read but for the rest
pub record HasReadUpTo (records : Option Records) (held rest all : List ℕ) : Type 0 where
  pub read : List ℕ
  pub split : read ++ rest ≡ all
  pub has : HasReadBytes records held read

pub nothing_read_yet : (records : Option Records) (held bytes piece : List ℕ) → HasReadBytes records held bytes → HasReadUpTo records held piece (bytes ++ piece)
nothing_read_yet records held bytes piece has = record { read = bytes; split = refl; has = has }

pub all_read : (records : Option Records) (held rest all : List ℕ) → length rest ≡ 0 → HasReadUpTo records held rest all → HasReadBytes records held all
all_read records held [] all none part = subst (HasReadBytes records held) (sym (append-nil part.read) ∙ part.split) part.has
all_read records held (x ∷ rest) all none part = absurd (omega (arith, none))

-- a part of the rest is taken
module _ (old : Option Records) (held rest all : List ℕ) (count : ℕ) (was : HasReadUpTo old held rest all)
    (fed : Option Records) (fed_held : List ℕ) (same : fed ≡ old) (is : fed_held ≡ held ++ take count rest) where
  part_fed : HasReadBytes fed fed_held (was.read ++ take count rest)
  part_fed =
      subst (λ r. HasReadBytes r fed_held (was.read ++ take count rest)) (sym same)
      (subst (λ h. HasReadBytes old h (was.read ++ take count rest)) (sym is) (fed_bytes old held (take count rest) was.read was.has))

  whole : (was.read ++ take count rest) ++ drop count rest ≡ all
  whole = append_assoc was.read (take count rest) (drop count rest) ∙ ap (λ l. was.read ++ l) (take-append-drop count rest) ∙ was.split

  pub part_more : (new : Option Records) (new_held : List ℕ) → ((bytes : List ℕ) → HasReadBytes fed fed_held bytes → HasReadBytes new new_held bytes)
      → HasReadUpTo new new_held (take (length rest - count) (drop count rest)) all
  part_more new new_held goes = record {
    read = was.read ++ take count rest;
    split = ap (λ r. (was.read ++ take count rest) ++ r) (take_rest rest count) ∙ whole;
    has = goes (was.read ++ take count rest) part_fed;
  }

  pub part_told : (told : Halt) (new other : Auditor) → ((bytes : List ℕ) → HasReadBytes fed fed_held bytes → GoesOnOrIsRefused new bytes (Err told))
      → GoesOnOrHasVerdict other all (Err told)
  part_told (halt.Defect v) new other refused = λ more.
      subst (λ b. IsVerdictOf b v) (sym (append_assoc (was.read ++ take count rest) (drop count rest) more) ∙ ap (λ b. b ++ more) whole)
      (refused_verdict (was.read ++ take count rest) (drop count rest ++ more) v (refused (was.read ++ take count rest) part_fed))
  part_told halt.Memory new other refused = tt

-- the bytes end
module _ (records : Option Records) (held bytes : List ℕ) (read : HasReadBytes records held bytes) (lacks : 0 < lacking_of records held) where
  -- before the magic did
  pub ends_without_magic : records ≡ None → IsVerdictOf bytes (verdict.NotALedger 0)
  ends_without_magic none = inl (refl, few_have_no_magic bytes few) where
    held_all : held ≡ bytes
    held_all = subst (λ r. HasReadBytes r held bytes) none read

    few : length bytes < 8
    few = omega (arith, ap length held_all, subst (λ r. 0 < lacking_of r held) none lacks)

  module _ (some : Records) (is : records ≡ Some some) where
    behind_some : IsBehindLedger some bytes held
    behind_some = subst (λ r. HasReadBytes r held bytes) is read

    -- inside of a record or its hash
    pub ends_within : (length held ≡ 0 → ⊥) → IsVerdictOf bytes (verdict.NotALedger some.place)
    ends_within left = inr (record {
      format = some.format;
      before = behind_some.history;
      behind = held;
      begins = behind_some.begins;
      some = omega (arith, left);
      place_is = behind_some.read.place_is;
      none = λ e rest one has. omega (arith, short, lacking-record some.format e held rest one has);
    }) where
      short : 0 < lacking some.format held
      short = subst (λ r. 0 < lacking_of r held) is lacks

    -- behind the last record
    pub ends_whole : length held ≡ 0 → IsVerdictOf bytes verdict.Legal
    ends_whole none = by_held held none behind_some.begins where
      by_held : (h : List ℕ) → length h ≡ 0 → BeginsLegal some.format behind_some.history bytes h → IsVerdictOf bytes verdict.Legal
      by_held [] n begins = record { format = some.format; history = behind_some.history; whole = begins }
      by_held (x ∷ h) n begins = absurd (omega (arith, n))

-- one piece more in a row, and those that are left
pub row_more : (pieces : List (List ℕ)) (i : ℕ) (one : List ℕ) → i < length pieces → one ≡ get_or pieces i one
    → in_a_row (take (i + 1) pieces) ≡ in_a_row (take i pieces) ++ one
row_more pieces i one within is =
    ap in_a_row (take_more pieces i one within) ∙ flat_map-append (λ piece. piece) (take i pieces) (get_or pieces i one ∷ [])
    ∙ ap (λ b. in_a_row (take i pieces) ++ b) (append-nil (get_or pieces i one) ∙ sym is)

pub row_rest : (pieces : List (List ℕ)) (i : ℕ) → in_a_row (take i pieces) ++ in_a_row (drop i pieces) ≡ in_a_row pieces
row_rest pieces i = sym (flat_map-append (λ piece. piece) (take i pieces) (drop i pieces)) ∙ ap in_a_row (take-append-drop i pieces)
