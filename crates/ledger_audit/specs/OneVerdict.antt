-- Ledgers that are kept are legal, and no bytes have two verdicts.
use Rattle.std.proofs.Common.{◌≡◌, ◌⊎◌, ℕ, ◌<◌, ◌≤◌, None, Some, List, [], ◌∷◌, ◌++◌, flat_map, length, take, length-append, arith, refl, ap, subst, sym, ◌∙◌, inl, inr, ⊎_elim}
use Rattle.std.proofs.Math.Seq.{take-append_seam}
use Rattle.std.proofs.lemmas.Bool.{cases_lt}
use Rattle.std.proofs.lemmas.List.{append-nil, append_assoc, append_cancel_left}
use Rattle.std.specs.List.{AllByRecursion}
use Rattle.sha2.proofs.Facts256.{length-sha256}
use Rattle.history_laws.proofs.Legalities.{none_caused, some-none}
use Rattle.ledger_records.proofs.Growth.{hash-end, old_text-end, text-end}
use Rattle.ledger_records.proofs.Records.{formats_differ, joined, ledgers_begin, old_ledgers_begin, read_back, text_pieces}
use Rattle.ledger_records.specs.Growing.{hash_after}
use Rattle.ledger_records.specs.OneLedger.{ReadsTheSame}
use Rattle.ledger_records.specs.WellFormed.{CanBeKept}
use Rattle.pool_base.specs.Lists.{Begins}
use Rattle.pool_history.specs.declared.events.Event.{Event}
use Rattle.pool_history.specs.Ledger.{chained, ledger_text, ledger_text_1, magic_1, magic_2, record_of}
use Rattle.pool_history.specs.Legal.{cause_of}
use Rattle.pool_history.specs.Sessions.{past_of}
use Rattle.sha2.specs.Sha256.{sha256}
use Rattle.ledger_audit.specs.declared.verdict.Verdict.{Verdict}
use Rattle.ledger_audit.specs.declared.verdict.Verdict.TheVariants as verdict
use Rattle.ledger_audit.specs.declared.format.Format.{Format}
use Rattle.ledger_audit.specs.declared.format.Format.TheVariants.{Plain, Chained}
use Rattle.ledger_audit.specs.Stops.{StopsLedgerBy}
use Rattle.ledger_audit.specs.Verdicts.{BeginsLegal, BeginsRecord, HasHash, HasNoMagic, IsChained, IsVerdictOf, KeptLedgersAreLegal, OldLedgersAreLegal, VerdictsAreOne, text_in}

pub kept-legal : KeptLedgersAreLegal
kept-legal history kept = record {
  format = Chained;
  history = history;
  whole = record { kept = kept; text = sym (append-nil (ledger_text history)) };
}

pub old-legal : OldLedgersAreLegal
old-legal history kept = record {
  format = Plain;
  history = history;
  whole = record { kept = kept; text = sym (append-nil (ledger_text_1 history)) };
}

-- behind a ledger there is one event more, as it is in a legal one
pub record GoesOnLegally (format : Format) (before : List Event) (behind : List ℕ) : Type 0 where
  pub event : Event
  pub rest : List ℕ
  pub one : BeginsRecord event behind rest
  pub has_hash : HasHash format rest
  pub is_chained : IsChained format (before ++ event ∷ []) rest
  pub uncaused : cause_of (past_of before) event ≡ None

-- a longer history's text begins with a shorter one's
text-begins : (format : Format) (a b : List Event) → (tail : List ℕ) × (text_in format (a ++ b) ≡ text_in format a ++ tail)
text-begins format a [] = ([], ap (text_in format) (append-nil a) ∙ sym (append-nil (text_in format a)))
text-begins Plain a (e ∷ b) =
    let more : (tail : List ℕ) × (text_in Plain ((a ++ e ∷ []) ++ b) ≡ text_in Plain (a ++ e ∷ []) ++ tail) =
    text-begins Plain (a ++ e ∷ []) b in (
      record_of e ++ more.0,
      ap ledger_text_1 (sym (append_assoc a (e ∷ []) b)) ∙ more.1
          ∙ ap (λ t. t ++ more.0) (old_text-end a e) ∙ append_assoc (ledger_text_1 a) (record_of e) more.0,
    )
text-begins Chained a (e ∷ b) =
    let more : (tail : List ℕ) × (text_in Chained ((a ++ e ∷ []) ++ b) ≡ text_in Chained (a ++ e ∷ []) ++ tail) =
    text-begins Chained (a ++ e ∷ []) b in
    let hash : List ℕ = hash_after (a ++ e ∷ []) in (
      record_of e ++ hash ++ more.0,
      ap ledger_text (sym (append_assoc a (e ∷ []) b)) ∙ more.1
          ∙ ap (λ t. t ++ more.0) (text-end a e ∙ append_assoc (ledger_text a) (record_of e) hash)
          ∙ append_assoc (ledger_text a) (record_of e ++ hash) more.0,
    )

all-middle : (P : Event → Type 0) (a : List Event) (e : Event) (b : List Event) → AllByRecursion P (a ++ e ∷ b) → P e
all-middle P [] e b all = all.0
all-middle P (x ∷ a) e b all = all-middle P a e b all.1

hash-long : (a : List Event) (e : Event) → length (hash_after (a ++ e ∷ [])) ≡ 32
hash-long a e = ap length (hash-end a e) ∙ length-sha256 (hash_after a ++ record_of e)

-- what is behind a ledger that begins a longer one
goes-on : (format : Format) (before : List Event) (e : Event) (more : List Event) (bytes behind rest : List ℕ)
    → BeginsLegal format before bytes behind → BeginsLegal format (before ++ e ∷ more) bytes rest
    → GoesOnLegally format before behind
goes-on Plain before e more bytes behind rest short long =
    let tail : (tail : List ℕ) × (text_in Plain ((before ++ e ∷ []) ++ more)
    ≡ text_in Plain (before ++ e ∷ []) ++ tail) = text-begins Plain (before ++ e ∷ []) more in
    let same : ledger_text_1 before ++ behind ≡ ledger_text_1 before ++ (record_of e ++ (tail.0 ++ rest)) =
    sym short.text ∙ long.text ∙ ap (λ h. ledger_text_1 h ++ rest) (sym (append_assoc before (e ∷ []) more))
    ∙ ap (λ t. t ++ rest) (tail.1 ∙ ap (λ t. t ++ tail.0) (old_text-end before e))
    ∙ spread (ledger_text_1 before) (record_of e) tail.0 rest in
    record {
      event = e;
      rest = tail.0 ++ rest;
      one = record {
        can_be_kept = all-middle CanBeKept before e more long.kept.has_ledger;
        is = append_cancel_left (ledger_text_1 before) behind (record_of e ++ (tail.0 ++ rest)) same;
      };
      has_hash = tt;
      is_chained = tt;
      uncaused = none_caused (before ++ e ∷ more) long.kept.legal before e more refl;
    } where
      spread : (t r x y : List ℕ) → ((t ++ r) ++ x) ++ y ≡ t ++ (r ++ (x ++ y))
      spread t r x y = simp append_assoc
goes-on Chained before e more bytes behind rest short long =
    let tail : (tail : List ℕ) × (text_in Chained ((before ++ e ∷ []) ++ more)
    ≡ text_in Chained (before ++ e ∷ []) ++ tail) = text-begins Chained (before ++ e ∷ []) more in
    let hash : List ℕ = hash_after (before ++ e ∷ []) in
    let hash_is : length hash ≡ 32 = hash-long before e in
    let same : ledger_text before ++ behind ≡ ledger_text before ++ (record_of e ++ (hash ++ (tail.0 ++ rest))) =
    sym short.text ∙ long.text ∙ ap (λ h. ledger_text h ++ rest) (sym (append_assoc before (e ∷ []) more))
    ∙ ap (λ t. t ++ rest) (tail.1 ∙ ap (λ t. t ++ tail.0) (text-end before e))
    ∙ spread (ledger_text before) (record_of e) hash tail.0 rest in
    record {
      event = e;
      rest = hash ++ (tail.0 ++ rest);
      one = record {
        can_be_kept = all-middle CanBeKept before e more long.kept.has_ledger;
        is = append_cancel_left (ledger_text before) behind (record_of e ++ (hash ++ (tail.0 ++ rest))) same;
      };
      has_hash = omega (arith, length-append hash (tail.0 ++ rest), hash_is);
      is_chained = ap (λ n. take n (hash ++ (tail.0 ++ rest))) (sym hash_is) ∙ take-append_seam hash (tail.0 ++ rest);
      uncaused = none_caused (before ++ e ∷ more) long.kept.legal before e more refl;
    } where
      spread : (t r h x y : List ℕ) → (((t ++ r) ++ h) ++ x) ++ y ≡ t ++ (r ++ (h ++ (x ++ y)))
      spread t r h x y = simp append_assoc

-- two legal beginnings of one format are the same, or the shorter goes on
begin-alike : (format : Format) (one other : List Event) (bytes behind_one behind_other : List ℕ)
    → BeginsLegal format one bytes behind_one → BeginsLegal format other bytes behind_other
    → length one ≤ length other → Begins one other
begin-alike Plain one other bytes behind_one behind_other a b n =
    old_ledgers_begin one other behind_one behind_other a.kept.has_ledger b.kept.has_ledger n (sym a.text ∙ b.text)
begin-alike Chained one other bytes behind_one behind_other a b n =
    ledgers_begin one other behind_one behind_other a.kept.has_ledger b.kept.has_ledger n (sym a.text ∙ b.text)

pub record AreSame (one other : List Event) (behind_one behind_other : List ℕ) : Type 0 where
  pub history : one ≡ other
  pub behind : behind_one ≡ behind_other

pub shorter : (format : Format) (one other : List Event) (bytes behind_one behind_other : List ℕ)
    → BeginsLegal format one bytes behind_one → BeginsLegal format other bytes behind_other → length one ≤ length other
    → AreSame one other behind_one behind_other ⊎ GoesOnLegally format one behind_one
shorter format one other bytes behind_one behind_other a b n =
    by_more (begin-alike format one other bytes behind_one behind_other a b n) where
      by_more : Begins one other → AreSame one other behind_one behind_other ⊎ GoesOnLegally format one behind_one
      by_more ([], same) =
          let histories : one ≡ other = sym (append-nil one) ∙ same in
          inl (record {
            history = histories;
            behind = append_cancel_left (text_in format one) behind_one behind_other
                (sym a.text ∙ b.text ∙ ap (λ h. text_in format h ++ behind_other) (sym histories));
          })
      by_more ((e ∷ more), same) = inr (goes-on format one e more bytes behind_one behind_other a
          (subst (λ h. BeginsLegal format h bytes behind_other) (sym same) b))

-- one record is read of what is behind
same-record : (e f : Event) (behind x y : List ℕ) → BeginsRecord e behind x → BeginsRecord f behind y
    → ReadsTheSame e f x y
same-record e f behind x y a b = read_back e f x y a.can_be_kept b.can_be_kept (sym a.is ∙ b.is)

no-record : {X : Type 0} (e : Event) (behind rest : List ℕ) → behind ≡ [] → BeginsRecord e behind rest → X
no-record e behind rest none one = absurd (empty (sym none ∙ one.is)) where
  empty : ◌≡◌ {A = List ℕ} [] (record_of e ++ rest) → ⊥
  empty same = cc

-- where it stops it doesn't go on
pub stops-here : (format : Format) (before : List Event) (behind : List ℕ) (v : Verdict)
    → StopsLedgerBy format before behind v → GoesOnLegally format before behind → ⊥
stops-here format before behind verdict.Legal none more = no-record more.event behind more.rest none more.one
stops-here format before behind (verdict.Illegal number cause) stop more =
    let same : ReadsTheSame stop.event more.event stop.rest more.rest =
    same-record stop.event more.event behind stop.rest more.rest stop.one more.one in
    some-none (sym stop.caused ∙ ap (cause_of (past_of before)) same.events ∙ more.uncaused)
stops-here format before behind (verdict.BrokenChain number) stop more =
    let same : ReadsTheSame stop.event more.event stop.rest more.rest =
    same-record stop.event more.event behind stop.rest more.rest stop.one more.one in
    stop.broken (subst (λ e. IsChained format (before ++ e ∷ []) stop.rest) (sym same.events)
    (subst (IsChained format (before ++ more.event ∷ [])) (sym same.behind) more.is_chained))
stops-here format before behind (verdict.NotALedger place) stop more = stop.none more.event more.rest more.one more.has_hash

-- and it stops for one reason
one-stop : (format : Format) (before : List Event) (behind : List ℕ) (v w : Verdict)
    → StopsLedgerBy format before behind v → StopsLedgerBy format before behind w → v ≡ w
one-stop format before behind verdict.Legal verdict.Legal a b = refl
one-stop format before behind verdict.Legal (verdict.Illegal number cause) a b = no-record b.event behind b.rest a b.one
one-stop format before behind verdict.Legal (verdict.BrokenChain number) a b = no-record b.event behind b.rest a b.one
one-stop format before behind verdict.Legal (verdict.NotALedger place) a b = absurd (nothing a b.some) where
  nothing : behind ≡ [] → 0 < length behind → ⊥
  nothing is some = omega (arith, ap length is, some)
one-stop format before behind (verdict.Illegal number cause) verdict.Legal a b = no-record a.event behind a.rest b a.one
one-stop format before behind (verdict.Illegal number cause) (verdict.Illegal other code) a b =
    let same : ReadsTheSame a.event b.event a.rest b.rest = same-record a.event b.event behind a.rest b.rest a.one b.one in
    let causes : Some cause ≡ Some code = sym a.caused ∙ ap (cause_of (past_of before)) same.events ∙ b.caused in
    let numbers : number ≡ other = a.number_is ∙ sym b.number_is in
    cc
one-stop format before behind (verdict.Illegal number cause) (verdict.BrokenChain other) a b =
    let same : ReadsTheSame a.event b.event a.rest b.rest = same-record a.event b.event behind a.rest b.rest a.one b.one in
    absurd (b.broken (subst (λ e. IsChained format (before ++ e ∷ []) b.rest) same.events
    (subst (IsChained format (before ++ a.event ∷ [])) same.behind a.is_chained)))
one-stop format before behind (verdict.Illegal number cause) (verdict.NotALedger place) a b =
    absurd (b.none a.event a.rest a.one a.has_hash)
one-stop format before behind (verdict.BrokenChain number) verdict.Legal a b = no-record a.event behind a.rest b a.one
one-stop format before behind (verdict.BrokenChain number) (verdict.Illegal other cause) a b =
    let same : ReadsTheSame b.event a.event b.rest a.rest = same-record b.event a.event behind b.rest a.rest b.one a.one in
    absurd (a.broken (subst (λ e. IsChained format (before ++ e ∷ []) a.rest) same.events
    (subst (IsChained format (before ++ b.event ∷ [])) same.behind b.is_chained)))
one-stop format before behind (verdict.BrokenChain number) (verdict.BrokenChain other) a b =
    ap verdict.BrokenChain (a.number_is ∙ sym b.number_is)
one-stop format before behind (verdict.BrokenChain number) (verdict.NotALedger place) a b =
    absurd (b.none a.event a.rest a.one a.has_hash)
one-stop format before behind (verdict.NotALedger place) verdict.Legal a b = absurd (nothing b a.some) where
  nothing : behind ≡ [] → 0 < length behind → ⊥
  nothing is some = omega (arith, ap length is, some)
one-stop format before behind (verdict.NotALedger place) (verdict.Illegal number cause) a b =
    absurd (a.none b.event b.rest b.one b.has_hash)
one-stop format before behind (verdict.NotALedger place) (verdict.BrokenChain number) a b =
    absurd (a.none b.event b.rest b.one b.has_hash)
one-stop format before behind (verdict.NotALedger place) (verdict.NotALedger other) a b =
    ap verdict.NotALedger (a.place_is ∙ sym b.place_is)

-- a verdict says where a ledger stops, or that there is no magic
pub record Stopped (bytes : List ℕ) (v : Verdict) : Type 0 where
  pub format : Format
  pub before : List Event
  pub behind : List ℕ
  pub begins : BeginsLegal format before bytes behind
  pub stops : StopsLedgerBy format before behind v

record HasNone (bytes : List ℕ) (v : Verdict) : Type 0 where
  pub is : v ≡ verdict.NotALedger 0
  pub none : HasNoMagic bytes

stopped : (bytes : List ℕ) (v : Verdict) → IsVerdictOf bytes v → Stopped bytes v ⊎ HasNone bytes v
stopped bytes verdict.Legal l = inl (record {
  format = l.format;
  before = l.history;
  behind = [];
  begins = l.whole;
  stops = refl;
})
stopped bytes (verdict.Illegal number cause) i = inl (record {
  format = i.format;
  before = i.before;
  behind = i.behind;
  begins = i.begins;
  stops = record {
    event = i.event;
    rest = i.rest;
    number_is = i.number_is;
    one = i.one;
    has_hash = i.has_hash;
    is_chained = i.chained;
    caused = i.caused;
  };
})
stopped bytes (verdict.BrokenChain number) b = inl (record {
  format = Chained;
  before = b.before;
  behind = b.behind;
  begins = b.begins;
  stops = record {
    event = b.event;
    rest = b.rest;
    number_is = b.number_is;
    one = b.one;
    has_hash = b.has_hash;
    broken = b.broken;
  };
})
stopped bytes (verdict.NotALedger place) n =
    ⊎_elim (λ none. inr (record { is = ap verdict.NotALedger none.0; none = none.1 }))
    (λ e. inl (record {
      format = e.format;
      before = e.before;
      behind = e.behind;
      begins = e.begins;
      stops = record { some = e.some; place_is = e.place_is; none = e.none };
    })) n

-- two stops of one format are one
same-format : (format : Format) (bytes : List ℕ) (v w : Verdict) (one other : List Event) (behind_one behind_other : List ℕ)
    → BeginsLegal format one bytes behind_one → BeginsLegal format other bytes behind_other
    → StopsLedgerBy format one behind_one v → StopsLedgerBy format other behind_other w → v ≡ w
same-format format bytes v w one other behind_one behind_other a b stop_one stop_other =
    ⊎_elim (λ less. sym (up_to other one w v behind_other behind_one b a stop_other stop_one (omega (arith, less))))
    (λ most. up_to one other v w behind_one behind_other a b stop_one stop_other most)
    (cases_lt (length other) (length one)) where
      up_to : (h k : List Event) (x y : Verdict) (p q : List ℕ) → BeginsLegal format h bytes p
          → BeginsLegal format k bytes q → StopsLedgerBy format h p x → StopsLedgerBy format k q y
          → length h ≤ length k → x ≡ y
      up_to h k x y p q s t stop_h stop_k n =
          ⊎_elim (λ same. one-stop format h p x y stop_h
          (subst (λ (z : List ℕ). StopsLedgerBy format h z y) (sym same.behind)
          (subst (λ (z : List Event). StopsLedgerBy format z q y) (sym same.history) stop_k)))
          (λ more. absurd (stops-here format h p x stop_h more)) (shorter format h k bytes p q s t n)

-- a ledger has its magic
pub has-magic : (format : Format) (history : List Event) (bytes behind : List ℕ)
    → BeginsLegal format history bytes behind → HasNoMagic bytes → ⊥
has-magic Plain history bytes behind begins none =
    none.plain (flat_map record_of history ++ behind)
    (begins.text ∙ append_assoc magic_1 (flat_map record_of history) behind)
has-magic Chained history bytes behind begins none =
    none.chained (joined (chained (sha256 magic_2) history) ++ behind)
    (begins.text ∙ ap (λ t. t ++ behind) (text_pieces (chained (sha256 magic_2) history))
    ∙ append_assoc magic_2 (joined (chained (sha256 magic_2) history)) behind)

pub two-stops : (bytes : List ℕ) (v w : Verdict) → Stopped bytes v → Stopped bytes w → v ≡ w
two-stops bytes v w a b = by_formats a.format b.format a.begins b.begins a.stops b.stops where
  by_formats : (f g : Format) → BeginsLegal f a.before bytes a.behind
      → BeginsLegal g b.before bytes b.behind → StopsLedgerBy f a.before a.behind v
      → StopsLedgerBy g b.before b.behind w → v ≡ w
  by_formats Plain Plain x y s t = same-format Plain bytes v w a.before b.before a.behind b.behind x y s t
  by_formats Chained Chained x y s t = same-format Chained bytes v w a.before b.before a.behind b.behind x y s t
  by_formats Plain Chained x y s t = absurd (formats_differ b.before a.before b.behind a.behind (sym y.text ∙ x.text))
  by_formats Chained Plain x y s t = absurd (formats_differ a.before b.before a.behind b.behind (sym x.text ∙ y.text))

pub one-verdict : VerdictsAreOne
one-verdict bytes one other a b =
    ⊎_elim
    (λ x. ⊎_elim (λ y. two-stops bytes one other x y)
    (λ y. absurd (has-magic x.format x.before bytes x.behind x.begins y.none)) (stopped bytes other b))
    (λ x. ⊎_elim (λ y. absurd (has-magic y.format y.before bytes y.behind y.begins x.none))
    (λ y. x.is ∙ sym y.is) (stopped bytes other b))
    (stopped bytes one a)
