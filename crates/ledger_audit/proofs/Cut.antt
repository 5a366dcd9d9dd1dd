-- A ledger that is kept again, record by record.
use Rattle.std.proofs.Common.{◌≡◌, ◌⊎◌, ℕ, ◌+◌, ◌-◌, ◌<◌, ◌≤◌, min, None, Some, Option, Result, Ok, Err, List, [], ◌∷◌, ◌++◌, flat_map, length, take, drop, arith, inl, inr, refl, ap, subst, sym, ◌∙◌, append-nil, append_assoc, length-append, length-drop}
use Rattle.std.proofs.Math.Seq.{take-append_seam}
use Rattle.std.proofs.lemmas.List.{append_cancel_left, drop_all, length-take-le, take-append-drop, take_rest}
use Rattle.std.proofs.lemmas.Bool.{cases_lt}
use Rattle.std.specs.Option.{option_map}
use Rattle.sha2.proofs.Facts256.{length-sha256}
use Rattle.sha2.specs.Sha256.{sha256}
use Rattle.ledger_records.proofs.Growth.{hash-end, pieces}
use Rattle.ledger_records.proofs.Records.{formats_differ, joined, text_pieces}
use Rattle.ledger_records.specs.Growing.{hash_after}
use Rattle.ledger_records.specs.OneLedger.{AllCanBeKept}
use Rattle.ledger_records.specs.Records.{said_body_len}
use Rattle.pool_base.specs.Lists.{Begins}
use Rattle.pool_history.specs.declared.events.Event.{Event}
use Rattle.pool_history.specs.Ledger.{chain, chained, kept_records, ledger_text, ledger_text_1, magic_2, record_body, record_of}
use Rattle.pool_io.specs.declared.keeper.KeeperFailed.{KeeperFailed}
use Rattle.pool_io.specs.Outside.{AddsRecord}
use Rattle.ledger_audit.specs.Lacking.{length-record, said-record}
use Rattle.ledger_audit.specs.declared.format.Format.{Format}
use Rattle.ledger_audit.specs.declared.format.Format.TheVariants.{Plain, Chained}
use Rattle.ledger_audit.specs.Units.{hash_len}
use Rattle.ledger_audit.specs.Verdicts.{BeginsLegal}
use Rattle.ledger_audit.specs.Copying.{AddsRecords, AreLedgerOf, AreRecordsOf, KeepsAll, KeepsAgain, KeepsFront, KeepsRecords, records_text}
use Rattle.ledger_audit.specs.Cutting.{IsCutOff, IsWholeRecord, SplitsMagic}

-- the pieces that are kept of a history: none of one without events
abbrev pub records_so_far : List Event → List (List ℕ)
records_so_far [] = []
records_so_far (first ∷ more) = kept_records (first ∷ more)

-- the magic stands in the first piece
abbrev pub head_of : List Event → List ℕ
head_of [] = magic_2
head_of (first ∷ more) = []

grown : (done : List Event) (e : Event) → records_so_far (done ++ e ∷ []) ≡ records_so_far done ++ (head_of done ++ record_of e ++ hash_after (done ++ e ∷ [])) ∷ []
grown [] e = (pieces e [] e).begins
grown (f ∷ d) e = (pieces f d e).goes_on

-- some events were kept, and others are to come
pub record IsCopying (format : Format) (first : Event) (more : List Event) (rest head hash : List ℕ) (old now : Option (List (List ℕ))) (count : ℕ) : Type 0 where
  pub done : List Event
  pub todo : List Event
  pub parts : done ++ todo ≡ first ∷ more
  pub each : AllCanBeKept todo
  pub rest_is : rest ≡ records_text format (hash_after done) todo
  pub hash_is : hash ≡ hash_after done
  pub head_is : head ≡ head_of done
  pub kept : AddsRecords old now (records_so_far done)
  pub counted : count ≡ length done

adds_none : (old : Option (List (List ℕ))) → AddsRecords old old []
adds_none None = refl
adds_none (Some records) = ap Some (sym (append-nil records))

pub copy_begins : (format : Format) (first : Event) (more : List Event) (bytes head hash : List ℕ) (old : Option (List (List ℕ)))
    → AreRecordsOf format first more bytes → head ≡ magic_2 → hash ≡ sha256 magic_2 → IsCopying format first more bytes head hash old old 0
copy_begins format first more bytes head hash old are head_is hash_is = record {
  done = [];
  todo = first ∷ more;
  parts = refl;
  each = are.each;
  rest_is = are.text;
  hash_is = hash_is;
  head_is = head_is;
  kept = adds_none old;
  counted = refl;
}

-- fronts of one length are one
record AreSame (a b x y : List ℕ) : Type 0 where
  front : a ≡ b
  behind : x ≡ y

same_fronts : (a b x y : List ℕ) → length a ≡ length b → a ++ x ≡ b ++ y → AreSame a b x y
same_fronts a b x y len same =
    let front : a ≡ b = sym (take-append_seam a x) ∙ ap (λ n. take n (a ++ x)) len ∙ ap (take (length b)) same ∙ take-append_seam b y in
    record { front = front; behind = append_cancel_left b x y (sym (ap (λ l. l ++ x) front) ∙ same) }

-- what stands behind a record before those to come
abbrev hash_in : Format → List ℕ → Event → List ℕ
hash_in Plain before e = []
hash_in Chained before e = chain before (record_of e)

hash_in-length : (format : Format) (before : List ℕ) (e : Event) → length (hash_in format before e) ≡ hash_len format
hash_in-length Plain before e = refl
hash_in-length Chained before e = length-sha256 (before ++ record_of e)

text-cons : (format : Format) (before : List ℕ) (e : Event) (todo : List Event)
    → records_text format before (e ∷ todo) ≡ record_of e ++ (hash_in format before e ++ records_text format (chain before (record_of e)) todo)
text-cons Plain before e todo = refl
text-cons Chained before e todo =
    append_assoc (record_of e) (chain before (record_of e)) (flat_map (λ (piece : List ℕ). piece) (chained (chain before (record_of e)) todo))

text_same : (format : Format) (a b : List ℕ) (todo : List Event) → a ≡ b → records_text format a todo ≡ records_text format b todo
text_same format a b todo same = ap (λ h. records_text format h todo) same

adds_more : (old now next : Option (List (List ℕ))) (kept : List (List ℕ)) (one : List ℕ) → AddsRecords old now kept → AddsRecord now next one
    → AddsRecords old next (kept ++ one ∷ [])
adds_more None now next kept one was is = is ∙ ap (option_map (λ records. records ++ one ∷ [])) was
adds_more (Some records) now next kept one was is =
    is ∙ ap (option_map (λ all. all ++ one ∷ [])) was ∙ ap Some (append_assoc records kept (one ∷ []))

module _ (format : Format) (first : Event) (more : List Event) (rest head hash : List ℕ) (old now : Option (List (List ℕ))) (count : ℕ)
    (is : IsCopying format first more rest head hash old now count) where
  -- a record more was kept
  pub copied_one : (one behind next_hash : List ℕ) (next : Option (List (List ℕ))) → IsWholeRecord format rest one behind → next_hash ≡ chain hash one
      → AddsRecord now next (head ++ one ++ next_hash) → IsCopying format first more behind [] next_hash old next (count + 1)
  copied_one one behind next_hash next whole hash_next adds = by_todo is.todo refl where
    by_todo : (todo : List Event) → is.todo ≡ todo → IsCopying format first more behind [] next_hash old next (count + 1)
    by_todo [] none =
        let empty : rest ≡ [] = is.rest_is ∙ ap (records_text format (hash_after is.done)) none ∙ nothing format (hash_after is.done) in
        absurd (omega (arith, ap length empty, ap length whole.parts, length-append one (whole.hash ++ behind), whole.len))
      where
        nothing : (f : Format) (h : List ℕ) → records_text f h [] ≡ []
        nothing Plain h = refl
        nothing Chained h = refl
    by_todo (e ∷ todo) some =
        let before : List ℕ = hash_after is.done in
        let each : AllCanBeKept (e ∷ todo) = subst AllCanBeKept some is.each in
        let text : rest ≡ record_of e ++ (hash_in format before e ++ records_text format (chain before (record_of e)) todo) =
        is.rest_is ∙ ap (records_text format before) some ∙ text-cons format before e todo in
        let said : said_body_len rest ≡ length (record_body e) =
        ap said_body_len text ∙ said-record e (hash_in format before e ++ records_text format (chain before (record_of e)) todo) each.0 in
        let outer : AreSame one (record_of e) (whole.hash ++ behind) (hash_in format before e ++ records_text format (chain before (record_of e)) todo) =
        same_fronts one (record_of e) _ _ (whole.len ∙ ap (λ n. 4 + n) said ∙ sym (length-record e)) (sym whole.parts ∙ text) in
        let inner : AreSame whole.hash (hash_in format before e) behind (records_text format (chain before (record_of e)) todo) =
        same_fronts whole.hash (hash_in format before e) _ _ (whole.hash_is ∙ sym (hash_in-length format before e)) outer.behind in
        let after : next_hash ≡ hash_after (is.done ++ e ∷ []) =
        hash_next ∙ ap (λ h. chain h one) is.hash_is ∙ ap (chain before) outer.front ∙ sym (hash-end is.done e) in
        record {
          done = is.done ++ e ∷ [];
          todo = todo;
          parts = append_assoc is.done (e ∷ []) todo ∙ ap (λ l. is.done ++ l) (sym some) ∙ is.parts;
          each = each.1;
          rest_is = inner.behind ∙ text_same format (chain before (record_of e)) (hash_after (is.done ++ e ∷ [])) todo (sym (hash-end is.done e));
          hash_is = after;
          head_is = sym (no_head is.done e);
          kept = subst (AddsRecords old next) (sym (grown is.done e))
              (subst (λ p. AddsRecords old next (records_so_far is.done ++ p ∷ []))
              (ap (λ h. h ++ one ++ next_hash) is.head_is ∙ ap (λ r. head_of is.done ++ r ++ next_hash) outer.front ∙ ap (λ h. head_of is.done ++ record_of e ++ h) after)
              (adds_more old now next (records_so_far is.done) (head ++ one ++ next_hash) is.kept adds));
          counted = omega (arith, is.counted, length-append is.done (e ∷ []));
        }
      where
        no_head : (done : List Event) (e : Event) → head_of (done ++ e ∷ []) ≡ []
        no_head [] e = refl
        no_head (f ∷ d) e = refl

  -- no record is left
  pub copied_all : IsCutOff format rest → KeepsAll (first ∷ more) old now count
  copied_all cut = by_todo is.todo refl where
    by_todo : (todo : List Event) → is.todo ≡ todo → KeepsAll (first ∷ more) old now count
    by_todo [] none =
        let all : is.done ≡ first ∷ more = sym (append-nil is.done) ∙ ap (λ l. is.done ++ l) (sym none) ∙ is.parts in
        record {
          counted = is.counted ∙ ap length all;
          kept = subst (AddsRecords old now) (ap records_so_far all) is.kept;
        }
    by_todo (e ∷ todo) some =
        let before : List ℕ = hash_after is.done in
        let each : AllCanBeKept (e ∷ todo) = subst AllCanBeKept some is.each in
        let behind : List ℕ = hash_in format before e ++ records_text format (chain before (record_of e)) todo in
        let text : rest ≡ record_of e ++ behind = is.rest_is ∙ ap (records_text format before) some ∙ text-cons format before e todo in
        let said : said_body_len rest ≡ length (record_body e) = ap said_body_len text ∙ said-record e behind each.0 in
        let long : length rest ≡ (4 + length (record_body e)) + length behind = ap length text ∙ length-append (record_of e) behind ∙ ap (λ n. n + length behind) (length-record e) in
        let hash : length behind ≡ hash_len format + length (records_text format (chain before (record_of e)) todo) =
        length-append (hash_in format before e) _ ∙ ap (λ n. n + length (records_text format (chain before (record_of e)) todo)) (hash_in-length format before e) in
        absurd (elim cut [
          | inl few ↦ omega (arith, few, long)
          | inr (inl large) ↦ omega (arith, large, said, each.0.has_record.short)
          | inr (inr short) ↦ omega (arith, short, said, long, hash)
        ])

  -- those up to here are a front
  pub copied_front : KeepsFront (first ∷ more) old now
  copied_front = record {
    front = records_so_far is.done;
    begins = by_done is.done is.todo is.parts;
    kept = is.kept;
  } where
    chained-begins : (before : List ℕ) (a b : List Event) → Begins (chained before a) (chained before (a ++ b))
    chained-begins before [] b = (chained before b, refl)
    chained-begins before (e ∷ a) b =
        let later : Begins (chained (chain before (record_of e)) a) (chained (chain before (record_of e)) (a ++ b)) = chained-begins (chain before (record_of e)) a b in
        (later.0, ap (λ l. (record_of e ++ chain before (record_of e)) ∷ l) later.1)

    by_done : (done todo : List Event) → done ++ todo ≡ first ∷ more → Begins (records_so_far done) (kept_records (first ∷ more))
    by_done [] todo parts = (kept_records (first ∷ more), refl)
    by_done (f ∷ d) todo parts = subst (λ h. Begins (kept_records (f ∷ d)) (kept_records h)) parts (front f d todo) where
      front : (f : Event) (d t : List Event) → Begins (kept_records (f ∷ d)) (kept_records (f ∷ d ++ t))
      front f d t =
          let later : Begins (chained (chain (sha256 magic_2) (record_of f)) d) (chained (chain (sha256 magic_2) (record_of f)) (d ++ t)) =
          chained-begins (chain (sha256 magic_2) (record_of f)) d t in
          (later.0, ap (λ l. (magic_2 ++ (record_of f ++ chain (sha256 magic_2) (record_of f))) ∷ l) later.1)

-- the text of a copy at its end
pub copied_text : (given was ended cut now kept bytes : List ℕ) (start : ℕ) → given ++ was ≡ [] → start ≡ length was → cut ≡ take start ended → now ≡ cut ++ kept
    → kept ≡ bytes → given ++ now ≡ bytes
copied_text [] [] ended cut now kept bytes start none at is behind same = behind ∙ ap (λ c. c ++ kept) (is ∙ ap (λ n. take n ended) at) ∙ same
copied_text [] (x ∷ was) ended cut now kept bytes start none at is behind same = absurd cc
copied_text (x ∷ given) was ended cut now kept bytes start none at is behind same = absurd cc

-- a record that is cut from the front of bytes
pub whole_record : (format : Format) (bytes one behind : List ℕ) (hash len : ℕ) → len ≡ said_body_len bytes → len ≤ 300000 → hash ≡ hash_len format
    → 4 + len + hash ≤ length bytes → one ≡ take (4 + len) bytes → behind ≡ drop (4 + len) bytes
    → IsWholeRecord format bytes one (take (length behind - hash) (drop hash behind))
whole_record format bytes one behind hash len said short hash_is whole front back = record {
  hash = take hash behind;
  len = ap length front ∙ length-take-le (4 + len) bytes (omega (arith, whole)) ∙ ap (λ n. 4 + n) said;
  short = subst (λ n. n ≤ 300000) said short;
  hash_is = length-take-le hash behind (omega (arith, whole, ap length back, length-drop (4 + len) bytes)) ∙ hash_is;
  parts =
      sym (
      ap (λ l. one ++ (take hash behind ++ l)) (take_rest behind hash)
      ∙ ap (λ l. one ++ l) (take-append-drop hash behind)
      ∙ ap (λ l. l ++ behind) front
      ∙ ap (λ l. take (4 + len) bytes ++ l) back
      ∙ take-append-drop (4 + len) bytes);
}

-- what is behind the first eight bytes, where there are so many
pub split_chained : (bytes magic records : List ℕ) (n : ℕ) → magic ≡ take n bytes → records ≡ drop n bytes → magic ≡ magic_2 → SplitsMagic Chained bytes records
split_chained bytes magic records n front back is = sym (take-append-drop n bytes) ∙ ap (λ m. m ++ drop n bytes) (sym front ∙ is) ∙ ap (λ r. magic_2 ++ r) (sym back)

drop_more : (bytes : List ℕ) (n : ℕ) → n ≡ min 8 (length bytes) → drop n bytes ≡ drop 8 bytes
drop_more bytes n is = by_length (cases_lt (length bytes) 8) where
  by_length : (length bytes < 8) ⊎ (8 ≤ length bytes) → drop n bytes ≡ drop 8 bytes
  by_length (inl few) = drop_all n bytes (omega (arith, is, few)) ∙ sym (drop_all 8 bytes (omega (arith, few)))
  by_length (inr many) = let all : n ≡ 8 = omega (arith, is, many) in ap (λ m. drop m bytes) all

pub split_plain : (bytes magic records : List ℕ) (n : ℕ) → n ≡ min 8 (length bytes) → magic ≡ take n bytes → records ≡ drop n bytes → (magic ≡ magic_2 → ⊥)
    → SplitsMagic Plain bytes records
split_plain bytes magic records n at front back other = (
  λ rest is. (let all : n ≡ 8 = omega (arith, at, ap length is, length-append magic_2 rest) in other (front ∙ ap (take n) is ∙ ap (λ m. take m (magic_2 ++ rest)) all)),
  back ∙ drop_more bytes n at,
)

-- the records of a ledger
pub record HasRecordsText (format : Format) (history : List Event) (records : List ℕ) : Type 0 where
  pub each : AllCanBeKept history
  pub text : records ≡ records_text format (sha256 magic_2) history

pub split_ledger : (format : Format) (history : List Event) (bytes records : List ℕ) → AreLedgerOf history bytes → SplitsMagic format bytes records
    → HasRecordsText format history records
split_ledger format history bytes records ledger split = by_formats ledger.format format ledger.whole split where
  by_formats : (f g : Format) → BeginsLegal f history bytes [] → SplitsMagic g bytes records → HasRecordsText g history records
  by_formats Plain Plain whole split = record {
    each = whole.kept.has_ledger;
    text = split.1 ∙ ap (drop 8) (whole.text ∙ append-nil (ledger_text_1 history));
  }
  by_formats Chained Chained whole split = record {
    each = whole.kept.has_ledger;
    text = append_cancel_left magic_2 records _ (sym split ∙ whole.text ∙ append-nil (ledger_text history) ∙ text_pieces (chained (sha256 magic_2) history));
  }
  by_formats Plain Chained whole split =
      absurd (formats_differ [] history records [] (ap (λ m. m ++ records) (append-nil magic_2) ∙ sym split ∙ whole.text))
  by_formats Chained Plain whole split =
      absurd (split.0 (joined (chained (sha256 magic_2) history)) (whole.text ∙ append-nil (ledger_text history) ∙ text_pieces (chained (sha256 magic_2) history)))

some_text : (format : Format) (before : List ℕ) (e : Event) (todo : List Event) → records_text format before (e ∷ todo) ≡ [] → ⊥
some_text format before e todo none =
    omega (arith, ap length (sym (text-cons format before e todo) ∙ none), length-append (record_of e) (hash_in format before e ++ records_text format (chain before (record_of e)) todo), length-record e)

none_text : (format : Format) (before : List ℕ) → records_text format before [] ≡ []
none_text Plain before = refl
none_text Chained before = refl

-- a ledger without records is that of no event
pub keeps_magic : (format : Format) (bytes records appended : List ℕ) (old new : Option (List (List ℕ))) → SplitsMagic format bytes records → records ≡ []
    → appended ≡ magic_2 → AddsRecord old new appended → (history : List Event) → AreLedgerOf history bytes → KeepsAll history old new 0
keeps_magic format bytes records appended old new split none is adds [] ledger = record {
  counted = refl;
  kept = subst (λ m. AddsRecord old new m) is adds;
}
keeps_magic format bytes records appended old new split none is adds (e ∷ history) ledger =
    absurd (some_text format (sha256 magic_2) e history (sym (split_ledger format (e ∷ history) bytes records ledger split).text ∙ none))

-- and one with records is that of some
pub keeps_ledger : (format : Format) (bytes records : List ℕ) (old new : Option (List (List ℕ))) (result : Result ℕ KeeperFailed) → SplitsMagic format bytes records
    → (records ≡ [] → ⊥) → KeepsRecords format records old new result → KeepsAgain bytes old new result
keeps_ledger format bytes records old new (Ok count) split some kept = of where
  of : (history : List Event) → AreLedgerOf history bytes → KeepsAll history old new count
  of [] ledger = absurd (some ((split_ledger format [] bytes records ledger split).text ∙ none_text format (sha256 magic_2)))
  of (first ∷ more) ledger =
      let has : HasRecordsText format (first ∷ more) records = split_ledger format (first ∷ more) bytes records ledger split in
      kept first more (record { each = has.each; text = has.text })
keeps_ledger format bytes records old new (Err error) split some kept = of where
  of : (history : List Event) → AreLedgerOf history bytes → KeepsFront history old new
  of [] ledger = absurd (some ((split_ledger format [] bytes records ledger split).text ∙ none_text format (sha256 magic_2)))
  of (first ∷ more) ledger =
      let has : HasRecordsText format (first ∷ more) records = split_ledger format (first ∷ more) bytes records ledger split in
      kept first more (record { each = has.each; text = has.text })

pub whole-longer : (format : Format) (bytes one behind : List ℕ) → IsWholeRecord format bytes one behind → length behind + 4 ≤ length bytes
whole-longer format bytes one behind whole =
    omega (arith, whole.len, ap length whole.parts, length-append one (whole.hash ++ behind), length-append whole.hash behind)

pub whole-short : (format : Format) (bytes one behind : List ℕ) → IsWholeRecord format bytes one behind → length one ≤ 300004
whole-short format bytes one behind whole = omega (arith, whole.len, whole.short)
