-- What is lacking of a record at the front of bytes.
use Rattle.std.proofs.Common.{◌≡◌, ℕ, ◌+◌, ◌*◌, ◌/◌, ◌%◌, ◌≤◌, List, [], ◌∷◌, ◌++◌, length, take, refl, sym, ap, subst, ◌∙◌, arith, length-append}
use Rattle.std.proofs.Math.Seq.{take-append_seam}
use Rattle.std.proofs.lemmas.List.{take-append-le}
use Rattle.pool_history.specs.declared.events.Event.{Event}
use Rattle.pool_history.specs.Ledger.{record_body, record_of}
use Rattle.ledger_records.specs.WellFormed.{CanBeKept}
use Rattle.ledger_records.specs.Records.{AreNoRecord, BeginsWithNoRecord, said_body_len}
use Rattle.ledger_audit.specs.declared.format.Format.{Format}
use Rattle.ledger_audit.specs.declared.format.Format.TheVariants.{Plain, Chained}
use Rattle.ledger_audit.specs.Units.{hash_len, lacking, unit_len}
use Rattle.ledger_audit.specs.Verdicts.{BeginsRecord, HasHash}

-- four bytes say the same, whatever follows
pub said-more : (bytes more : List ℕ) → 4 ≤ length bytes → said_body_len (bytes ++ more) ≡ said_body_len bytes
said-more [] more four = absurd (omega (arith, four))
said-more (k ∷ []) more four = absurd (omega (arith, four))
said-more (k ∷ x ∷ []) more four = absurd (omega (arith, four))
said-more (k ∷ x ∷ y ∷ []) more four = absurd (omega (arith, four))
said-more (k ∷ x ∷ y ∷ z ∷ rest) more four = refl

three_bytes : (n : ℕ) → n ≤ 300000 → n % 256 + 256 * (n / 256 % 256 + 256 * (n / 65536 % 256 + 256 * 0)) ≡ n
three_bytes n short = omega (arith, short)

-- a record says the length of its body
pub said-record : (e : Event) (rest : List ℕ) → CanBeKept e → said_body_len (record_of e ++ rest) ≡ length (record_body e)
said-record e rest can = three_bytes (length (record_body e)) can.has_record.short

pub length-record : (e : Event) → length (record_of e) ≡ 4 + length (record_body e)
length-record e = omega arith

-- where nothing is lacking there are four bytes
pub four_there : (format : Format) (bytes : List ℕ) → lacking format bytes ≡ 0 → 4 ≤ length bytes
four_there format bytes none = grind arith

-- and the record is there with its hash, or says too long a body
pub unit_there : (format : Format) (bytes : List ℕ) → lacking format bytes ≡ 0
    → said_body_len bytes ≤ 300000 → unit_len format bytes ≤ length bytes
unit_there format bytes none short = grind arith

pub none_lacking : (format : Format) (bytes : List ℕ) → 4 ≤ length bytes
    → unit_len format bytes ≤ length bytes → lacking format bytes ≡ 0
none_lacking format bytes four whole = grind arith

-- more bytes don't take it away
pub lacking-more : (format : Format) (bytes more : List ℕ) → lacking format bytes ≡ 0
    → lacking format (bytes ++ more) ≡ 0
lacking-more format bytes more none =
    let four : 4 ≤ length bytes = four_there format bytes none in
    let same : said_body_len (bytes ++ more) ≡ said_body_len bytes = said-more bytes more four in
    let long : length (bytes ++ more) ≡ length bytes + length more = length-append bytes more in
    grind arith

-- a record with its hash lacks nothing
has_hash-long : (format : Format) (rest : List ℕ) → HasHash format rest → hash_len format ≤ length rest
has_hash-long Plain rest has = omega arith
has_hash-long Chained rest has = has

pub lacking-record : (format : Format) (e : Event) (behind rest : List ℕ) → BeginsRecord e behind rest
    → HasHash format rest → lacking format behind ≡ 0
lacking-record format e behind rest one has =
    let said : said_body_len behind ≡ length (record_body e) = ap said_body_len one.is ∙ said-record e rest one.can_be_kept in
    let long : length behind ≡ (4 + length (record_body e)) + length rest =
    ap length one.is ∙ length-append (record_of e) rest ∙ ap (λ n. n + length rest) (length-record e) in
    none_lacking format behind (omega (arith, long)) (omega (arith, said, long, has_hash-long format rest has))

-- bytes that begin with no record begin with none, whatever follows
pub no_record-more : (bytes more : List ℕ) (e : Event) (rest : List ℕ) → BeginsWithNoRecord bytes
    → BeginsRecord e (bytes ++ more) rest → ⊥
no_record-more bytes more e rest none one =
    let n : ℕ = length (record_body e) in
    let said : said_body_len bytes ≡ n =
    sym (said-more bytes more none.four) ∙ ap said_body_len one.is ∙ said-record e rest one.can_be_kept in
    let no : AreNoRecord bytes = none.short (subst (λ m. m ≤ 300000) (sym said) one.can_be_kept.has_record.short) in
    no.none e one.can_be_kept
    (sym (take-append-le (4 + said_body_len bytes) bytes more no.whole)
    ∙ ap (λ m. take (4 + m) (bytes ++ more)) said ∙ ap (take (4 + n)) one.is
    ∙ ap (λ m. take m (record_of e ++ rest)) (sym (length-record e)) ∙ take-append_seam (record_of e) rest)
