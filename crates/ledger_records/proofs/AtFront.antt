-- A record at the front of bytes.
use Rattle.std.proofs.Common.{◌≡◌, ℕ, suc, ◌+◌, ◌*◌, ◌/◌, ◌%◌, ◌≤◌, ◌<◌, Ok, Err, List, [], ◌∷◌, ◌++◌, length, take, drop, get_or, sym, ap, ap₂, subst, ◌∙◌, arith}
use Rattle.std.proofs.lemmas.List.{take-append-drop, length-take-le}
use Rattle.std.proofs.Math.Seq.{take-append_seam}
use Rattle.std.specs.Prelude.{IsErrOf}
use Rattle.sv2_types.proofs.Items.{IsBytes}
use Rattle.pool_history.specs.declared.events.Event.{Event}
use Rattle.pool_history.specs.Ledger.{record_body, record_kind, record_of}
use Rattle.ledger_records.specs.WellFormed.{CanBeKept}
use Rattle.ledger_records.proofs.Bodies.{bodies_agree}
use Rattle.ledger_records.specs.declared.error.RecordError.{RecordError}
use Rattle.ledger_records.specs.declared.error.RecordError.TheVariants as errors
use Rattle.ledger_records.specs.Bodies.{DecidesBody, IsBodyOf}
use Rattle.ledger_records.specs.Records.{BeginsWithNoRecord, IsReadAs, said_body_len}

-- the length that the bytes say
abbrev pub len_of : List ℕ → ℕ
len_of bytes = get_or bytes 1 0 + 256 * (get_or bytes 2 0 + 256 * get_or bytes 3 0)

-- the body behind it
abbrev pub body_in : List ℕ → List ℕ
body_in bytes = take (len_of bytes) (drop 4 bytes)

said_is : (bytes : List ℕ) → 4 ≤ length bytes → said_body_len bytes ≡ len_of bytes
said_is [] four = absurd (omega (arith, four))
said_is (k ∷ []) four = absurd (omega (arith, four))
said_is (k ∷ x ∷ []) four = absurd (omega (arith, four))
said_is (k ∷ x ∷ y ∷ []) four = absurd (omega (arith, four))
said_is (k ∷ x ∷ y ∷ z ∷ rest) four = omega arith

-- three bytes say a length
three_bytes : (n : ℕ) → n ≤ 300000 → n % 256 + 256 * (n / 256 % 256 + 256 * (n / 65536 % 256)) ≡ n
three_bytes n short = omega (arith, short)

-- what a record at the front says
record IsAtFront (one : Event) (bytes : List ℕ) : Type 0 where
  kind : get_or bytes 0 0 ≡ record_kind one
  len : len_of bytes ≡ length (record_body one)
  body : body_in bytes ≡ record_body one

at_front : (one : Event) (more bytes : List ℕ) → CanBeKept one → bytes ≡ record_of one ++ more → IsAtFront one bytes
at_front one more bytes can is =
    let len : len_of bytes ≡ length (record_body one) = ap len_of is ∙ three_bytes (length (record_body one)) can.has_record.short in
    record {
      kind = ap (λ (x : List ℕ). get_or x 0 0) is;
      len = len;
      body = ap₂ (λ (n : ℕ) (x : List ℕ). take n (drop 4 x)) len is ∙ take-append_seam (record_body one) more;
    }

body_of : (one : Event) (more bytes : List ℕ) → CanBeKept one → bytes ≡ record_of one ++ more → IsBodyOf (get_or bytes 0 0) (body_in bytes) one
body_of one more bytes can is =
    let front : IsAtFront one bytes = at_front one more bytes can is in
    record { can_be_kept = can; same_kind = sym front.kind; same_body = sym front.body }

-- the event that was read is that of the record at the front
pub read_as : (event one : Event) (more bytes : List ℕ) → IsBodyOf (get_or bytes 0 0) (body_in bytes) event → CanBeKept one → bytes ≡ record_of one ++ more
    → IsReadAs one (Ok (event, 4 + len_of bytes))
read_as event one more bytes of can is =
    let other : IsBodyOf (get_or bytes 0 0) (body_in bytes) one = body_of one more bytes can is in (
      bodies_agree event one of.can_be_kept can (of.same_kind ∙ sym other.same_kind) (of.same_body ∙ sym other.same_body),
      omega (arith, (at_front one more bytes can is).len),
    )

-- the bytes up to the end of a body that was read are its record
five : (k l x p y q z r : ℕ) (body other : List ℕ) → k ≡ l → x ≡ p → y ≡ q → z ≡ r → body ≡ other
    → k ∷ x ∷ y ∷ z ∷ body ≡ l ∷ p ∷ q ∷ r ∷ other
five k l x p y q z r body other d e f g h = λ i. d i ∷ e i ∷ f i ∷ g i ∷ h i

first_byte : (n x y z : ℕ) → n ≡ x + 256 * (y + 256 * z) → x < 256 → x ≡ n % 256
first_byte n x y z is a = omega (arith, is, a)

second_byte : (n x y z : ℕ) → n ≡ x + 256 * (y + 256 * z) → x < 256 → y < 256 → y ≡ n / 256 % 256
second_byte n x y z is a b = omega (arith, is, a, b)

third_byte : (n x y z : ℕ) → n ≡ x + 256 * (y + 256 * z) → x < 256 → y < 256 → z < 256 → z ≡ n / 65536 % 256
third_byte n x y z is a b c = omega (arith, is, a, b, c)

take_four : (n k x y z : ℕ) (rest : List ℕ) → take (4 + n) (k ∷ x ∷ y ∷ z ∷ rest) ≡ k ∷ x ∷ y ∷ z ∷ take n rest
take_four n k x y z rest = ap (λ (m : ℕ). take m (k ∷ x ∷ y ∷ z ∷ rest)) same where
  same : 4 + n ≡ suc (suc (suc (suc n)))
  same = omega arith

record_at : (bytes : List ℕ) (one : Event) → IsBytes bytes → 4 ≤ length bytes → 4 + len_of bytes ≤ length bytes
    → IsBodyOf (get_or bytes 0 0) (body_in bytes) one → take (4 + len_of bytes) bytes ≡ record_of one
record_at [] one fits four whole of = absurd (omega (arith, four))
record_at (k ∷ []) one fits four whole of = absurd (omega (arith, four))
record_at (k ∷ x ∷ []) one fits four whole of = absurd (omega (arith, four))
record_at (k ∷ x ∷ y ∷ []) one fits four whole of = absurd (omega (arith, four))
record_at (k ∷ x ∷ y ∷ z ∷ rest) one fits four whole of =
    let n : length (record_body one) ≡ x + 256 * (y + 256 * z) = ap length of.same_body ∙ length-take-le (x + 256 * (y + 256 * z)) rest (omega (arith, whole)) in
    take_four (x + 256 * (y + 256 * z)) k x y z rest
    ∙ five k (record_kind one) x _ y _ z _ (take (x + 256 * (y + 256 * z)) rest) (record_body one) (sym of.same_kind)
    (first_byte (length (record_body one)) x y z n (fits 1)) (second_byte (length (record_body one)) x y z n (fits 1) (fits 2))
    (third_byte (length (record_body one)) x y z n (fits 1) (fits 2) (fits 3)) (sym of.same_body)

-- so they don't begin with no record
pub not_refused : (bytes : List ℕ) (one : Event) → IsBytes bytes → 4 ≤ length bytes → len_of bytes ≤ 300000 → 4 + len_of bytes ≤ length bytes
    → IsBodyOf (get_or bytes 0 0) (body_in bytes) one → BeginsWithNoRecord bytes → ⊥
not_refused bytes one fits four short whole of none =
    let said : said_body_len bytes ≡ len_of bytes = said_is bytes four in
    (none.short (subst (λ (n : ℕ). n ≤ 300000) (sym said) short)).none one of.can_be_kept
    (ap (λ (n : ℕ). take (4 + n) bytes) said ∙ record_at bytes one fits four whole of)

-- where a body is no event's, the bytes begin with no record
begins_with_none : (bytes : List ℕ) → 4 ≤ length bytes → 4 + len_of bytes ≤ length bytes
    → ((one : Event) → IsBodyOf (get_or bytes 0 0) (body_in bytes) one → ⊥) → BeginsWithNoRecord bytes
begins_with_none bytes four whole none =
    let said : said_body_len bytes ≡ len_of bytes = said_is bytes four in
    record {
      four = four;
      short = λ short. record {
        whole = subst (λ (n : ℕ). 4 + n ≤ length bytes) (sym said) whole;
        none = λ one can is.
            none one (body_of one (drop (4 + said_body_len bytes) bytes) bytes can
            (sym (take-append-drop (4 + said_body_len bytes) bytes) ∙ ap (λ (x : List ℕ). x ++ drop (4 + said_body_len bytes) bytes) is));
      };
    }

pub no_record : (bytes : List ℕ) (error : RecordError) → 4 ≤ length bytes → 4 + len_of bytes ≤ length bytes
    → DecidesBody (get_or bytes 0 0) (body_in bytes) (Err error) → IsErrOf {T = Event × ℕ} {E = RecordError} (Err error) errors.NoRecord → BeginsWithNoRecord bytes
no_record bytes errors.NotWhole four whole decides is = absurd decides
no_record bytes errors.NoRecord four whole decides is = begins_with_none bytes four whole decides
no_record bytes errors.Memory four whole decides is = absurd cc

-- and a record at their front is never refused
pub not_read_as : (one : Event) (more bytes : List ℕ) (error : RecordError) → DecidesBody (get_or bytes 0 0) (body_in bytes) (Err error) → CanBeKept one
    → bytes ≡ record_of one ++ more → IsReadAs one (Err error)
not_read_as one more bytes errors.NotWhole decides can is = absurd decides
not_read_as one more bytes errors.NoRecord decides can is = absurd (decides one (body_of one more bytes can is))
not_read_as one more bytes errors.Memory decides can is = tt
