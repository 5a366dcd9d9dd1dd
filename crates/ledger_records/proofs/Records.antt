-- A record is read back whatever follows, so a ledger is of one history.
use Rattle.std.proofs.Common.{◌≡◌, ℕ, ◌<◌, ◌≤◌, ◌^◌, List, [], ◌∷◌, ◌++◌, length, drop, flat_map, get_or, lit<, refl, ap, ap₂, sym, ◌∙◌, arith, append_assoc, append-nil}
use Rattle.std.proofs.lemmas.List.{append_cancel_left}
use Rattle.sha2.specs.Sha256.{sha256}
use Rattle.sv2_types.specs.Fields.{B0_16M, Bytes, Number, U8}
use Rattle.pool_base.specs.Lists.{Begins}
use Rattle.pool_history.specs.declared.events.Event.{Event}
use Rattle.pool_history.specs.declared.events.Event.TheVariants as event
use Rattle.pool_history.specs.Ledger.{chain, chained, magic_1, magic_2, record_body, record_kind, record_of, with_magic}
use Rattle.ledger_records.specs.OneLedger.{AllCanBeKept, FormatsDiffer, LedgersAreOfOneHistory, LedgersBeginAlike, NoRecordBeginsAnother, OldLedgersAreOfOneHistory, OldLedgersBeginAlike, ReadsTheSame, RecordsAreOfOneEvent, RecordsAreReadBack}
use Rattle.ledger_records.proofs.Bodies.{bodies_agree}
use Rattle.ledger_records.proofs.FieldByField.{fields_agree}

-- a kind is a byte
pub kind_is_byte : (one : Event) → record_kind one < 2 ^ 8
kind_is_byte (event.Start rules) = omega arith
kind_is_byte one = omega arith

-- a record is read back whatever follows
pub read_back : RecordsAreReadBack
read_back one other behind_one behind_other p q e =
    let parts : (Number (record_kind one) ∷ Bytes (record_body one) ∷ [] ≡ Number (record_kind other) ∷ Bytes (record_body other) ∷ []) × (behind_one ≡ behind_other) =
    fields_agree (U8 ∷ B0_16M ∷ []) (Number (record_kind one) ∷ Bytes (record_body one) ∷ []) (Number (record_kind other) ∷ Bytes (record_body other) ∷ []) behind_one behind_other
    (kind_is_byte one, (short (length (record_body one)) p.has_record.short, tt)) (kind_is_byte other, (short (length (record_body other)) q.has_record.short, tt))
    (sym (joined one behind_one) ∙ e ∙ joined other behind_other) in
    let fields : Number (record_kind one) ∷ Bytes (record_body one) ∷ [] ≡ Number (record_kind other) ∷ Bytes (record_body other) ∷ [] = parts.0 in
    let kinds : record_kind one ≡ record_kind other = cc in
    let bodies : record_body one ≡ record_body other = cc in
    record { events = bodies_agree one other p q kinds bodies; behind = parts.1 }
  where
    short : (n : ℕ) → n ≤ 300000 → n < 2 ^ 24
    short n h = omega (arith, h)

    joined : (e : Event) (x : List ℕ) → record_of e ++ x ≡ record_kind e ∷ Rattle.sv2_types.specs.Spelling.spelled_b16m (record_body e) ++ x
    joined e x = refl

pub one_event : RecordsAreOfOneEvent
one_event one other p q e = (read_back one other [] [] p q (ap (λ bytes. bytes ++ []) e)).events

pub no_record_begins : NoRecordBeginsAnother
no_record_begins one other more p q e = (read_back one other more [] p q (e ∙ sym (append-nil (record_of other)))).behind

-- a record isn't empty
some_record : (one : Event) (behind : List ℕ) → record_of one ++ behind ≡ [] → ⊥
some_record one behind e = some_bytes (record_kind one) (Rattle.sv2_types.specs.Spelling.spelled_b16m (record_body one) ++ behind) e where
  some_bytes : (byte : ℕ) (more : List ℕ) → byte ∷ more ≡ [] → ⊥
  some_bytes byte more e = cc

-- records one after the other
pub records_agree : (one other : List Event) → AllCanBeKept one → AllCanBeKept other → flat_map record_of one ≡ flat_map record_of other → one ≡ other
records_agree [] [] p q e = refl
records_agree [] (b ∷ other) p q e = absurd (some_record b (flat_map record_of other) (sym e))
records_agree (a ∷ one) [] p q e = absurd (some_record a (flat_map record_of one) e)
records_agree (a ∷ one) (b ∷ other) p q e =
    let first : ReadsTheSame a b (flat_map record_of one) (flat_map record_of other) = read_back a b (flat_map record_of one) (flat_map record_of other) p.0 q.0 e in
    ap₂ (λ event history. event ∷ history) first.events (records_agree one other p.1 q.1 first.behind)

pub old_ledgers : OldLedgersAreOfOneHistory
old_ledgers one other p q e = records_agree one other p q (ap (drop 8) e)

-- the pieces of format 2 one after the other
abbrev pub joined : List (List ℕ) → List ℕ
joined pieces = flat_map (λ piece. piece) pieces

pub pieces_agree : (before : List ℕ) (one other : List Event) → AllCanBeKept one → AllCanBeKept other
    → joined (chained before one) ≡ joined (chained before other) → one ≡ other
pieces_agree before [] [] p q e = refl
pieces_agree before [] (b ∷ other) p q e =
    absurd (some_record b (chain before (record_of b) ++ joined (chained (chain before (record_of b)) other))
    (sym (append_assoc (record_of b) (chain before (record_of b)) (joined (chained (chain before (record_of b)) other))) ∙ sym e))
pieces_agree before (a ∷ one) [] p q e =
    absurd (some_record a (chain before (record_of a) ++ joined (chained (chain before (record_of a)) one))
    (sym (append_assoc (record_of a) (chain before (record_of a)) (joined (chained (chain before (record_of a)) one))) ∙ e))
pieces_agree before (a ∷ one) (b ∷ other) p q e =
    let hash : Event → List ℕ = λ (x : Event). chain before (record_of x) in
    let rest : Event → List Event → List ℕ = λ (x : Event) (h : List Event). joined (chained (chain before (record_of x)) h) in
    let first : ReadsTheSame a b (hash a ++ rest a one) (hash b ++ rest b other) =
    read_back a b (hash a ++ rest a one) (hash b ++ rest b other) p.0 q.0
    (sym (append_assoc (record_of a) (hash a) (rest a one)) ∙ e ∙ append_assoc (record_of b) (hash b) (rest b other)) in
    let others : hash a ++ rest a one ≡ hash a ++ rest a other =
    first.behind ∙ ap (λ x. hash x ++ rest x other) (sym first.events) in
    ap₂ (λ event history. event ∷ history) first.events
    (pieces_agree (chain before (record_of a)) one other p.1 q.1 (append_cancel_left (hash a) (rest a one) (rest a other) others))

-- the magic stands before them
pub text_pieces : (pieces : List (List ℕ)) → joined (with_magic pieces) ≡ magic_2 ++ joined pieces
text_pieces [] = refl
text_pieces (first ∷ more) = append_assoc magic_2 first (joined more)

pub ledgers : LedgersAreOfOneHistory
ledgers one other p q e =
    pieces_agree (sha256 magic_2) one other p q
    (ap (drop 8) (sym (text_pieces (chained (sha256 magic_2) one)) ∙ e ∙ text_pieces (chained (sha256 magic_2) other)))

-- a history that begins another, with one event more before both
begins_more : (a b : Event) (one other : List Event) → a ≡ b → Begins one other → Begins (a ∷ one) (b ∷ other)
begins_more a b one other same begins = (begins.0, ap₂ (λ event history. event ∷ history) same begins.1)

-- records that begin alike
pub records_begin : (one other : List Event) (x y : List ℕ) → AllCanBeKept one → AllCanBeKept other → length one ≤ length other
    → flat_map record_of one ++ x ≡ flat_map record_of other ++ y → Begins one other
records_begin [] other x y p q n e = (other, refl)
records_begin (a ∷ one) [] x y p q n e = absurd (omega (arith, n))
records_begin (a ∷ one) (b ∷ other) x y p q n e =
    let first : ReadsTheSame a b (flat_map record_of one ++ x) (flat_map record_of other ++ y) =
    read_back a b (flat_map record_of one ++ x) (flat_map record_of other ++ y) p.0 q.0
    (sym (append_assoc (record_of a) (flat_map record_of one) x) ∙ e ∙ append_assoc (record_of b) (flat_map record_of other) y) in
    begins_more a b one other first.events (records_begin one other x y p.1 q.1 (omega (arith, n)) first.behind)

pub old_ledgers_begin : OldLedgersBeginAlike
old_ledgers_begin one other x y p q n e =
    records_begin one other x y p q n
    (ap (drop 8) (sym (append_assoc magic_1 (flat_map record_of one) x) ∙ e ∙ append_assoc magic_1 (flat_map record_of other) y))

-- pieces that begin alike
pub pieces_begin : (before : List ℕ) (one other : List Event) (x y : List ℕ) → AllCanBeKept one → AllCanBeKept other → length one ≤ length other
    → joined (chained before one) ++ x ≡ joined (chained before other) ++ y → Begins one other
pieces_begin before [] other x y p q n e = (other, refl)
pieces_begin before (a ∷ one) [] x y p q n e = absurd (omega (arith, n))
pieces_begin before (a ∷ one) (b ∷ other) x y p q n e =
    let hash : Event → List ℕ = λ (z : Event). chain before (record_of z) in
    let rest : Event → List Event → List ℕ = λ (z : Event) (h : List Event). joined (chained (chain before (record_of z)) h) in
    let first : ReadsTheSame a b (hash a ++ (rest a one ++ x)) (hash b ++ (rest b other ++ y)) =
    read_back a b (hash a ++ (rest a one ++ x)) (hash b ++ (rest b other ++ y)) p.0 q.0
    (sym (spread (record_of a) (hash a) (rest a one) x) ∙ e ∙ spread (record_of b) (hash b) (rest b other) y) in
    let others : hash a ++ (rest a one ++ x) ≡ hash a ++ (rest a other ++ y) =
    first.behind ∙ ap (λ z. hash z ++ (rest z other ++ y)) (sym first.events) in
    begins_more a b one other first.events
    (pieces_begin (chain before (record_of a)) one other x y p.1 q.1 (omega (arith, n)) (append_cancel_left (hash a) (rest a one ++ x) (rest a other ++ y) others))
  where
    spread : (r h j z : List ℕ) → ((r ++ h) ++ j) ++ z ≡ r ++ (h ++ (j ++ z))
    spread r h j z = simp append_assoc

-- what stands behind the magic
behind_magic : (pieces : List (List ℕ)) (z : List ℕ) → joined (with_magic pieces) ++ z ≡ magic_2 ++ (joined pieces ++ z)
behind_magic pieces z = ap (λ bytes. bytes ++ z) (text_pieces pieces) ∙ append_assoc magic_2 (joined pieces) z

pub ledgers_begin : LedgersBeginAlike
ledgers_begin one other x y p q n e =
    pieces_begin (sha256 magic_2) one other x y p q n
    (ap (drop 8) (sym (behind_magic (chained (sha256 magic_2) one) x) ∙ e ∙ behind_magic (chained (sha256 magic_2) other) y))

-- the last bytes of the magics are others
pub formats_differ : FormatsDiffer
formats_differ one other x y e =
    eighths (joined (chained (sha256 magic_2) one) ++ x) (flat_map record_of other ++ y)
    (sym (behind_magic (chained (sha256 magic_2) one) x) ∙ e ∙ append_assoc magic_1 (flat_map record_of other) y)
  where
    numbers : (m n : ℕ) → m < n → n ≡ m → ⊥
    numbers m n less same = omega (arith, less, same)

    eighths : (a b : List ℕ) → magic_2 ++ a ≡ magic_1 ++ b → ⊥
    eighths a b same = numbers 0x31 0x32 (lit< tt) (ap (λ bytes. get_or bytes 7 0) same)
