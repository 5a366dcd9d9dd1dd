-- Records that aren't cut as the pieces of their ledger are.
use Rattle.std.proofs.Common.{◌≡◌, ◌⊎◌, ◌↔◌, inl, inr, ⊎_elim, ℕ, ◌+◌, ◌-◌, ◌<◌, ◌≤◌, Bool, true, false, None, Some, Option, List, [], ◌∷◌, ◌++◌, length, get_or, min, take, drop, refl, ap, subst, sym, ◌∙◌, arith, append_assoc, append-nil, length-append, length-drop}
use Rattle.std.specs.Prelude.{if◌then◌else◌, nat_eq}
use Rattle.std.proofs.lemmas.Bool.{cases_lt, eq-eqb, ne_eqb}
use Rattle.std.proofs.lemmas.List.{append_cancel_left, drop-append-le, drop_all, drop_more, length-take-le, take-append-drop, take-append-le, take_all, take_at, take_more, take_rest}
use Rattle.std.proofs.lemmas.List.Concat.{flat_map-append}
use Rattle.sha2.proofs.Facts256.{length-sha256}
use Rattle.sha2.specs.Sha256.{sha256}
use Rattle.pool_base.specs.Lists.{Begins}
use Rattle.pool_history.specs.declared.events.Event.{Event}
use Rattle.pool_history.specs.Ledger.{chain, chained, kept_records, ledger_text, ledger_text_1, magic_1, magic_2, record_body, record_of}
use Rattle.history_laws.proofs.Legalities.{legal_starts}
use Rattle.history_laws.specs.Legality.{Starts}
use Rattle.ledger_records.specs.Growing.{hash_after}
use Rattle.ledger_records.specs.Keeping.{IsKept, IsLedgerOf}
use Rattle.ledger_records.specs.OneLedger.{AllCanBeKept}
use Rattle.ledger_records.specs.WellFormed.{CanBeKept}
use Rattle.ledger_records.proofs.Records.{formats_differ}
use Rattle.ledger_records.specs.Pieces.{piece_behind}
use Rattle.ledger_records.specs.Records.{said_body_len}
use Rattle.ledger_audit.specs.Judging.{in_a_row}
use Rattle.ledger_audit.specs.Lacking.{length-record, said-more, said-record}
use Rattle.ledger_audit.specs.Verdicts.{AreLegal, BeginsLegal}
use Rattle.ledger_audit.specs.declared.format.Format.{Format}
use Rattle.ledger_audit.specs.declared.format.Format.TheVariants.{Plain, Chained}
use Rattle.share_ledger.specs.Recovery.{pieces_of}
use Rattle.share_ledger.proofs.Recovering.{pieces-length}
use Rattle.ledger_resume.specs.Cutting.{AreLedger, IsAsLongAsSaid, IsCutAsPiece, lead_len}
use Rattle.ledger_resume.specs.Histories.{IsHistoryOf}
use Rattle.ledger_resume.specs.Refusals.{AreCutOtherwise, HaveMagic}
use Rattle.ledger_resume.specs.Restoring.{HaveNoHistory}
use Rattle.ledger_resume.proofs.Pieces.{all-middle, kept-append-cons}

-- bytes that are legal and begin with the magic of format 2 are a ledger of it
pub ledger_of_legal : (bytes : List ℕ) → HaveMagic bytes → AreLegal bytes → AreLedger bytes
ledger_of_legal bytes magic legal = by_format legal.format legal.whole where
  by_format : (f : Format) → BeginsLegal f legal.history bytes [] → AreLedger bytes
  by_format Chained whole = (legal.history, record { kept = whole.kept; text = whole.text ∙ append-nil (ledger_text legal.history) })
  by_format Plain whole = absurd (formats_differ [] legal.history magic.0 [] (magic.1 ∙ whole.text))

-- what stands before a piece: the magic before the first
abbrev lead_of : List Event → List ℕ
lead_of [] = magic_2
lead_of (e ∷ h) = []

abbrev next_piece : List Event → Event → List ℕ
next_piece h e = lead_of h ++ piece_behind (hash_after h) e

pieces-next : (h : List Event) (e : Event) (more : List Event)
    → pieces_of (h ++ e ∷ more) ≡ pieces_of h ++ next_piece h e ∷ chained (chain (hash_after h) (record_of e)) more
pieces-next [] e more = refl
pieces-next (x ∷ h) e more = kept-append-cons x h (e ∷ more)

-- the first piece is the one before which there is no event
abbrev pub is_none : List Event → Bool
is_none [] = true
is_none (e ∷ h) = false

long_as_said : (before : List ℕ) (e : Event) → CanBeKept e → IsAsLongAsSaid (piece_behind before e)
long_as_said before e can =
    omega (
      arith,
      said-record e (chain before (record_of e)) can,
      length-append (record_of e) (chain before (record_of e)),
      length-record e,
      length-sha256 (before ++ record_of e),
    )

-- a piece of a history is cut so
cut_next : (h : List Event) (e : Event) → CanBeKept e → IsCutAsPiece (is_none h) (next_piece h e)
cut_next [] e can = long_as_said (hash_after []) e can
cut_next (x ∷ h) e can = long_as_said (hash_after (x ∷ h)) e can

-- the same is said, whatever follows
said_at : (s : ℕ) (x more : List ℕ) → IsAsLongAsSaid (drop s x) → said_body_len (drop s (x ++ more)) ≡ said_body_len (drop s x)
said_at s x more long = ap said_body_len (drop-append-le s x more (within s x long)) ∙ said-more (drop s x) more (omega (arith, long))
  where
    within : (s : ℕ) (x : List ℕ) → IsAsLongAsSaid (drop s x) → s ≤ length x
    within s x long = omega (arith, long, length-drop s x)

-- Two that are cut so where the same bytes stand are one
same_cut : (s : ℕ) (x y more other : List ℕ) → x ++ more ≡ y ++ other → IsAsLongAsSaid (drop s x) → IsAsLongAsSaid (drop s y) → x ≡ y
same_cut s x y more other same a b =
    let said : said_body_len (drop s x) ≡ said_body_len (drop s y) =
    sym (said_at s x more a) ∙ ap (λ l. said_body_len (drop s l)) same ∙ said_at s y other b in
    let long : length x ≡ length y = omega (arith, a, b, said, length-drop s x, length-drop s y) in
    sym (take_at x more (length x) refl) ∙ ap (take (length x)) same ∙ take_at y other (length x) (sym long)

-- the first so many records are pieces of a history
pub record CutSoFar (history : List Event) (front : List (List ℕ)) : Type 0 where
  pub done : List Event
  pub left : List Event
  pub parts : done ++ left ≡ history
  pub pieces : front ≡ pieces_of done

pub none_cut : (history : List Event) → CutSoFar history []
none_cut history = record { done = []; left = history; parts = refl; pieces = refl }

-- the place in a list tells whether an event stands before
first_is : (i : ℕ) (h : List Event) → i ≡ length h → nat_eq i 0 ≡ is_none h
first_is i [] same = eq-eqb i 0 same
first_is i (e ∷ h) same = ne_eqb i 0 (λ none. omega (arith, same, none))

-- a piece is not empty
long_piece : (is : Bool) (piece : List ℕ) → IsCutAsPiece is piece → 36 ≤ length piece
long_piece true piece long = omega (arith, long, length-drop 8 piece)
long_piece false piece long = omega (arith, long, length-drop 0 piece)

longer_first : (piece : List ℕ) → IsCutAsPiece true piece → 44 ≤ length piece
longer_first piece long = omega (arith, long, length-drop 8 piece)

cut_alike : (is : Bool) (x y more other : List ℕ) → x ++ more ≡ y ++ other → IsCutAsPiece is x → IsCutAsPiece is y → x ≡ y
cut_alike true x y more other same a b = same_cut 8 x y more other same a b
cut_alike false x y more other same a b = same_cut 0 x y more other same a b

row-append : (xs ys : List (List ℕ)) → in_a_row (xs ++ ys) ≡ in_a_row xs ++ in_a_row ys
row-append xs ys = flat_map-append (λ piece. piece) xs ys

-- the ledger of a history of which these are the first events
row_of : (done : List Event) (e : Event) (more : List Event)
    → ledger_text (done ++ e ∷ more) ≡ in_a_row (pieces_of done) ++ (next_piece done e ++ in_a_row (chained (chain (hash_after done) (record_of e)) more))
row_of done e more = some done ∙ ap in_a_row (pieces-next done e more) ∙ row-append (pieces_of done) (next_piece done e ∷ chained (chain (hash_after done) (record_of e)) more)
  where
    some : (d : List Event) → ledger_text (d ++ e ∷ more) ≡ in_a_row (pieces_of (d ++ e ∷ more))
    some [] = refl
    some (x ∷ d) = refl

-- a record where the history ends is none of its pieces
too_long : (h : List Event) (one rest : List ℕ) → IsCutAsPiece (is_none h) one → ledger_text h ≡ in_a_row (pieces_of h) ++ (one ++ rest) → ⊥
too_long [] one rest long same =
    omega (arith, ap length same, longer_first one long, length-append one rest)
too_long (x ∷ h) one rest long same =
    omega (
      arith,
      ap length same,
      long_piece false one long,
      length-append one rest,
      length-append (in_a_row (pieces_of (x ∷ h))) (one ++ rest),
    )

pieces_begin : (done left : List Event) → Begins (pieces_of done) (pieces_of (done ++ left))
pieces_begin done [] = ([], append-nil (pieces_of done) ∙ ap pieces_of (sym (append-nil done)))
pieces_begin done (e ∷ more) = (next_piece done e ∷ chained (chain (hash_after done) (record_of e)) more, sym (pieces-next done e more))

module _ (records : List (List ℕ)) (history : List Event) (ledger : IsLedgerOf history (in_a_row records)) where
  module _ (i : ℕ) (one : List ℕ) (within : i < length records) (one_is : one ≡ get_or records i one) (was : CutSoFar history (take i records)) where
    split_at_one : records ≡ take i records ++ one ∷ drop (i + 1) records
    split_at_one = sym (take-append-drop i records) ∙ ap (λ l. take i records ++ l) (drop_more records i one within ∙ ap (λ x. x ∷ drop (i + 1) records) (sym one_is))

    row_is : ledger_text history ≡ in_a_row (pieces_of was.done) ++ (one ++ in_a_row (drop (i + 1) records))
    row_is = sym ledger.text ∙ ap in_a_row split_at_one ∙ row-append (take i records) (one ∷ drop (i + 1) records)
        ∙ ap (λ ps. in_a_row ps ++ (one ++ in_a_row (drop (i + 1) records))) was.pieces

    counted : i ≡ length was.done
    counted = sym (length-take-le i records (omega (arith, within))) ∙ ap length was.pieces ∙ pieces-length was.done

    next_kept : (left : List Event) (e : Event) (more : List Event) → left ≡ e ∷ more → was.done ++ left ≡ history → CanBeKept e
    next_kept left e more is parts =
        all-middle CanBeKept was.done e more (subst AllCanBeKept (sym parts ∙ ap (λ l. was.done ++ l) is) ledger.kept.has_ledger)

    more_by : (left : List Event) → was.done ++ left ≡ history → IsCutAsPiece (is_none was.done) one → CutSoFar history (take (i + 1) records)
    more_by [] parts long =
        absurd (too_long was.done one (in_a_row (drop (i + 1) records)) long (ap ledger_text (sym (append-nil was.done) ∙ parts) ∙ row_is))
    more_by (e ∷ more) parts long =
        let same : one ≡ next_piece was.done e =
        cut_alike (is_none was.done) one (next_piece was.done e) (in_a_row (drop (i + 1) records)) (in_a_row (chained (chain (hash_after was.done) (record_of e)) more))
        (append_cancel_left (in_a_row (pieces_of was.done)) (one ++ in_a_row (drop (i + 1) records))
        (next_piece was.done e ++ in_a_row (chained (chain (hash_after was.done) (record_of e)) more))
        (sym row_is ∙ ap ledger_text (sym parts) ∙ row_of was.done e more)) long (cut_next was.done e (next_kept (e ∷ more) e more refl parts)) in
        record {
          done = was.done ++ e ∷ [];
          left = more;
          parts = append_assoc was.done (e ∷ []) more ∙ parts;
          pieces = take_more records i one within ∙ ap (λ x. take i records ++ x ∷ []) (sym one_is ∙ same) ∙ ap (λ ps. ps ++ next_piece was.done e ∷ []) was.pieces
              ∙ sym (pieces-next was.done e []);
        }

    pub cut_more : IsCutAsPiece (nat_eq i 0) one → CutSoFar history (take (i + 1) records)
    cut_more long = more_by was.left was.parts (subst (λ b. IsCutAsPiece b one) (first_is i was.done counted) long)

    other_by : (left : List Event) → was.done ++ left ≡ history → (IsCutAsPiece (is_none was.done) one → ⊥) → (rest : List (List ℕ))
        → (take i records ++ one ∷ []) ++ rest ≡ pieces_of history → ⊥
    other_by [] parts not rest same =
        omega (
          arith,
          ap length (same ∙ ap pieces_of (sym parts ∙ append-nil was.done) ∙ sym was.pieces),
          length-append (take i records ++ one ∷ []) rest,
          length-append (take i records) (one ∷ []),
        )
    other_by (e ∷ more) parts not rest same =
        not (subst (IsCutAsPiece (is_none was.done)) (sym (head (append_cancel_left (take i records) (one ∷ rest)
        (next_piece was.done e ∷ chained (chain (hash_after was.done) (record_of e)) more)
        (sym (append_assoc (take i records) (one ∷ []) rest) ∙ same ∙ ap pieces_of (sym parts) ∙ pieces-next was.done e more
        ∙ ap (λ ps. ps ++ next_piece was.done e ∷ chained (chain (hash_after was.done) (record_of e)) more) (sym was.pieces)))))
        (cut_next was.done e (next_kept (e ∷ more) e more refl parts)))
      where
        head : {x y : List ℕ} {xs ys : List (List ℕ)} → x ∷ xs ≡ y ∷ ys → x ≡ y
        head is = cc

    pub cut_otherwise : (IsCutAsPiece (nat_eq i 0) one → ⊥) → (place : ℕ) → place ≡ length (in_a_row (take i records)) → AreCutOtherwise records place
    cut_otherwise not place place_is = record {
      history = history;
      ledger = ledger;
      front = take i records;
      one = one;
      more = drop (i + 1) records;
      parts = split_at_one;
      pieces = subst (λ h. Begins (take i records) (pieces_of h)) was.parts
          (subst (λ ps. Begins ps (pieces_of (was.done ++ was.left))) (sym was.pieces) (pieces_begin was.done was.left));
      other = λ begins.
          other_by was.left was.parts (λ long. not (subst (λ b. IsCutAsPiece b one) (sym (first_is i was.done counted)) long))
          begins.0 begins.1;
      place_is = place_is;
    }

  -- they aren't all pieces, where no history has them
  pub not_all : (i : ℕ) → length records ≤ i → CutSoFar history (take i records) → HaveNoHistory records → ⊥
  not_all i ends all none = by_left all.left all.parts where
    are : records ≡ pieces_of all.done
    are = sym (take_all i records ends) ∙ all.pieces

    whole : (h : List Event) → h ≡ history → records ≡ pieces_of h → ⊥
    whole [] is same = empty (sym (ap in_a_row same) ∙ ledger.text ∙ ap ledger_text (sym is)) where
      empty : ◌≡◌ {A = List ℕ} [] (ledger_text []) → ⊥
      empty same = cc
    whole (x ∷ h) is same = none (x ∷ h) (record {
      kept = subst IsKept (sym is) ledger.kept;
      begun = ⊎_elim (λ empty. absurd (nothing empty)) (λ s. s) (legal_starts (x ∷ h) (subst IsKept (sym is) ledger.kept).legal);
      pieces = same;
    }) where
      nothing : ◌≡◌ {A = List Event} (x ∷ h) [] → ⊥
      nothing same = cc

    by_left : (left : List Event) → all.done ++ left ≡ history → ⊥
    by_left [] parts = whole all.done (sym (append-nil all.done) ∙ parts) are
    by_left (e ∷ more) parts =
        let can : CanBeKept e = all-middle CanBeKept all.done e more (subst AllCanBeKept (sym parts) ledger.kept.has_ledger) in
        omega (
          arith,
          long_piece (is_none all.done) (next_piece all.done e) (cut_next all.done e can),
          ap length (sym (row_of all.done e more) ∙ ap ledger_text parts ∙ sym ledger.text ∙ ap in_a_row are),
          length-append (in_a_row (pieces_of all.done)) (next_piece all.done e ++ in_a_row (chained (chain (hash_after all.done) (record_of e)) more)),
          length-append (next_piece all.done e) (in_a_row (chained (chain (hash_after all.done) (record_of e)) more)),
        )

-- The magic, wherever it is cut.

pub magic_goes_on : (left bytes rest : List ℕ) (count : ℕ) → count ≡ min (length left) (length bytes) → take count left ≡ take count bytes
    → Begins left (bytes ++ rest) ↔ Begins (drop count left) rest
magic_goes_on left bytes rest count is same = ⊎_elim (λ few. few_bytes few) (λ many. enough many) (cases_lt (length bytes) (length left))
  where
    few_bytes : length bytes < length left → Begins left (bytes ++ rest) ↔ Begins (drop count left) rest
    few_bytes few =
        let all : count ≡ length bytes = omega (arith, is, few) in
        let left_is : left ≡ bytes ++ drop count left =
        sym (take-append-drop count left) ∙ ap (λ l. l ++ drop count left) (same ∙ take_all count bytes (omega (arith, all))) in (
          λ begins. (
            begins.0,
            append_cancel_left bytes (drop count left ++ begins.0) rest
                (sym (append_assoc bytes (drop count left) begins.0) ∙ ap (λ l. l ++ begins.0) (sym left_is) ∙ begins.1),
          ),
          λ begins. (
            begins.0,
            ap (λ l. l ++ begins.0) left_is ∙ append_assoc bytes (drop count left) begins.0 ∙ ap (λ l. bytes ++ l) begins.1,
          ),
        )

    enough : length left ≤ length bytes → Begins left (bytes ++ rest) ↔ Begins (drop count left) rest
    enough many =
        let all : count ≡ length left = omega (arith, is, many) in
        let left_is : left ≡ take count bytes = sym (take_all count left (omega (arith, all))) ∙ same in (
          λ begins. (rest, ap (λ l. l ++ rest) (drop_all count left (omega (arith, all)))),
          λ begins. (
            drop count bytes ++ rest,
            sym (append_assoc left (drop count bytes) rest) ∙ ap (λ l. (l ++ drop count bytes) ++ rest) left_is ∙ ap (λ l. l ++ rest) (take-append-drop count bytes),
          ),
        )

pub other_magic : (left bytes rest : List ℕ) (count : ℕ) → count ≡ min (length left) (length bytes) → (take count left ≡ take count bytes → ⊥)
    → Begins left (bytes ++ rest) → ⊥
other_magic left bytes rest count is other begins =
    other (sym (take-append-le count left begins.0 (omega (arith, is))) ∙ ap (take count) begins.1 ∙ take-append-le count bytes rest (omega (arith, is)))

pub row_left : (records : List (List ℕ)) (i : ℕ) (one : List ℕ) → i < length records → one ≡ get_or records i one
    → in_a_row (drop i records) ≡ one ++ in_a_row (drop (i + 1) records)
row_left records i one within is = ap in_a_row (drop_more records i one within ∙ ap (λ x. x ∷ drop (i + 1) records) (sym is))

-- one record more of the row, behind the magic's part in it
pub magic_more : (A : Type 0) (records : List (List ℕ)) (i : ℕ) (one bytes left : List ℕ) (count : ℕ) → i < length records → one ≡ get_or records i one → bytes ≡ one
    → count ≡ min (length left) (length bytes) → take count left ≡ take count bytes → A ↔ Begins left (in_a_row (drop i records))
    → A ↔ Begins (take (length left - count) (drop count left)) (in_a_row (drop (i + 1) records))
magic_more A records i one bytes left count within is of_one counted same was =
    let row : in_a_row (drop i records) ≡ bytes ++ in_a_row (drop (i + 1) records) =
    row_left records i one within is ∙ ap (λ b. b ++ in_a_row (drop (i + 1) records)) (sym of_one) in
    let step = magic_goes_on left bytes (in_a_row (drop (i + 1) records)) count counted same in
    let rest : take (length left - count) (drop count left) ≡ drop count left = take_rest left count in (
      λ a. subst (λ l. Begins l (in_a_row (drop (i + 1) records))) (sym rest) (step.0 (subst (Begins left) row (was.0 a))),
      λ begins. was.1 (subst (Begins left) (sym row) (step.1 (subst (λ l. Begins l (in_a_row (drop (i + 1) records))) rest begins))),
    )

pub magic_ends : (A : Type 0) (records : List (List ℕ)) (i : ℕ) (one bytes left : List ℕ) (count : ℕ) → i < length records → one ≡ get_or records i one → bytes ≡ one
    → count ≡ min (length left) (length bytes) → (take count left ≡ take count bytes → ⊥) → A ↔ Begins left (in_a_row (drop i records)) → A → ⊥
magic_ends A records i one bytes left count within is of_one counted other was a =
    other_magic left bytes (in_a_row (drop (i + 1) records)) count counted other
    (subst (Begins left) (row_left records i one within is ∙ ap (λ b. b ++ in_a_row (drop (i + 1) records)) (sym of_one)) (was.0 a))

-- behind all records just nothing begins with what is left of it
pub magic_left : (A : Type 0) (records : List (List ℕ)) (i : ℕ) (left : List ℕ) → length records ≤ i → A ↔ Begins left (in_a_row (drop i records))
    → A ↔ (length left ≡ 0)
magic_left A records i left ends was =
    let none : in_a_row (drop i records) ≡ [] = ap in_a_row (drop_all i records ends) in (
      λ a. (let begins = was.0 a in omega (arith, ap length (begins.1 ∙ none), length-append left begins.0)),
      λ empty. was.1 (in_a_row (drop i records), ap (λ l. l ++ in_a_row (drop i records)) (nothing left empty)),
    )
  where
    nothing : (l : List ℕ) → length l ≡ 0 → l ≡ []
    nothing [] n = refl
    nothing (x ∷ l) n = absurd (omega (arith, n))

-- a truth is no falsehood
pub never : false ≡ true → ⊥
never same = cc

-- how far the records go, with one more
pub place_more : (records : List (List ℕ)) (i : ℕ) (one : List ℕ) (place : ℕ) → i < length records → one ≡ get_or records i one
    → place ≡ length (in_a_row (take i records)) → place + length one ≡ length (in_a_row (take (i + 1) records))
place_more records i one place within is place_is =
    ap (λ n. n + length one) place_is ∙ sym (length-append (in_a_row (take i records)) one)
    ∙ ap (λ b. length (in_a_row (take i records) ++ b)) (sym (append-nil one))
    ∙ ap length (sym (row-append (take i records) (one ∷ [])))
    ∙ ap (λ x. length (in_a_row (take i records ++ x ∷ []))) is ∙ ap (λ rs. length (in_a_row rs)) (sym (take_more records i one within))

-- how a record is cut, by what it says
module _ (is_first : Bool) (start : ℕ) (bytes : List ℕ) (start_is : start ≡ lead_len is_first) where
  unit_is : take (length bytes - start) (drop start bytes) ≡ drop start bytes
  unit_is = take_rest bytes start

  pub cut_by : (len : ℕ) → len ≡ said_body_len (take (length bytes - start) (drop start bytes))
      → (length (take (length bytes - start) (drop start bytes)) ≡ 4 + len + 32) ↔ IsCutAsPiece is_first bytes
  cut_by len said = (
    λ long. subst (λ s. IsAsLongAsSaid (drop s bytes)) start_is (sym (ap length unit_is) ∙ long ∙ ap (λ n. 4 + n + 32) (said ∙ ap said_body_len unit_is)),
    λ long. ap length unit_is ∙ subst (λ s. IsAsLongAsSaid (drop s bytes)) (sym start_is) long
        ∙ ap (λ n. 4 + n + 32) (sym (said ∙ ap said_body_len unit_is)),
  )

  pub cut_short : length (take (length bytes - start) (drop start bytes)) < 4 → IsCutAsPiece is_first bytes → ⊥
  cut_short few long =
      let one : IsAsLongAsSaid (drop start bytes) = subst (λ s. IsAsLongAsSaid (drop s bytes)) (sym start_is) long in
      omega (arith, few, one, ap length unit_is)

  pub cut_before : length bytes < start → IsCutAsPiece is_first bytes → ⊥
  cut_before few long =
      let one : IsAsLongAsSaid (drop start bytes) = subst (λ s. IsAsLongAsSaid (drop s bytes)) (sym start_is) long in
      omega (arith, few, one, length-drop start bytes)
