-- Outputs that are read one after the other, as a loop does; and that they are the whole ones.
use Rattle.std.proofs.Common.{◌≡◌, ℕ, zero, suc, ◌+◌, ◌-◌, ◌<◌, ◌≤◌, inl, inr, Bool, false, cond, eqb, ltb, List, [], ◌∷◌, ◌++◌, length, drop, Result, Ok, Err, refl, sym, ap, subst, ◌∙◌, append_assoc, arith}
use Rattle.std.specs.Prelude.{IsErr, IsTrue, ◌↔◌}
use Rattle.std.specs.Int.{Width, w8, w16, w32, w64, byte_len, from_le_bytes}
use Rattle.std.proofs.lemmas.Bool.{both_ways, ne_eqb, eq-eqb, cases_lt}
use Rattle.std.proofs.lemmas.List.{append-nil, length-append}
use Rattle.coinbase.specs.declared.error.TxError.{TxError}
use Rattle.coinbase.specs.declared.error.TxError.TheVariants.{LongSize}
use Rattle.coinbase.specs.declared.outputs.Broken.{Broken}
use Rattle.coinbase.specs.declared.outputs.Broken.TheVariants as broken
use Rattle.coinbase.specs.declared.tx.TxOut.{TxOut}
use Rattle.coinbase.specs.Broken.{ReadsNoOutput, EndsOutputs}
use Rattle.coinbase.specs.Outputs.{first_of, and_more, outputs_within, outputs_of}
use Rattle.pool_base.specs.Results.{◌>>=◌}
use Rattle.coinbase.specs.Reading.{Place, bytes_at, number_at, marked_at, compact_at, sized_at, output_at}
use Rattle.coinbase.proofs.Fields.{bind_case, guard_ok, chosen, ok_is, bytes_found, Took, marked, marked_last}

-- ---- a read takes bytes

took_shorter : (p q : Place) (x : List ℕ) → Took p q x → length q.left + length x ≡ length p.left
took_shorter p q x took = omega (arith, ap length took.parts, length-append x q.left)

bytes_shorter : (n : ℕ) (p q : Place) (x : List ℕ) → bytes_at n p ≡ Ok (x, q) → length q.left + n ≡ length p.left
bytes_shorter n p q x e =
    let found = bytes_found n p q x e in
    omega (arith, took_shorter p q x found.0, found.1)

number_shorter : (w : Width) (p q : Place) (n : ℕ) → number_at w p ≡ Ok (n, q) → length q.left + byte_len w ≡ length p.left
unfolding number_at
number_shorter w p q n e =
    bind_case (bytes_at (byte_len w) p) (λ bytes. Ok (from_le_bytes w bytes.0, bytes.1)) (n, q) e (λ b step rest.
    subst (λ (y : ℕ × Place). length y.1.left + byte_len w ≡ length p.left) (ok_is (from_le_bytes w b.0, b.1) (n, q) rest) (bytes_shorter (byte_len w) p b.1 b.0 step))

marked_shorter : (w : Width) (least : ℕ) (p q : Place) (n : ℕ) → marked_at w least p ≡ Ok (n, q) → length q.left ≤ length p.left
unfolding marked_at
marked_shorter w least p q n e =
    bind_case (bytes_at (1 + byte_len w) p) (λ b. cond (ltb (from_le_bytes w (drop 1 b.0)) least) (Err (LongSize p.at)) (Ok (from_le_bytes w (drop 1 b.0), b.1))) (n, q) e (λ b step rest.
    let g = guard_ok (ltb (from_le_bytes w (drop 1 b.0)) least) (LongSize p.at) (from_le_bytes w (drop 1 b.0), b.1) (n, q) rest in
    let taken : length b.1.left + (1 + byte_len w) ≡ length p.left = bytes_shorter (1 + byte_len w) p b.1 b.0 step in
    subst (λ (y : ℕ × Place). length y.1.left ≤ length p.left) g.1 (omega arith))

compact_shorter : (p q : Place) (n : ℕ) → compact_at p ≡ Ok (n, q) → length q.left ≤ length p.left
unfolding compact_at
compact_shorter p q n e =
    bind_case (number_at w8 p) (λ first. cond (ltb first.0 253) (Ok first) (marked p first.0)) (n, q) e (λ first step rest.
    elim (chosen (ltb first.0 253) (Ok first) (marked p first.0) (Ok (n, q)) rest) [
      | inl small ↦
          let taken : length first.1.left + 1 ≡ length p.left = number_shorter w8 p first.1 first.0 step in
          subst (λ (y : ℕ × Place). length y.1.left ≤ length p.left) (ok_is first (n, q) small.1) (omega arith)
      | inr more ↦ elim (chosen (eqb first.0 253) (marked_at w16 253 p) (marked_last p first.0) (Ok (n, q)) more.1) [
        | inl two ↦ marked_shorter w16 253 p q n two.1
        | inr most ↦ elim (chosen (eqb first.0 254) (marked_at w32 65536 p) (marked_at w64 4294967296 p) (Ok (n, q)) most.1) [
          | inl four ↦ marked_shorter w32 65536 p q n four.1
          | inr eight ↦ marked_shorter w64 4294967296 p q n eight.1
        ]
      ]
    ])

sized_shorter : (p q : Place) (x : List ℕ) → sized_at p ≡ Ok (x, q) → length q.left ≤ length p.left
unfolding sized_at
sized_shorter p q x e =
    bind_case (compact_at p) (λ len. bytes_at len.0 len.1) (x, q) e (λ len step rest.
    let first : length len.1.left ≤ length p.left = compact_shorter p len.1 len.0 step in
    let second : length q.left + len.0 ≡ length len.1.left = bytes_shorter len.0 len.1 q x rest in
    omega arith)

pub output_shorter : (p q : Place) (x : TxOut) → output_at p ≡ Ok (x, q) → length q.left < length p.left
unfolding output_at
output_shorter p q x e =
    bind_case (number_at w64 p) (λ value. sized_at value.1 >>= λ script. Ok (record { value = value.0; script = script.0 }, script.1)) (x, q) e (λ value step1 rest1.
    bind_case (sized_at value.1) (λ script. Ok (record { value = value.0; script = script.0 }, script.1)) (x, q) rest1 (λ script step2 rest2.
    let first : length value.1.left + 8 ≡ length p.left = number_shorter w64 p value.1 value.0 step1 in
    let second : length script.1.left ≤ length value.1.left = sized_shorter value.1 script.1 script.0 step2 in
    let made : TxOut = record { value = value.0; script = script.0 } in
    subst (λ (y : TxOut × Place). length y.1.left < length p.left) (ok_is (made, script.1) (x, q) rest2) (omega arith)))

-- ---- the loop

pub empty_read : (n : ℕ) (p : Place) → length p.left ≡ 0 → outputs_within n p ≡ Ok []
unfolding outputs_within
empty_read zero p empty = refl
empty_read (suc n) p empty = rw (eq-eqb (length p.left) 0 empty) refl

pub more_read : (n : ℕ) (p : Place) → 0 < length p.left → outputs_within (suc n) p ≡ and_more (output_at p) p.at (λ after. outputs_within n after)
unfolding outputs_within
more_read n p some = rw (ne_eqb (length p.left) 0 (λ none. absurd (omega arith))) refl

same_more : (p : Place) (f g : Place → Result (List TxOut) ℕ) → ((after : Place) → length after.left < length p.left → f after ≡ g after) →
    (r : Result (TxOut × Place) TxError) → output_at p ≡ r → and_more r p.at f ≡ and_more r p.at g
same_more p f g same (Ok read) e = ap (first_of read.0) (same read.1 (output_shorter p read.1 read.0 e))
same_more p f g same (Err d) e = refl

-- what is allowed beyond the bytes that are left changes nothing
enough : (m n : ℕ) (p : Place) → length p.left ≤ m → length p.left ≤ n → outputs_within m p ≡ outputs_within n p
enough zero n p h k = empty_read zero p (omega arith) ∙ sym (empty_read n p (omega arith))
enough (suc m) zero p h k = empty_read (suc m) p (omega arith) ∙ sym (empty_read zero p (omega arith))
enough (suc m) (suc n) p h k =
    elim (cases_lt 0 (length p.left)) [
      | inl some ↦
          more_read m p some
          ∙ same_more p (λ after. outputs_within m after) (λ after. outputs_within n after) (λ after shorter. enough m n after (omega arith) (omega arith)) (output_at p) refl
          ∙ sym (more_read n p some)
      | inr none ↦ empty_read (suc m) p (omega arith) ∙ sym (empty_read (suc n) p (omega arith))
    ]

-- outputs that were read before those of a reading
abbrev pub after_front : List TxOut → Result (List TxOut) ℕ → Result (List TxOut) ℕ
after_front front (Ok others) = Ok (front ++ others)
after_front front (Err at) = Err at

regroup : (front : List TxOut) (x : TxOut) (read : Result (List TxOut) ℕ) → after_front front (first_of x read) ≡ after_front (front ++ x ∷ []) read
regroup front x (Ok others) = ap (λ (xs : List TxOut). Ok xs) (simp append_assoc)
regroup front x (Err at) = refl

alone : (read : Result (List TxOut) ℕ) → after_front [] read ≡ read
alone (Ok others) = refl
alone (Err at) = refl

pub begins : (front : List TxOut) (bytes : List ℕ) → front ≡ [] → after_front front (outputs_within (length bytes) (record { at = 0; left = bytes })) ≡ outputs_of bytes
begins front bytes empty = rw empty (alone (outputs_of bytes))

one_less : (n : ℕ) → 0 < n → n ≡ suc (n - 1)
one_less n some = omega arith

pub goes_on : (front new : List TxOut) (p after : Place) (x : TxOut) (total : Result (List TxOut) ℕ) → 0 < length p.left → output_at p ≡ Ok (x, after) →
    new ≡ front ++ x ∷ [] → after_front front (outputs_within (length p.left) p) ≡ total → after_front new (outputs_within (length after.left) after) ≡ total
goes_on front new p after x total some step more so_far =
    let shorter : length after.left < length p.left = output_shorter p after x step in
    let read : outputs_within (length p.left) p ≡ first_of x (outputs_within (length p.left - 1) after) =
    ap (λ n. outputs_within n p) (one_less (length p.left) some) ∙ more_read (length p.left - 1) p some
    ∙ ap (λ (r : Result (TxOut × Place) TxError). and_more r p.at (λ q. outputs_within (length p.left - 1) q)) step in
    let same : outputs_within (length p.left - 1) after ≡ outputs_within (length after.left) after = enough (length p.left - 1) (length after.left) after (omega arith) (omega arith) in
    rw (more, ← same, ← regroup front x (outputs_within (length p.left - 1) after), ← read) so_far

at_error : (r : Result (TxOut × Place) TxError) (at : ℕ) (rest : Place → Result (List TxOut) ℕ) → IsErr r → and_more r at rest ≡ Err at
at_error (Ok read) at rest e = absurd cc
at_error (Err d) at rest e = refl

pub ends : (e : Broken) (front : List TxOut) (p : Place) (total : Result (List TxOut) ℕ) → 0 < length p.left → ReadsNoOutput e p →
    after_front front (outputs_within (length p.left) p) ≡ total → EndsOutputs e total
ends (broken.At at) front p total some end so_far =
    let read : outputs_within (length p.left) p ≡ Err p.at =
    ap (λ n. outputs_within n p) (one_less (length p.left) some) ∙ more_read (length p.left - 1) p some ∙ at_error (output_at p) p.at _ end.1 in
    sym so_far ∙ ap (after_front front) read ∙ ap (λ (n : ℕ). Err n) (sym end.0)
ends broken.Memory front p total some end so_far = tt

pub is_done : (front : List TxOut) (p : Place) (total : Result (List TxOut) ℕ) → length p.left ≡ 0 → after_front front (outputs_within (length p.left) p) ≡ total → total ≡ Ok front
is_done front p total empty so_far =
    sym so_far ∙ ap (after_front front) (empty_read (length p.left) p empty) ∙ ap (λ (xs : List TxOut). Ok xs) (append-nil front)

pub some_left : (test : Bool) (n : ℕ) → (IsTrue test ↔ (n ≡ 0)) → test ≡ false → 0 < n
some_left test n tested fails = elim (cases_lt 0 n) [ inl some ↦ some | inr none ↦ absurd (both_ways test fails (tested.1 (omega arith))) ]
