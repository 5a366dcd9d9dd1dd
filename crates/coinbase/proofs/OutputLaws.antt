-- Outputs are read exactly where they are whole, and else up to the first that isn't.
use Rattle.std.proofs.Common.{◌≡◌, ℕ, zero, suc, ◌+◌, ◌<◌, ◌≤◌, inl, inr, List, [], ◌∷◌, ◌++◌, length, take, drop, Result, Ok, Err, refl, sym, ap, subst, ◌∙◌, append_assoc, arith, ◌↔◌}
use Rattle.std.specs.List.{flat_map, AllByRecursion}
use Rattle.std.proofs.lemmas.Bool.{cases_lt}
use Rattle.std.proofs.lemmas.List.{append-nil, take_at, drop_at, take-append-drop, length-append, length-drop, length-take-le, nil_from_length}
use Rattle.coinbase.specs.declared.error.TxError.{TxError}
use Rattle.coinbase.specs.declared.tx.TxOut.{TxOut}
use Rattle.coinbase.specs.Form.{output_bytes, IsOutput}
use Rattle.coinbase.specs.Outputs.{first_of, and_more, outputs_within, outputs_of, AreOutputs, BeginsBroken, FirstBroken}
use Rattle.coinbase.specs.Reading.{Place, output_at}
use Rattle.coinbase.proofs.Fields.{AreBytes, Took, AreBytes-rest}
use Rattle.coinbase.proofs.Transactions.{output_reader}
use Rattle.coinbase.proofs.WholeOutputs.{empty_read, more_read, output_shorter}

-- ---- what is read is whole

-- the outputs that were read up to here, and what is left
record ReadUpTo (p : Place) (outputs : List TxOut) (rest : List ℕ) : Type 0 where
  each : AllByRecursion IsOutput outputs
  parts : p.left ≡ flat_map output_bytes outputs ++ rest

read_first : (p q : Place) (x : TxOut) (outputs : List TxOut) (rest : List ℕ) → Took p q (output_bytes x) → IsOutput x → ReadUpTo q outputs rest → ReadUpTo p (x ∷ outputs) rest
read_first p q x outputs rest took is more = record {
  each = (is, more.each);
  parts = took.parts ∙ ap (λ (l : List ℕ). output_bytes x ++ l) more.parts ∙ sym (append_assoc (output_bytes x) (flat_map output_bytes outputs) rest);
}

-- what a reading of outputs says
record IsTold (p : Place) (told : Result (List TxOut) ℕ) : Type 0 where
  whole : (outputs : List TxOut) → told ≡ Ok outputs → ReadUpTo p outputs []
  broken : (at : ℕ) → told ≡ Err at →
      (outputs : List TxOut) × (rest : List ℕ) × ReadUpTo p outputs rest × (at ≡ p.at + length (flat_map output_bytes outputs)) × (0 < length rest) × BeginsBroken rest

not_read : (p : Place) (d : TxError) → output_at p ≡ Err d → BeginsBroken p.left
not_read p d e output rest is same =
    let after : Place = record { at = p.at + length (output_bytes output); left = rest } in
    let read : output_at p ≡ Ok (output, after) = output_reader.only p after output is (record { parts = same; at = refl }) in
    absurd cc

-- an output before those that a reading told
first_told : (p q : Place) (x : TxOut) (r : Result (List TxOut) ℕ) → Took p q (output_bytes x) → IsOutput x → IsTold q r → IsTold p (first_of x r)
first_told p q x (Ok others) took is next = record {
  whole = λ outputs same.
      let which : x ∷ others ≡ outputs = cc in
      subst (λ (os : List TxOut). ReadUpTo p os []) which (read_first p q x others [] took is (next.whole others refl));
  broken = λ at same. absurd cc;
}
first_told p q x (Err n) took is next = record {
  whole = λ outputs same. absurd cc;
  broken = λ at same.
      let here : n ≡ at = cc in
      let more = next.broken n refl in (
        x ∷ more.0,
        more.1,
        read_first p q x more.0 more.1 took is more.2,
        omega (arith, more.3, took.at, length-append (output_bytes x) (flat_map output_bytes more.0)),
        more.4,
        more.5,
      );
}

more_told : (p : Place) (rest : Place → Result (List TxOut) ℕ) → AreBytes p.left → 0 < length p.left →
    ((q : Place) → AreBytes q.left → length q.left < length p.left → IsTold q (rest q)) → (r : Result (TxOut × Place) TxError) → output_at p ≡ r → IsTold p (and_more r p.at rest)
more_told p rest bytes some later (Err d) e = record {
  whole = λ outputs same. absurd cc;
  broken = λ at same.
      let here : p.at ≡ at = cc in
      ([], p.left, record { each = tt; parts = refl }, omega arith, some, not_read p d e);
}
more_told p rest bytes some later (Ok read) e =
    let found = output_reader.found p read.1 read.0 bytes e in
    let shorter : length read.1.left < length p.left = output_shorter p read.1 read.0 e in
    let next : IsTold read.1 (rest read.1) = later read.1 (AreBytes-rest p read.1 (output_bytes read.0) bytes found.0) shorter in
    first_told p read.1 read.0 (rest read.1) found.0 found.1 next

none_told : (p : Place) → length p.left ≡ 0 → IsTold p (Ok [])
none_told p empty = record {
  whole = λ outputs same.
      let which : [] ≡ outputs = cc in
      subst (λ (os : List TxOut). ReadUpTo p os []) which (record { each = tt; parts = nil_from_length p.left empty });
  broken = λ at same. absurd cc;
}

within_told : (n : ℕ) (p : Place) → AreBytes p.left → length p.left ≤ n → IsTold p (outputs_within n p)
within_told zero p bytes enough =
    let empty : length p.left ≡ 0 = omega arith in
    rw (empty_read zero p empty) (none_told p empty)
within_told (suc n) p bytes enough =
    elim (cases_lt 0 (length p.left)) [
      | inl some ↦
          rw (more_read n p some)
          (more_told p (λ after. outputs_within n after) bytes some (λ q fits shorter. within_told n q fits (omega arith)) (output_at p) refl)
      | inr none ↦
          let empty : length p.left ≡ 0 = omega arith in
          rw (empty_read (suc n) p empty) (none_told p empty)
    ]

-- ---- what is whole is read

front_len : (x : TxOut) (p : Place) (more : List ℕ) → p.left ≡ output_bytes x ++ more → 0 < length p.left
front_len x p more parts = omega (arith, ap length parts, length-append (output_bytes x) more)

abbrev after_output : Place → TxOut → List ℕ → Place
after_output p x more = record { at = p.at + length (output_bytes x); left = more }

reads : (p : Place) (x : TxOut) (more : List ℕ) → IsOutput x → p.left ≡ output_bytes x ++ more → output_at p ≡ Ok (x, after_output p x more)
reads p x more is parts = output_reader.only p (after_output p x more) x is (record { parts = parts; at = refl })

split_first : (x : TxOut) (xs : List TxOut) (rest : List ℕ) (p : Place) → p.left ≡ flat_map output_bytes (x ∷ xs) ++ rest →
    p.left ≡ output_bytes x ++ (flat_map output_bytes xs ++ rest)
split_first x xs rest p parts = parts ∙ append_assoc (output_bytes x) (flat_map output_bytes xs) rest

reads_on : (n : ℕ) (p : Place) (x : TxOut) (more : List ℕ) → length p.left ≤ n → IsOutput x → p.left ≡ output_bytes x ++ more →
    (m : ℕ) × (length more ≤ m) × (outputs_within n p ≡ first_of x (outputs_within m (after_output p x more)))
reads_on zero p x more enough is parts = absurd (let some = front_len x p more parts in omega arith)
reads_on (suc n) p x more enough is parts =
    let read = reads p x more is parts in
    let shorter : length more < length p.left = output_shorter p (after_output p x more) x read in
    (n, omega arith, more_read n p (front_len x p more parts) ∙ ap (λ (r : Result (TxOut × Place) TxError). and_more r p.at (λ after. outputs_within n after)) read)

whole_read : (n : ℕ) (p : Place) (outputs : List TxOut) → length p.left ≤ n → ReadUpTo p outputs [] → outputs_within n p ≡ Ok outputs
whole_read n p [] enough read = empty_read n p (ap length read.parts)
whole_read n p (x ∷ xs) enough read =
    let more = reads_on n p x (flat_map output_bytes xs ++ []) enough read.each.0 (split_first x xs [] p read.parts) in
    more.2 ∙ ap (first_of x) (whole_read more.0 (after_output p x (flat_map output_bytes xs ++ [])) xs more.1 (record { each = read.each.1; parts = refl }))

broken_here : (p : Place) → AreBytes p.left → BeginsBroken p.left → (r : Result (TxOut × Place) TxError) → output_at p ≡ r → (rest : Place → Result (List TxOut) ℕ) →
    and_more r p.at rest ≡ Err p.at
broken_here p bytes broken (Err d) e rest = refl
broken_here p bytes broken (Ok read) e rest =
    let found = output_reader.found p read.1 read.0 bytes e in
    absurd (broken read.0 read.1.left found.1 found.0.parts)

broken_read : (n : ℕ) (p : Place) (outputs : List TxOut) (rest : List ℕ) → AreBytes p.left → length p.left ≤ n → ReadUpTo p outputs rest → 0 < length rest → BeginsBroken rest →
    outputs_within n p ≡ Err (p.at + length (flat_map output_bytes outputs))
broken_read zero p [] rest bytes enough read some broken = absurd (omega (arith, ap length read.parts))
broken_read (suc n) p [] rest bytes enough read some broken =
    let here : BeginsBroken p.left = subst (λ (l : List ℕ). BeginsBroken l) (sym read.parts) broken in
    more_read n p (omega (arith, ap length read.parts)) ∙ broken_here p bytes here (output_at p) refl (λ after. outputs_within n after) ∙ ap (λ (k : ℕ). Err k) (omega arith)
broken_read n p (x ∷ xs) rest bytes enough read some broken =
    let parts = split_first x xs rest p read.parts in
    let more = reads_on n p x (flat_map output_bytes xs ++ rest) enough read.each.0 parts in
    let after = after_output p x (flat_map output_bytes xs ++ rest) in
    let fits : AreBytes after.left = AreBytes-rest p after (output_bytes x) bytes (record { parts = parts; at = refl }) in
    let later = broken_read more.0 after xs rest fits more.1 (record { each = read.each.1; parts = refl }) some broken in
    more.2 ∙ ap (first_of x) later ∙ ap (λ (k : ℕ). Err k) (omega (arith, length-append (output_bytes x) (flat_map output_bytes xs)))

-- ---- the two laws

abbrev start : List ℕ → Place
start bytes = record { at = 0; left = bytes }

pub whole_law : (bytes : List ℕ) (outputs : List TxOut) → AreBytes bytes → (outputs_of bytes ≡ Ok outputs) ↔ AreOutputs outputs bytes
whole_law bytes outputs fits = (
  λ read.
      let all = (within_told (length bytes) (start bytes) fits (omega arith)).whole outputs read in
      record { each = all.each; form = all.parts ∙ append-nil (flat_map output_bytes outputs) },
  λ are. whole_read (length bytes) (start bytes) outputs (omega arith) (record { each = are.each; parts = are.form ∙ sym (append-nil (flat_map output_bytes outputs)) }),
)

pub broken_law : (bytes : List ℕ) (at : ℕ) → AreBytes bytes → (outputs_of bytes ≡ Err at) ↔ FirstBroken bytes at
broken_law bytes at fits = (
  λ read.
      let all = (within_told (length bytes) (start bytes) fits (omega arith)).broken at read in
      let place : length (flat_map output_bytes all.0) ≡ at = omega (arith, all.3) in
      let front : take at bytes ≡ flat_map output_bytes all.0 = ap (take at) all.2.parts ∙ take_at (flat_map output_bytes all.0) all.1 at place in
      let back : drop at bytes ≡ all.1 = ap (drop at) all.2.parts ∙ drop_at (flat_map output_bytes all.0) all.1 at place in
      record {
        before = all.0;
        whole = record { each = all.2.each; form = front };
        more = omega (arith, ap length all.2.parts, length-append (flat_map output_bytes all.0) all.1, all.4);
        broken = subst (λ (l : List ℕ). BeginsBroken l) (sym back) all.5;
      },
  λ first.
      let parts : bytes ≡ flat_map output_bytes first.before ++ drop at bytes = sym (take-append-drop at bytes) ∙ ap (λ (l : List ℕ). l ++ drop at bytes) first.whole.form in
      let place : at ≡ length (flat_map output_bytes first.before) = sym (length-take-le at bytes (omega (arith, first.more))) ∙ ap length first.whole.form in
      let some : 0 < length (drop at bytes) = omega (arith, length-drop at bytes, first.more) in
      broken_read (length bytes) (start bytes) first.before (drop at bytes) fits (omega arith) (record { each = first.whole.each; parts = parts }) some first.broken
      ∙ ap (λ (k : ℕ). Err k) (omega arith),
)
