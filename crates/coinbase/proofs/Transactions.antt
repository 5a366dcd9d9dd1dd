-- The two laws of reading: what is read as a transaction is written so, and what is written so is read.
use Rattle.std.proofs.Common.{◌≡◌, ℕ, ◌^◌, ◌<◌, inl, inr, Bool, true, false, cond, eqb, List, [], ◌∷◌, ◌++◌, length, Result, Ok, Err, refl, sym, ap, subst, ◌∙◌, append_assoc, arith}
use Rattle.std.specs.Prelude.{MatchBool, IfOk}
use Rattle.std.specs.Int.{w8, w32, w64, to_le_bytes}
use Rattle.std.specs.List.{flat_map, AllByRecursion}
use Rattle.std.proofs.lemmas.Bool.{eqb-true, eqb-false, ne_eqb, eq-eqb}
use Rattle.std.proofs.lemmas.List.{append-nil, nil_from_length}
use Rattle.coinbase.specs.declared.error.TxError.{TxError}
use Rattle.coinbase.specs.declared.error.TxError.TheVariants.{BadMarker, EmptyWitness, Trailing}
use Rattle.coinbase.specs.declared.tx.Tx.{Tx}
use Rattle.coinbase.specs.declared.tx.TxIn.{TxIn}
use Rattle.coinbase.specs.declared.tx.TxOut.{TxOut}
use Rattle.coinbase.specs.Compact.{compact, sized_bytes}
use Rattle.coinbase.specs.Form.{counted_bytes, input_bytes, output_bytes, stack_bytes, has_item, tx_bytes, with_witness, without_witness, IsInput, IsOutput, IsItem, IsStack, IsWitness, IsTx, TxOf}
use Rattle.pool_base.specs.Results.{◌>>=◌}
use Rattle.coinbase.specs.Reading.{Place, bytes_at, number_at, compact_at, sized_at, many_at, counted_at, input_at, output_at, flagged_count_at, flagged_at, opening_at, witnesses_at, witnesses_if, tx_at, tx_of, ReadsTx}
use Rattle.coinbase.proofs.Fields.{AreBytes, bind_case, guard_ok, guard_held, chosen, ok_is, same_place, Took, Took-then, between, Took-first, Took-second, AreBytes-rest, IsReader, bytes_found, bytes_only, number_reader, wide8, wide32, wide64, compact_reader, sized_reader, many_reader, counted_reader}

number8 : IsReader (number_at w8) (to_le_bytes w8) (λ n. n < 256)
number8 = number_reader w8 256 wide8

number32 : IsReader (number_at w32) (to_le_bytes w32) (λ n. n < 2 ^ 32)
number32 = number_reader w32 (2 ^ 32) wide32

number64 : IsReader (number_at w64) (to_le_bytes w64) (λ n. n < 2 ^ 64)
number64 = number_reader w64 (2 ^ 64) wide64

-- ---- inputs and outputs

input_found : (p q : Place) (x : TxIn) → AreBytes p.left → input_at p ≡ Ok (x, q) → Took p q (input_bytes x) × IsInput x
unfolding input_at
input_found p q x bytes e =
    bind_case (bytes_at 32 p)
    (λ previous. number_at w32 previous.1 >>= λ index. sized_at index.1 >>= λ script. number_at w32 script.1 >>= λ sequence.
    Ok (record { previous = previous.0; index = index.0; script = script.0; sequence = sequence.0 }, sequence.1)) (x, q) e (λ previous step1 rest1.
    bind_case (number_at w32 previous.1)
    (λ index. sized_at index.1 >>= λ script. number_at w32 script.1 >>= λ sequence.
    Ok (record { previous = previous.0; index = index.0; script = script.0; sequence = sequence.0 }, sequence.1)) (x, q) rest1 (λ index step2 rest2.
    bind_case (sized_at index.1)
    (λ script. number_at w32 script.1 >>= λ sequence.
    Ok (record { previous = previous.0; index = index.0; script = script.0; sequence = sequence.0 }, sequence.1)) (x, q) rest2 (λ script step3 rest3.
    bind_case (number_at w32 script.1)
    (λ sequence. Ok (record { previous = previous.0; index = index.0; script = script.0; sequence = sequence.0 }, sequence.1)) (x, q) rest3 (λ sequence step4 rest4.
    let one = bytes_found 32 p previous.1 previous.0 step1 in
    let bytes1 : AreBytes previous.1.left = AreBytes-rest p previous.1 previous.0 bytes one.0 in
    let two = number32.found previous.1 index.1 index.0 bytes1 step2 in
    let bytes2 : AreBytes index.1.left = AreBytes-rest previous.1 index.1 (to_le_bytes w32 index.0) bytes1 two.0 in
    let three = sized_reader.found index.1 script.1 script.0 bytes2 step3 in
    let bytes3 : AreBytes script.1.left = AreBytes-rest index.1 script.1 (sized_bytes script.0) bytes2 three.0 in
    let four = number32.found script.1 sequence.1 sequence.0 bytes3 step4 in
    let to2 = Took-then p previous.1 index.1 previous.0 (to_le_bytes w32 index.0) one.0 two.0 in
    let to3 = Took-then p index.1 script.1 (previous.0 ++ to_le_bytes w32 index.0) (sized_bytes script.0) to2 three.0 in
    let to4 = Took-then p script.1 sequence.1 (previous.0 ++ to_le_bytes w32 index.0 ++ sized_bytes script.0) (to_le_bytes w32 sequence.0) to3 four.0 in
    let made : TxIn = record { previous = previous.0; index = index.0; script = script.0; sequence = sequence.0 } in
    subst (λ (y : TxIn × Place). Took p y.1 (input_bytes y.0) × IsInput y.0) (ok_is (made, sequence.1) (x, q) rest4)
    (to4, record { previous = one.1; index = two.1; script = three.1; sequence = four.1 })))))

input_only : (p q : Place) (x : TxIn) → IsInput x → Took p q (input_bytes x) → input_at p ≡ Ok (x, q)
unfolding input_at
input_only p q x fits took =
    let a : List ℕ = x.previous in
    let b : List ℕ = to_le_bytes w32 x.index in
    let c : List ℕ = sized_bytes x.script in
    let d : List ℕ = to_le_bytes w32 x.sequence in
    let m3 = between p q (a ++ b ++ c) d in
    let m2 = between p m3 (a ++ b) c in
    let m1 = between p m2 a b in
    let to3 : Took p m3 (a ++ b ++ c) = Took-first p q (a ++ b ++ c) d took in
    let to2 : Took p m2 (a ++ b) = Took-first p m3 (a ++ b) c to3 in
    let one : bytes_at 32 p ≡ Ok (x.previous, m1) = bytes_only 32 p m1 a fits.previous (Took-first p m2 a b to2) in
    let two : number_at w32 m1 ≡ Ok (x.index, m2) = number32.only m1 m2 x.index fits.index (Took-second p m2 a b to2) in
    let three : sized_at m2 ≡ Ok (x.script, m3) = sized_reader.only m2 m3 x.script fits.script (Took-second p m3 (a ++ b) c to3) in
    let four : number_at w32 m3 ≡ Ok (x.sequence, q) = number32.only m3 q x.sequence fits.sequence (Took-second p q (a ++ b ++ c) d took) in
    rw (one, two, three, four) refl

pub input_reader : IsReader input_at input_bytes IsInput
input_reader = record { found = input_found; only = input_only }

output_found : (p q : Place) (x : TxOut) → AreBytes p.left → output_at p ≡ Ok (x, q) → Took p q (output_bytes x) × IsOutput x
unfolding output_at
output_found p q x bytes e =
    bind_case (number_at w64 p) (λ value. sized_at value.1 >>= λ script. Ok (record { value = value.0; script = script.0 }, script.1)) (x, q) e (λ value step1 rest1.
    bind_case (sized_at value.1) (λ script. Ok (record { value = value.0; script = script.0 }, script.1)) (x, q) rest1 (λ script step2 rest2.
    let one = number64.found p value.1 value.0 bytes step1 in
    let two = sized_reader.found value.1 script.1 script.0 (AreBytes-rest p value.1 (to_le_bytes w64 value.0) bytes one.0) step2 in
    let made : TxOut = record { value = value.0; script = script.0 } in
    subst (λ (y : TxOut × Place). Took p y.1 (output_bytes y.0) × IsOutput y.0) (ok_is (made, script.1) (x, q) rest2)
    (Took-then p value.1 script.1 (to_le_bytes w64 value.0) (sized_bytes script.0) one.0 two.0, record { value = one.1; script = two.1 })))

output_only : (p q : Place) (x : TxOut) → IsOutput x → Took p q (output_bytes x) → output_at p ≡ Ok (x, q)
unfolding output_at
output_only p q x fits took =
    let a : List ℕ = to_le_bytes w64 x.value in
    let b : List ℕ = sized_bytes x.script in
    let m = between p q a b in
    let one : number_at w64 p ≡ Ok (x.value, m) = number64.only p m x.value fits.value (Took-first p q a b took) in
    let two : sized_at m ≡ Ok (x.script, q) = sized_reader.only m q x.script fits.script (Took-second p q a b took) in
    rw (one, two) refl

pub output_reader : IsReader output_at output_bytes IsOutput
output_reader = record { found = output_found; only = output_only }

-- ---- the opening: marker and flag, and the count of inputs

abbrev pub opening_text : Bool × ℕ → List ℕ
opening_text o = cond o.0 (0 ∷ 1 ∷ []) [] ++ compact o.1

pub record IsOpening (o : Bool × ℕ) : Type 0 where
  pub some : 0 < o.1
  pub count : o.1 < 2 ^ 64

compact_zero : compact 0 ≡ 0 ∷ []
unfolding compact
compact_zero = refl

counted_found : (p q : Place) (n : ℕ) → AreBytes p.left → flagged_count_at p ≡ Ok (n, q) → Took p q (compact n) × (0 < n) × (n < 2 ^ 64)
unfolding flagged_count_at
counted_found p q n bytes e =
    bind_case (compact_at p) (λ count. cond (eqb count.0 0) (Err BadMarker) (Ok count)) (n, q) e (λ count step rest.
    let g = guard_ok (eqb count.0 0) BadMarker count (n, q) rest in
    let taken = compact_reader.found p count.1 count.0 bytes step in
    let positive : 0 < count.0 = let apart = eqb-false _ _ g.0 in omega arith in
    subst (λ (y : ℕ × Place). Took p y.1 (compact y.0) × (0 < y.0) × (y.0 < 2 ^ 64)) g.1 (taken.0, positive, taken.1))

flagged_found : (p q : Place) (n : ℕ) → AreBytes p.left → flagged_at p ≡ Ok (n, q) → Took p q (1 ∷ compact n) × (0 < n) × (n < 2 ^ 64)
unfolding flagged_at
flagged_found p q n bytes e =
    bind_case (number_at w8 p) (λ flag. cond (eqb flag.0 1) (flagged_count_at flag.1) (Err BadMarker)) (n, q) e (λ flag step rest.
    let g = guard_held (eqb flag.0 1) BadMarker (flagged_count_at flag.1) (n, q) rest in
    let one = number8.found p flag.1 flag.0 bytes step in
    let mark : Took p flag.1 (1 ∷ []) = subst (λ k. Took p flag.1 (to_le_bytes w8 k)) (eqb-true _ _ g.0) one.0 in
    let two = counted_found flag.1 q n (AreBytes-rest p flag.1 (1 ∷ []) bytes mark) g.1 in
    (Took-then p flag.1 q (1 ∷ []) (compact n) mark two.0, two.1, two.2))

opening_found : (p q : Place) (o : Bool × ℕ) → AreBytes p.left → opening_at p ≡ Ok (o, q) → Took p q (opening_text o) × IsOpening o
unfolding opening_at
opening_found p q o bytes e =
    bind_case (compact_at p) (λ count. cond (eqb count.0 0) (flagged_at count.1 >>= λ flagged. Ok ((true, flagged.0), flagged.1)) (Ok ((false, count.0), count.1))) (o, q) e (λ count step rest.
    let first = compact_reader.found p count.1 count.0 bytes step in
    elim (chosen (eqb count.0 0) (flagged_at count.1 >>= λ flagged. Ok ((true, flagged.0), flagged.1)) (Ok ((false, count.0), count.1)) (Ok (o, q)) rest) [
      | inl none ↦
          let marker : Took p count.1 (0 ∷ []) = subst (Took p count.1) (ap compact (eqb-true _ _ none.0) ∙ compact_zero) first.0 in
          bind_case (flagged_at count.1) (λ flagged. Ok ((true, flagged.0), flagged.1)) (o, q) none.1 (λ flagged more last.
          let second = flagged_found count.1 flagged.1 flagged.0 (AreBytes-rest p count.1 (0 ∷ []) bytes marker) more in
          let both = Took-then p count.1 flagged.1 (0 ∷ []) (1 ∷ compact flagged.0) marker second.0 in
          subst (λ (y : (Bool × ℕ) × Place). Took p y.1 (opening_text y.0) × IsOpening y.0) (ok_is ((true, flagged.0), flagged.1) (o, q) last)
          (both, record { some = second.1; count = second.2 }))
      | inr some ↦
          let positive : 0 < count.0 = let apart = eqb-false _ _ some.0 in omega arith in
          subst (λ (y : (Bool × ℕ) × Place). Took p y.1 (opening_text y.0) × IsOpening y.0) (ok_is ((false, count.0), count.1) (o, q) some.1)
          (first.0, record { some = positive; count = first.1 })
    ])

opening_only : (b : Bool) (n : ℕ) (p q : Place) → IsOpening (b, n) → Took p q (opening_text (b, n)) → opening_at p ≡ Ok ((b, n), q)
unfolding opening_at flagged_at flagged_count_at
opening_only true n p q fits took =
    let large : eqb n 0 ≡ false = ne_eqb _ _ (λ none. absurd (omega (arith, fits.some))) in
    let m2 = between p q (0 ∷ 1 ∷ []) (compact n) in
    let m1 = between p m2 (0 ∷ []) (1 ∷ []) in
    let marks : Took p m2 (0 ∷ 1 ∷ []) = Took-first p q (0 ∷ 1 ∷ []) (compact n) took in
    let marker : compact_at p ≡ Ok (0, m1) = compact_reader.only p m1 0 (omega arith) (subst (Took p m1) (sym compact_zero) (Took-first p m2 (0 ∷ []) (1 ∷ []) marks)) in
    let flag : number_at w8 m1 ≡ Ok (1, m2) = number8.only m1 m2 1 (omega arith) (Took-second p m2 (0 ∷ []) (1 ∷ []) marks) in
    let count : compact_at m2 ≡ Ok (n, q) = compact_reader.only m2 q n fits.count (Took-second p q (0 ∷ 1 ∷ []) (compact n) took) in
    rw (marker, flag, count, large) refl
opening_only false n p q fits took =
    let large : eqb n 0 ≡ false = ne_eqb _ _ (λ none. absurd (omega (arith, fits.some))) in
    let count : compact_at p ≡ Ok (n, q) = compact_reader.only p q n fits.count took in
    rw (count, large) refl

pub opening_reader : IsReader opening_at opening_text IsOpening
opening_reader = record { found = opening_found; only = λ p q o fits took. opening_only o.0 o.1 p q fits took }

-- ---- witnesses

stack_reader : IsReader (counted_at sized_at) stack_bytes IsStack
stack_reader =
    let lists = counted_reader sized_at sized_bytes IsItem sized_reader in
    record {
      found = λ p q x bytes e. let all = lists.found p q x bytes e in (all.0, record { count = all.1.0; each = all.1.1 });
      only = λ p q x fits took. lists.only p q x (fits.count, fits.each) took;
    }

-- what stands in the place of witnesses
abbrev pub Follow : Bool → ℕ → List (List (List ℕ)) → Type 0
Follow marked inputs stacks = MatchBool marked (IsWitness inputs stacks) (stacks ≡ [])

witnesses_found : (marked : Bool) (n : ℕ) (p q : Place) (x : List (List (List ℕ))) → AreBytes p.left → witnesses_if marked n p ≡ Ok (x, q) →
    Took p q (flat_map stack_bytes x) × Follow marked n x
unfolding witnesses_at
witnesses_found true n p q x bytes e =
    bind_case (many_at (counted_at sized_at) n p) (λ stacks. cond (has_item stacks.0) (Ok stacks) (Err EmptyWitness)) (x, q) e (λ stacks step rest.
    let g = guard_held (has_item stacks.0) EmptyWitness (Ok stacks) (x, q) rest in
    let all = (many_reader (counted_at sized_at) stack_bytes IsStack stack_reader n).found p stacks.1 stacks.0 bytes step in
    subst (λ (y : List (List (List ℕ)) × Place). Took p y.1 (flat_map stack_bytes y.0) × IsWitness n y.0) (ok_is stacks (x, q) g.1)
    (all.0, record { each = all.1.1; one_per_input = all.1.0; some = g.0 }))
witnesses_found false n p q x bytes e =
    subst (λ (y : List (List (List ℕ)) × Place). Took p y.1 (flat_map stack_bytes y.0) × (y.0 ≡ [])) (ok_is ([], p) (x, q) e)
    (record { parts = refl; at = omega arith }, refl)

witnesses_only : (marked : Bool) (n : ℕ) (p q : Place) (x : List (List (List ℕ))) → Follow marked n x → Took p q (flat_map stack_bytes x) →
    witnesses_if marked n p ≡ Ok (x, q)
unfolding witnesses_at
witnesses_only true n p q x fits took =
    let all = (many_reader (counted_at sized_at) stack_bytes IsStack stack_reader n).only p q x (fits.one_per_input, fits.each) took in
    rw (all, fits.some) refl
witnesses_only false n p q x fits took =
    let nothing : Took p q [] = subst (λ y. Took p q (flat_map stack_bytes y)) fits took in
    let same : p ≡ q = same_place p q (omega (arith, nothing.at)) nothing.parts in
    rw (same, fits) refl

witnesses_reader : (marked : Bool) (n : ℕ) → IsReader (witnesses_if marked n) (flat_map stack_bytes) (Follow marked n)
witnesses_reader marked n = record { found = witnesses_found marked n; only = witnesses_only marked n }

-- ---- transactions

-- a transaction's text by the fields that are read
abbrev pub fields : Bool → Tx → List ℕ
fields marked t =
    to_le_bytes w32 t.version ++ opening_text (marked, length t.inputs) ++ flat_map input_bytes t.inputs ++ counted_bytes output_bytes t.outputs
    ++ flat_map stack_bytes t.witnesses ++ to_le_bytes w32 t.lock_time

regroup-with : (v m c a d w l : List ℕ) → v ++ (m ++ c) ++ a ++ d ++ w ++ l ≡ v ++ m ++ (c ++ a ++ d) ++ w ++ l
regroup-with v m c a d w l = simp append_assoc

regroup-without : (v c a d l : List ℕ) → v ++ c ++ a ++ d ++ [] ++ l ≡ v ++ (c ++ a ++ d) ++ l
regroup-without v c a d l = simp (append_assoc, append-nil)

fields-with : (t : Tx) → fields true t ≡ with_witness t
fields-with t =
    regroup-with (to_le_bytes w32 t.version) (0 ∷ 1 ∷ []) (compact (length t.inputs)) (flat_map input_bytes t.inputs) (counted_bytes output_bytes t.outputs)
    (flat_map stack_bytes t.witnesses) (to_le_bytes w32 t.lock_time)

fields-without : (t : Tx) → t.witnesses ≡ [] → fields false t ≡ without_witness t
fields-without t none =
    rw none (regroup-without (to_le_bytes w32 t.version) (compact (length t.inputs)) (flat_map input_bytes t.inputs) (counted_bytes output_bytes t.outputs) (to_le_bytes w32 t.lock_time))

-- what was read of a transaction
pub record IsRead (marked : Bool) (t : Tx) : Type 0 where
  pub version : t.version < 2 ^ 32
  pub opening : IsOpening (marked, length t.inputs)
  pub each_input : AllByRecursion IsInput t.inputs
  pub outputs : length t.outputs < 2 ^ 64
  pub each_output : AllByRecursion IsOutput t.outputs
  pub witnesses : Follow marked (length t.inputs) t.witnesses
  pub lock_time : t.lock_time < 2 ^ 32

tx_found : (p q : Place) (t : Tx) → AreBytes p.left → tx_at p ≡ Ok (t, q) → (marked : Bool) × Took p q (fields marked t) × IsRead marked t
unfolding tx_at
tx_found p q t bytes e =
    bind_case (number_at w32 p)
    (λ version. opening_at version.1 >>= λ opening. many_at input_at opening.0.1 opening.1 >>= λ inputs. counted_at output_at inputs.1 >>= λ outputs.
    witnesses_if opening.0.0 opening.0.1 outputs.1 >>= λ witnesses. number_at w32 witnesses.1 >>= λ lock_time.
    Ok (record { version = version.0; inputs = inputs.0; outputs = outputs.0; witnesses = witnesses.0; lock_time = lock_time.0 }, lock_time.1)) (t, q) e (λ version step1 rest1.
    bind_case (opening_at version.1)
    (λ opening. many_at input_at opening.0.1 opening.1 >>= λ inputs. counted_at output_at inputs.1 >>= λ outputs.
    witnesses_if opening.0.0 opening.0.1 outputs.1 >>= λ witnesses. number_at w32 witnesses.1 >>= λ lock_time.
    Ok (record { version = version.0; inputs = inputs.0; outputs = outputs.0; witnesses = witnesses.0; lock_time = lock_time.0 }, lock_time.1)) (t, q) rest1 (λ opening step2 rest2.
    bind_case (many_at input_at opening.0.1 opening.1)
    (λ inputs. counted_at output_at inputs.1 >>= λ outputs. witnesses_if opening.0.0 opening.0.1 outputs.1 >>= λ witnesses. number_at w32 witnesses.1 >>= λ lock_time.
    Ok (record { version = version.0; inputs = inputs.0; outputs = outputs.0; witnesses = witnesses.0; lock_time = lock_time.0 }, lock_time.1)) (t, q) rest2 (λ inputs step3 rest3.
    bind_case (counted_at output_at inputs.1)
    (λ outputs. witnesses_if opening.0.0 opening.0.1 outputs.1 >>= λ witnesses. number_at w32 witnesses.1 >>= λ lock_time.
    Ok (record { version = version.0; inputs = inputs.0; outputs = outputs.0; witnesses = witnesses.0; lock_time = lock_time.0 }, lock_time.1)) (t, q) rest3 (λ outputs step4 rest4.
    bind_case (witnesses_if opening.0.0 opening.0.1 outputs.1)
    (λ witnesses. number_at w32 witnesses.1 >>= λ lock_time.
    Ok (record { version = version.0; inputs = inputs.0; outputs = outputs.0; witnesses = witnesses.0; lock_time = lock_time.0 }, lock_time.1)) (t, q) rest4 (λ witnesses step5 rest5.
    bind_case (number_at w32 witnesses.1)
    (λ lock_time. Ok (record { version = version.0; inputs = inputs.0; outputs = outputs.0; witnesses = witnesses.0; lock_time = lock_time.0 }, lock_time.1)) (t, q) rest5 (λ lock_time step6 rest6.
    let made : Tx = record { version = version.0; inputs = inputs.0; outputs = outputs.0; witnesses = witnesses.0; lock_time = lock_time.0 } in
    let m = opening.0.0 in
    let n = opening.0.1 in
    let b0 : List ℕ = to_le_bytes w32 version.0 in
    let b1 : List ℕ = opening_text opening.0 in
    let b2 : List ℕ = flat_map input_bytes inputs.0 in
    let b3 : List ℕ = counted_bytes output_bytes outputs.0 in
    let b4 : List ℕ = flat_map stack_bytes witnesses.0 in
    let b5 : List ℕ = to_le_bytes w32 lock_time.0 in
    let t0 = number32.found p version.1 version.0 bytes step1 in
    let f1 : AreBytes version.1.left = AreBytes-rest p version.1 b0 bytes t0.0 in
    let t1 = opening_reader.found version.1 opening.1 opening.0 f1 step2 in
    let f2 : AreBytes opening.1.left = AreBytes-rest version.1 opening.1 b1 f1 t1.0 in
    let t2 = (many_reader input_at input_bytes IsInput input_reader n).found opening.1 inputs.1 inputs.0 f2 step3 in
    let f3 : AreBytes inputs.1.left = AreBytes-rest opening.1 inputs.1 b2 f2 t2.0 in
    let t3 = (counted_reader output_at output_bytes IsOutput output_reader).found inputs.1 outputs.1 outputs.0 f3 step4 in
    let f4 : AreBytes outputs.1.left = AreBytes-rest inputs.1 outputs.1 b3 f3 t3.0 in
    let t4 = (witnesses_reader m n).found outputs.1 witnesses.1 witnesses.0 f4 step5 in
    let f5 : AreBytes witnesses.1.left = AreBytes-rest outputs.1 witnesses.1 b4 f4 t4.0 in
    let t5 = number32.found witnesses.1 lock_time.1 lock_time.0 f5 step6 in
    let to1 = Took-then p version.1 opening.1 b0 b1 t0.0 t1.0 in
    let to2 = Took-then p opening.1 inputs.1 (b0 ++ b1) b2 to1 t2.0 in
    let to3 = Took-then p inputs.1 outputs.1 (b0 ++ b1 ++ b2) b3 to2 t3.0 in
    let to4 = Took-then p outputs.1 witnesses.1 (b0 ++ b1 ++ b2 ++ b3) b4 to3 t4.0 in
    let to5 : Took p lock_time.1 (b0 ++ b1 ++ b2 ++ b3 ++ b4 ++ b5) = Took-then p witnesses.1 lock_time.1 (b0 ++ b1 ++ b2 ++ b3 ++ b4) b5 to4 t5.0 in
    let whole : Took p lock_time.1 (fields m made) = subst (λ k. Took p lock_time.1 (b0 ++ opening_text (m, k) ++ b2 ++ b3 ++ b4 ++ b5)) (sym t2.1.0) to5 in
    let is : IsRead m made = record {
      version = t0.1;
      opening = subst (λ k. IsOpening (m, k)) (sym t2.1.0) t1.1;
      each_input = t2.1.1;
      outputs = t3.1.0;
      each_output = t3.1.1;
      witnesses = subst (λ k. Follow m k witnesses.0) (sym t2.1.0) t4.1;
      lock_time = t5.1;
    } in
    subst (λ (y : Tx × Place). (marked : Bool) × Took p y.1 (fields marked y.0) × IsRead marked y.0) (ok_is (made, lock_time.1) (t, q) rest6) (m, whole, is)))))))

tx_only : (marked : Bool) (p q : Place) (t : Tx) → IsRead marked t → Took p q (fields marked t) → tx_at p ≡ Ok (t, q)
unfolding tx_at
tx_only marked p q t is took =
    let n = length t.inputs in
    let b0 : List ℕ = to_le_bytes w32 t.version in
    let b1 : List ℕ = opening_text (marked, n) in
    let b2 : List ℕ = flat_map input_bytes t.inputs in
    let b3 : List ℕ = counted_bytes output_bytes t.outputs in
    let b4 : List ℕ = flat_map stack_bytes t.witnesses in
    let b5 : List ℕ = to_le_bytes w32 t.lock_time in
    let m5 = between p q (b0 ++ b1 ++ b2 ++ b3 ++ b4) b5 in
    let m4 = between p m5 (b0 ++ b1 ++ b2 ++ b3) b4 in
    let m3 = between p m4 (b0 ++ b1 ++ b2) b3 in
    let m2 = between p m3 (b0 ++ b1) b2 in
    let m1 = between p m2 b0 b1 in
    let to5 : Took p m5 (b0 ++ b1 ++ b2 ++ b3 ++ b4) = Took-first p q (b0 ++ b1 ++ b2 ++ b3 ++ b4) b5 took in
    let to4 : Took p m4 (b0 ++ b1 ++ b2 ++ b3) = Took-first p m5 (b0 ++ b1 ++ b2 ++ b3) b4 to5 in
    let to3 : Took p m3 (b0 ++ b1 ++ b2) = Took-first p m4 (b0 ++ b1 ++ b2) b3 to4 in
    let to2 : Took p m2 (b0 ++ b1) = Took-first p m3 (b0 ++ b1) b2 to3 in
    let r0 : number_at w32 p ≡ Ok (t.version, m1) = number32.only p m1 t.version is.version (Took-first p m2 b0 b1 to2) in
    let r1 : opening_at m1 ≡ Ok ((marked, n), m2) = opening_only marked n m1 m2 is.opening (Took-second p m2 b0 b1 to2) in
    let r2 : many_at input_at n m2 ≡ Ok (t.inputs, m3) =
    (many_reader input_at input_bytes IsInput input_reader n).only m2 m3 t.inputs (refl, is.each_input) (Took-second p m3 (b0 ++ b1) b2 to3) in
    let r3 : counted_at output_at m3 ≡ Ok (t.outputs, m4) =
    (counted_reader output_at output_bytes IsOutput output_reader).only m3 m4 t.outputs (is.outputs, is.each_output) (Took-second p m4 (b0 ++ b1 ++ b2) b3 to4) in
    let r4 : witnesses_if marked n m4 ≡ Ok (t.witnesses, m5) = (witnesses_reader marked n).only m4 m5 t.witnesses is.witnesses (Took-second p m5 (b0 ++ b1 ++ b2 ++ b3) b4 to5) in
    let r5 : number_at w32 m5 ≡ Ok (t.lock_time, q) = number32.only m5 q t.lock_time is.lock_time (Took-second p q (b0 ++ b1 ++ b2 ++ b3 ++ b4) b5 took) in
    rw (r0, r1, r2, r3, r4, r5) refl

-- ---- all of the bytes

written-with : (t : Tx) → 0 < length t.witnesses → tx_bytes t ≡ with_witness t
written-with t some = rw (ne_eqb (length t.witnesses) 0 (λ none. absurd (omega arith))) refl

written-without : (t : Tx) → t.witnesses ≡ [] → tx_bytes t ≡ without_witness t
written-without t none = rw (eq-eqb (length t.witnesses) 0 (ap length none)) refl

-- what is read is written so, in either form
spelled : (m : Bool) (t : Tx) → IsRead m t → IsTx t × (fields m t ≡ tx_bytes t)
spelled true t is =
    let some : 0 < length t.witnesses = omega (arith, is.opening.some, is.witnesses.one_per_input) in (
      record {
        version = is.version;
        some_input = is.opening.some;
        inputs = is.opening.count;
        each_input = is.each_input;
        outputs = is.outputs;
        each_output = is.each_output;
        witnesses = inr is.witnesses;
        lock_time = is.lock_time;
      },
      fields-with t ∙ sym (written-with t some),
    )
spelled false t is = (
  record {
    version = is.version;
    some_input = is.opening.some;
    inputs = is.opening.count;
    each_input = is.each_input;
    outputs = is.outputs;
    each_output = is.each_output;
    witnesses = inl is.witnesses;
    lock_time = is.lock_time;
  },
  fields-without t is.witnesses ∙ sym (written-without t is.witnesses),
)

-- what is a transaction is read, in either form
readable : (t : Tx) → IsTx t → (m : Bool) × IsRead m t × (fields m t ≡ tx_bytes t)
readable t is =
    elim is.witnesses [
      | inl none ↦ (
        false,
        record {
          version = is.version;
          opening = record { some = is.some_input; count = is.inputs };
          each_input = is.each_input;
          outputs = is.outputs;
          each_output = is.each_output;
          witnesses = none;
          lock_time = is.lock_time;
        },
        fields-without t none ∙ sym (written-without t none),
      )
      | inr some ↦ (
        true,
        record {
          version = is.version;
          opening = record { some = is.some_input; count = is.inputs };
          each_input = is.each_input;
          outputs = is.outputs;
          each_output = is.each_output;
          witnesses = some;
          lock_time = is.lock_time;
        },
        fields-with t ∙ sym (written-with t (omega (arith, some.one_per_input, is.some_input))),
      )
    ]

-- what is read as a transaction is written so
pub tx_takes : (bytes : List ℕ) (t : Tx) → AreBytes bytes → tx_of bytes ≡ Ok t → TxOf t bytes
unfolding tx_of
tx_takes bytes t fits e =
    bind_case (tx_at (record { at = 0; left = bytes })) (λ tx. cond (eqb (length tx.1.left) 0) (Ok tx.0) (Err (Trailing (length tx.1.left)))) t e (λ tx step rest.
    let g = guard_held (eqb (length tx.1.left) 0) (Trailing (length tx.1.left)) (Ok tx.0) t rest in
    let found = tx_found (record { at = 0; left = bytes }) tx.1 tx.0 fits step in
    let nothing : tx.1.left ≡ [] = nil_from_length tx.1.left (eqb-true _ _ g.0) in
    let all : bytes ≡ fields found.0 tx.0 = found.1.parts ∙ ap (λ (l : List ℕ). fields found.0 tx.0 ++ l) nothing ∙ append-nil (fields found.0 tx.0) in
    let form = spelled found.0 tx.0 found.2 in
    subst (λ y. TxOf y bytes) (ok_is tx.0 t g.1) (record { is_tx = form.0; form = all ∙ form.1 }))

-- what is written as a transaction is read
pub tx_again : (bytes : List ℕ) (t : Tx) → TxOf t bytes → tx_of bytes ≡ Ok t
unfolding tx_of
tx_again bytes t is =
    let form = readable t is.is_tx in
    let last : Place = record { at = length bytes; left = [] } in
    let text : bytes ≡ fields form.0 t = is.form ∙ sym form.2 in
    let took : Took (record { at = 0; left = bytes }) last (fields form.0 t) = record { parts = text ∙ sym (append-nil (fields form.0 t)); at = omega (arith, ap length text) } in
    rw (tx_only form.0 (record { at = 0; left = bytes }) last t form.1 took) refl

-- bytes are one transaction at most
pub one_tx : (a b : Tx) (bytes : List ℕ) → TxOf a bytes → TxOf b bytes → a ≡ b
one_tx a b bytes first second = ok_is a b (sym (tx_again bytes a first) ∙ tx_again bytes b second)

pub is_found : (bytes : List ℕ) (r : Result Tx TxError) → AreBytes bytes → ReadsTx r (tx_of bytes) → IfOk r (λ tx. TxOf tx bytes)
is_found bytes (Ok tx) fits given = tx_takes bytes tx fits given
is_found bytes (Err e) fits given = tt

-- what was read is written as it was
pub read_then_written : (t : Tx) (bytes : List ℕ) → AreBytes bytes → tx_of bytes ≡ Ok t → tx_bytes t ≡ bytes
read_then_written t bytes fits e = sym (tx_takes bytes t fits e).form

-- what is written is read again
pub written_then_read : (t : Tx) → IsTx t → tx_of (tx_bytes t) ≡ Ok t
written_then_read t is = tx_again (tx_bytes t) t (record { is_tx = is; form = refl })

-- what follows a transaction is counted
pub trailing_law : (t : Tx) (front rest : List ℕ) → TxOf t front → 0 < length rest → tx_of (front ++ rest) ≡ Err (Trailing (length rest))
unfolding tx_of
trailing_law t front rest is some =
    let form = readable t is.is_tx in
    let last : Place = record { at = length front; left = rest } in
    let text : front ≡ fields form.0 t = is.form ∙ sym form.2 in
    let took : Took (record { at = 0; left = front ++ rest }) last (fields form.0 t) =
    record { parts = ap (λ (x : List ℕ). x ++ rest) text; at = omega (arith, ap length text) } in
    let more : eqb (length rest) 0 ≡ false = ne_eqb _ _ (λ none. absurd (omega arith)) in
    rw (tx_only form.0 (record { at = 0; left = front ++ rest }) last t form.1 took, more) refl
