-- A coinbase that is made is the transaction that it stands for.
use Rattle.std.proofs.Common.{◌≡◌, ℕ, ◌+◌, ◌-◌, ◌^◌, ◌<◌, ◌≤◌, ◌⊎◌, inl, inr, Bool, true, false, cond, eqb, ltb, List, [], ◌∷◌, ◌++◌, length, take, drop, replicate, Option, Some, None, Result, Ok, Err, refl, sym, ap, subst, ◌∙◌, append_assoc, arith}
use Rattle.std.specs.Prelude.{position}
use Rattle.std.specs.Int.{w32, to_le_bytes}
use Rattle.std.specs.List.{flat_map, list_any, AllByRecursion}
use Rattle.std.proofs.lemmas.Bool.{ltb-true, ltb-false, eqb-true}
use Rattle.std.proofs.lemmas.List.{append-nil, take_at, drop_at, length-append}
use Rattle.coinbase.specs.declared.tx.Tx.{Tx}
use Rattle.coinbase.specs.declared.tx.TxOut.{TxOut}
use Rattle.coinbase.specs.Compact.{compact}
use Rattle.coinbase.specs.Form.{input_bytes, output_bytes, stack_bytes, counted_bytes, tx_bytes, with_witness, without_witness, IsInput, IsOutput, IsWitness, IsTx, TxOf, txid}
use Rattle.block_header.specs.Hash.{dsha}
use Rattle.coinbase.specs.Parts.{Parts, prefix_of, suffix_of, coin, whole, whole_len, witnessed_suffix, reserved_value}
use Rattle.coinbase.specs.declared.error.AssemblyError.TheVariants.{ScriptTooLong, CountDiffers, RewardTooLarge, TooLong}
use Rattle.coinbase.specs.declared.error.OutputsError.{OutputsError}
use Rattle.coinbase.specs.declared.error.OutputsError.TheVariants as custom
use Rattle.coinbase.specs.Coin.{Terms, pool_output, template_parts, counted_as, outputs_said, within_length, with_reward, template_assembly}
use Rattle.coinbase.specs.CoinTx.{coinbase_input, coinbase_witness, template_tx, custom_tx, AreTerms, AreCustomTerms}
use Rattle.coinbase.specs.Custom.{CustomTerms, custom_parts, is_foreign, some_outputs, without_foreign, total, paying_outputs, with_total, custom_assembly}
use Rattle.coinbase.specs.Outputs.{outputs_of, commits, commitment_in}
use Rattle.pool_base.specs.Results.{◌>>=◌}
use Rattle.coinbase.proofs.OutputLaws.{whole_law}
use Rattle.coinbase.proofs.Fields.{compact_small, bind_case, guard_ok, guard_held}

abbrev coinbase_tx : ℕ → List ℕ → List ℕ → ℕ → List TxOut → Bool → ℕ → Tx
coinbase_tx version prefix e sequence outputs witness lock_time = record {
  version = version;
  inputs = coinbase_input prefix e sequence ∷ [];
  outputs = outputs;
  witnesses = coinbase_witness witness;
  lock_time = lock_time;
}

abbrev coinbase_parts : ℕ → List ℕ → ℕ → List TxOut → Bool → ℕ → Parts
coinbase_parts version prefix sequence outputs witness lock_time = record {
  prefix = prefix_of version prefix;
  suffix = suffix_of sequence (length outputs) (flat_map output_bytes outputs) lock_time;
  witness = witness;
}

-- the bytes of the input
abbrev input_start : List ℕ → List ℕ
input_start prefix = (1 ∷ []) ++ replicate 32 0 ++ replicate 4 255 ++ ((12 + length prefix) ∷ []) ++ prefix

one_input : (prefix e : List ℕ) (sequence : ℕ) → length prefix ≤ 88 → length e ≡ 12 →
    counted_bytes input_bytes (coinbase_input prefix e sequence ∷ []) ≡ input_start prefix ++ e ++ to_le_bytes w32 sequence
one_input prefix e sequence short twelve =
    let long : length (prefix ++ e) ≡ 12 + length prefix = omega (arith, length-append prefix e) in
    let size : compact (length (prefix ++ e)) ≡ (12 + length prefix) ∷ [] = ap compact long ∙ compact_small (12 + length prefix) (omega arith) in
    let count : compact 1 ≡ 1 ∷ [] = compact_small 1 (omega arith) in
    ap (λ (x : List ℕ). compact 1 ++ x) (append-nil (input_bytes (coinbase_input prefix e sequence))) ∙ rw (count, size) refl

regroup-id : (v i e s c o l : List ℕ) → v ++ ((i ++ e ++ s) ++ (c ++ o)) ++ l ≡ (v ++ i) ++ e ++ (s ++ c ++ o ++ l)
regroup-id v i e s c o l = simp append_assoc

regroup-whole : (v m i e s c o w l : List ℕ) → v ++ m ++ ((i ++ e ++ s) ++ (c ++ o)) ++ w ++ l ≡ (v ++ m ++ i) ++ e ++ ((s ++ c ++ o) ++ w ++ l)
regroup-whole v m i e s c o w l = simp append_assoc

-- without witness it is the coin
coin_is : (version sequence lock_time : ℕ) (prefix e : List ℕ) (outputs : List TxOut) (witness : Bool) → length prefix ≤ 88 → length e ≡ 12 →
    without_witness (coinbase_tx version prefix e sequence outputs witness lock_time) ≡ coin (coinbase_parts version prefix sequence outputs witness lock_time) e
coin_is version sequence lock_time prefix e outputs witness short twelve =
    let v : List ℕ = to_le_bytes w32 version in
    let s : List ℕ = to_le_bytes w32 sequence in
    let c : List ℕ = compact (length outputs) in
    let o : List ℕ = flat_map output_bytes outputs in
    let l : List ℕ = to_le_bytes w32 lock_time in
    ap (λ (x : List ℕ). v ++ (x ++ (c ++ o)) ++ l) (one_input prefix e sequence short twelve) ∙ regroup-id v (input_start prefix) e s c o l

one_witness : flat_map stack_bytes (coinbase_witness true) ≡ reserved_value
one_witness =
    let count : compact 1 ≡ 1 ∷ [] = compact_small 1 (omega arith) in
    let size : compact 32 ≡ 32 ∷ [] = compact_small 32 (omega arith) in
    rw (count, size) refl

witness_placed : (s l : List ℕ) → length l ≡ 4 → witnessed_suffix (s ++ l) ≡ s ++ reserved_value ++ l
witness_placed s l four =
    let place : length s ≡ length (s ++ l) - 4 = omega (arith, length-append s l) in
    let front : take (length (s ++ l) - 4) (s ++ l) ≡ s = take_at s l (length (s ++ l) - 4) place in
    let back : drop (length (s ++ l) - 4) (s ++ l) ≡ l = drop_at s l (length (s ++ l) - 4) place in
    ap (λ (x : List ℕ). x ++ reserved_value ++ drop (length (s ++ l) - 4) (s ++ l)) front ∙ ap (λ (x : List ℕ). s ++ reserved_value ++ x) back

-- with witness it is the whole form
whole_is : (version sequence lock_time : ℕ) (prefix e : List ℕ) (outputs : List TxOut) → length prefix ≤ 88 → length e ≡ 12 →
    with_witness (coinbase_tx version prefix e sequence outputs true lock_time) ≡ whole (coinbase_parts version prefix sequence outputs true lock_time) e
whole_is version sequence lock_time prefix e outputs short twelve =
    let v : List ℕ = to_le_bytes w32 version in
    let s : List ℕ = to_le_bytes w32 sequence in
    let c : List ℕ = compact (length outputs) in
    let o : List ℕ = flat_map output_bytes outputs in
    let l : List ℕ = to_le_bytes w32 lock_time in
    let m : List ℕ = 0 ∷ 1 ∷ [] in
    ap (λ (x : List ℕ). v ++ m ++ (x ++ (c ++ o)) ++ flat_map stack_bytes (coinbase_witness true) ++ l) (one_input prefix e sequence short twelve)
    ∙ ap (λ (w : List ℕ). v ++ m ++ ((input_start prefix ++ e ++ s) ++ (c ++ o)) ++ w ++ l) one_witness
    ∙ regroup-whole v m (input_start prefix) e s c o reserved_value l
    ∙ ap (λ (x : List ℕ). (v ++ m ++ input_start prefix) ++ e ++ x) (sym (witness_placed (s ++ c ++ o) l refl))

-- the ranges of a coinbase's fields
pub record AreFields (version sequence lock_time : ℕ) (prefix e : List ℕ) (outputs : List TxOut) : Type 0 where
  pub version_fits : version < 2 ^ 32
  pub sequence_fits : sequence < 2 ^ 32
  pub lock_time_fits : lock_time < 2 ^ 32
  pub short : length prefix ≤ 88
  pub twelve : length e ≡ 12
  pub count : length outputs < 2 ^ 64
  pub each : AllByRecursion IsOutput outputs

witness_fits : (witness : Bool) → (coinbase_witness witness ≡ []) ⊎ IsWitness 1 (coinbase_witness witness)
witness_fits true = inr (record { each = (record { count = omega arith; each = (omega arith, tt) }, tt); one_per_input = refl; some = refl })
witness_fits false = inl refl

form_is : (witness : Bool) (version sequence lock_time : ℕ) (prefix e : List ℕ) (outputs : List TxOut) → AreFields version sequence lock_time prefix e outputs →
    whole (coinbase_parts version prefix sequence outputs witness lock_time) e ≡ tx_bytes (coinbase_tx version prefix e sequence outputs witness lock_time)
form_is true version sequence lock_time prefix e outputs is = sym (whole_is version sequence lock_time prefix e outputs is.short is.twelve)
form_is false version sequence lock_time prefix e outputs is = sym (coin_is version sequence lock_time prefix e outputs false is.short is.twelve)

pub coinbase_is_tx : (version sequence lock_time : ℕ) (prefix e : List ℕ) (outputs : List TxOut) (witness : Bool) → AreFields version sequence lock_time prefix e outputs →
    TxOf (coinbase_tx version prefix e sequence outputs witness lock_time) (whole (coinbase_parts version prefix sequence outputs witness lock_time) e)
    × (txid (coinbase_tx version prefix e sequence outputs witness lock_time) ≡ dsha (coin (coinbase_parts version prefix sequence outputs witness lock_time) e))
coinbase_is_tx version sequence lock_time prefix e outputs witness is =
    let t : Tx = coinbase_tx version prefix e sequence outputs witness lock_time in
    let input : IsInput (coinbase_input prefix e sequence) =
    record { previous = refl; index = omega arith; script = omega (arith, length-append prefix e, is.short, is.twelve); sequence = is.sequence_fits } in
    let fits : IsTx t = record {
      version = is.version_fits;
      some_input = omega arith;
      inputs = omega arith;
      each_input = (input, tt);
      outputs = is.count;
      each_output = is.each;
      witnesses = witness_fits witness;
      lock_time = is.lock_time_fits;
    } in
    (record { is_tx = fits; form = form_is witness version sequence lock_time prefix e outputs is }, ap dsha (coin_is version sequence lock_time prefix e outputs witness is.short is.twelve))

-- ---- templates

abbrev parts_with : List ℕ → List ℕ → Bool → Parts
parts_with prefix suffix witness = record { prefix = prefix; suffix = suffix; witness = witness }

-- a test that refused nothing
past_test : {A E : Type 0} (b : Bool) (d : E) (r : Result A E) (y : A) → cond b (Err d) r ≡ Ok y → (b ≡ false) × (r ≡ Ok y)
past_test true d r y e = absurd cc
past_test false d r y e = (refl, e)

same_parts : (prefix a b : List ℕ) (v w : Bool) → a ≡ b → v ≡ w → parts_with prefix a v ≡ parts_with prefix b w
same_parts prefix a b v w suffix witness =
    ap (λ (x : List ℕ). parts_with prefix x v) suffix ∙ ap (λ (x : Bool). parts_with prefix b x) witness

parts_said : (terms : Terms) (script : List ℕ) (parts : Parts) (outputs : List TxOut) → template_assembly terms script ≡ Ok parts → outputs_of terms.outputs ≡ Ok outputs →
    (length terms.prefix ≤ 88) × (length outputs ≡ terms.outputs_count) × (terms.reward < 2 ^ 40) × (template_parts terms script ≡ parts)
parts_said terms script parts outputs e read =
    let a = past_test (ltb 88 (length terms.prefix)) (ScriptTooLong (length terms.prefix)) (outputs_said terms >>= λ os. with_reward terms script) parts e in
    bind_case (outputs_said terms) (λ os. with_reward terms script) parts a.1 (λ os step rest.
    let same : counted_as terms.outputs_count (Ok outputs) ≡ Ok os = ap (counted_as terms.outputs_count) (sym read) ∙ step in
    let b = guard_held (eqb (length outputs) terms.outputs_count) (CountDiffers terms.outputs_count (length outputs)) (Ok outputs) os same in
    let c = guard_held (ltb terms.reward (2 ^ 40)) (RewardTooLarge terms.reward) (within_length (template_parts terms script)) parts rest in
    let d = guard_ok (ltb 65535 (whole_len (template_parts terms script))) (TooLong (whole_len (template_parts terms script))) (template_parts terms script) parts c.1 in
    (ltb-false _ _ a.0, eqb-true _ _ b.0, ltb-true _ _ c.0, d.1))

pub template_law : (terms : Terms) (script e : List ℕ) (parts : Parts) (outputs : List TxOut) → AreTerms terms → length script ≤ 100 → length e ≡ 12 →
    template_assembly terms script ≡ Ok parts → outputs_of terms.outputs ≡ Ok outputs →
    TxOf (template_tx terms script e outputs) (whole parts e) × (txid (template_tx terms script e outputs) ≡ dsha (coin parts e))
template_law terms script e parts outputs are small twelve made read =
    let said = parts_said terms script parts outputs made read in
    let list = (whole_law terms.outputs outputs are.outputs).0 read in
    let all : List TxOut = pool_output terms.reward script ∷ outputs in
    let first : IsOutput (pool_output terms.reward script) = record { value = omega (arith, said.2); script = omega arith } in
    let fields : AreFields terms.tx_version terms.sequence terms.lock_time terms.prefix e all = record {
      version_fits = are.tx_version;
      sequence_fits = are.sequence;
      lock_time_fits = are.lock_time;
      short = said.0;
      twelve = twelve;
      count = omega (arith, said.1, are.outputs_count);
      each = (first, list.each);
    } in
    let count : 1 + terms.outputs_count ≡ length all = omega (arith, said.1) in
    let bytes : output_bytes (pool_output terms.reward script) ++ terms.outputs ≡ flat_map output_bytes all = ap (λ (x : List ℕ). output_bytes (pool_output terms.reward script) ++ x) list.form in
    let suffix : suffix_of terms.sequence (1 + terms.outputs_count) (output_bytes (pool_output terms.reward script) ++ terms.outputs) terms.lock_time
    ≡ suffix_of terms.sequence (length all) (flat_map output_bytes all) terms.lock_time =
    ap (λ n. suffix_of terms.sequence n (output_bytes (pool_output terms.reward script) ++ terms.outputs) terms.lock_time) count
    ∙ ap (λ (x : List ℕ). suffix_of terms.sequence (length all) x terms.lock_time) bytes in
    let witness : commitment_in (outputs_of terms.outputs) ≡ list_any commits outputs = ap commitment_in read in
    let same : coinbase_parts terms.tx_version terms.prefix terms.sequence all (list_any commits outputs) terms.lock_time ≡ parts =
    same_parts (prefix_of terms.tx_version terms.prefix) _ _ _ _ (sym suffix) (sym witness) ∙ said.3 in
    subst (λ (p : Parts). TxOf (template_tx terms script e outputs) (whole p e) × (txid (template_tx terms script e outputs) ≡ dsha (coin p e))) same
    (coinbase_is_tx terms.tx_version terms.sequence terms.lock_time terms.prefix e all (list_any commits outputs) fields)

-- ---- miners' jobs

no_foreign : (index : Option ℕ) (found os : List TxOut) → without_foreign index found ≡ Ok os → found ≡ os
no_foreign None found os e = cc
no_foreign (Some i) found os e = absurd cc

some_are : (outputs found : List TxOut) → some_outputs (Ok outputs) ≡ Ok found → outputs ≡ found
some_are [] found e = absurd cc
some_are (x ∷ xs) found e = cc

abbrev done : Parts × ℕ → Result (Parts × ℕ) OutputsError
done x = Ok x

made_is : (x y : Parts × ℕ) → done x ≡ done y → x ≡ y
made_is x y e = cc

-- each output has eight bytes at least
few_outputs : (outputs : List TxOut) → length outputs ≤ length (flat_map output_bytes outputs)
few_outputs [] = omega arith
few_outputs (x ∷ xs) = omega (arith, few_outputs xs, length-append (output_bytes x) (flat_map output_bytes xs))

custom_said : (terms : CustomTerms) (script : List ℕ) (made : Parts × ℕ) (outputs : List TxOut) → custom_assembly terms script ≡ Ok made → outputs_of terms.outputs ≡ Ok outputs →
    (length terms.prefix ≤ 88) × (length terms.outputs ≤ 1024) × ((custom_parts terms (length outputs), total outputs) ≡ made)
custom_said terms script made outputs e read =
    let a = past_test (ltb 88 (length terms.prefix)) (custom.ScriptTooLong (length terms.prefix)) (paying_outputs terms script >>= λ os. with_total terms os) made e in
    bind_case (paying_outputs terms script) (λ os. with_total terms os) made a.1 (λ os step rest.
    let b = past_test (ltb 1024 (length terms.outputs)) (custom.TooLong (length terms.outputs)) (some_outputs (outputs_of terms.outputs) >>= λ found. without_foreign (position (is_foreign script) found) found) os step in
    bind_case (some_outputs (outputs_of terms.outputs)) (λ found. without_foreign (position (is_foreign script) found) found) os b.1 (λ found more last.
    let which : found ≡ os = no_foreign (position (is_foreign script) found) found os last in
    let some : outputs ≡ found = some_are outputs found (ap some_outputs (sym read) ∙ more) in
    let c = guard_held (ltb (total os) (2 ^ 40)) (custom.RewardTooLarge (total os)) (Ok (custom_parts terms (length os), total os)) made rest in
    (ltb-false _ _ a.0, ltb-false _ _ b.0, subst (λ (xs : List TxOut). (custom_parts terms (length xs), total xs) ≡ made) (sym (some ∙ which)) (made_is _ _ c.1))))

pub custom_law : (terms : CustomTerms) (script e : List ℕ) (made : Parts × ℕ) (outputs : List TxOut) → AreCustomTerms terms → length e ≡ 12 →
    custom_assembly terms script ≡ Ok made → outputs_of terms.outputs ≡ Ok outputs →
    TxOf (custom_tx terms e outputs) (whole made.0 e) × (txid (custom_tx terms e outputs) ≡ dsha (coin made.0 e)) × (made.1 ≡ total outputs)
custom_law terms script e made outputs are twelve built read =
    let said = custom_said terms script made outputs built read in
    let list = (whole_law terms.outputs outputs are.outputs).0 read in
    let fields : AreFields terms.tx_version terms.sequence terms.lock_time terms.prefix e outputs = record {
      version_fits = are.tx_version;
      sequence_fits = are.sequence;
      lock_time_fits = are.lock_time;
      short = said.0;
      twelve = twelve;
      count = omega (arith, said.1, ap length list.form, few_outputs outputs);
      each = list.each;
    } in
    let suffix : suffix_of terms.sequence (length outputs) terms.outputs terms.lock_time ≡ suffix_of terms.sequence (length outputs) (flat_map output_bytes outputs) terms.lock_time =
    ap (λ (x : List ℕ). suffix_of terms.sequence (length outputs) x terms.lock_time) list.form in
    let witness : commitment_in (outputs_of terms.outputs) ≡ list_any commits outputs = ap commitment_in read in
    let same : coinbase_parts terms.tx_version terms.prefix terms.sequence outputs (list_any commits outputs) terms.lock_time ≡ made.0 =
    same_parts (prefix_of terms.tx_version terms.prefix) _ _ _ _ (sym suffix) (sym witness) ∙ ap (λ (m : Parts × ℕ). m.0) said.2 in
    let law = coinbase_is_tx terms.tx_version terms.sequence terms.lock_time terms.prefix e outputs (list_any commits outputs) fields in
    let told : TxOf (custom_tx terms e outputs) (whole made.0 e) × (txid (custom_tx terms e outputs) ≡ dsha (coin made.0 e)) =
    subst (λ (p : Parts). TxOf (custom_tx terms e outputs) (whole p e) × (txid (custom_tx terms e outputs) ≡ dsha (coin p e))) same law in
    (told.0, told.1, ap (λ (m : Parts × ℕ). m.1) (sym said.2))
