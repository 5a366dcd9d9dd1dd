-- The coinbases of templates that aren't refused are short enough for their messages.
use Rattle.std.proofs.Common.{◌≡◌, ℕ, ◌+◌, ◌-◌, ◌<◌, ◌≤◌, ◌^◌, Bool, true, false, cond, Result, Ok, Err, List, [], ◌∷◌, ◌++◌, length, take, drop, refl, ap, sym, ◌∙◌, arith, length-append, Option, None, Some, subst}
use Rattle.std.proofs.lemmas.Bool.{ltb-false, ltb-true}
use Rattle.std.proofs.lemmas.List.{take-append-drop}
use Rattle.std.specs.Prelude.{position, nat_lt, replicate}
use Rattle.coinbase.specs.Coin.{Terms, template_assembly, outputs_said, template_parts, with_reward, within_length}
use Rattle.coinbase.specs.Parts.{Parts, marked_prefix, reserved_value, whole, whole_len, witnessed_suffix}
use Rattle.coinbase.specs.declared.error.AssemblyError.TheVariants.{RewardTooLarge, ScriptTooLong, TooLong}
use Rattle.coinbase.specs.Custom.{CustomTerms, custom_assembly, custom_parts, is_foreign, paying_outputs, some_outputs, total, with_total, without_foreign}
use Rattle.coinbase.specs.Outputs.{outputs_of}
use Rattle.coinbase.specs.declared.tx.TxOut.{TxOut}
use Rattle.coinbase.specs.declared.error.OutputsError.{OutputsError}
use Rattle.coinbase.specs.declared.error.OutputsError.TheVariants as custom
use Rattle.pool_base.specs.Results.{◌>>=◌}

-- how long a list of three parts is
pub length-three : (a b c : List ℕ) → length (a ++ b ++ c) ≡ length a + length b + length c
length-three a b c = length-append (a ++ b) c ∙ ap (λ n. n + length c) (length-append a b)

-- the marked prefix and the witnessed suffix are longer
pub length-cut : (n : ℕ) (xs : List ℕ) → length (take n xs) + length (drop n xs) ≡ length xs
length-cut n xs = sym (length-append (take n xs) (drop n xs)) ∙ ap length (take-append-drop n xs)

pub length-marked : (prefix : List ℕ) → length prefix ≤ length (marked_prefix prefix)
length-marked prefix =
    let three : length (marked_prefix prefix) ≡ length (take 4 prefix) + 2 + length (drop 4 prefix) = length-three (take 4 prefix) (0 ∷ 1 ∷ []) (drop 4 prefix) in
    let cut : length (take 4 prefix) + length (drop 4 prefix) ≡ length prefix = length-cut 4 prefix in
    omega (arith, three, cut)

pub length-witnessed : (suffix : List ℕ) → length suffix ≤ length (witnessed_suffix suffix)
length-witnessed suffix =
    let at : ℕ = length suffix - 4 in
    let three : length (witnessed_suffix suffix) ≡ length (take at suffix) + length reserved_value + length (drop at suffix) =
    length-three (take at suffix) reserved_value (drop at suffix) in
    let cut : length (take at suffix) + length (drop at suffix) ≡ length suffix = length-cut at suffix in
    longer (length (witnessed_suffix suffix)) (length (take at suffix)) (length reserved_value) (length (drop at suffix)) (length suffix) three cut where
      longer : (w a r d s : ℕ) → w ≡ a + r + d → a + d ≡ s → s ≤ w
      longer w a r d s p q = omega arith

-- the parts of a coinbase that isn't too long
pub record PartsFit (parts : Parts) : Type 0 where
  pub prefix : length parts.prefix < 2 ^ 16
  pub suffix : length parts.suffix < 2 ^ 16
  pub whole_fits : (extranonce : List ℕ) → length extranonce ≡ 12 → length (whole parts extranonce) < 2 ^ 16

-- the whole form goes by the length of the extranonce alone
pub whole-alike : (witness : Bool) (prefix suffix a b : List ℕ) → length a ≡ length b
    → length (whole (record { prefix = prefix; suffix = suffix; witness = witness }) a) ≡ length (whole (record { prefix = prefix; suffix = suffix; witness = witness }) b)
whole-alike true prefix suffix a b same =
    length-three (marked_prefix prefix) a (witnessed_suffix suffix) ∙ ap (λ n. length (marked_prefix prefix) + n + length (witnessed_suffix suffix)) same
    ∙ sym (length-three (marked_prefix prefix) b (witnessed_suffix suffix))
whole-alike false prefix suffix a b same =
    length-three prefix a suffix ∙ ap (λ n. length prefix + n + length suffix) same ∙ sym (length-three prefix b suffix)

-- and is no shorter than the two parts
pub whole-longer : (witness : Bool) (prefix suffix e : List ℕ) → length prefix + length suffix ≤ length (whole (record { prefix = prefix; suffix = suffix; witness = witness }) e)
whole-longer true prefix suffix e =
    let three : length (marked_prefix prefix ++ e ++ witnessed_suffix suffix) ≡ length (marked_prefix prefix) + length e + length (witnessed_suffix suffix) =
    length-three (marked_prefix prefix) e (witnessed_suffix suffix) in
    let p : length prefix ≤ length (marked_prefix prefix) = length-marked prefix in
    let q : length suffix ≤ length (witnessed_suffix suffix) = length-witnessed suffix in
    omega (arith, three, p, q)
whole-longer false prefix suffix e =
    let three : length (prefix ++ e ++ suffix) ≡ length prefix + length e + length suffix = length-three prefix e suffix in
    omega (arith, three)

pub parts-fit : (parts : Parts) → whole_len parts ≤ 65535 → PartsFit parts
parts-fit parts few =
    let zeros : List ℕ = replicate 12 0 in
    let longer : length parts.prefix + length parts.suffix ≤ whole_len parts = whole-longer parts.witness parts.prefix parts.suffix zeros in
    record {
      prefix = omega (arith, longer, few);
      suffix = omega (arith, longer, few);
      whole_fits = λ e twelve.
          let same : length (whole parts e) ≡ whole_len parts = whole-alike parts.witness parts.prefix parts.suffix e zeros twelve in
          omega (arith, same, few);
    }

-- what assembling says where it doesn't refuse
pub err-ok : {X E : Type 0} {e : E} {x : X} → ◌≡◌ {A = Result X E} (Err e) (Ok x) → ⊥
err-ok h = cc

pub second-ok : {X Y E : Type 0} (r : Result X E) (f : X → Result Y E) (y : Y) → (r >>= f) ≡ Ok y → (x : X) × (f x ≡ Ok y)
second-ok (Ok x) f y h = (x, h)
second-ok (Err e) f y h = absurd (err-ok h)

pub not_refused : {X E : Type 0} (b : Bool) (e : E) (r : Result X E) (x : X) → cond b (Err e) r ≡ Ok x → (b ≡ false) × (r ≡ Ok x)
not_refused true e r x h = absurd (err-ok h)
not_refused false e r x h = (refl, h)

pub kept_ok : {X E : Type 0} (b : Bool) (e : E) (r : Result X E) (x : X) → cond b r (Err e) ≡ Ok x → (b ≡ true) × (r ≡ Ok x)
kept_ok true e r x h = (refl, h)
kept_ok false e r x h = absurd (err-ok h)

pub assembled-fits : (terms : Terms) (script : List ℕ) (parts : Parts) → template_assembly terms script ≡ Ok parts → PartsFit (template_parts terms script) × (terms.reward < 2 ^ 40)
assembled-fits terms script parts h =
    let a : (nat_lt 88 (length terms.prefix) ≡ false) × ((outputs_said terms >>= λ outputs. with_reward terms script) ≡ Ok parts) =
    not_refused (nat_lt 88 (length terms.prefix)) (ScriptTooLong (length terms.prefix)) (outputs_said terms >>= λ outputs. with_reward terms script) parts h in
    let b = second-ok (outputs_said terms) (λ outputs. with_reward terms script) parts a.1 in
    let c : (nat_lt terms.reward (2 ^ 40) ≡ true) × (within_length (template_parts terms script) ≡ Ok parts) =
    kept_ok (nat_lt terms.reward (2 ^ 40)) (RewardTooLarge terms.reward) (within_length (template_parts terms script)) parts b.1 in
    let d = not_refused (nat_lt 65535 (whole_len (template_parts terms script))) (TooLong (whole_len (template_parts terms script))) (Ok (template_parts terms script)) parts c.1 in
    (parts-fit (template_parts terms script) (ltb-false 65535 (whole_len (template_parts terms script)) d.0), ltb-true terms.reward (2 ^ 40) c.0)

-- a miner's own coinbase that isn't refused has outputs, which pay less than 2^40
pub some_outputs-read : (r : Result (List TxOut) ℕ) (outputs : List TxOut) → some_outputs r ≡ Ok outputs → (r ≡ Ok outputs) × (1 ≤ length outputs)
some_outputs-read (Err at) outputs h = absurd (err-ok h)
some_outputs-read (Ok []) outputs h = absurd (err-ok h)
some_outputs-read (Ok (first ∷ others)) outputs h =
    let same : first ∷ others ≡ outputs = cc in
    let one : 1 ≤ length (first ∷ others) = omega arith in
    (ap Ok same, subst (λ l. 1 ≤ length l) same one)

pub without_foreign-same : (o : Option ℕ) (outputs told : List TxOut) → without_foreign o outputs ≡ Ok told → outputs ≡ told
without_foreign-same None outputs told h = cc
without_foreign-same (Some index) outputs told h = absurd (err-ok h)

pub first-of : {X Y E : Type 0} (r : Result X E) (f : X → Result Y E) (y : Y) → (r >>= f) ≡ Ok y → (x : X) × (r ≡ Ok x) × (f x ≡ Ok y)
first-of (Ok x) f y h = (x, refl, h)
first-of (Err e) f y h = absurd (err-ok h)

pub second-same : {parts : Parts} {reward : ℕ} {told : Parts × ℕ} → ◌≡◌ {A = Result (Parts × ℕ) OutputsError} (Ok (parts, reward)) (Ok told) → told.1 ≡ reward
second-same {parts = parts} {reward = reward} {told = told} h = sym (ap (λ t. t.1) (same h)) where
  same : ◌≡◌ {A = Result (Parts × ℕ) OutputsError} (Ok (parts, reward)) (Ok told) → ◌≡◌ {A = Parts × ℕ} (parts, reward) told
  same h = cc

-- what a miner's own coinbase that isn't refused pays to
pub record PaysOutputs (bytes : List ℕ) (reward : ℕ) : Type 0 where
  pub outputs : List TxOut
  pub read : outputs_of bytes ≡ Ok outputs
  pub some : 1 ≤ length outputs
  pub all : reward ≡ total outputs
  pub small : total outputs < 2 ^ 40

pub outputs-pay : (terms : CustomTerms) (script : List ℕ) (told : Parts × ℕ) → custom_assembly terms script ≡ Ok told → PaysOutputs terms.outputs told.1
outputs-pay terms script told h =
    let a = not_refused (nat_lt 88 (length terms.prefix)) (custom.ScriptTooLong (length terms.prefix)) (paying_outputs terms script >>= λ outputs. with_total terms outputs) told h in
    let b = first-of (paying_outputs terms script) (λ outputs. with_total terms outputs) told a.1 in
    let c = not_refused (nat_lt 1024 (length terms.outputs)) (custom.TooLong (length terms.outputs))
    (some_outputs (outputs_of terms.outputs) >>= λ outputs. without_foreign (position (is_foreign script) outputs) outputs) b.0 b.1 in
    let d = first-of (some_outputs (outputs_of terms.outputs)) (λ outputs. without_foreign (position (is_foreign script) outputs) outputs) b.0 c.1 in
    let r = some_outputs-read (outputs_of terms.outputs) d.0 d.1 in
    let same : d.0 ≡ b.0 = without_foreign-same (position (is_foreign script) d.0) d.0 b.0 d.2 in
    let e = kept_ok (nat_lt (total b.0) (2 ^ 40)) (custom.RewardTooLarge (total b.0)) (Ok (custom_parts terms (length b.0), total b.0)) told b.2 in
    record {
      outputs = d.0;
      read = r.0;
      some = r.1;
      all = second-same e.1 ∙ ap total (sym same);
      small = subst (λ outputs. total outputs < 2 ^ 40) (sym same) (ltb-true (total b.0) (2 ^ 40) e.0);
    }
