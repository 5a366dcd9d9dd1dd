-- Templates, miners' own jobs, tips, rules: that fields which are the same make the same.
use Rattle.std.proofs.Common.{◌≡◌, ℕ, ◌<◌, ◌≤◌, ◌^◌, Option, None, Some, false, List, [], ◌∷◌, ◌++◌, length, flat_map, refl, ap, ap₂, arith}
use Rattle.std.specs.List.{AllByRecursion}
use Rattle.std.proofs.Math.Bridge.{le_prop}
use mathlib.Core.HLevel.{is_prop→PathP}
use Rattle.sv2_types.specs.Fields.{B0_255, Bytes}
use Rattle.sv2_types.specs.Spelling.{spelled_str255, spelled_u64, spelled_u8}
use Rattle.sv2_types.proofs.Laws.{spellings_agree, written_spells}
use Rattle.pool_history.specs.declared.events.Kind.{Kind}
use Rattle.pool_history.specs.declared.events.Kind.TheVariants as kind
use Rattle.pool_history.specs.declared.events.Role.{Role}
use Rattle.pool_history.specs.declared.events.Role.TheVariants as role
use Rattle.pool_history.specs.declared.settings.Rules.{Rules}
use Rattle.pool_history.specs.declared.templates.CustomData.{CustomData}
use Rattle.pool_history.specs.declared.templates.TemplateData.{TemplateData}
use Rattle.pool_history.specs.declared.templates.TipData.{TipData}
use Rattle.pool_history.specs.Ledger.{kind_number, role_number, spelled_rule}
use Rattle.ledger_records.specs.WellFormed.{IsText, IsWindow}

-- templates with the same fields
pub record SameTemplate (a b : TemplateData) : Type 0 where
  pub template_id : a.template_id ≡ b.template_id
  pub future_template : a.future_template ≡ b.future_template
  pub version : a.version ≡ b.version
  pub coinbase_tx_version : a.coinbase_tx_version ≡ b.coinbase_tx_version
  pub coinbase_prefix : a.coinbase_prefix ≡ b.coinbase_prefix
  pub coinbase_tx_input_sequence : a.coinbase_tx_input_sequence ≡ b.coinbase_tx_input_sequence
  pub coinbase_tx_value_remaining : a.coinbase_tx_value_remaining ≡ b.coinbase_tx_value_remaining
  pub coinbase_tx_outputs_count : a.coinbase_tx_outputs_count ≡ b.coinbase_tx_outputs_count
  pub coinbase_tx_outputs : a.coinbase_tx_outputs ≡ b.coinbase_tx_outputs
  pub coinbase_tx_locktime : a.coinbase_tx_locktime ≡ b.coinbase_tx_locktime
  pub merkle_path : a.merkle_path ≡ b.merkle_path

pub same_template : (a b : TemplateData) → SameTemplate a b → a ≡ b
same_template a b s = λ i. record {
  template_id = s.template_id i;
  future_template = s.future_template i;
  version = s.version i;
  coinbase_tx_version = s.coinbase_tx_version i;
  coinbase_prefix = s.coinbase_prefix i;
  coinbase_tx_input_sequence = s.coinbase_tx_input_sequence i;
  coinbase_tx_value_remaining = s.coinbase_tx_value_remaining i;
  coinbase_tx_outputs_count = s.coinbase_tx_outputs_count i;
  coinbase_tx_outputs = s.coinbase_tx_outputs i;
  coinbase_tx_locktime = s.coinbase_tx_locktime i;
  merkle_path = s.merkle_path i;
  path_fits = is_prop→PathP (λ j. length (s.merkle_path j) ≤ 255) (λ j. le_prop) a.path_fits b.path_fits i;
}

-- miners' own jobs with the same fields
pub record SameCustom (a b : CustomData) : Type 0 where
  pub channel_id : a.channel_id ≡ b.channel_id
  pub token : a.token ≡ b.token
  pub version : a.version ≡ b.version
  pub prev_hash : a.prev_hash ≡ b.prev_hash
  pub min_ntime : a.min_ntime ≡ b.min_ntime
  pub nbits : a.nbits ≡ b.nbits
  pub coinbase_tx_version : a.coinbase_tx_version ≡ b.coinbase_tx_version
  pub coinbase_prefix : a.coinbase_prefix ≡ b.coinbase_prefix
  pub coinbase_tx_input_sequence : a.coinbase_tx_input_sequence ≡ b.coinbase_tx_input_sequence
  pub coinbase_tx_outputs : a.coinbase_tx_outputs ≡ b.coinbase_tx_outputs
  pub coinbase_tx_locktime : a.coinbase_tx_locktime ≡ b.coinbase_tx_locktime
  pub merkle_path : a.merkle_path ≡ b.merkle_path

pub same_custom : (a b : CustomData) → SameCustom a b → a ≡ b
same_custom a b s = λ i. record {
  channel_id = s.channel_id i;
  token = s.token i;
  version = s.version i;
  prev_hash = s.prev_hash i;
  min_ntime = s.min_ntime i;
  nbits = s.nbits i;
  coinbase_tx_version = s.coinbase_tx_version i;
  coinbase_prefix = s.coinbase_prefix i;
  coinbase_tx_input_sequence = s.coinbase_tx_input_sequence i;
  coinbase_tx_outputs = s.coinbase_tx_outputs i;
  coinbase_tx_locktime = s.coinbase_tx_locktime i;
  merkle_path = s.merkle_path i;
  path_fits = is_prop→PathP (λ j. length (s.merkle_path j) ≤ 255) (λ j. le_prop) a.path_fits b.path_fits i;
}

-- tips with the same fields
pub record SameTip (a b : TipData) : Type 0 where
  pub template_id : a.template_id ≡ b.template_id
  pub prev_hash : a.prev_hash ≡ b.prev_hash
  pub header_timestamp : a.header_timestamp ≡ b.header_timestamp
  pub nbits : a.nbits ≡ b.nbits
  pub target : a.target ≡ b.target

pub same_tip : (a b : TipData) → SameTip a b → a ≡ b
same_tip a b s = λ i. record {
  template_id = s.template_id i;
  prev_hash = s.prev_hash i;
  header_timestamp = s.header_timestamp i;
  nbits = s.nbits i;
  target = s.target i;
}

-- rules with the same fields
pub record SameRules (a b : Rules) : Type 0 where
  pub pool_script : a.pool_script ≡ b.pool_script
  pub least_class : a.least_class ≡ b.least_class
  pub fee : a.fee ≡ b.fee
  pub window : a.window ≡ b.window
  pub ntime_window : a.ntime_window ≡ b.ntime_window
  pub credit_limit : a.credit_limit ≡ b.credit_limit
  pub version_rolling : a.version_rolling ≡ b.version_rolling
  pub users : a.users ≡ b.users

pub same_rules : (a b : Rules) → SameRules a b → a ≡ b
same_rules a b s = λ i. record {
  pool_script = s.pool_script i;
  least_class = s.least_class i;
  fee = s.fee i;
  window = s.window i;
  ntime_window = s.ntime_window i;
  credit_limit = s.credit_limit i;
  version_rolling = s.version_rolling i;
  users = s.users i;
}

-- two numbers that a test tells apart
pub apart : (m n : ℕ) → Rattle.std.proofs.Math.Dec.eqb m n ≡ false → m ≡ n → ⊥
apart m n differ same = Rattle.std.proofs.lemmas.Bool.eqb-false m n differ same

-- roles and kinds by their numbers
pub same_role : (a b : Role) → role_number a ≡ role_number b → a ≡ b
same_role role.Miner role.Miner e = refl
same_role role.Feed role.Feed e = refl
same_role role.Solo role.Solo e = refl
same_role a b e = absurd (apart (role_number a) (role_number b) refl e)

pub same_kind : (a b : Kind) → kind_number a ≡ kind_number b → a ≡ b
same_kind kind.Standard kind.Standard e = refl
same_kind kind.Extended kind.Extended e = refl
same_kind kind.V1 kind.V1 e = refl
same_kind a b e = absurd (apart (kind_number a) (kind_number b) refl e)

pub role-small : (a : Role) → role_number a < 2 ^ 8
role-small role.Miner = omega arith
role-small role.Feed = omega arith
role-small role.Solo = omega arith

pub kind-small : (a : Kind) → kind_number a < 2 ^ 8
kind-small kind.Standard = omega arith
kind-small kind.Extended = omega arith
kind-small kind.V1 = omega arith

-- a window is told by two numbers: which rule, and how much work
abbrev pub rule_number : Option ℕ → ℕ
rule_number None = 0
rule_number (Some window) = 1

abbrev pub window_number : Option ℕ → ℕ
window_number None = 0
window_number (Some window) = window

pub spelled_rule-numbers : (window : Option ℕ) → spelled_rule window ≡ spelled_u8 (rule_number window) ++ spelled_u64 (window_number window)
spelled_rule-numbers None = refl
spelled_rule-numbers (Some window) = refl

pub same_window : (a b : Option ℕ) → rule_number a ≡ rule_number b → window_number a ≡ window_number b → a ≡ b
same_window None None e f = refl
same_window (Some a) (Some b) e f = ap (λ window. Some window) f
same_window a b e f = absurd (apart (rule_number a) (rule_number b) refl e)

pub rule-small : (window : Option ℕ) → rule_number window < 2 ^ 8
rule-small None = omega arith
rule-small (Some window) = omega arith

pub window-small : (window : Option ℕ) → IsWindow window → window_number window < 2 ^ 64
window-small None fits = omega arith
window-small (Some window) fits = fits

-- as many accounts that are spelled alike are the same
pub users_agree : (us ws : List (List ℕ)) → AllByRecursion IsText us → AllByRecursion IsText ws → length us ≡ length ws
    → flat_map spelled_str255 us ≡ flat_map spelled_str255 ws → us ≡ ws
users_agree [] [] a b n e = refl
users_agree [] (w ∷ ws) a b n e = absurd (omega (arith, n))
users_agree (u ∷ us) [] a b n e = absurd (omega (arith, n))
users_agree (u ∷ us) (w ∷ ws) a b n e =
    let first : (Bytes u ≡ Bytes w) × (spelled_str255 u ≡ spelled_str255 w) × (flat_map spelled_str255 us ≡ flat_map spelled_str255 ws) =
    spellings_agree B0_255 (Bytes u) (Bytes w) (spelled_str255 u) (spelled_str255 w) (flat_map spelled_str255 us) (flat_map spelled_str255 ws)
    (written_spells B0_255 (Bytes u) a.0) (written_spells B0_255 (Bytes w) b.0) e in
    let account : u ≡ w = cc in
    let fewer : length us ≡ length ws = omega (arith, n) in
    ap₂ (λ user users. user ∷ users) account (users_agree us ws a.1 b.1 fewer first.2)
