-- Bodies of records of one kind: the same bytes are of the same event.
use Rattle.std.proofs.Common.{◌≡◌, ℕ, ◌<◌, ◌≤◌, ◌^◌, Bool, List, [], ◌∷◌, ◌++◌, length, flat_map, refl, ap, ap₂, sym, ◌∙◌, append_assoc, arith}
use Rattle.sv2_types.specs.Fields.{FieldType, FieldValue, U8, U16, U32, U64, UINT256, BOOL, B0_255, B0_64K, SEQ0_255_U256, Number, Truth, Bytes, Parts}
use Rattle.sv2_types.specs.Spelling.{spelled_b255, spelled_str255, spelled_u16, spelled_u32, spelled_u64, spelled_u8}
use Rattle.pool_history.specs.declared.events.Event.{Event}
use Rattle.pool_history.specs.declared.events.Event.TheVariants as event
use Rattle.pool_history.specs.declared.events.Kind.{Kind}
use Rattle.pool_history.specs.declared.events.Role.{Role}
use Rattle.pool_history.specs.declared.settings.Rules.{Rules}
use Rattle.pool_history.specs.declared.templates.CustomData.{CustomData}
use Rattle.pool_history.specs.declared.templates.TemplateData.{TemplateData}
use Rattle.pool_history.specs.declared.templates.TipData.{TipData}
use Rattle.pool_history.specs.Ledger.{CustomFits, GrantFits, RulesFit, TemplateFits, kind_number, record_body, record_kind, role_number, spelled_rule, spelled_rules, spelled_users}
use Rattle.ledger_records.specs.WellFormed.{AreRules, CanBeKept, IsBrought, IsClass, IsClose, IsCredit, IsCustom, IsEnter, IsGrant, IsName, IsOffer, IsOpen, IsTemplate, IsTip, IsTipped, IsU32}
use Rattle.ledger_records.proofs.FieldByField.{AreOf, fields_agree, same_fields, written, written_after-is}
use Rattle.ledger_records.proofs.Kept.{apart, kind-small, role-small, rule-small, rule_number, same_custom, same_kind, same_role, same_rules, same_template, same_tip, same_window, spelled_rule-numbers, users_agree, window-small, window_number}

-- the fields of rules but the accounts
abbrev pub rules_types : List FieldType
rules_types = B0_255 ∷ U8 ∷ U16 ∷ U8 ∷ U64 ∷ U32 ∷ U32 ∷ BOOL ∷ U16 ∷ []

abbrev pub rules_values : Rules → List FieldValue
rules_values rules =
    Bytes rules.pool_script ∷ Number rules.least_class ∷ Number rules.fee ∷ Number (rule_number rules.window) ∷ Number (window_number rules.window)
    ∷ Number rules.ntime_window ∷ Number rules.credit_limit ∷ Truth rules.version_rolling ∷ Number (length rules.users) ∷ []

-- they are what stands before the accounts
pub rules_written : (rules : Rules) → spelled_rules rules ≡ written rules_types (rules_values rules) (flat_map spelled_str255 rules.users)
rules_written rules =
    let front : List ℕ = spelled_b255 rules.pool_script ++ spelled_u8 rules.least_class ++ spelled_u16 rules.fee in
    let counted : List ℕ = spelled_users rules.users in
    let back : List ℕ =
    written (U32 ∷ U32 ∷ BOOL ∷ []) (Number rules.ntime_window ∷ Number rules.credit_limit ∷ Truth rules.version_rolling ∷ []) counted in
    let rule : List ℕ = spelled_u8 (rule_number rules.window) ++ spelled_u64 (window_number rules.window) in
    written_after-is (front ++ spelled_rule rules.window) (U32 ∷ U32 ∷ BOOL ∷ [])
    (Number rules.ntime_window ∷ Number rules.credit_limit ∷ Truth rules.version_rolling ∷ []) counted
    ∙ ap (λ bytes. (front ++ bytes) ++ back) (spelled_rule-numbers rules.window)
    ∙ append_assoc front rule back
    ∙ written_after-is (spelled_b255 rules.pool_script) (U8 ∷ U16 ∷ []) (Number rules.least_class ∷ Number rules.fee ∷ []) (rule ++ back)
    ∙ append_assoc (spelled_u8 (length rules.pool_script)) rules.pool_script
    (written (U8 ∷ U16 ∷ []) (Number rules.least_class ∷ Number rules.fee ∷ []) (rule ++ back))

pub rules_are_of : (rules : Rules) → AreRules rules → RulesFit rules → AreOf rules_types (rules_values rules)
rules_are_of rules are fit =
    (fit.script, (are.least_class, (are.fee, (rule-small rules.window, (window-small rules.window are.window, (are.ntime_window, (are.credit_limit, (tt, (fit.users, tt)))))))))

pub rules_agree : (a b : Rules) → AreRules a → AreRules b → RulesFit a → RulesFit b → spelled_rules a ≡ spelled_rules b → a ≡ b
rules_agree a b p q f g e =
    let parts : (rules_values a ≡ rules_values b) × (flat_map spelled_str255 a.users ≡ flat_map spelled_str255 b.users) =
    fields_agree rules_types (rules_values a) (rules_values b) (flat_map spelled_str255 a.users) (flat_map spelled_str255 b.users)
    (rules_are_of a p f) (rules_are_of b q g) (sym (rules_written a) ∙ e ∙ rules_written b) in
    let fields : rules_values a ≡ rules_values b = parts.0 in
    let rule : rule_number a.window ≡ rule_number b.window = cc in
    let work : window_number a.window ≡ window_number b.window = cc in
    let count : length a.users ≡ length b.users = cc in
    same_rules a b (record {
      pool_script = cc;
      least_class = cc;
      fee = cc;
      window = same_window a.window b.window rule work;
      ntime_window = cc;
      credit_limit = cc;
      version_rolling = cc;
      users = users_agree a.users b.users p.users q.users count parts.1;
    })

-- the fields of a template
abbrev pub template_types : List FieldType
template_types = U32 ∷ U64 ∷ BOOL ∷ U32 ∷ U32 ∷ B0_255 ∷ U32 ∷ U64 ∷ U32 ∷ B0_64K ∷ U32 ∷ SEQ0_255_U256 ∷ []

abbrev pub template_more : TemplateData → List FieldValue
template_more template =
    Truth template.future_template ∷ Number template.version ∷ Number template.coinbase_tx_version
    ∷ Bytes template.coinbase_prefix ∷ Number template.coinbase_tx_input_sequence ∷ Number template.coinbase_tx_value_remaining
    ∷ Number template.coinbase_tx_outputs_count ∷ Bytes template.coinbase_tx_outputs ∷ Number template.coinbase_tx_locktime ∷ Parts template.merkle_path ∷ []

abbrev pub template_values : ℕ → TemplateData → List FieldValue
template_values session template = Number session ∷ Number template.template_id ∷ template_more template

pub template_are_of : (session : ℕ) (template : TemplateData) → IsOffer session template → TemplateFits template → AreOf template_types (template_values session template)
template_are_of session template is fit =
    let t : IsTemplate template = is.template_fits in (
      is.session_fits,
      (
        t.template_id,
        (
          tt,
          (
            t.version,
            (
              t.coinbase_tx_version,
              (
                fit.prefix,
                (
                  t.coinbase_tx_input_sequence,
                  (
                    t.coinbase_tx_value_remaining,
                    (t.coinbase_tx_outputs_count, (fit.outputs, (t.coinbase_tx_locktime, ((fit.path, t.merkle_path), tt)))),
                  ),
                ),
              ),
            ),
          ),
        ),
      ),
    )

pub template_written : (session : ℕ) (template : TemplateData)
    → record_body (event.Template session template) ++ [] ≡ written template_types (template_values session template) []
template_written session template =
    ap (λ bytes. spelled_u32 session ++ bytes)
    (written_after-is (spelled_u64 template.template_id) (BOOL ∷ U32 ∷ U32 ∷ B0_255 ∷ U32 ∷ U64 ∷ U32 ∷ B0_64K ∷ U32 ∷ SEQ0_255_U256 ∷ []) (template_more template) [])

pub template_agrees : (s r : ℕ) (a b : TemplateData) → IsOffer s a → IsOffer r b → TemplateFits a → TemplateFits b
    → record_body (event.Template s a) ≡ record_body (event.Template r b) → event.Template s a ≡ event.Template r b
template_agrees s r a b p q f g e =
    let fields : template_values s a ≡ template_values r b =
    same_fields template_types (template_values s a) (template_values r b) (record_body (event.Template s a)) (record_body (event.Template r b))
    (template_are_of s a p f) (template_are_of r b q g) (template_written s a) (template_written r b) e in
    let session : s ≡ r = cc in
    ap₂ (λ session template. event.Template session template) session (same_template a b (record {
      template_id = cc;
      future_template = cc;
      version = cc;
      coinbase_tx_version = cc;
      coinbase_prefix = cc;
      coinbase_tx_input_sequence = cc;
      coinbase_tx_value_remaining = cc;
      coinbase_tx_outputs_count = cc;
      coinbase_tx_outputs = cc;
      coinbase_tx_locktime = cc;
      merkle_path = cc;
    }))

-- the fields of a miner's own job
abbrev pub custom_types : List FieldType
custom_types = U32 ∷ U32 ∷ B0_255 ∷ U32 ∷ UINT256 ∷ U32 ∷ U32 ∷ U32 ∷ B0_255 ∷ U32 ∷ B0_64K ∷ U32 ∷ SEQ0_255_U256 ∷ []

abbrev pub custom_more : CustomData → List FieldValue
custom_more custom =
    Bytes custom.token ∷ Number custom.version ∷ Bytes custom.prev_hash ∷ Number custom.min_ntime
    ∷ Number custom.nbits ∷ Number custom.coinbase_tx_version ∷ Bytes custom.coinbase_prefix ∷ Number custom.coinbase_tx_input_sequence
    ∷ Bytes custom.coinbase_tx_outputs ∷ Number custom.coinbase_tx_locktime ∷ Parts custom.merkle_path ∷ []

abbrev pub custom_values : ℕ → CustomData → List FieldValue
custom_values session custom = Number session ∷ Number custom.channel_id ∷ custom_more custom

pub custom_are_of : (session : ℕ) (custom : CustomData) → IsBrought session custom → CustomFits custom → AreOf custom_types (custom_values session custom)
custom_are_of session custom is fit =
    let c : IsCustom custom = is.custom_fits in (
      is.session_fits,
      (
        c.channel_id,
        (
          fit.token,
          (
            c.version,
            (
              c.prev_hash,
              (
                c.min_ntime,
                (
                  c.nbits,
                  (
                    c.coinbase_tx_version,
                    (
                      fit.prefix,
                      (c.coinbase_tx_input_sequence, (fit.outputs, (c.coinbase_tx_locktime, ((fit.path, c.merkle_path), tt)))),
                    ),
                  ),
                ),
              ),
            ),
          ),
        ),
      ),
    )

pub custom_written : (session : ℕ) (custom : CustomData)
    → record_body (event.Custom session custom) ++ [] ≡ written custom_types (custom_values session custom) []
custom_written session custom =
    ap (λ bytes. spelled_u32 session ++ bytes)
    (written_after-is (spelled_u32 custom.channel_id) (B0_255 ∷ U32 ∷ UINT256 ∷ U32 ∷ U32 ∷ U32 ∷ B0_255 ∷ U32 ∷ B0_64K ∷ U32 ∷ SEQ0_255_U256 ∷ []) (custom_more custom) [])

pub custom_agrees : (s r : ℕ) (a b : CustomData) → IsBrought s a → IsBrought r b → CustomFits a → CustomFits b
    → record_body (event.Custom s a) ≡ record_body (event.Custom r b) → event.Custom s a ≡ event.Custom r b
custom_agrees s r a b p q f g e =
    let fields : custom_values s a ≡ custom_values r b =
    same_fields custom_types (custom_values s a) (custom_values r b) (record_body (event.Custom s a)) (record_body (event.Custom r b))
    (custom_are_of s a p f) (custom_are_of r b q g) (custom_written s a) (custom_written r b) e in
    let session : s ≡ r = cc in
    ap₂ (λ session custom. event.Custom session custom) session (same_custom a b (record {
      channel_id = cc;
      token = cc;
      version = cc;
      prev_hash = cc;
      min_ntime = cc;
      nbits = cc;
      coinbase_tx_version = cc;
      coinbase_prefix = cc;
      coinbase_tx_input_sequence = cc;
      coinbase_tx_outputs = cc;
      coinbase_tx_locktime = cc;
      merkle_path = cc;
    }))

-- a tip
abbrev pub tip_more : TipData → List FieldValue
tip_more tip = Bytes tip.prev_hash ∷ Number tip.header_timestamp ∷ Number tip.nbits ∷ Bytes tip.target ∷ []

abbrev pub tip_values : ℕ → TipData → List FieldValue
tip_values session tip = Number session ∷ Number tip.template_id ∷ tip_more tip

pub tip_are_of : (session : ℕ) (tip : TipData) → IsTipped session tip → AreOf (U32 ∷ U64 ∷ UINT256 ∷ U32 ∷ U32 ∷ UINT256 ∷ []) (tip_values session tip)
tip_are_of session tip is =
    let t : IsTip tip = is.tip_fits in
    (is.session_fits, (t.template_id, (t.prev_hash, (t.header_timestamp, (t.nbits, (t.target, tt))))))

pub tip_written : (session : ℕ) (tip : TipData)
    → record_body (event.Tip session tip) ++ [] ≡ written (U32 ∷ U64 ∷ UINT256 ∷ U32 ∷ U32 ∷ UINT256 ∷ []) (tip_values session tip) []
tip_written session tip =
    ap (λ bytes. spelled_u32 session ++ bytes) (written_after-is (spelled_u64 tip.template_id) (UINT256 ∷ U32 ∷ U32 ∷ UINT256 ∷ []) (tip_more tip) [])

pub tip_agrees : (s r : ℕ) (a b : TipData) → IsTipped s a → IsTipped r b
    → record_body (event.Tip s a) ≡ record_body (event.Tip r b) → event.Tip s a ≡ event.Tip r b
tip_agrees s r a b p q e =
    let fields : tip_values s a ≡ tip_values r b =
    same_fields (U32 ∷ U64 ∷ UINT256 ∷ U32 ∷ U32 ∷ UINT256 ∷ []) (tip_values s a) (tip_values r b) (record_body (event.Tip s a)) (record_body (event.Tip r b))
    (tip_are_of s a p) (tip_are_of r b q) (tip_written s a) (tip_written r b) e in
    let session : s ≡ r = cc in
    ap₂ (λ session tip. event.Tip session tip) session
    (same_tip a b (record { template_id = cc; prev_hash = cc; header_timestamp = cc; nbits = cc; target = cc }))

-- a session that begins
pub enter_agrees : (w v : ℕ) (a b : Role) (f g : ℕ) → IsEnter w f → IsEnter v g
    → record_body (event.Enter w a f) ≡ record_body (event.Enter v b g) → event.Enter w a f ≡ event.Enter v b g
enter_agrees w v a b f g p q e =
    let fields : Number w ∷ Number (role_number a) ∷ Number f ∷ [] ≡ Number v ∷ Number (role_number b) ∷ Number g ∷ [] =
    same_fields (U32 ∷ U8 ∷ U32 ∷ []) (Number w ∷ Number (role_number a) ∷ Number f ∷ []) (Number v ∷ Number (role_number b) ∷ Number g ∷ [])
    (record_body (event.Enter w a f)) (record_body (event.Enter v b g))
    (p.worker_fits, (role-small a, (p.flags_fit, tt))) (q.worker_fits, (role-small b, (q.flags_fit, tt)))
    (written_after-is (spelled_u32 w) (U8 ∷ U32 ∷ []) (Number (role_number a) ∷ Number f ∷ []) [])
    (written_after-is (spelled_u32 v) (U8 ∷ U32 ∷ []) (Number (role_number b) ∷ Number g ∷ []) []) e in
    let number : role_number a ≡ role_number b = cc in
    let is_role : a ≡ b = same_role a b number in
    cc

-- a lead or an extranonce is short
pub short : (bytes : List ℕ) → length bytes ≤ 32 → length bytes < 2 ^ 8
short bytes h = omega (arith, h)

-- a channel that is opened
pub open_agrees : (s r : ℕ) (k l : Kind) (a b : List ℕ) (c d : ℕ) (m n : List ℕ) → IsOpen s a c → IsOpen r b d → length m ≤ 32 → length n ≤ 32
    → record_body (event.Open s k a c m) ≡ record_body (event.Open r l b d n) → event.Open s k a c m ≡ event.Open r l b d n
open_agrees s r k l a b c d m n p q f g e =
    let fields : Number s ∷ Number (kind_number k) ∷ Bytes a ∷ Number c ∷ Bytes m ∷ [] ≡ Number r ∷ Number (kind_number l) ∷ Bytes b ∷ Number d ∷ Bytes n ∷ [] =
    same_fields (U32 ∷ U8 ∷ B0_255 ∷ U8 ∷ B0_255 ∷ [])
    (Number s ∷ Number (kind_number k) ∷ Bytes a ∷ Number c ∷ Bytes m ∷ []) (Number r ∷ Number (kind_number l) ∷ Bytes b ∷ Number d ∷ Bytes n ∷ [])
    (record_body (event.Open s k a c m)) (record_body (event.Open r l b d n))
    (p.session_fits, (kind-small k, (p.account_fits, (p.class_fits, (short m f, tt)))))
    (q.session_fits, (kind-small l, (q.account_fits, (q.class_fits, (short n g, tt)))))
    (written_after-is (spelled_u32 s) (U8 ∷ B0_255 ∷ U8 ∷ B0_255 ∷ []) (Number (kind_number k) ∷ Bytes a ∷ Number c ∷ Bytes m ∷ []) [])
    (written_after-is (spelled_u32 r) (U8 ∷ B0_255 ∷ U8 ∷ B0_255 ∷ []) (Number (kind_number l) ∷ Bytes b ∷ Number d ∷ Bytes n ∷ []) []) e in
    let number : kind_number k ≡ kind_number l = cc in
    let is_kind : k ≡ l = same_kind k l number in
    cc

-- a channel that gets its account
pub name_agrees : (s r c d : ℕ) (a b : List ℕ) → IsName s c a → IsName r d b
    → record_body (event.Name s c a) ≡ record_body (event.Name r d b) → event.Name s c a ≡ event.Name r d b
name_agrees s r c d a b p q e =
    let fields : Number s ∷ Number c ∷ Bytes a ∷ [] ≡ Number r ∷ Number d ∷ Bytes b ∷ [] =
    same_fields (U32 ∷ U32 ∷ B0_255 ∷ []) (Number s ∷ Number c ∷ Bytes a ∷ []) (Number r ∷ Number d ∷ Bytes b ∷ [])
    (record_body (event.Name s c a)) (record_body (event.Name r d b))
    (p.session_fits, (p.channel_fits, (p.account_fits, tt))) (q.session_fits, (q.channel_fits, (q.account_fits, tt)))
    (written_after-is (spelled_u32 s) (U32 ∷ B0_255 ∷ []) (Number c ∷ Bytes a ∷ []) [])
    (written_after-is (spelled_u32 r) (U32 ∷ B0_255 ∷ []) (Number d ∷ Bytes b ∷ []) []) e in
    cc

-- a channel that gets its class
pub class_agrees : (s r c d x y : ℕ) → IsClass s c x → IsClass r d y
    → record_body (event.Class s c x) ≡ record_body (event.Class r d y) → event.Class s c x ≡ event.Class r d y
class_agrees s r c d x y p q e =
    let fields : Number s ∷ Number c ∷ Number x ∷ [] ≡ Number r ∷ Number d ∷ Number y ∷ [] =
    same_fields (U32 ∷ U32 ∷ U8 ∷ []) (Number s ∷ Number c ∷ Number x ∷ []) (Number r ∷ Number d ∷ Number y ∷ [])
    (record_body (event.Class s c x)) (record_body (event.Class r d y))
    (p.session_fits, (p.channel_fits, (p.class_fits, tt))) (q.session_fits, (q.channel_fits, (q.class_fits, tt)))
    (written_after-is (spelled_u32 s) (U32 ∷ U8 ∷ []) (Number c ∷ Number x ∷ []) [])
    (written_after-is (spelled_u32 r) (U32 ∷ U8 ∷ []) (Number d ∷ Number y ∷ []) []) e in
    cc

-- a channel that is closed
pub close_agrees : (s r c d : ℕ) → IsClose s c → IsClose r d
    → record_body (event.Close s c) ≡ record_body (event.Close r d) → event.Close s c ≡ event.Close r d
close_agrees s r c d p q e =
    let fields : Number s ∷ Number c ∷ [] ≡ Number r ∷ Number d ∷ [] =
    same_fields (U32 ∷ U32 ∷ []) (Number s ∷ Number c ∷ []) (Number r ∷ Number d ∷ [])
    (record_body (event.Close s c)) (record_body (event.Close r d))
    (p.session_fits, (p.channel_fits, tt)) (q.session_fits, (q.channel_fits, tt))
    (written_after-is (spelled_u32 s) (U32 ∷ []) (Number c ∷ []) []) (written_after-is (spelled_u32 r) (U32 ∷ []) (Number d ∷ []) []) e in
    cc

-- a session that leaves
pub leave_agrees : (s r : ℕ) → IsU32 s → IsU32 r → record_body (event.Leave s) ≡ record_body (event.Leave r) → event.Leave s ≡ event.Leave r
leave_agrees s r p q e =
    let fields : Number s ∷ [] ≡ Number r ∷ [] =
    same_fields (U32 ∷ []) (Number s ∷ []) (Number r ∷ []) (record_body (event.Leave s)) (record_body (event.Leave r)) (p, tt) (q, tt) refl refl e in
    cc

-- a share that is booked
pub credit_agrees : (s r c d j k n m t u v w : ℕ) (x y : List ℕ) → IsCredit s c j n t v → IsCredit r d k m u w → length x ≤ 32 → length y ≤ 32
    → record_body (event.Credit s c j n t v x) ≡ record_body (event.Credit r d k m u w y) → event.Credit s c j n t v x ≡ event.Credit r d k m u w y
credit_agrees s r c d j k n m t u v w x y p q f g e =
    let fields : Number s ∷ Number c ∷ Number j ∷ Number n ∷ Number t ∷ Number v ∷ Bytes x ∷ [] ≡ Number r ∷ Number d ∷ Number k ∷ Number m ∷ Number u ∷ Number w ∷ Bytes y ∷ [] =
    same_fields (U32 ∷ U32 ∷ U32 ∷ U32 ∷ U32 ∷ U32 ∷ B0_255 ∷ [])
    (Number s ∷ Number c ∷ Number j ∷ Number n ∷ Number t ∷ Number v ∷ Bytes x ∷ []) (Number r ∷ Number d ∷ Number k ∷ Number m ∷ Number u ∷ Number w ∷ Bytes y ∷ [])
    (record_body (event.Credit s c j n t v x)) (record_body (event.Credit r d k m u w y))
    (p.session_fits, (p.channel_fits, (p.job_fits, (p.nonce_fits, (p.ntime_fits, (p.version_fits, (short x f, tt)))))))
    (q.session_fits, (q.channel_fits, (q.job_fits, (q.nonce_fits, (q.ntime_fits, (q.version_fits, (short y g, tt)))))))
    (written_after-is (spelled_u32 s) (U32 ∷ U32 ∷ U32 ∷ U32 ∷ U32 ∷ B0_255 ∷ []) (Number c ∷ Number j ∷ Number n ∷ Number t ∷ Number v ∷ Bytes x ∷ []) [])
    (written_after-is (spelled_u32 r) (U32 ∷ U32 ∷ U32 ∷ U32 ∷ U32 ∷ B0_255 ∷ []) (Number d ∷ Number k ∷ Number m ∷ Number u ∷ Number w ∷ Bytes y ∷ []) []) e in
    cc

-- a token that is granted
pub grant_agrees : (s r : ℕ) (a b : List ℕ) (f g : Bool) (x y : List (List ℕ)) → IsGrant s a x → IsGrant r b y → GrantFits f x → GrantFits g y
    → record_body (event.Grant s a f x) ≡ record_body (event.Grant r b g y) → event.Grant s a f x ≡ event.Grant r b g y
grant_agrees s r a b f g x y p q m n e =
    let fields : Number s ∷ Bytes a ∷ Truth f ∷ Parts x ∷ [] ≡ Number r ∷ Bytes b ∷ Truth g ∷ Parts y ∷ [] =
    same_fields (U32 ∷ B0_255 ∷ BOOL ∷ SEQ0_255_U256 ∷ []) (Number s ∷ Bytes a ∷ Truth f ∷ Parts x ∷ []) (Number r ∷ Bytes b ∷ Truth g ∷ Parts y ∷ [])
    (record_body (event.Grant s a f x)) (record_body (event.Grant r b g y))
    (p.session_fits, (p.account_fits, (tt, ((m.short, p.path_fits), tt)))) (q.session_fits, (q.account_fits, (tt, ((n.short, q.path_fits), tt))))
    (written_after-is (spelled_u32 s) (B0_255 ∷ BOOL ∷ SEQ0_255_U256 ∷ []) (Bytes a ∷ Truth f ∷ Parts x ∷ []) [])
    (written_after-is (spelled_u32 r) (B0_255 ∷ BOOL ∷ SEQ0_255_U256 ∷ []) (Bytes b ∷ Truth g ∷ Parts y ∷ []) []) e in
    cc

-- events of one kind with the same body are one
pub bodies_agree : (a b : Event) → CanBeKept a → CanBeKept b → record_kind a ≡ record_kind b → record_body a ≡ record_body b → a ≡ b
bodies_agree (event.Start a) (event.Start b) p q k e =
    ap (λ rules. event.Start rules) (rules_agree a b p.well_formed q.well_formed p.has_record.fits q.has_record.fits e)
bodies_agree (event.Enter w a f) (event.Enter v b g) p q k e = enter_agrees w v a b f g p.well_formed q.well_formed e
bodies_agree (event.Template s a) (event.Template r b) p q k e = template_agrees s r a b p.well_formed q.well_formed p.has_record.fits q.has_record.fits e
bodies_agree (event.Tip s a) (event.Tip r b) p q k e = tip_agrees s r a b p.well_formed q.well_formed e
bodies_agree (event.Open s h a c m) (event.Open r l b d n) p q k e =
    open_agrees s r h l a b c d m n p.well_formed q.well_formed p.has_record.fits q.has_record.fits e
bodies_agree (event.Name s c a) (event.Name r d b) p q k e = name_agrees s r c d a b p.well_formed q.well_formed e
bodies_agree (event.Class s c x) (event.Class r d y) p q k e = class_agrees s r c d x y p.well_formed q.well_formed e
bodies_agree (event.Close s c) (event.Close r d) p q k e = close_agrees s r c d p.well_formed q.well_formed e
bodies_agree (event.Leave s) (event.Leave r) p q k e = leave_agrees s r p.well_formed q.well_formed e
bodies_agree (event.Credit s c j n t v x) (event.Credit r d i m u w y) p q k e =
    credit_agrees s r c d j i n m t u v w x y p.well_formed q.well_formed p.has_record.fits q.has_record.fits e
bodies_agree (event.Grant s a f x) (event.Grant r b g y) p q k e =
    grant_agrees s r a b f g x y p.well_formed q.well_formed p.has_record.fits q.has_record.fits e
bodies_agree (event.Custom s a) (event.Custom r b) p q k e = custom_agrees s r a b p.well_formed q.well_formed p.has_record.fits q.has_record.fits e
bodies_agree a b p q k e = absurd (apart (record_kind a) (record_kind b) refl k)
