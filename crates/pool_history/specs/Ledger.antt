-- How a history is written as a ledger (this project's own; fields are spelled as in Stratum V2,
-- "Data Types Mapping").
-- Computed on a record of each kind and on the worked session's ledgers (`SessionS`, `RecordRows`,
-- `LedgerLengths`).
use Rattle.std.specs.Prelude.{◌≡◌, ℕ, ◌<◌, ◌≤◌, ◌^◌, Bool, false, Option, None, Some, List, [], ◌∷◌, ◌++◌, length, codes}
use Rattle.std.specs.List.{AllByRecursion, flat_map}
use Rattle.std.specs.Str.{IsUtf8}
use Rattle.sha2.specs.Sha256.{sha256}
use Rattle.sv2_types.specs.Spelling.{spelled_u8, spelled_u16, spelled_u32, spelled_u64, spelled_boolean, spelled_str255, spelled_b255, spelled_b64k, spelled_b16m, spelled_seq_u256}
use Rattle.pool_history.specs.declared.events.Event.{Event}
use Rattle.pool_history.specs.declared.events.Event.TheVariants as event
use Rattle.pool_history.specs.declared.events.Kind.{Kind}
use Rattle.pool_history.specs.declared.events.Kind.TheVariants as kind
use Rattle.pool_history.specs.declared.events.Role.{Role}
use Rattle.pool_history.specs.declared.events.Role.TheVariants as role
use Rattle.pool_history.specs.declared.settings.Rules.{Rules}
use Rattle.pool_history.specs.declared.templates.CustomData.{CustomData}
use Rattle.pool_history.specs.declared.templates.TemplateData.{TemplateData}
use Rattle.pool_history.specs.declared.templates.TipData.{TipData}

-- a window: rule 0 has none, rule 1 says it
abbrev pub spelled_rule : Option ℕ → List ℕ
spelled_rule None = spelled_u8 0 ++ spelled_u64 0
spelled_rule (Some window) = spelled_u8 1 ++ spelled_u64 window

-- a list of accounts: two bytes of count, then each
abbrev pub spelled_users : List (List ℕ) → List ℕ
spelled_users users = spelled_u16 (length users) ++ flat_map spelled_str255 users

-- the rules
abbrev pub spelled_rules : Rules → List ℕ
spelled_rules rules =
    spelled_b255 rules.pool_script ++ spelled_u8 rules.least_class ++ spelled_u16 rules.fee
    ++ spelled_rule rules.window
    ++ spelled_u32 rules.ntime_window ++ spelled_u32 rules.credit_limit
    ++ spelled_boolean rules.version_rolling ++ spelled_users rules.users

-- a role
abbrev pub role_number : Role → ℕ
role_number role.Miner = 0
role_number role.Feed = 1
role_number role.Solo = 2

-- a kind of channel
abbrev pub kind_number : Kind → ℕ
kind_number kind.Standard = 0
kind_number kind.Extended = 1
kind_number kind.V1 = 2

-- the fields of a template (Stratum V2, "NewTemplate")
abbrev pub spelled_template : TemplateData → List ℕ
spelled_template template =
    spelled_u64 template.template_id ++ spelled_boolean template.future_template
    ++ spelled_u32 template.version
    ++ spelled_u32 template.coinbase_tx_version ++ spelled_b255 template.coinbase_prefix
    ++ spelled_u32 template.coinbase_tx_input_sequence
    ++ spelled_u64 template.coinbase_tx_value_remaining
    ++ spelled_u32 template.coinbase_tx_outputs_count
    ++ spelled_b64k template.coinbase_tx_outputs ++ spelled_u32 template.coinbase_tx_locktime
    ++ spelled_seq_u256 template.merkle_path

-- the fields of a tip (Stratum V2, "SetNewPrevHash" of the template distribution protocol)
abbrev pub spelled_tip : TipData → List ℕ
spelled_tip tip =
    spelled_u64 tip.template_id ++ tip.prev_hash ++ spelled_u32 tip.header_timestamp
    ++ spelled_u32 tip.nbits ++ tip.target

-- the fields of a miner's own job, without the number of its request
abbrev pub spelled_custom : CustomData → List ℕ
spelled_custom custom =
    spelled_u32 custom.channel_id ++ spelled_b255 custom.token ++ spelled_u32 custom.version
    ++ custom.prev_hash
    ++ spelled_u32 custom.min_ntime ++ spelled_u32 custom.nbits
    ++ spelled_u32 custom.coinbase_tx_version
    ++ spelled_b255 custom.coinbase_prefix ++ spelled_u32 custom.coinbase_tx_input_sequence
    ++ spelled_b64k custom.coinbase_tx_outputs
    ++ spelled_u32 custom.coinbase_tx_locktime ++ spelled_seq_u256 custom.merkle_path

-- the kind of a record
abbrev pub record_kind : Event → ℕ
record_kind (event.Start rules) = 0
record_kind (event.Enter worker role flags) = 1
record_kind (event.Template session template) = 2
record_kind (event.Tip session tip) = 3
record_kind (event.Open session kind account class lead) = 4
record_kind (event.Name session channel account) = 5
record_kind (event.Class session channel class) = 6
record_kind (event.Close session channel) = 7
record_kind (event.Leave session) = 8
record_kind (event.Credit session channel job nonce ntime version extranonce) = 9
record_kind (event.Grant session account fixed path) = 10
record_kind (event.Custom session custom) = 11

-- the body of a record
abbrev pub record_body : Event → List ℕ
record_body (event.Start rules) = spelled_rules rules
record_body (event.Enter worker role flags) = spelled_u32 worker ++ spelled_u8 (role_number role)
    ++ spelled_u32 flags
record_body (event.Template session template) = spelled_u32 session ++ spelled_template template
record_body (event.Tip session tip) = spelled_u32 session ++ spelled_tip tip
record_body (event.Open session kind account class lead) =
    spelled_u32 session ++ spelled_u8 (kind_number kind) ++ spelled_str255 account
    ++ spelled_u8 class ++ spelled_b255 lead
record_body (event.Name session channel account) = spelled_u32 session ++ spelled_u32 channel
    ++ spelled_str255 account
record_body (event.Class session channel class) = spelled_u32 session ++ spelled_u32 channel
    ++ spelled_u8 class
record_body (event.Close session channel) = spelled_u32 session ++ spelled_u32 channel
record_body (event.Leave session) = spelled_u32 session
record_body (event.Credit session channel job nonce ntime version extranonce) =
    spelled_u32 session ++ spelled_u32 channel ++ spelled_u32 job ++ spelled_u32 nonce
    ++ spelled_u32 ntime ++ spelled_u32 version ++ spelled_b255 extranonce
record_body (event.Grant session account fixed path) =
    spelled_u32 session ++ spelled_str255 account ++ spelled_boolean fixed ++ spelled_seq_u256 path
record_body (event.Custom session custom) = spelled_u32 session ++ spelled_custom custom

-- an event's record: its kind, three bytes of length, its body
abbrev pub record_of : Event → List ℕ
record_of event = spelled_u8 (record_kind event) ++ spelled_b16m (record_body event)

-- the magic of format 1, "SV2LEDG1"
abbrev pub magic_1 : List ℕ
magic_1 = codes "SV2LEDG1"

-- the magic of format 2, "SV2LEDG2"
abbrev pub magic_2 : List ℕ
magic_2 = codes "SV2LEDG2"

-- a ledger of format 1: the magic, then a record for each event
abbrev pub ledger_text_1 : List Event → List ℕ
ledger_text_1 history = magic_1 ++ flat_map record_of history

-- the hash of a record and of all before it (FIPS 180-4)
abbrev pub chain : List ℕ → List ℕ → List ℕ
chain before bytes = sha256 (before ++ bytes)

-- the records of format 2 behind a hash: each is followed by its own
abbrev pub chained : List ℕ → List Event → List (List ℕ)
chained before [] = []
chained before (event ∷ more) =
    (record_of event ++ chain before (record_of event))
    ∷ chained (chain before (record_of event)) more

-- the magic stands before the first record, or alone
abbrev pub with_magic : List (List ℕ) → List (List ℕ)
with_magic [] = magic_2 ∷ []
with_magic (first ∷ more) = (magic_2 ++ first) ∷ more

-- the pieces in which a ledger is kept: the magic with the first record, then a record for each
-- event
abbrev pub kept_records : List Event → List (List ℕ)
kept_records history = with_magic (chained (sha256 magic_2) history)

-- a ledger of format 2: the pieces one after the other
abbrev pub ledger_text : List Event → List ℕ
ledger_text history = flat_map (λ piece. piece) (kept_records history)

-- the lists of the rules fit their types
pub record RulesFit (rules : Rules) : Type 0 where
  pub script : length rules.pool_script < 2 ^ 8
  pub users : length rules.users < 2 ^ 16

-- the lists of a template
pub record TemplateFits (template : TemplateData) : Type 0 where
  pub prefix : length template.coinbase_prefix < 2 ^ 8
  pub outputs : length template.coinbase_tx_outputs < 2 ^ 16
  pub path : length template.merkle_path < 2 ^ 8

-- the lists of a miner's own job
pub record CustomFits (custom : CustomData) : Type 0 where
  pub token : length custom.token < 2 ^ 8
  pub prefix : length custom.coinbase_prefix < 2 ^ 8
  pub outputs : length custom.coinbase_tx_outputs < 2 ^ 16
  pub path : length custom.merkle_path < 2 ^ 8

-- a path is said where it is fixed, and is short enough
pub record GrantFits (fixed : Bool) (path : List (List ℕ)) : Type 0 where
  pub none : fixed ≡ false → path ≡ []
  pub short : length path < 2 ^ 8

-- the lists of an event fit their types
abbrev pub EventFits : Event → Type 0
EventFits (event.Start rules) = RulesFit rules
EventFits (event.Template session template) = TemplateFits template
EventFits (event.Open session kind account class lead) = length lead ≤ 32
EventFits (event.Credit session channel job nonce ntime version extranonce) = length extranonce ≤ 32
EventFits (event.Grant session account fixed path) = GrantFits fixed path
EventFits (event.Custom session custom) = CustomFits custom
EventFits (event.Enter worker role flags) = Unit {0}
EventFits (event.Tip session tip) = Unit {0}
EventFits (event.Name session channel account) = Unit {0}
EventFits (event.Class session channel class) = Unit {0}
EventFits (event.Close session channel) = Unit {0}
EventFits (event.Leave session) = Unit {0}

-- the texts of an event are UTF-8
abbrev pub TextsFit : Event → Type 0
TextsFit (event.Start rules) = AllByRecursion IsUtf8 rules.users
TextsFit (event.Open session kind account class lead) = IsUtf8 account
TextsFit (event.Name session channel account) = IsUtf8 account
TextsFit (event.Grant session account fixed path) = IsUtf8 account
TextsFit (event.Enter worker role flags) = Unit {0}
TextsFit (event.Template session template) = Unit {0}
TextsFit (event.Tip session tip) = Unit {0}
TextsFit (event.Class session channel class) = Unit {0}
TextsFit (event.Close session channel) = Unit {0}
TextsFit (event.Leave session) = Unit {0}
TextsFit (event.Credit session channel job nonce ntime version extranonce) = Unit {0}
TextsFit (event.Custom session custom) = Unit {0}

-- an event has a record: its lists fit, its texts are UTF-8, and its body has at most 300,000 bytes
pub record HasRecord (event : Event) : Type 0 where
  pub fits : EventFits event
  pub texts : TextsFit event
  pub short : length (record_body event) ≤ 300000
