-- What the types of an event's fields say of it: numbers within their powers of two, hashes of 32
-- bytes, texts of at most 255 bytes (Stratum V2, "Data Types Mapping"). In a law numbers have no
-- end, so it says this of its events.
use Rattle.std.specs.Prelude.{◌≡◌, ℕ, ◌<◌, ◌^◌, Option, None, Some, List, length}
use Rattle.std.specs.List.{AllByRecursion}
use Rattle.pool_history.specs.declared.events.Event.{Event}
use Rattle.pool_history.specs.declared.events.Event.TheVariants as event
use Rattle.pool_history.specs.declared.settings.Rules.{Rules}
use Rattle.pool_history.specs.declared.templates.CustomData.{CustomData}
use Rattle.pool_history.specs.declared.templates.TemplateData.{TemplateData}
use Rattle.pool_history.specs.declared.templates.TipData.{TipData}
use Rattle.pool_history.specs.Ledger.{HasRecord}

-- a number of eight, sixteen, 32 and 64 bits
abbrev pub IsU8 : ℕ → Type 0
IsU8 n = n < 2 ^ 8

abbrev pub IsU16 : ℕ → Type 0
IsU16 n = n < 2 ^ 16

abbrev pub IsU32 : ℕ → Type 0
IsU32 n = n < 2 ^ 32

abbrev pub IsU64 : ℕ → Type 0
IsU64 n = n < 2 ^ 64

-- a text of at most 255 bytes
abbrev pub IsText : List ℕ → Type 0
IsText text = length text < 2 ^ 8

-- a hash, and hashes one after the other
abbrev pub IsHash : List ℕ → Type 0
IsHash bytes = length bytes ≡ 32

abbrev pub AreHashes : List (List ℕ) → Type 0
AreHashes path = AllByRecursion IsHash path

-- a window has 64 bits, where there is one
abbrev pub IsWindow : Option ℕ → Type 0
IsWindow None = Unit {0}
IsWindow (Some window) = IsU64 window

-- the fields of rules
pub record AreRules (rules : Rules) : Type 0 where
  pub least_class : IsU8 rules.least_class
  pub fee : IsU16 rules.fee
  pub window : IsWindow rules.window
  pub ntime_window : IsU32 rules.ntime_window
  pub credit_limit : IsU32 rules.credit_limit
  pub users : AllByRecursion IsText rules.users

-- the fields of a template
pub record IsTemplate (template : TemplateData) : Type 0 where
  pub template_id : IsU64 template.template_id
  pub version : IsU32 template.version
  pub coinbase_tx_version : IsU32 template.coinbase_tx_version
  pub coinbase_tx_input_sequence : IsU32 template.coinbase_tx_input_sequence
  pub coinbase_tx_value_remaining : IsU64 template.coinbase_tx_value_remaining
  pub coinbase_tx_outputs_count : IsU32 template.coinbase_tx_outputs_count
  pub coinbase_tx_locktime : IsU32 template.coinbase_tx_locktime
  pub merkle_path : AreHashes template.merkle_path

-- the fields of a tip
pub record IsTip (tip : TipData) : Type 0 where
  pub template_id : IsU64 tip.template_id
  pub prev_hash : IsHash tip.prev_hash
  pub header_timestamp : IsU32 tip.header_timestamp
  pub nbits : IsU32 tip.nbits
  pub target : IsHash tip.target

-- the fields of a miner's own job
pub record IsCustom (custom : CustomData) : Type 0 where
  pub channel_id : IsU32 custom.channel_id
  pub version : IsU32 custom.version
  pub prev_hash : IsHash custom.prev_hash
  pub min_ntime : IsU32 custom.min_ntime
  pub nbits : IsU32 custom.nbits
  pub coinbase_tx_version : IsU32 custom.coinbase_tx_version
  pub coinbase_tx_input_sequence : IsU32 custom.coinbase_tx_input_sequence
  pub coinbase_tx_locktime : IsU32 custom.coinbase_tx_locktime
  pub merkle_path : AreHashes custom.merkle_path

-- the fields of each kind of event
pub record IsEnter (worker flags : ℕ) : Type 0 where
  pub worker_fits : IsU32 worker
  pub flags_fit : IsU32 flags

pub record IsOffer (session : ℕ) (template : TemplateData) : Type 0 where
  pub session_fits : IsU32 session
  pub template_fits : IsTemplate template

pub record IsTipped (session : ℕ) (tip : TipData) : Type 0 where
  pub session_fits : IsU32 session
  pub tip_fits : IsTip tip

pub record IsOpen (session : ℕ) (account : List ℕ) (class : ℕ) : Type 0 where
  pub session_fits : IsU32 session
  pub account_fits : IsText account
  pub class_fits : IsU8 class

pub record IsName (session channel : ℕ) (account : List ℕ) : Type 0 where
  pub session_fits : IsU32 session
  pub channel_fits : IsU32 channel
  pub account_fits : IsText account

pub record IsClass (session channel class : ℕ) : Type 0 where
  pub session_fits : IsU32 session
  pub channel_fits : IsU32 channel
  pub class_fits : IsU8 class

pub record IsClose (session channel : ℕ) : Type 0 where
  pub session_fits : IsU32 session
  pub channel_fits : IsU32 channel

pub record IsCredit (session channel job nonce ntime version : ℕ) : Type 0 where
  pub session_fits : IsU32 session
  pub channel_fits : IsU32 channel
  pub job_fits : IsU32 job
  pub nonce_fits : IsU32 nonce
  pub ntime_fits : IsU32 ntime
  pub version_fits : IsU32 version

pub record IsGrant (session : ℕ) (account : List ℕ) (path : List (List ℕ)) : Type 0 where
  pub session_fits : IsU32 session
  pub account_fits : IsText account
  pub path_fits : AreHashes path

pub record IsBrought (session : ℕ) (custom : CustomData) : Type 0 where
  pub session_fits : IsU32 session
  pub custom_fits : IsCustom custom

-- each field of the event is of its type
abbrev pub IsWellFormed : Event → Type 0
IsWellFormed (event.Start rules) = AreRules rules
IsWellFormed (event.Enter worker role flags) = IsEnter worker flags
IsWellFormed (event.Template session template) = IsOffer session template
IsWellFormed (event.Tip session tip) = IsTipped session tip
IsWellFormed (event.Open session kind account class lead) = IsOpen session account class
IsWellFormed (event.Name session channel account) = IsName session channel account
IsWellFormed (event.Class session channel class) = IsClass session channel class
IsWellFormed (event.Close session channel) = IsClose session channel
IsWellFormed (event.Leave session) = IsU32 session
IsWellFormed (event.Credit session channel job nonce ntime version extranonce) =
    IsCredit session channel job nonce ntime version
IsWellFormed (event.Grant session account fixed path) = IsGrant session account path
IsWellFormed (event.Custom session custom) = IsBrought session custom

-- the event is well formed and has a record, so it can be kept
pub record CanBeKept (one : Event) : Type 0 where
  pub well_formed : IsWellFormed one
  pub has_record : HasRecord one
