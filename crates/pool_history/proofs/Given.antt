-- What the worked examples are made of: the rules, templates, tips and events of one session.
use Rattle.std.proofs.Common.{◌≡◌, ℕ, Bool, true, false, None, List, [], ◌∷◌, lit≤}
use Rattle.std.specs.Prelude.{replicate}
use Rattle.pool_history.specs.declared.events.Event.{Event}
use Rattle.pool_history.specs.declared.events.Event.TheVariants as event
use Rattle.pool_history.specs.declared.events.Kind.TheVariants as kind
use Rattle.pool_history.specs.declared.events.Role.TheVariants as role
use Rattle.pool_history.specs.declared.settings.Rules.{Rules}
use Rattle.pool_history.specs.declared.templates.TemplateData.{TemplateData}
use Rattle.pool_history.specs.declared.templates.TipData.{TipData}
use Rattle.pool_history.specs.Judging.{Share}

-- one account more than none, a fee of one percent, and at most three credits
abbrev pub rules : Rules
rules = record {
  pool_script = 0x51 ∷ [];
  least_class = 0;
  fee = 100;
  window = None;
  ntime_window = 600;
  credit_limit = 3;
  version_rolling = true;
  users = [];
}

-- a template of 1,000 satoshis
abbrev pub template_of : ℕ → Bool → TemplateData
template_of id future = record {
  template_id = id;
  future_template = future;
  version = 0x20000000;
  coinbase_tx_version = 2;
  coinbase_prefix = 0x51 ∷ 0x51 ∷ [];
  coinbase_tx_input_sequence = 0xffffffff;
  coinbase_tx_value_remaining = 1000;
  coinbase_tx_outputs_count = 0;
  coinbase_tx_outputs = [];
  coinbase_tx_locktime = 0;
  merkle_path = [];
  path_fits = lit≤ tt;
}

-- a tip that each hash meets
abbrev pub tip_of : ℕ → ℕ → TipData
tip_of id byte =
    record { template_id = id; prev_hash = replicate 32 byte; header_timestamp = 1000000; nbits = 0x207fffff; target = replicate 32 0xff }

-- the events of the session
abbrev pub start : Event
start = event.Start rules

abbrev pub enters : Event
enters = event.Enter 0 role.Solo 0

abbrev pub opens : Event
opens = event.Open 0 kind.Extended (0x61 ∷ []) 0 (replicate 4 0)

abbrev pub comes : Event
comes = event.Template 0 (template_of 5 true)

abbrev pub tips : Event
tips = event.Tip 0 (tip_of 5 0x11)

abbrev pub credits : Event
credits = event.Credit 0 1 1 0 1000000 0x20000000 (replicate 8 0)

abbrev pub leaves : Event
leaves = event.Leave 0

-- the whole session
abbrev pub session : List Event
session = start ∷ enters ∷ opens ∷ comes ∷ tips ∷ credits ∷ leaves ∷ []

-- the past up to the opening, the template, and the tip: the last event stands first
abbrev pub opened : List Event
opened = opens ∷ enters ∷ start ∷ []

abbrev pub templated : List Event
templated = comes ∷ opened

abbrev pub tipped : List Event
tipped = tips ∷ templated

-- the share of the session
abbrev pub share : Share
share = record {
  is_standard = false;
  channel = 1;
  job = 1;
  nonce = 0;
  ntime = 1000000;
  version = 0x20000000;
  extranonce = replicate 8 0;
}

-- an extended channel may roll any number of bytes
pub extended_rolls : (size : ℕ) → kind.Extended ≡ kind.Standard → size ≡ 0
extended_rolls size e = cc
