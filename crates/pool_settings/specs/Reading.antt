-- What a settings file says: one JSON object, each key with its range and its default (this
-- project's own; JSON is what `serde_json` reads).
use Rattle.std.specs.Prelude.{◌≡◌, ℕ, ◌^◌, ◌-◌, ◌≤◌, Bool, true, if◌then◌else◌, ◌&&◌, Option, None, Some, is_some, Result, Ok, Err, List, [], ◌∷◌, codes, length, nat_le}
use Rattle.std.specs.Option.{option_and_then, option_map}
use Rattle.std.specs.Str.{IsUtf8, bytes_eq}
use Rattle.hex.specs.Hex.{decode_of}
use Rattle.hex.specs.declared.FromHexError.{FromHexError}
use Rattle.serde_json.specs.Data.{Data, Items, no_items, item}
use Rattle.serde_json.specs.Find.{as_array, as_bool, as_number, as_object, as_str, as_u64, get}
use Rattle.serde_json.specs.Read.{read}
use Rattle.pool_base.specs.Results.{◌>>=◌}
use Rattle.pool_history.specs.declared.settings.Rules.{Rules}
use Rattle.pool_history.specs.Accounts.{are_in_range}
use Rattle.pool_history.specs.Conditions.{found, provided}
use Rattle.pool_io.specs.declared.limits.Limits.{Limits}
use Rattle.pool_settings.specs.declared.settings.Settings.{Settings}
use Rattle.pool_settings.specs.declared.settings.SettingsError.{SettingsError}
use Rattle.pool_settings.specs.declared.settings.SettingsError.TheVariants.{Bad, Memory}
use Rattle.pool_settings.specs.Keys.{is_settings_object}

-- what a value says, or else the default
abbrev pub given_or : {X : Type 0} → Option X → (Data → Option X) → Option Data → Option X
given_or default says None = default
given_or default says (Some value) = says value

-- a whole number from 0 to 2^64 - 1: without point, exponent or minus
abbrev pub whole : Data → Option ℕ
whole value = option_and_then as_u64 (as_number value)

-- a number in its range
abbrev pub between : ℕ → ℕ → ℕ → Option ℕ
between least most n = if nat_le least n && nat_le n most then Some n else None

-- the number of a key in its range; a key without a default has to be there
abbrev pub number_at : List ℕ → Option ℕ → ℕ → ℕ → Data → Option ℕ
number_at key default least most settings =
    option_and_then (between least most) (given_or default whole (get key settings))

-- a text of so many bytes
abbrev pub sized : ℕ → ℕ → List ℕ → Option (List ℕ)
sized least most text =
    if nat_le least (length text) && nat_le (length text) most then Some text else None

-- the text of a key, of 1 to 255 bytes
abbrev pub text_at : List ℕ → List ℕ → Data → Option (List ℕ)
text_at key default settings =
    option_and_then (sized 1 255) (given_or (Some default) as_str (get key settings))

-- a truth
abbrev pub flag_at : List ℕ → Bool → Data → Option Bool
flag_at key default settings = given_or (Some default) as_bool (get key settings)

-- bytes in hexadecimal
abbrev pub decoded : Result (List ℕ) FromHexError → Option (List ℕ)
decoded (Ok bytes) = Some bytes
decoded (Err error) = None

-- the pool's script, which has to be there
abbrev pub script_at : Data → Option (List ℕ)
script_at settings =
    option_and_then (λ text. decoded (decode_of text))
    (option_and_then as_str (get (codes "pool_script") settings))

-- no window may be given
abbrev pub without_window : Option Data → Option (Option ℕ)
without_window None = Some None
without_window (Some value) = None

-- the window that a rule has: it is there exactly where the rule is PPLNS
abbrev pub window_by : List ℕ → Data → Option (Option ℕ)
window_by rule settings =
    if bytes_eq rule (codes "proportional") then without_window (get (codes "window") settings)
    else if bytes_eq rule (codes "pplns")
    then option_map (λ window. Some window)
    (number_at (codes "window") None 1 (2 ^ 64 - 1) settings)
    else None

-- the rule has to be there
abbrev pub window_at : Data → Option (Option ℕ)
window_at settings =
    option_and_then (λ rule. window_by rule settings)
    (option_and_then as_str (get (codes "rule") settings))

-- a text of at most 255 bytes
abbrev pub short_text : Data → Option (List ℕ)
short_text value = option_and_then (sized 0 255) (as_str value)

-- texts of at most 255 bytes
abbrev pub texts_of : Items → Option (List (List ℕ))
texts_of no_items = Some []
texts_of (item value more) =
    option_and_then (λ text. option_map (λ texts. text ∷ texts) (texts_of more)) (short_text value)

-- the accounts that are listed
abbrev pub users_at : Data → Option (List (List ℕ))
users_at settings =
    given_or (Some []) (λ value. option_and_then texts_of (as_array value))
    (get (codes "users") settings)

-- rules whose users are distinct accounts, and whose script isn't too long
abbrev pub rules_in_range : Rules → Result Rules SettingsError
rules_in_range rules = provided (are_in_range rules) Bad rules

-- the rules of the pool, each in its range
abbrev pub rules_in : Data → Result Rules SettingsError
rules_in settings = do
  script ← found Bad (script_at settings)
  least_class ← found Bad (number_at (codes "least_class") None 0 60 settings)
  fee ← found Bad (number_at (codes "fee") None 0 10000 settings)
  window ← found Bad (window_at settings)
  ntime_window ← found Bad (number_at (codes "ntime_window") (Some 7200) 0 86400 settings)
  credit_limit ← found Bad
      (number_at (codes "credit_limit") (Some 16777215) 1 16777215 settings)
  version_rolling ← found Bad (flag_at (codes "version_rolling") true settings)
  users ← found Bad (users_at settings)
  rules_in_range (record {
    pool_script = script;
    least_class = least_class;
    fee = fee;
    window = window;
    ntime_window = ntime_window;
    credit_limit = credit_limit;
    version_rolling = version_rolling;
    users = users;
  })

-- how long sessions and doors are waited for
abbrev pub limits_in : Data → Result Limits SettingsError
limits_in settings = do
  idle_turns ← found Bad (number_at (codes "idle_turns") (Some 36000) 1 (2 ^ 63 - 1) settings)
  door_turns ← found Bad (number_at (codes "door_turns") (Some 36000) 1 (2 ^ 63 - 1) settings)
  Ok (record { idle_turns = idle_turns; door_turns = door_turns })

-- what an object says that has no other keys
abbrev pub settings_in : Data → Result Settings SettingsError
settings_in settings = do
  known ← provided (is_settings_object (as_object settings)) Bad settings
  rules ← rules_in settings
  base ← found Bad (number_at (codes "v1_base") (Some 32) 0 60 settings)
  limits ← limits_in settings
  workers ← found Bad (number_at (codes "workers") (Some 4) 1 64 settings)
  address ← found Bad (text_at (codes "address") (codes "127.0.0.1:3333") settings)
  feed ← found Bad (text_at (codes "feed") (codes "127.0.0.1:8442") settings)
  Ok (record {
    rules = rules;
    base = base;
    limits = limits;
    workers = workers;
    address = address;
    feed = feed;
  })

-- what the settings of any file are: rules as a Start event has them, and each other number in the
-- range of its key
pub record AreInRange (settings : Settings) : Type 0 where
  pub rules : are_in_range settings.rules ≡ true
  pub base : settings.base ≤ 60
  pub idle_turns : (1 ≤ settings.limits.idle_turns) × (settings.limits.idle_turns ≤ 2 ^ 63 - 1)
  pub door_turns : (1 ≤ settings.limits.door_turns) × (settings.limits.door_turns ≤ 2 ^ 63 - 1)
  pub workers : (1 ≤ settings.workers) × (settings.workers ≤ 64)

-- the bytes of a file are settings: at most 65,536 of them, one JSON object
pub record AreSettings (bytes : List ℕ) (settings : Settings) : Type 0 where
  pub short : length bytes ≤ 65536
  pub utf8 : IsUtf8 bytes
  pub value : Data
  pub parsed : read bytes ≡ Some value
  pub says : settings_in value ≡ Ok settings

-- an answer is what was told, but for lack of memory
abbrev pub IsSaid : {X : Type 0} → Option X → Result X SettingsError → Type 0
IsSaid told (Ok x) = told ≡ Some x
IsSaid told (Err Bad) = told ≡ None
IsSaid told (Err Memory) = Unit {0}

abbrev pub IsAnswered : {X : Type 0} → Result X SettingsError → Result X SettingsError → Type 0
IsAnswered answer (Ok x) = answer ≡ Ok x
IsAnswered answer (Err Bad) = answer ≡ Err Bad
IsAnswered answer (Err Memory) = Unit {0}
