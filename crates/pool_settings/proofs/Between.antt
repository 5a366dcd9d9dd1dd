-- Settings that were read are in their ranges.
use Rattle.std.proofs.Common.{◌≡◌, ◌≤◌, ◌^◌, ◌-◌, ℕ, Bool, true, false, cond, ◌&&◌, codes, nat_le, IfOk, Option, None, Some, Result, Ok, Err, List, refl, subst}
use Rattle.std.proofs.lemmas.Bool.{leb-true}
use Rattle.std.specs.Option.{option_and_then}
use Rattle.serde_json.specs.Data.{Data}
use Rattle.serde_json.specs.Find.{as_object, get}
use Rattle.pool_base.specs.Results.{◌>>=◌}
use Rattle.pool_history.specs.declared.settings.Rules.{Rules}
use Rattle.pool_history.specs.Accounts.{are_in_range}
use Rattle.pool_history.specs.Conditions.{found, provided}
use Rattle.pool_io.specs.declared.limits.Limits.{Limits}
use Rattle.pool_settings.specs.declared.settings.Settings.{Settings}
use Rattle.pool_settings.specs.declared.settings.SettingsError.{SettingsError}
use Rattle.pool_settings.specs.declared.settings.SettingsError.TheVariants.{Bad, Memory}
use Rattle.pool_settings.specs.Keys.{is_settings_object}
use Rattle.pool_settings.specs.Reading.{AreInRange, IsAnswered, between, flag_at, given_or, limits_in, number_at, rules_in, rules_in_range, script_at, settings_in, text_at, users_at, whole, window_at}

-- what went well
err-ok : {X : Type 0} {e : SettingsError} {x : X} → ◌≡◌ {A = Result X SettingsError} (Err e) (Ok x) → ⊥
err-ok h = cc

ok-same : {X : Type 0} {x y : X} → ◌≡◌ {A = Result X SettingsError} (Ok x) (Ok y) → x ≡ y
ok-same h = cc

none-some : {X : Type 0} {x : X} → ◌≡◌ {A = Option X} None (Some x) → ⊥
none-some h = cc

some-same : {X : Type 0} {x y : X} → ◌≡◌ {A = Option X} (Some x) (Some y) → x ≡ y
some-same h = cc

step-ok : {X Y : Type 0} (r : Result X SettingsError) (f : X → Result Y SettingsError) (y : Y) → (r >>= f) ≡ Ok y
    → (x : X) × (r ≡ Ok x) × (f x ≡ Ok y)
step-ok (Ok x) f y h = (x, refl, h)
step-ok (Err e) f y h = absurd (err-ok h)

found-some : {X : Type 0} (o : Option X) (x : X) → found Bad o ≡ Ok x → o ≡ Some x
found-some None x h = absurd (err-ok h)
found-some (Some y) x h = cc

-- a number is in the range of its key
number-between : (key : List ℕ) (default : Option ℕ) (least most : ℕ) (value : Data) (n : ℕ)
    → found Bad (number_at key default least most value) ≡ Ok n → (least ≤ n) × (n ≤ most)
number-between key default least most value n h =
    at (given_or default whole (get key value)) (found-some (number_at key default least most value) n h) where
      at : (o : Option ℕ) → option_and_then (between least most) o ≡ Some n → (least ≤ n) × (n ≤ most)
      at None h = absurd (none-some h)
      at (Some m) h = by (nat_le least m) refl (nat_le m most) refl h where
        by : (a : Bool) → nat_le least m ≡ a → (b : Bool) → nat_le m most ≡ b → cond (a && b) (Some m) None ≡ Some n → (least ≤ n) × (n ≤ most)
        by true p true q h = subst (λ k. (least ≤ k) × (k ≤ most)) (some-same h) (leb-true least m p, leb-true m most q)
        by true p false q h = absurd (none-some h)
        by false p b q h = absurd (none-some h)

-- so are rules
rules-in_range : (rules rules' : Rules) → rules_in_range rules ≡ Ok rules' → are_in_range rules' ≡ true
rules-in_range rules rules' = by (are_in_range rules) refl where
  by : (b : Bool) → are_in_range rules ≡ b → provided b Bad rules ≡ Ok rules' → are_in_range rules' ≡ true
  by true p h = subst (λ r. are_in_range r ≡ true) (ok-same h) p
  by false p h = absurd (err-ok h)

rules_in-range : (value : Data) (rules : Rules) → rules_in value ≡ Ok rules → are_in_range rules ≡ true
rules_in-range value rules h =
    let script = step-ok (found Bad (script_at value)) _ rules h in
    let least = step-ok (found Bad (number_at (codes "least_class") None 0 60 value)) _ rules script.2 in
    let fee = step-ok (found Bad (number_at (codes "fee") None 0 10000 value)) _ rules least.2 in
    let window = step-ok (found Bad (window_at value)) _ rules fee.2 in
    let ntime = step-ok (found Bad (number_at (codes "ntime_window") (Some 7200) 0 86400 value)) _ rules window.2 in
    let limit = step-ok (found Bad (number_at (codes "credit_limit") (Some 16777215) 1 16777215 value)) _ rules ntime.2 in
    let rolling = step-ok (found Bad (flag_at (codes "version_rolling") true value)) _ rules limit.2 in
    let users = step-ok (found Bad (users_at value)) _ rules rolling.2 in
    rules-in_range (record {
      pool_script = script.0;
      least_class = least.0;
      fee = fee.0;
      window = window.0;
      ntime_window = ntime.0;
      credit_limit = limit.0;
      version_rolling = rolling.0;
      users = users.0;
    }) rules users.2

-- and limits
record HasLimits (limits : Limits) : Type 0 where
  idle_turns : (1 ≤ limits.idle_turns) × (limits.idle_turns ≤ 2 ^ 63 - 1)
  door_turns : (1 ≤ limits.door_turns) × (limits.door_turns ≤ 2 ^ 63 - 1)

limits_in-range : (value : Data) (limits : Limits) → limits_in value ≡ Ok limits → HasLimits limits
limits_in-range value limits h =
    let idle = step-ok (found Bad (number_at (codes "idle_turns") (Some 36000) 1 (2 ^ 63 - 1) value)) _ limits h in
    let door = step-ok (found Bad (number_at (codes "door_turns") (Some 36000) 1 (2 ^ 63 - 1) value)) _ limits idle.2 in
    subst HasLimits (ok-same door.2) (record {
      idle_turns = number-between (codes "idle_turns") (Some 36000) 1 (2 ^ 63 - 1) value idle.0 idle.1;
      door_turns = number-between (codes "door_turns") (Some 36000) 1 (2 ^ 63 - 1) value door.0 door.1;
    })

said-in_range : (value : Data) (settings : Settings) → settings_in value ≡ Ok settings → AreInRange settings
said-in_range value settings h =
    let known = step-ok (provided (is_settings_object (as_object value)) Bad value) _ settings h in
    let rules = step-ok (rules_in value) _ settings known.2 in
    let base = step-ok (found Bad (number_at (codes "v1_base") (Some 32) 0 60 value)) _ settings rules.2 in
    let limits = step-ok (limits_in value) _ settings base.2 in
    let workers = step-ok (found Bad (number_at (codes "workers") (Some 4) 1 64 value)) _ settings limits.2 in
    let address = step-ok (found Bad (text_at (codes "address") (codes "127.0.0.1:3333") value)) _ settings workers.2 in
    let feed = step-ok (found Bad (text_at (codes "feed") (codes "127.0.0.1:8442") value)) _ settings address.2 in
    let limited : HasLimits limits.0 = limits_in-range value limits.0 limits.1 in
    subst AreInRange (ok-same feed.2) (record {
      rules = rules_in-range value rules.0 rules.1;
      base = (number-between (codes "v1_base") (Some 32) 0 60 value base.0 base.1).1;
      idle_turns = limited.idle_turns;
      door_turns = limited.door_turns;
      workers = number-between (codes "workers") (Some 4) 1 64 value workers.0 workers.1;
    })

pub answered-in_range : (value : Data) (answer : Result Settings SettingsError) → IsAnswered (settings_in value) answer → IfOk answer AreInRange
answered-in_range value (Ok settings) is = said-in_range value settings is
answered-in_range value (Err Bad) is = tt
answered-in_range value (Err Memory) is = tt
