-- The keys of a settings file, and what stands where one isn't there (this project's own).
use Rattle.std.specs.Prelude.{ℕ, ◌^◌, ◌-◌, Bool, true, false, ◌&&◌, Option, None, Some, List, [], ◌∷◌, codes}
use Rattle.std.specs.List.{list_any}
use Rattle.std.specs.Str.{bytes_eq}
use Rattle.serde_json.specs.Data.{Members, no_members, member}

abbrev pub known_keys : List (List ℕ)
known_keys =
    codes "pool_script" ∷ codes "least_class" ∷ codes "fee" ∷ codes "rule" ∷ codes "window"
    ∷ codes "ntime_window" ∷ codes "credit_limit" ∷ codes "users" ∷ codes "version_rolling"
    ∷ codes "v1_base" ∷ codes "idle_turns" ∷ codes "door_turns" ∷ codes "workers"
    ∷ codes "address" ∷ codes "feed" ∷ []

-- one of them
unfoldable pub is_known_key : List ℕ → Bool
is_known_key key = list_any (bytes_eq key) known_keys

-- an object without other keys
abbrev pub has_known_keys : Members → Bool
has_known_keys no_members = true
has_known_keys (member key value more) = is_known_key key && has_known_keys more

abbrev pub is_settings_object : Option Members → Bool
is_settings_object None = false
is_settings_object (Some members) = has_known_keys members
