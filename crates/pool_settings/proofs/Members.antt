-- The keys of an object's members.
use Rattle.std.proofs.Common.{◌≡◌, ℕ, ◌&&◌, List, [], ◌∷◌, map, String, string_bytes, refl, ap}
use Rattle.std.specs.List.{list_all}
use Rattle.std.specs.declared.alloc.Global.{Global}
use Rattle.serde_json.specs.View.{members_view}
use Rattle.serde_json.specs.declared.value.Value.{Value}
use Rattle.pool_settings.specs.Keys.{has_known_keys, is_known_key}

pub known_members : (entries : List (String Global × Value))
    → has_known_keys (members_view entries) ≡ list_all (λ entry. is_known_key (string_bytes entry.0)) entries
known_members [] = refl
known_members (entry ∷ more) = ap (λ b. is_known_key (string_bytes entry.0) && b) (known_members more)
