-- `mining.configure`: which bits of a version the miner rolls (BIP 310, "version-rolling").
use Rattle.std.specs.Prelude.{ℕ, Bool, true, false, ◌&&◌, if◌then◌else◌, Option, None, Some, List, [], ◌∷◌, bit_and, codes, option_map}
use Rattle.std.specs.Option.{option_and_then}
use Rattle.std.specs.List.{list_any}
use Rattle.std.specs.Str.{bytes_eq}
use Rattle.serde_json.specs.Data.{Data, boolean, string, object, Items, no_items, item, Members, no_members, put}
use Rattle.serde_json.specs.Find.{as_array, as_str, get, get_item}
use Rattle.pool_history.specs.declared.settings.Rules.{Rules}
use Rattle.v1_lines.specs.declared.errors.V1Error.TheVariants.{MalformedRequest}
use Rattle.v1_lines.specs.HexNumbers.{hex_word, word_text}
use Rattle.v1_translate.specs.State.{Terms, V1State, Answer, Refusal, Reaction, saying}

-- the texts of an array of texts alone
abbrev pub texts_in : Items → Option (List (List ℕ))
texts_in no_items = Some []
texts_in (item value items) =
    option_and_then (λ text. option_map (λ texts. text ∷ texts) (texts_in items)) (as_str value)

-- the names of what is asked for
abbrev pub names_in : Items → Option (List (List ℕ))
names_in params = option_and_then texts_in (option_and_then as_array (get_item 0 params))

-- the option that asks for a mask
abbrev pub mask_option : Items → Option Data
mask_option params = option_and_then (get (codes "version-rolling.mask")) (get_item 1 params)

-- the mask that is asked for: eight digits, or all bits
abbrev pub asked_mask : Option Data → Option ℕ
asked_mask None = Some 0xffffffff
asked_mask (Some value) = option_and_then hex_word (as_str value)

-- the bits that may be rolled of those that are asked for (BIP 320)
abbrev pub granted_mask : ℕ → ℕ
granted_mask asked = bit_and asked 0x1fffe000

-- versions are rolled where it is asked for and the rules allow it
abbrev pub may_roll : Rules → List (List ℕ) → Bool
may_roll rules names =
    rules.version_rolling && list_any (bytes_eq (codes "version-rolling")) names

abbrev pub mask_for : Rules → List (List ℕ) → ℕ → Option ℕ
mask_for rules names asked = if may_roll rules names then Some (granted_mask asked) else None

-- nothing else is known
abbrev pub refused_names : List (List ℕ) → Members
refused_names [] = no_members
refused_names (name ∷ names) = put name (boolean false) (refused_names names)

abbrev pub with_mask : Option ℕ → Members → Members
with_mask None members = members
with_mask (Some mask) members =
    put (codes "version-rolling.mask") (string (word_text mask))
    (put (codes "version-rolling") (boolean true) members)

abbrev pub configured_value : List (List ℕ) → Option ℕ → Data
configured_value names mask = object (with_mask mask (refused_names names))

-- what isn't asked for stays
abbrev pub mask_after : ℕ → Option ℕ → ℕ
mask_after before None = before
mask_after before (Some mask) = mask

-- a request that asks for names, and for a mask
pub record Configuration : Type 0 where
  pub names : List (List ℕ)
  pub asked : ℕ

abbrev pub configuration_in : Items → Option Configuration
configuration_in params =
    option_and_then
    (λ names. option_map (λ asked. record { names = names; asked = asked })
    (asked_mask (mask_option params)))
    (names_in params)

abbrev pub configured : Terms → V1State → Data → Option Configuration → Reaction
configured terms state id None = saying state (Refusal id MalformedRequest)
configured terms state id (Some asked) =
    let mask = mask_for terms.rules asked.names asked.asked in
    saying (record state { mask = mask_after state.mask mask })
    (Answer id (configured_value asked.names mask))
