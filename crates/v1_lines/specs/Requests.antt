-- What a line of Stratum V1 says (JSON as serde_json reads it, RFC 8259; requests of JSON-RPC 1.0).
use Rattle.std.specs.Prelude.{ℕ, Bool, ◌==◌, ◌||◌, if◌then◌else◌, Option, None, Some, List, codes}
use Rattle.std.specs.Option.{option_and_then}
use Rattle.std.specs.List.{list_all}
use Rattle.std.specs.Str.{is_utf8}
use Rattle.serde_json.specs.Data.{Data, null, boolean, number, string, array, object, Items, no_items}
use Rattle.serde_json.specs.Find.{as_array, as_str, get, get_item, is_float}
use Rattle.serde_json.specs.Read.{read}

-- spaces, tabs and carriage returns alone
abbrev pub is_blank_byte : ℕ → Bool
is_blank_byte byte = byte == 32 || byte == 9 || byte == 13

abbrev pub is_blank_line : List ℕ → Bool
is_blank_line line = list_all is_blank_byte line

-- the value of a line, where it is JSON
abbrev pub line_value : List ℕ → Option Data
line_value line = if is_utf8 line then read line else None

-- a request: the method that it names, and its parameters
pub record MethodCall : Type 0 where
  pub method : List ℕ
  pub params : Items

abbrev pub method_call : List ℕ → Items → MethodCall
method_call method params = record { method = method; params = params }

-- parameters that aren't there are none
abbrev pub params_in : Option Data → Option Items
params_in None = Some no_items
params_in (Some value) = as_array value

abbrev pub call_of : Option (List ℕ) → Option Items → Option MethodCall
call_of None params = None
call_of (Some method) None = None
call_of (Some method) (Some params) = Some (method_call method params)

-- an object with a text as its method, and an array as its parameters, where it has any
abbrev pub call_in : Data → Option MethodCall
call_in value =
    call_of (option_and_then as_str (get (codes "method") value))
    (params_in (get (codes "params") value))

-- the text at a place among the parameters
abbrev pub text_at : ℕ → Items → Option (List ℕ)
text_at place params = option_and_then as_str (get_item place params)

-- an id that is a whole number or a text is answered, any other value by null
abbrev pub answered_id : Option Data → Data
answered_id None = null
answered_id (Some null) = null
answered_id (Some (boolean _)) = null
answered_id (Some (number n)) = if is_float n then null else number n
answered_id (Some (string text)) = string text
answered_id (Some (array _)) = null
answered_id (Some (object _)) = null

-- the id of the answer to a value
abbrev pub answer_id : Data → Data
answer_id value = answered_id (get (codes "id") value)
